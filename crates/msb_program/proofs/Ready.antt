-- The answer of the program where work was left once the project was evaluated.
use Rattle.std.proofs.Common.{
  ◌≡◌,
  ℕ,
  List,
  [],
  Option,
  Some,
  Result,
  Ok,
  Err,
  IfOk,
  inl,
  inr,
  sym,
  subst,
}
use Rattle.msb_laws.specs.Words.{Text}
use Rattle.file_store.specs.Seen.{StoreSeen, SinkSeen}
use Rattle.file_store.specs.declared.loading.LoadFault.{LoadFault}
use Rattle.file_store.specs.declared.tree.File.{File}
use Rattle.msb_paths.specs.Refused.{normal_path}
use Rattle.msb_values.specs.declared.errors.NoMemory.{NoMemory}
use Rattle.msb_words.specs.Options.{options_in}
use Rattle.msb_words.specs.declared.options.Options.{Options}
use Rattle.build_outcome.specs.declared.outcome.Outcome.{Outcome}
use Rattle.msb_program.specs.Answers.{Answers, AsksForRuns, AreLoaded}
use Rattle.msb_program.specs.Endings.{EndsMade, EndsOver, SinkChange, StoreChange}
use Rattle.msb_outcomes.specs.Outcomes.{Answering, ComesOf, IsOutcomeWithin, IsWorkAt, MakesRuns}
use Rattle.msb_program.specs.Prepared.{IsReady}
use Rattle.msb_outcomes.specs.declared.work.Work.{Work}
use Rattle.msb_program.proofs.Ended.{loaded_answers, made_since}
use Rattle.msb_program.proofs.Parts.{sinks, stores}
use Rattle.msb_outcomes.proofs.Working.{runs_asked}

module _ (tools : Answering) (told : Option (List File)) (options : Options) (files : List File)
    (work : Work) (loaded : AreLoaded told files)
    (is : IsWorkAt options files (normal_path [] options.project) work) where
  -- what was made of the work is an outcome of the files
  over : (made : Result Outcome NoMemory) → IfOk made (ComesOf tools options.low work) →
      (s : StoreChange) (p : SinkChange) (status : ℕ) → EndsMade made s p status →
      EndsOver tools options files s p status
  over (Ok o) comes s p status ends =
      inl (
        o,
        subst (λ (limit : Option LoadFault). IsOutcomeWithin tools options files limit o)
            (sym loaded.within) (work, is, comes),
        ends,
      )
  over (Err none) comes s p status ends = inr ends

-- how what was made ends, from before the words were read: until then no file was touched, and
-- nothing printed
pub ended_since : {words : List Text} {before between : StoreSeen} {old printed : SinkSeen}
    (options : Options) (work : Work) →
    IsReady words (stores before between) (sinks old printed) options work →
    (made : Result Outcome NoMemory) (after : StoreSeen) (new : SinkSeen) (status : ℕ) →
    EndsMade made (stores between after) (sinks printed new) status →
    EndsMade made (stores before after) (sinks old new) status
ended_since {words} {before} {between} {old} {printed} options work ready made after new status
    ends =
    made_since before between after ready.kept (sinks old new) status ready.later made
    (subst (λ (first : SinkSeen). EndsMade made (stores between after) (sinks first new) status)
    ready.silent ends)

pub ready_answers : (tools : Answering) {words : List Text} {before between after : StoreSeen}
    {old printed new : SinkSeen} (options : Options) (work : Work) →
    IsReady words (stores before between) (sinks old printed) options work →
    (made : Result Outcome NoMemory) → IfOk made (ComesOf tools options.low work) →
    (status : ℕ) → EndsMade made (stores between after) (sinks printed new) status →
    Answers tools words (stores before after) (sinks old new) status
ready_answers tools {words} {before} {between} {after} {old} {printed} {new} options work ready made
    comes status ends =
    loaded_answers tools words (stores before after) (sinks old new) options ready.files ready.asked
    ready.project ready.loaded status
    (over tools before.tree options ready.files work ready.loaded ready.is made comes
    (stores before after) (sinks old new) status
    (ended_since options work ready made after new status ends))

-- runs are made only where the words ask for a build or a check
pub runs_of_words : (words : List (List ℕ)) (files : List File) (options : Options) (work : Work) →
    options_in words ≡ Some options → IsWorkAt options files (normal_path [] options.project) work →
    MakesRuns work → AsksForRuns (options_in words)
runs_of_words words files options work asked is makes =
    subst AsksForRuns (sym asked)
    (runs_asked options files (normal_path [] options.project) work is makes)
