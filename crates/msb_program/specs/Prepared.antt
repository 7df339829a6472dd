-- What is left to do once the words are read, the files loaded and the project evaluated. (MSBuild
-- command-line reference)
use Rattle.std.specs.Prelude.{◌≡◌, ◌<◌, ◌≤◌, List, [], Some}
use Rattle.msb_laws.specs.Words.{Text}
use Rattle.file_store.specs.declared.tree.File.{File}
use Rattle.msb_paths.specs.Refused.{normal_path}
use Rattle.msb_words.specs.Options.{options_in}
use Rattle.msb_words.specs.declared.options.Action.TheVariants.{Trial as ToTry}
use Rattle.msb_words.specs.declared.options.Options.{Options}
use Rattle.msb_program.specs.Answers.{Answers, AreLoaded}
use Rattle.msb_program.specs.Endings.{StoreChange, Kept, SinkChange}
use Rattle.msb_program.specs.Invocation.{Invocation}
use Rattle.msb_outcomes.specs.Outcomes.{Answering, HasProject, IsWorkAt}
use Rattle.msb_program.specs.declared.top.Prepared.{Prepared}
use Rattle.msb_program.specs.declared.top.Prepared.TheVariants.{Ended, Ready, Trial}
use Rattle.msb_outcomes.specs.declared.work.Work.{Work}

-- the words ask for this trial; no file was touched, and nothing printed
pub record IsTrialAsked (words : List Text) (s : StoreChange) (p : SinkChange)
    (options : Options) : Type 0 where
  pub asked : options_in words ≡ Some options
  pub nodes : (0 < options.nodes) × (options.nodes ≤ 64)
  pub trial : options.action ≡ ToTry
  pub kept : Kept s
  pub silent : p.after ≡ p.before

-- the words ask for this work over loaded files; no file was touched, and nothing printed
pub record IsReady (words : List Text) (s : StoreChange) (p : SinkChange)
    (options : Options) (work : Work) : Type 0 where
  pub asked : options_in words ≡ Some options
  pub project : HasProject options
  pub nodes : (0 < options.nodes) × (options.nodes ≤ 64)
  pub files : List File
  pub loaded : AreLoaded s.before.tree files
  pub is : IsWorkAt options files (normal_path [] options.project) work
  pub kept : Kept s
  pub later : s.before.fault_count ≤ s.after.fault_count
  pub silent : p.after ≡ p.before

-- all is done, whatever tools answer; or a trial or work is left
abbrev pub IsPrepared : Invocation → Prepared → Type 0
IsPrepared i (Ended status) =
    (tools : Answering) → Answers tools i.words i.store i.sink status
IsPrepared i (Trial options) = IsTrialAsked i.words i.store i.sink options
IsPrepared i (Ready options work) = IsReady i.words i.store i.sink options work

-- what is left to do of the words over the files of a tree
abbrev pub IsLeft : Options → List File → Prepared → Type 0
IsLeft options files (Ended status) = status ≡ 7
IsLeft options files (Trial asked) = ⊥
IsLeft options files (Ready asked work) =
    (asked ≡ options) × IsWorkAt options files (normal_path [] options.project) work
