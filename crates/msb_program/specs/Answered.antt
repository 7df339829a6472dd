-- What holds of an invocation of the program and its status, on any number of nodes. (MSBuild
-- command-line reference; Incremental builds)
use Rattle.std.specs.Prelude.{◌≡◌, ℕ, Some}
use Rattle.file_store.specs.declared.tree.Tree.{Tree}
use Rattle.result_cache.specs.declared.request.RequestResult.{RequestResult}
use Rattle.task_trait.specs.declared.tools.ToolInput.{ToolInput}
use Rattle.build_meaning.specs.Meaning.{Given}
use Rattle.build_engine.specs.Statuses.{IsCompletion}
use Rattle.build_outcome.specs.declared.outcome.Outcome.{Outcome}
use Rattle.request_machine.specs.Walk.{Site}
use Rattle.msb_outcomes.specs.Outcomes.{Answering}
use Rattle.msb_program.specs.Answers.{Answers}
use Rattle.msb_program.specs.Clean.{AnswersClean, MeansClean}
use Rattle.msb_program.specs.Invocation.{Invocation}
use Rattle.msb_program.specs.Meanings.{AnswersMeant, Means}
use Rattle.msb_program.specs.NextBuilds.{
  EndsIdle,
  HasSaved,
  MeansRepeated,
  MeansUpToDate,
  PrintedSkips,
  StaysFresh,
}

-- what the status says of the invocation, and what follows from that
pub record IsAnswered (tools : Answering) (i : Invocation) (status : ℕ) : Type 0 where
  -- what each status says
  pub answer : Answers tools i.words i.store i.sink status
  -- what it says where the world of the build is whole and steady
  pub meaning : (meant : Outcome) → Means tools i.words i.store.before.tree meant →
      AnswersMeant i.words i.store i.sink meant status
  -- what it says where a build may be trusted to skip what is up to date
  pub clean : (clean : Given Site ToolInput RequestResult) →
      MeansClean tools i.words i.store.before.tree clean → AnswersClean i.store i.sink clean status
  -- after a settled build the next one may be trusted too, over the tree that is left, where the
  -- clean build is repeated there
  pub stays : (left : Tree) (again : Given Site ToolInput RequestResult)
      (m : MeansRepeated tools i.words i.store.before.tree left again) →
      i.store.after.tree ≡ Some left.files → HasSaved status → StaysFresh tools m.given left again
  -- where no output is older than its inputs, each piece is skipped, and that is printed
  pub skips : (clean : Given Site ToolInput RequestResult)
      (m : MeansUpToDate tools i.words i.store.before.tree clean) → IsCompletion status →
      PrintedSkips tools m.means.given.tree.files i.sink clean.value
  -- and no history that leads to the outcome uses a tool for one
  pub idle : (clean : Given Site ToolInput RequestResult)
      (m : MeansUpToDate tools i.words i.store.before.tree clean) → IsCompletion status →
      EndsIdle tools m.means.given m.means.build.options.low i.store i.sink
