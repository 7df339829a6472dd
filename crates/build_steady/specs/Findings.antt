-- What a check holds of the events that have come, and what it says at the next one. (MSBuild task)
use Rattle.std.specs.Prelude.{◌≡◌, List, [], ◌∷◌, ◌++◌, Option, None, Some}
use Rattle.result_cache.specs.declared.run.RunId.{RunId}
use Rattle.result_cache.specs.declared.record.Record.{Record}
use Rattle.result_cache.specs.Table.{Records, found}
use Rattle.build_scheduler.specs.Instances.{AreCounted}
use Rattle.build_steady.specs.Order.{DemandEvent}
use Rattle.build_steady.specs.Verdicts.{bodies_begun, reached, first_record, said_by}
use Rattle.build_steady.specs.declared.findings.Findings.{Findings}
use Rattle.build_steady.specs.declared.verdict.Verdict.{Verdict}

-- the record of the first body of each run that has ended, the instances that were reached, each
-- once, and how many bodies have begun
pub record Shows (f : Findings) (before : List DemandEvent) : Type 0 where
  pub records : (run : RunId) → found f.records.finished run ≡ first_record before run
  pub unbegun : f.records.begun ≡ []
  pub instances : AreCounted f.instances.keys (reached before)
  pub bodies : f.bodies ≡ bodies_begun before

-- what is said at an event after these; where nothing is, the event is shown too
abbrev pub Tells : List DemandEvent → DemandEvent → Findings → Option Verdict → Type 0
Tells before event f None = (said_by before event ≡ None) × Shows f (before ++ event ∷ [])
Tells before event f (Some verdict) = said_by before event ≡ Some verdict

-- the records with that of a run, unless it has one
abbrev pub with_record : Option Record → RunId → Record → Records → Records
with_record None run made table = record { run = run; made = made } ∷ table
with_record (Some first) run made table = table

-- where nothing is said, the records are these
abbrev pub AreUnlessSaid : Records → Records → Option Verdict → Type 0
AreUnlessSaid new table None = new ≡ table
AreUnlessSaid new table (Some verdict) = Unit {0}
