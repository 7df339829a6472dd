-- What comes of the work on several nodes. (MSBuild command-line reference, -maxCpuCount)
use Rattle.std.specs.Prelude.{Bool, ℕ}
use Rattle.build_outcome.specs.declared.outcome.Outcome.{Outcome}
use Rattle.build_engine.specs.OnNodes.{IsOutcomeOn}
use Rattle.request_machine.specs.Worlds.{world_of}
use Rattle.msb_outcomes.specs.Outcomes.{Answering}
use Rattle.msb_outcomes.specs.declared.work.Work.{Work}
use Rattle.msb_outcomes.specs.declared.work.Work.TheVariants.{Told, Build, Check}

-- what comes of a build comes of a legal history of so many nodes, one of which has not retired
abbrev pub ComesOn : Answering → ℕ → Bool → Work → Outcome → Type 0
ComesOn tools nodes low (Told told) outcome = Unit {0}
ComesOn tools nodes low (Build given) outcome =
    ∥ IsOutcomeOn (world_of tools given) nodes low outcome ∥₁
ComesOn tools nodes low (Check given) outcome = Unit {0}
