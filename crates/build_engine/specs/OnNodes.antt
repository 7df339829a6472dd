-- What comes of a build on several nodes. (MSBuild command-line reference, -maxCpuCount)
use Rattle.std.specs.Prelude.{ℕ, Bool, List, Option}
use Rattle.build_meaning.specs.declared.event.Event.{Event}
use Rattle.build_meaning.specs.World.{World}
use Rattle.build_meaning.specs.State.{State}
use Rattle.build_meaning.specs.History.{IsHistory, AreOfNodes}
use Rattle.build_scheduler.specs.declared.slot.End.{End}
use Rattle.build_outcome.specs.Outcomes.{IsOutcomeAt}
use Rattle.build_outcome.specs.declared.outcome.Outcome.{Outcome}

-- some legal history of so many nodes, one of which has not retired, leads to the outcome
pub record IsOutcomeOn {P I A : Type 0} (w : World P I A) (nodes : ℕ) (low : Bool)
    (outcome : Outcome) : Type 0 where
  pub events : List Event
  pub state : State P I A
  pub end : Option End
  pub history : IsHistory w events state
  pub few : AreOfNodes nodes events
  pub is : IsOutcomeAt w low events end outcome
