-- What comes of a build on one node, and which tools it uses. (MSBuild command-line reference,
-- -maxCpuCount; Task element)
use Rattle.std.specs.Prelude.{◌≡◌, List, [], ◌++◌, Bool, Option}
use Rattle.build_meaning.specs.declared.event.Event.{Event}
use Rattle.build_meaning.specs.SoFar.{ToolUse}
use Rattle.build_meaning.specs.World.{World}
use Rattle.build_meaning.specs.State.{State}
use Rattle.build_meaning.specs.History.{IsHistory}
use Rattle.build_history.specs.Uses.{tools_of, uses_in}
use Rattle.build_scheduler.specs.declared.slot.End.{End}
use Rattle.build_plain.specs.Driven.{AssignsLeast}
use Rattle.build_outcome.specs.Outcomes.{IsOutcomeAt}
use Rattle.build_outcome.specs.declared.outcome.Outcome.{Outcome}

-- the legal history of one node leads to the outcome: each time that no request is with the node,
-- it takes the least one that is ready
pub record IsOutcomeOnOne {P I A : Type 0} (w : World P I A) (low : Bool) (outcome : Outcome) : Type
    0
  where
    pub events : List Event
    pub state : State P I A
    pub end : Option End
    pub history : IsHistory w events state
    pub least : AssignsLeast w [] events
    pub is : IsOutcomeAt w low events end outcome

-- such a history leads to the outcome, and the tools that were used from one to the other are those
-- that it has, in order
pub record IsUsedFor {P I A : Type 0} (w : World P I A) (low : Bool) (outcome : Outcome)
    (from to : List (ToolUse I)) : Type 0 where
  pub comes : IsOutcomeOnOne w low outcome
  pub tools : to ≡ from ++ tools_of (uses_in w comes.events)
