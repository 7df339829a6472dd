-- Which tools a build calls, by its meaning. (Task element)
use Rattle.std.specs.Prelude.{◌≡◌, ◌⊎◌, ℕ, List, ◌++◌, Bool}
use Rattle.msb_laws.specs.Words.{Text}
use Rattle.result_cache.specs.declared.request.RequestResult.{RequestResult}
use Rattle.task_trait.specs.declared.tools.ToolInput.{ToolInput}
use Rattle.build_meaning.specs.Meaning.{Given}
use Rattle.build_history.specs.Uses.{RunUse, tools_of, AreMeant}
use Rattle.build_engine.specs.OnNodes.{IsOutcomeOn}
use Rattle.build_engine.specs.UsedFor.{IsUsedFor}
use Rattle.build_outcome.specs.declared.outcome.Outcome.{Outcome}
use Rattle.build_world.specs.declared.world.World.{World}
use Rattle.request_machine.specs.Walk.{Site}
use Rattle.request_machine.specs.Worlds.{world_of}
use Rattle.msb_outcomes.specs.Calls.{Called, as_uses}
use Rattle.msb_outcomes.specs.Outcomes.{Answering}
use Rattle.msb_words.specs.declared.options.Options.{Options}
use Rattle.msb_program.specs.Answers.{IsLoadFailure, IsPastLimit, IsUsage}
use Rattle.msb_program.specs.Endings.{StoreChange, Kept, SinkChange, Silent, Ends}
use Rattle.msb_program.specs.Invocation.{Invocation}
use Rattle.msb_program.specs.Meanings.{IsAskedOf}
use Rattle.msb_program.specs.declared.top.Prepared.{Prepared}
use Rattle.msb_program.specs.declared.top.Prepared.TheVariants.{Ended, Trial, Ready}

-- the calls from one list to the other are those of one body of each run of the meaning; where no
-- calls are made at once, of its only one, so that each tool is called as often as there
pub record AreMeantCalls (out : Given Site ToolInput RequestResult) (before after : Called)
    : Type 0 where
  pub uses : List (RunUse ToolInput)
  pub calls : as_uses after ≡ as_uses before ++ tools_of uses
  pub meant : AreMeant out uses

-- whatever the world: what the build came to is the outcome of a legal history in which the one
-- node takes the least ready request each time, the calls from one list to the other are those of
-- that history, and so it ended
pub record IsOfHistory (tools : Answering) (given : World) (low : Bool) (before after : Called)
    (s : StoreChange) (p : SinkChange) (status : ℕ) : Type 0 where
  pub outcome : Outcome
  pub used : IsUsedFor (world_of tools given) low outcome (as_uses before) (as_uses after)
  pub ends : Ends outcome s p status

-- whatever the world: what the build came to is the outcome of a legal history of as many nodes as
-- the words tell, one of which has not retired, and so it ended
pub record IsOfNodes (tools : Answering) (given : World) (options : Options) (s : StoreChange)
    (p : SinkChange) (status : ℕ) : Type 0 where
  pub outcome : Outcome
  pub is : IsOutcomeOn (world_of tools given) options.nodes options.low outcome
  pub ends : Ends outcome s p status

-- a build came to no outcome: its files could not be loaded, or no memory was found before there
-- was one
abbrev pub IsUnmade : List Text → StoreChange → SinkChange → ℕ → Type 0
IsUnmade words s p status =
    ((status ≡ 5) × IsLoadFailure words s p) ⊎ ((status ≡ 7) × Kept s × Silent p)

-- Whatever the world, what a build that the words ask for came to is of one history of one node, or
-- it came to no outcome.
abbrev pub ComesOfHistory : Answering → Invocation → Called → Called → ℕ → Type 0
ComesOfHistory tools i before after status =
    (given : World) (build : IsAskedOf i.words i.store.before.tree given) →
    ∥ IsOfHistory tools given build.options.low before after i.store i.sink status ∥₁
    ⊎ IsUnmade i.words i.store i.sink status

-- Whatever the world, what a build that the words ask for came to is of one history of as many
-- nodes as they tell, or it came to no outcome.
abbrev pub ComesOfNodes : Answering → Invocation → ℕ → Type 0
ComesOfNodes tools i status =
    (given : World) (build : IsAskedOf i.words i.store.before.tree given) →
    ∥ IsOfNodes tools given build.options i.store i.sink status ∥₁
    ⊎ IsUnmade i.words i.store i.sink status

-- where all has ended before anything was made, nothing was made
abbrev pub IsUndone : Invocation → Prepared → Type 0
IsUndone i (Ended status) =
    ((status ≡ 2) × IsUsage i.words i.store i.sink)
    ⊎ ((status ≡ 8) × IsPastLimit i.words i.store i.sink)
    ⊎ IsUnmade i.words i.store i.sink status
IsUndone i (Trial options) = Unit {0}
IsUndone i (Ready options work) = Unit {0}
