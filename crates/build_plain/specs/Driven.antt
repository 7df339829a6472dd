-- What a driver asks of a core's history, and leaves in it. (Building projects in parallel)
use Rattle.std.specs.Prelude.{◌≡◌, ◌<◌, ℕ, List, [], ◌∷◌, ◌++◌, length, Option, None, Some}
use Rattle.result_cache.specs.Table.{Records}
use Rattle.build_meaning.specs.declared.event.Event.{Event}
use Rattle.build_meaning.specs.declared.event.Event.TheVariants.{Assign, Retire}
use Rattle.build_meaning.specs.World.{World}
use Rattle.build_scheduler.specs.declared.slot.End.{End}
use Rattle.build_scheduler.specs.declared.slot.End.TheVariants.{Root}
use Rattle.build_scheduler.specs.Own.{Seen, IsOut}
use Rattle.build_scheduler.specs.Ready.{IsAssigned, IsLeastReady}
use Rattle.build_plain.specs.declared.alone.Turn.{Turn}
use Rattle.build_plain.specs.declared.alone.Turn.TheVariants.{GoesOn, Over}

-- no request is with a node
abbrev pub NoneAssigned : {P I A : Type 0} → World P I A → List Event → Type 0
NoneAssigned w events = (id : ℕ) → ∥ IsAssigned w events id ∥₁ → ⊥

-- no other request is with a node
abbrev pub OnlyAssigned : {P I A : Type 0} → World P I A → List Event → ℕ → Type 0
OnlyAssigned w events id = (other : ℕ) → ∥ IsAssigned w events other ∥₁ → other ≡ id

-- no request is with a node, unless the build was stopped
abbrev pub IsFree : {P I A : Type 0} → World P I A → List Event → Option End → Type 0
IsFree w events None = NoneAssigned w events
IsFree w events (Some (Root result)) = NoneAssigned w events
IsFree w events (Some end) = Unit {0}

-- where the event hands a request to a node, no request is with a node, it is the least one that is
-- ready, and the node is the first; and the node doesn't retire
abbrev pub TakesLeast : {P I A : Type 0} → World P I A → List Event → Event → Type 0
TakesLeast w before (Assign id node) = NoneAssigned w before × IsLeastReady w before (Some id)
    × (node ≡ 0)
TakesLeast w before (Retire id node) = ⊥
TakesLeast w before event = Unit {0}

-- among the events that come after these, each that hands a request to the node takes the least
-- ready one, and the node doesn't retire
abbrev pub AssignsLeast : {P I A : Type 0} → World P I A → List Event → List Event → Type 0
AssignsLeast w before [] = Unit {0}
AssignsLeast w before (event ∷ more) = TakesLeast w before event
    × AssignsLeast w (before ++ event ∷ []) more

-- more events came after these, and each that hands a request to the node takes the least ready one
pub record Drives {P I A : Type 0} (w : World P I A) (before events : List Event) : Type 0 where
  pub more : List Event
  pub is : events ≡ before ++ more
  pub least : AssignsLeast w before more

-- what has become of the request with the node: its walk is its own with its next answer, and no
-- other request is with a node; or none is
abbrev pub IsTurn : {W P I A : Type 0} → (W → Seen P I A) → World P I A → List Event → Records
    → Option End → ℕ → Turn W → Type 0
IsTurn seen w events table end id (GoesOn walk answer) = (end ≡ None)
    × ∥ IsOut w events table id (seen walk) answer ∥₁ × OnlyAssigned w events id
IsTurn seen w events table end id Over = IsFree w events end

-- where the request goes on, there are more events
abbrev pub HasGrown : {W : Type 0} → List Event → List Event → Turn W → Type 0
HasGrown before events (GoesOn walk answer) = length before < length events
HasGrown before events Over = Unit {0}
