-- Which tools the walk of a ready request has used: those that the history has of its body. Its
-- next answer takes it further. (Target element; MSBuild task)
use Rattle.std.specs.Prelude.{◌≡◌, ℕ, List, Option, Some, None}
use Rattle.build_meaning.specs.declared.event.Event.{Event}
use Rattle.build_meaning.specs.Lists.{at}
use Rattle.build_meaning.specs.World.{World}
use Rattle.build_meaning.specs.State.{Place, RequestState, ToolsUsed, State}
use Rattle.build_meaning.specs.History.{IsHistory, retires}
use Rattle.build_history.specs.Uses.{body_at, uses_of, uses_in}
use Rattle.build_scheduler.specs.declared.walker.Answer.{Answer}
use Rattle.build_scheduler.specs.declared.slot.Slot.{Slot}
use Rattle.build_scheduler.specs.declared.slot.Slot.TheVariants.{
  Ready,
  Assigned,
  Waiting,
  Calling,
  Done,
}
use Rattle.build_scheduler.specs.Own.{Seen}
use Rattle.build_scheduler.specs.Position.{tools_in}

-- where no node has retired and the request is in a body after these events, a walk at this place
-- has used what the history has of the body; a walk that was given back uses tools again
abbrev pub IsBehind : {P I A : Type 0} → World P I A → List Event → ℕ → Place P I A → Type 0
IsBehind {P} {I} {A} w events id place =
    (s : State P I A) (q : RequestState P I A) (x : ToolsUsed I) → retires events ≡ 0
    → IsHistory w events s → at s.requests id ≡ Some q → body_at q.status ≡ Some x →
    tools_in place ≡ uses_of x.run (uses_in w events)

-- each walk that is ready
abbrev pub AreBehind : {W P I A : Type 0} → (W → Seen P I A) → World P I A → List Event
    → List (Slot W) → Type 0
AreBehind {W} seen w events slots =
    (id : ℕ) (walk : W) (answer : Answer) → at slots id ≡ Some (Ready walk answer)
    → IsBehind w events id (seen walk).position.place

-- the walk that is in a slot
abbrev pub walk_in : {W : Type 0} → Slot W → Option W
walk_in (Ready walk answer) = Some walk
walk_in (Assigned node) = None
walk_in (Waiting walk by) = Some walk
walk_in (Calling calls) = Some calls.walk
walk_in Done = None

-- each walk that is ready was in its slot before, but for those of one request and of new ones
abbrev pub AreKept : {W : Type 0} → List (Slot W) → List (Slot W) → ℕ → Type 0
AreKept {W} slots outs id =
    (n : ℕ) (walk : W) (answer : Answer) (slot : Slot W) → (n ≡ id → ⊥)
    → at outs n ≡ Some (Ready walk answer) → at slots n ≡ Some slot → walk_in slot ≡ Some walk
