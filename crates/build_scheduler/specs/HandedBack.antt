-- Whose walk is handed back where a request is over. (MSBuild task)
use Rattle.std.specs.Prelude.{◌≡◌, ℕ, List, ◌∷◌, Option, None, Some}
use Rattle.result_cache.specs.declared.request.RequestKey.{RequestKey}
use Rattle.result_cache.specs.declared.request.RequestResult.{RequestResult}
use Rattle.result_cache.specs.Journal.{Journal}
use Rattle.build_meaning.specs.declared.event.Event.{Event}
use Rattle.build_meaning.specs.Lists.{at}
use Rattle.build_meaning.specs.World.{World}
use Rattle.build_meaning.specs.Walk.{Body}
use Rattle.build_meaning.specs.State.{Within, calling, RequestState, State}
use Rattle.build_meaning.specs.History.{IsHistory}
use Rattle.build_scheduler.specs.declared.slot.Slot.{Slot}
use Rattle.build_scheduler.specs.declared.slot.Slot.TheVariants.{Calling}

-- after these events the request is the first of the calls that another one awaits
pub record IsFirstCall {P I A : Type 0} (w : World P I A) (events : List Event)
    (id : ℕ) : Type 0 where
  pub state : State P I A
  pub caller : ℕ
  pub request : RequestState P I A
  pub keys : List RequestKey
  pub others : List ℕ
  pub inside : Within P I A
  pub go : List RequestResult → Journal → Body I A
  pub history : IsHistory w events state
  pub there : at state.requests caller ≡ Some request
  pub awaits : request.status ≡ calling keys (id ∷ others) inside go

-- the walk of the first call goes to its caller, and any other one is handed back
abbrev pub IsHandedBack : {W P I A : Type 0} → World P I A → List Event → ℕ → W → Option W →
    Type 0
IsHandedBack w events id walk None = ∥ IsFirstCall w events id ∥₁
IsHandedBack w events id walk (Some back) = (back ≡ walk) × (∥ IsFirstCall w events id ∥₁ → ⊥)

-- the same by the slot of the caller
abbrev pub IsLeft : {W : Type 0} → Option (Slot W) → ℕ → W → Option W → Type 0
IsLeft (Some (Calling calls)) id walk None = id ≡ calls.first
IsLeft (Some (Calling calls)) id walk (Some back) = (back ≡ walk) × (id ≡ calls.first → ⊥)
IsLeft slot id walk left = ⊥
