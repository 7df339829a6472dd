-- With which journal a request began, and where it is in no body.
use Rattle.std.specs.Prelude.{◌≡◌, ℕ, List, [], ◌++◌, Option, None, Some}
use Rattle.build_meaning.specs.declared.event.Event.{Event}
use Rattle.build_meaning.specs.Lists.{at}
use Rattle.result_cache.specs.Journal.{Journal}
use Rattle.result_cache.specs.Lists.{In}
use Rattle.build_meaning.specs.World.{World}
use Rattle.build_meaning.specs.State.{
  Place,
  walking,
  within,
  Status,
  ready,
  assigned,
  waits,
  calling,
  done,
  Origin,
  RequestState,
  State,
  new_request,
}
use Rattle.build_meaning.specs.History.{IsHistory}

module _ {P I A : Type 0} where
  -- the journal with which a request begins: that of its caller, and nothing where it has none
  abbrev pub GivesJournal : State P I A → Option ℕ → Journal → Type 0
  GivesJournal s None base = base ≡ []
  GivesJournal s (Some id) base =
      (caller : RequestState P I A) × (at s.requests id ≡ Some caller) × (caller.journal ≡ base)

  -- a place in no body
  abbrev pub IsWalking : Place P I A → Type 0
  IsWalking (walking walk) = Unit {0}
  IsWalking (within x stop) = ⊥

  -- a request in no body: it goes on between runs, waits for a run, or is done
  abbrev pub IsInNoBody : Status P I A → Type 0
  IsInNoBody (ready place) = IsWalking place
  IsInNoBody (assigned node place) = IsWalking place
  IsInNoBody (waits run b go) = Unit {0}
  IsInNoBody (calling keys ids x go) = ⊥
  IsInNoBody (done result) = Unit {0}

  -- a request whose calls are not all done, of which this is one
  abbrev pub AwaitsCall : ℕ → Status P I A → Type 0
  AwaitsCall id (calling keys ids x go) = In id ids
  AwaitsCall id status = ⊥

-- after the first of the events the request was there as it is made, at its beginning with this
-- journal
pub record BeganWith {P I A : Type 0} (w : World P I A) (events : List Event) (id : ℕ)
    (origin : Origin) (base : Journal) : Type 0 where
  pub before : List Event
  pub later : List Event
  pub state : State P I A
  pub events_so : before ++ later ≡ events
  pub history : IsHistory w before state
  pub there : at state.requests id ≡ Some (new_request w origin.parent origin.path base origin.key)
  pub given : GivesJournal state origin.parent base
