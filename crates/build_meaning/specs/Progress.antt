-- What may come next in a legal history.
use Rattle.std.specs.Prelude.{ℕ, ◌≡◌, ◌⊎◌, true, false, ◌∷◌, None, Some}
use Rattle.build_meaning.specs.declared.event.Event.{Event}
use Rattle.build_meaning.specs.declared.event.Event.TheVariants.{Claim, Request, Result, Done}
use Rattle.build_meaning.specs.declared.event.ClaimKind.TheVariants.{Go, Use, Wait}
use Rattle.build_meaning.specs.Lists.{at}
use Rattle.result_cache.specs.Table.{found, is_begun}
use Rattle.build_meaning.specs.World.{World}
use Rattle.build_meaning.specs.Walk.{gives, wants}
use Rattle.build_meaning.specs.Stop.{ends, asks}
use Rattle.build_meaning.specs.State.{
  Place,
  walking,
  within,
  Status,
  ready,
  assigned,
  done,
  RequestState,
  State,
}
use Rattle.build_meaning.specs.Cycle.{is_in_cycle}
use Rattle.build_meaning.specs.Step.{waiting, is_within_limits, step}

-- the event is possible
abbrev pub IsPossible : {P I A : Type 0} → World P I A → State P I A → Event → Type 0
IsPossible {P} {I} {A} w s event = (next : State P I A) × (step w s event ≡ Some next)

-- what a request with a node asks for, by its place, is possible
abbrev pub CanGoOn : {P I A : Type 0} → World P I A → State P I A → ℕ → Place P I A → Type 0
CanGoOn w s id (walking (gives reply)) = IsPossible w s (Done id)
CanGoOn w s id (walking (wants site run b go)) =
    IsPossible w s (Claim id run Go)
    ⊎ (IsPossible w s (Claim id run Use) ⊎ IsPossible w s (Claim id run Wait))
CanGoOn w s id (within x (ends outcome)) = IsPossible w s (Result id x.run)
CanGoOn w s id (within x (asks key more go)) = IsPossible w s (Request id (key ∷ more))

-- it is refused for its cause: it wants a run that is begun and not finished and that needed itself
-- if it waited, or its calls pass a limit
abbrev pub IsRefused : {P I A : Type 0} → World P I A → State P I A → ℕ → RequestState P I A →
    Place P I A → Type 0
IsRefused w s id q (walking (gives reply)) = ⊥
IsRefused w s id q (walking (wants site run b go)) =
    (is_begun run s.begun ≡ true) × (found s.table run ≡ None)
    × (is_in_cycle (waiting w s id q run b go) run ≡ true)
IsRefused w s id q (within x (ends outcome)) = ⊥
IsRefused w s id q (within x (asks key more go)) = is_within_limits w s (x.run ∷ q.origin.path)
    (key ∷ more) ≡ false

-- a request that may go on: it is ready or with a node
abbrev pub IsGoing : {P I A : Type 0} → Status P I A → Type 0
IsGoing (ready place) = Unit {0}
IsGoing (assigned node place) = Unit {0}
IsGoing status = ⊥

-- a request that is done
abbrev pub IsOver : {P I A : Type 0} → Status P I A → Type 0
IsOver (done result) = Unit {0}
IsOver status = ⊥

-- what each request with a node asks for is possible, or it is refused for its cause
abbrev pub GoesOn : {P I A : Type 0} → World P I A → State P I A → Type 0
GoesOn {P} {I} {A} w s =
    (id node : ℕ) (q : RequestState P I A) (place : Place P I A) → at s.requests id ≡ Some q →
    q.status ≡ assigned node place → CanGoOn w s id place ⊎ IsRefused w s id q place

-- unless the root is done, some request may go on
abbrev pub IsNeverStuck : {P I A : Type 0} → State P I A → Type 0
IsNeverStuck {P} {I} {A} s =
    (root : RequestState P I A) → at s.requests 0 ≡ Some root → ¬ IsOver root.status →
    (id : ℕ) × (q : RequestState P I A) × (at s.requests id ≡ Some q) × IsGoing q.status
