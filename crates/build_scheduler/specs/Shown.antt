-- What a core is: the state of the scheduler after its events.
use Rattle.std.specs.Prelude.{
  ◌≡◌,
  ◌≤◌,
  ◌<◌,
  ◌+◌,
  ◌||◌,
  ◌==◌,
  ℕ,
  suc,
  Bool,
  true,
  false,
  List,
  [],
  ◌∷◌,
  length,
  map,
  Option,
  None,
  Some,
  IsSome,
}
use Rattle.result_cache.specs.declared.run.RunId.{RunId}
use Rattle.result_cache.specs.Table.{TableRuns}
use Rattle.build_meaning.specs.Lists.{at, put, Paired}
use Rattle.build_meaning.specs.World.{World}
use Rattle.build_meaning.specs.Meaning.{deepest}
use Rattle.build_meaning.specs.State.{done, RequestState, State}
use Rattle.build_meaning.specs.History.{IsHistory}
use Rattle.build_meaning.specs.Progress.{IsOver}
use Rattle.build_scheduler.specs.declared.walker.Answer.TheVariants.{Use}
use Rattle.build_scheduler.specs.declared.slot.Origin.{Origin}
use Rattle.build_scheduler.specs.declared.slot.Slot.{Slot}
use Rattle.build_scheduler.specs.declared.slot.Slot.TheVariants.{Ready, Waiting}
use Rattle.build_scheduler.specs.declared.slot.End.{End}
use Rattle.build_scheduler.specs.declared.slot.End.TheVariants.{Root}
use Rattle.build_scheduler.specs.History.{History}
use Rattle.build_scheduler.specs.Numbers.{among, Numbered}
use Rattle.build_scheduler.specs.Own.{Seen}
use Rattle.build_scheduler.specs.Slots.{origin_of, making_of, owed_by, unfinished, ShowsSlot}

-- no end is told before the root is over, and its end is that it is over
abbrev pub ShowsEnd : {P I A : Type 0} → State P I A → Option End → Type 0
ShowsEnd {P} {I} {A} s None = (root : RequestState P I A) → at s.requests 0 ≡ Some root
    → IsOver root.status → ⊥
ShowsEnd {P} {I} {A} s (Some (Root result)) = (root : RequestState P I A)
    × (at s.requests 0 ≡ Some root) × (root.status ≡ done result)
ShowsEnd {P} {I} {A} s (Some end) = Unit {0}

-- every request but the root is called by another
abbrev pub AreCalled : List Origin → Type 0
AreCalled [] = Unit {0}
AreCalled (origin ∷ origins) = IsSome origin.parent × AreCalled origins

abbrev pub AreRooted : List Origin → Type 0
AreRooted [] = Unit {0}
AreRooted (root ∷ origins) = (root.parent ≡ None) × AreCalled origins

-- each request is called by one that is nested one less, the root by none, and none is nested too
-- deep
abbrev pub IsNested : List Origin → ℕ → Option ℕ → Type 0
IsNested origins depth None = depth ≡ 0
IsNested origins depth (Some caller) = (by : Origin) × (at origins caller ≡ Some by)
    × (depth ≡ suc by.depth)

abbrev pub AreNested : List Origin → Type 0
AreNested origins = (id : ℕ) (origin : Origin) → at origins id ≡ Some origin
    → (origin.depth < deepest) × IsNested origins origin.depth origin.parent

-- the events are a legal history, and the core shows the state after them
pub record Shown {W P I A : Type 0} (seen : W → Seen P I A) (w : World P I A)
    (core_history : History) (origins : List Origin) (slots : List (Slot W))
    (making : List (Option RunId)) (table : TableRuns) (end : Option End) : Type 0 where
  pub state : State P I A
  pub history : IsHistory w core_history.events state
  pub asked : origins ≡ map origin_of state.requests
  pub rooted : AreRooted origins
  pub each : Paired (ShowsSlot w state (length core_history.events) seen) slots state.requests
  pub bodies : making ≡ map making_of state.requests
  pub finished : table.finished ≡ state.table
  pub begun : table.begun ≡ unfinished state.table state.begun
  pub room : owed_by state.requests ≤ core_history.room
  pub ends : ShowsEnd state end

-- whether a slot is ready, and whether it waits for the run that this request has begun
abbrev pub is_ready : {W : Type 0} → Option (Slot W) → Bool
is_ready (Some (Ready walk answer)) = true
is_ready slot = false

abbrev pub waits_for : {W : Type 0} → ℕ → Option (Slot W) → Bool
waits_for by (Some (Waiting walk other)) = other == by
waits_for by slot = false

-- how many slots are not ready
abbrev pub one_unless : Bool → ℕ
one_unless true = 0
one_unless false = 1

abbrev pub unready : {W : Type 0} → List (Slot W) → ℕ
unready [] = 0
unready (slot ∷ slots) = one_unless (is_ready (Some slot)) + unready slots

-- the numbers of one of these sets
abbrev pub numbers_of : Option Numbered → List ℕ
numbers_of None = []
numbers_of (Some set) = set.numbers

-- for how many more one of these sets has room
abbrev pub room_of : Option Numbered → ℕ
room_of None = 0
room_of (Some set) = set.room

-- the sets have the same numbers
pub record HaveNumbers (old new : List Numbered) : Type 0 where
  pub lists : length new ≡ length old
  pub numbers : (by : ℕ) → numbers_of (at new by) ≡ numbers_of (at old by)

-- one of the sets has one more number
pub record IsListed (old new : List Numbered) (by id : ℕ) : Type 0 where
  pub lists : length new ≡ length old
  pub mine : (n : ℕ) → among n (numbers_of (at new by))
      ≡ (id == n || among n (numbers_of (at old by)))
  pub others : (other : ℕ) → (other ≡ by → ⊥)
      → numbers_of (at new other) ≡ numbers_of (at old other)

-- the ready requests are listed, with room for those that are not ready, and for each request those
-- that wait for the run that it has begun
pub record Indexed {W : Type 0} (slots : List (Slot W)) (ready : Numbered) (waiting : List Numbered)
    : Type 0 where
  pub listed : (n : ℕ) → among n ready.numbers ≡ is_ready (at slots n)
  pub room : unready slots ≤ ready.room
  pub lists : length waiting ≡ length slots
  pub waits : (by n : ℕ) → among n (numbers_of (at waiting by)) ≡ waits_for by (at slots n)

-- a slot after the run that this request has begun is finished: where it waits for the run, it is
-- ready
abbrev pub woken_if : {W : Type 0} → Bool → W → ℕ → Slot W
woken_if true walk by = Ready walk Use
woken_if false walk by = Waiting walk by

abbrev pub woken_by : {W : Type 0} → ℕ → Slot W → Slot W
woken_by id (Waiting walk by) = woken_if (by == id) walk by
woken_by id slot = slot

-- the ready slots are listed, with room for the others, and those that wait for the run of this
-- request
pub record Listed {W : Type 0} (id : ℕ) (slots : List (Slot W)) (ready : Numbered)
    (waiting : List ℕ) : Type 0 where
  pub listed : (n : ℕ) → among n ready.numbers ≡ is_ready (at slots n)
  pub room : unready slots ≤ ready.room
  pub waits : (n : ℕ) → among n waiting ≡ waits_for id (at slots n)

-- a slot that waits
abbrev pub IsWaiting : {W : Type 0} → Option (Slot W) → Type 0
IsWaiting (Some (Waiting walk by)) = Unit {0}
IsWaiting slot = ⊥

-- the slot of this number, which waits, is made ready
pub record IsWoken {W : Type 0} (slots after : List (Slot W)) (number : ℕ) : Type 0 where
  pub walk : W
  pub by : ℕ
  pub was : at slots number ≡ Some (Waiting walk by)
  pub is : after ≡ put slots number (Ready walk Use)
