-- How a caller goes on as the results of its calls come. (MSBuild task, BuildInParallel)
use Rattle.std.specs.Prelude.{
  ◌≡◌,
  ◌+◌,
  ◌-◌,
  ◌<◌,
  ◌≤◌,
  ◌||◌,
  ◌&&◌,
  ◌==◌,
  ℕ,
  suc,
  List,
  length,
  Some,
  None,
  Option,
}
use Rattle.result_cache.specs.declared.request.RequestResult.{RequestResult}
use Rattle.result_cache.specs.Replay.{replay_all}
use Rattle.result_cache.specs.Table.{Records}
use Rattle.build_meaning.specs.Lists.{at, put}
use Rattle.build_scheduler.specs.declared.walker.Answer.TheVariants.{Results}
use Rattle.build_scheduler.specs.declared.slot.Origin.{Origin}
use Rattle.build_scheduler.specs.declared.slot.Calls.{Calls}
use Rattle.build_scheduler.specs.declared.slot.Slot.{Slot}
use Rattle.build_scheduler.specs.declared.slot.Slot.TheVariants.{Ready, Calling}
use Rattle.build_scheduler.specs.Learnt.{ArePartOf}
use Rattle.build_scheduler.specs.Numbers.{among, Numbered}
use Rattle.build_scheduler.specs.Own.{Seen}
use Rattle.build_scheduler.specs.Shown.{is_ready, one_unless}

-- the slot of a caller, after the call of this place has given its result: it is ready with all
-- results where this was the last one
abbrev pub IsTold : {W : Type 0} → Calls W → ℕ → RequestResult → Slot W → Type 0
IsTold calls place told (Ready walk answer) = (walk ≡ calls.walk) × (calls.«open» ≡ 1)
    × (answer ≡ Results (put calls.results.items place told))
IsTold calls place told (Calling next) =
    (next.walk ≡ calls.walk) × (next.first ≡ calls.first) × (calls.«open» ≡ suc next.«open»)
    × (0 < next.«open») × (next.results.items ≡ put calls.results.items place told)
IsTold calls place told slot = ⊥

-- the request that calls it
abbrev pub HasParent : Option Origin → Option ℕ → Type 0
HasParent None parent = ⊥
HasParent (Some origin) parent = origin.parent ≡ parent

-- a slot of a caller
abbrev pub IsCalling : {W : Type 0} → Option (Slot W) → Type 0
IsCalling (Some (Calling calls)) = Unit {0}
IsCalling slot = ⊥

-- a call of this number is open
abbrev pub HasOpen : {W : Type 0} → ℕ → Option (Slot W) → Type 0
HasOpen id (Some (Calling calls)) = (calls.first ≤ id)
    × (id - calls.first < length calls.results.items) × (0 < calls.«open»)
HasOpen id slot = ⊥

-- the caller of this number is told the result of its call
pub record IsResumed {W : Type 0} (slots after : List (Slot W)) (ready next : Numbered)
    (caller id : ℕ) (told : RequestResult) : Type 0 where
  pub calls : Calls W
  pub slot : Slot W
  pub was : at slots caller ≡ Some (Calling calls)
  pub tells : IsTold calls (id - calls.first) told slot
  pub is : after ≡ put slots caller slot
  pub listed : (n : ℕ) → among n next.numbers
      ≡ ((is_ready (Some slot) && caller == n) || among n ready.numbers)
  pub room : ready.room + one_unless (is_ready (Some slot)) ≡ next.room + 1

module _ {W P I A : Type 0} (seen : W → Seen P I A) (table : Records) where
  -- a caller, in whose journal the runs of this walk, replayed, give the walk's journal
  abbrev pub CanTake : Seen P I A → Option (Slot W) → Type 0
  CanTake walk (Some (Calling calls)) =
      ArePartOf (seen calls.walk).learnt table
      × (replay_all table walk.position.runs (seen calls.walk).position.journal
      ≡ Some walk.position.journal)
  CanTake walk slot = ⊥

  -- the calls of a caller that has taken a journal over, or not: its walk stands as before, and all
  -- that it has learnt is in the table
  pub record HasTaken (before after : Calls W) : Type 0 where
    pub first : after.first ≡ before.first
    pub open_calls : after.«open» ≡ before.«open»
    pub results : after.results.items ≡ before.results.items
    pub world : (seen after.walk).world ≡ (seen before.walk).world
    pub position : (seen after.walk).position ≡ (seen before.walk).position
    pub asked : (seen after.walk).asked ≡ (seen before.walk).asked
    pub learnt : ArePartOf (seen after.walk).learnt table

  -- such a caller is in this slot
  pub record IsPassed (slots after : List (Slot W)) (caller : ℕ) : Type 0 where
    pub before : Calls W
    pub now : Calls W
    pub was : at slots caller ≡ Some (Calling before)
    pub taken : HasTaken before now
    pub is : after ≡ put slots caller (Calling now)
