-- A run that needs no other: none of the open calls of its body has begun a run or waits for one.
-- (MSBuild task: circular dependencies of targets)
use Rattle.std.specs.Prelude.{◌≡◌, ◌+◌, ◌<◌, ℕ, List, length, Option, None, Some}
use Rattle.result_cache.specs.declared.run.RunId.{RunId}
use Rattle.build_meaning.specs.Lists.{at}
use Rattle.build_scheduler.specs.declared.slot.Slot.{Slot}
use Rattle.build_scheduler.specs.declared.slot.Slot.TheVariants.{Calling}
use Rattle.build_scheduler.specs.Shown.{IsWaiting}

module _ {W : Type 0} (slots : List (Slot W)) (making : List (Option RunId)) where
  -- a request that is in no body, and does not wait
  pub record IsFree (id : ℕ) : Type 0 where
    pub idle : at making id ≡ Some None
    pub awake : IsWaiting (at slots id) → ⊥

  abbrev pub AreFree : ℕ → ℕ → Type 0
  AreFree first count = (i : ℕ) → i < count → IsFree (first + i)

  -- the calls of a request are free, if it has any
  abbrev pub NeedsNothing : Option (Slot W) → Type 0
  NeedsNothing (Some (Calling calls)) = AreFree calls.first (length calls.results.items)
  NeedsNothing slot = Unit {0}
