-- A node that has no memory for its request gives it back, and is active no more.
-- (Building projects in parallel)
use Rattle.std.specs.Prelude.{◌≡◌, ◌+◌, ℕ, suc, Bool, true, false}
use Rattle.std.specs.Prelude.{List, [], ◌∷◌, ◌++◌, Option, None, Some}
use Rattle.build_meaning.specs.declared.event.Event.{Event}
use Rattle.build_meaning.specs.declared.event.Event.TheVariants.{Retire}
use Rattle.build_meaning.specs.World.{World}
use Rattle.build_meaning.specs.History.{retires}
use Rattle.build_scheduler.specs.declared.slot.End.{End}
use Rattle.build_scheduler.specs.declared.slot.End.TheVariants.{NoMemory}
use Rattle.build_scheduler.specs.History.{History}
use Rattle.build_scheduler.specs.Ready.{IsAssignedTo}

-- the events have this Retire, with room for the next Assign; or nothing changes, since no other
-- node is active
abbrev pub IsAppended : History → History → ℕ → ℕ → Bool → Type 0
IsAppended before after id node true =
    (after.events ≡ before.events ++ Retire id node ∷ []) × (after.room ≡ before.room + 1)
IsAppended before after id node false =
    (after.events ≡ before.events) × (after.room ≡ before.room)
    × (suc (retires before.events) ≡ before.nodes)

module _ {P I A : Type 0} (w : World P I A) (nodes : ℕ) (events after : List Event) where
  -- the node that has the request gives it back, and the build goes on; or no other node is
  -- active, and the build ends for want of memory
  abbrev pub IsRetired : ℕ → Option End → Bool → Type 0
  IsRetired id end true =
      ((node : ℕ) × ∥ IsAssignedTo w events id node ∥₁ × (after ≡ events ++ Retire id node ∷ []))
      × (end ≡ None)
  IsRetired id end false =
      (after ≡ events) × (end ≡ Some NoMemory) × (suc (retires events) ≡ nodes)
