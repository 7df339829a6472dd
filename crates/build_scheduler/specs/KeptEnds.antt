-- What is kept for a request, and how what is kept changes.
use Rattle.std.specs.Prelude.{◌≡◌, ◌⊎◌, ◌<◌, ℕ, List, Option, None, Some}
use Rattle.msb_laws.specs.Asking.{and_then}
use Rattle.build_meaning.specs.Lists.{at, put}
use Rattle.build_scheduler.specs.declared.kept.InstanceEnd.{InstanceEnd}
use Rattle.build_scheduler.specs.declared.kept.Kept.{Kept}
use Rattle.build_scheduler.specs.declared.kept.KeptEnds.{KeptEnds}

module _ {W : Type 0} where
  -- an end that is kept
  abbrev pub IsAmong : List (InstanceEnd W) → Kept W → Type 0
  IsAmong instances kept =
      (place : ℕ) × (instance : InstanceEnd W)
      × (at instances place ≡ Some instance) × (instance.kept ≡ Some kept)

  -- the instance of a request, with what is kept for its requests
  abbrev pub instance_of : KeptEnds W → ℕ → Option (InstanceEnd W)
  instance_of ends id = and_then (at ends.places.items id) (λ place. at ends.instances.items place)

  -- the end that is kept for a request: one of a request of its instance
  abbrev pub kept_for : KeptEnds W → ℕ → Option (Kept W)
  kept_for ends id = and_then (instance_of ends id) (λ instance. instance.kept)

  -- another request of its instance is not done
  pub record IsWanted (ends : KeptEnds W) (id : ℕ) : Type 0 where
    pub instance : InstanceEnd W
    pub whose : instance_of ends id ≡ Some instance
    pub another : 1 < instance.open_requests

  -- this end is kept for the instance of its request, in place of what was; no more changes
  pub record IsPut (before after : KeptEnds W) (kept : Kept W) : Type 0 where
    pub place : ℕ
    pub instance : InstanceEnd W
    pub whose : at before.places.items kept.id ≡ Some place
    pub there : at before.instances.items place ≡ Some instance
    pub places : after.places.items ≡ before.places.items
    pub is : after.instances.items ≡ put before.instances.items place (record {
      open_requests = instance.open_requests;
      kept = Some kept;
    })

  -- for an instance the same end is kept as before, or none
  abbrev pub IsNoOther : InstanceEnd W → InstanceEnd W → Type 0
  IsNoOther before after = (after.kept ≡ before.kept) ⊎ (after.kept ≡ None)

  -- all that is kept was kept before
  abbrev pub AreFewer : List (InstanceEnd W) → List (InstanceEnd W) → Type 0
  AreFewer instances after = (kept : Kept W) → IsAmong after kept → IsAmong instances kept
