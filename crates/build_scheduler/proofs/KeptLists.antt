-- Lists of ends that are kept, as they change.
use Rattle.std.proofs.Common.{
  ◌≡◌,
  ◌⊎◌,
  inl,
  inr,
  ℕ,
  zero,
  suc,
  List,
  [],
  ◌∷◌,
  ◌++◌,
  None,
  Some,
  ap,
  sym,
  ◌∙◌,
  subst,
}
use Rattle.std.proofs.Math.ListN.{set}
use Rattle.result_cache.proofs.RunTests.{and_then-some}
use Rattle.build_meaning.specs.Lists.{at, put}
use Rattle.build_meaning.proofs.ListPlaces.{at-put}
use Rattle.build_scheduler.specs.declared.kept.InstanceEnd.{InstanceEnd}
use Rattle.build_scheduler.specs.declared.kept.Kept.{Kept}
use Rattle.build_scheduler.specs.declared.kept.KeptEnds.{KeptEnds}
use Rattle.build_scheduler.specs.KeptEnds.{
  AreFewer,
  IsAmong,
  IsNoOther,
  IsPut,
  instance_of,
  kept_for,
}
use Rattle.build_scheduler.proofs.SlotNumbers.{put-set}

module _ {W : Type 0} where
  pub fewer-same : (all : List (InstanceEnd W)) → AreFewer all all
  fewer-same all kept among = among

  pub fewer-is : (all after : List (InstanceEnd W)) → after ≡ all → AreFewer all after
  fewer-is all after e kept among = subst (λ xs. IsAmong xs kept) e among

  pub fewer-then : (all next after : List (InstanceEnd W)) → AreFewer all next →
      AreFewer next after → AreFewer all after
  fewer-then all next after a b kept among = a kept (b kept among)

  abbrev pub new_instance : InstanceEnd W
  new_instance = record { open_requests = 1; kept = None }

  pub fewer-pushed : (all : List (InstanceEnd W)) → AreFewer all (all ++ new_instance ∷ [])
  fewer-pushed all kept (place, x, h, k) = go all place h
    where
      go : (xs : List (InstanceEnd W)) (n : ℕ) → at (xs ++ new_instance ∷ []) n ≡ Some x →
          IsAmong xs kept
      go [] zero h =
          let e : new_instance ≡ x = cc in
          let none : None ≡ Some kept = ap (λ (y : InstanceEnd W). y.kept) e ∙ k in absurd (cc)
      go [] (suc n) h = absurd (cc)
      go (y ∷ xs) zero h = (zero, x, h, k)
      go (y ∷ xs) (suc n) h = let z = go xs n h in (suc z.0, z.1, z.2, z.3)

  pub fewer-added : (all after : List (InstanceEnd W)) → after ≡ all ++ new_instance ∷ [] →
      AreFewer all after
  fewer-added all after e kept among = fewer-pushed all kept (subst (λ xs. IsAmong xs kept) e among)

  -- where an instance changes, for which the same end is kept or none
  pub fewer-put : (all : List (InstanceEnd W)) (place : ℕ) (old new : InstanceEnd W) →
      at all place ≡ Some old → IsNoOther old new → AreFewer all (put all place new)
  fewer-put all place old new e h kept (n, x, there, k) = elim (at-put all place new n x there) [
    | inl here ↦
        let so : new.kept ≡ Some kept = ap (λ (y : InstanceEnd W). y.kept) here.1 ∙ k in
        elim h [
          | inl same ↦ (place, old, e, sym same ∙ so)
          | inr none ↦ absurd (let c : None ≡ Some kept = sym none ∙ so in cc)
        ]
    | inr other ↦ (n, x, other.1, k)
  ]

  pub fewer-set : (all : List (InstanceEnd W)) (place : ℕ) (old new : InstanceEnd W) →
      at all place ≡ Some old → IsNoOther old new → AreFewer all (set all place new)
  fewer-set all place old new e h =
      fewer-is-at (set all place new) (put-set all place new) (fewer-put all place old new e h)
    where
      fewer-is-at : (after : List (InstanceEnd W)) → after ≡ put all place new →
          AreFewer all (put all place new) → AreFewer all after
      fewer-is-at after s f kept among = f kept (subst (λ xs. IsAmong xs kept) s among)

  -- all that is kept is this one, or was kept before
  pub put-among : (before after : KeptEnds W) (new kept : Kept W) → IsPut before after new →
      IsAmong after.instances.items kept → (kept ≡ new) ⊎ IsAmong before.instances.items kept
  put-among before after new kept p (n, x, there, k) =
      elim (at-put before.instances.items p.place _ n x (ap (λ xs. at xs n) (sym p.is) ∙ there)) [
        | inl here ↦ inl (let so : Some new ≡ Some kept =
            ap (λ (y : InstanceEnd W). y.kept) here.1 ∙ k in cc)
        | inr other ↦ inr (n, x, other.1, k)
      ]

  -- what is kept for a request is kept
  pub for-among : (ends : KeptEnds W) (id : ℕ) (kept : Kept W) → kept_for ends id ≡ Some kept →
      IsAmong ends.instances.items kept
  for-among ends id kept h =
      let x = and_then-some (instance_of ends id) (λ (y : InstanceEnd W). y.kept) kept h in
      let n = and_then-some (at ends.places.items id) (λ place. at ends.instances.items place) x.0
      x.1 in
      (n.0, x.0, n.2, x.2)
