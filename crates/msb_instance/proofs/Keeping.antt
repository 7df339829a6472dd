-- What a search finds among the instances that are kept, and what is kept when one is put there.
use Rattle.std.proofs.Common.{
  ◌≡◌,
  ◌∙◌,
  ◌∷◌,
  [],
  Bool,
  List,
  Some,
  cond,
  false,
  if◌then◌else◌,
  inl,
  inr,
  refl,
  sym,
  true,
}
use Rattle.std.specs.Map.{lookup}
use Rattle.indexmap.specs.IndexMap.{insert_entry}
use Rattle.msb_values.specs.declared.key.InstanceKey.{InstanceKey}
use Rattle.build_world.specs.declared.instance.Instance.{Instance}
use Rattle.msb_instance.specs.Kept.{Keeps}

module _ (eq : InstanceKey → InstanceKey → Bool)
    (same : (a b : InstanceKey) → eq a b ≡ true → a ≡ b)
    (key : InstanceKey) (instance : Instance) where
  -- what a search finds is kept under the key
  pub keeps-found : (es : List (InstanceKey × Instance)) → lookup (eq key) es ≡ Some instance →
      Keeps key instance es
  keeps-found [] h = absurd (cc)
  keeps-found (e ∷ es) h = by (eq key e.0) refl h (keeps-found es)
    where
      by : (b : Bool) → eq key e.0 ≡ b →
          cond b (Some e.1) (lookup (eq key) es) ≡ Some instance →
          (lookup (eq key) es ≡ Some instance → Keeps key instance es) →
          Keeps key instance (e ∷ es)
      by true is h rest = let value : e.1 ≡ instance = cc in
          inl (λ j. (sym (same key e.0 is) j, value j))
      by false is h rest = inr (rest h)

  -- and what is put there is
  pub keeps-put : (es : List (InstanceKey × Instance)) →
      Keeps key instance (insert_entry eq es key instance)
  keeps-put [] = inl refl
  keeps-put (e ∷ es) = by (eq key e.0) refl (keeps-put es)
    where
      by : (b : Bool) → eq key e.0 ≡ b → Keeps key instance (insert_entry eq es key instance) →
          Keeps key instance
          (if b then (e.0, instance) ∷ es else e ∷ insert_entry eq es key instance)
      by true is rest = inl (λ j. (sym (same key e.0 is) j, instance))
      by false is rest = inr rest

  -- what is put there, by a copy of the key
  pub put-is : (es fs : List (InstanceKey × Instance)) (k : InstanceKey) (i : Instance) →
      fs ≡ insert_entry eq es k i → k ≡ key → i ≡ instance → fs ≡ insert_entry eq es key instance
  put-is es fs k i is same-key same-instance =
      is ∙ (λ j. insert_entry eq es (same-key j) (same-instance j))
