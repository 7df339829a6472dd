-- Keys that are told equal are equal.
use Rattle.std.proofs.Common.{
  ◌≡◌,
  ◌↔◌,
  ◌&&◌,
  ◌∙◌,
  Bool,
  List,
  Ok,
  ap,
  false,
  refl,
  subst,
  sym,
  true,
  ℕ,
}
use Rattle.std.specs.Bool.{Decides}
use Rattle.std.specs.Cmp.Lexicographic.{pointwise_decides}
use Rattle.std.specs.Str.{bytes_eq}
use Rattle.std.proofs.lemmas.Slice.Eq.{bytes_eq-Decides}
use Rattle.file_store.specs.declared.tree.File.{File}
use Rattle.msb_values.specs.Equal.{same_pair, same_pairs}
use Rattle.msb_values.specs.declared.key.InstanceKey.{InstanceKey}
use Rattle.build_world.specs.declared.instance.Instance.{Instance}
use Rattle.msb_instance.specs.Evaluated.{evaluated, seen_instance}

abbrev pub same_key : InstanceKey → InstanceKey → Bool
same_key a b = bytes_eq a.path b.path && same_pairs a.globals b.globals

both : {P Q : Type 0} (a b : Bool) → Decides a P → Decides b Q → a && b ≡ true → P × Q
both true b p q h = (p.0 refl, q.0 h)
both false b p q h = absurd (cc)

pair-exact : (p q : List ℕ × List ℕ) → Decides (same_pair p q) (p ≡ q)
pair-exact p q = (
  (λ h. let s = both (bytes_eq p.0 q.0) (bytes_eq p.1 q.1) (bytes_eq-Decides p.0 q.0)
      (bytes_eq-Decides p.1 q.1) h in (λ j. (s.0 j, s.1 j))),
  λ h. rest h,
)
  where
    rest : p ≡ q → same_pair p q ≡ true
    rest h = subst (λ z. bytes_eq p.0 z.0 && bytes_eq p.1 z.1 ≡ true) h
        (ap (λ b. b && bytes_eq p.1 p.1) ((bytes_eq-Decides p.0 p.0).1 refl)
        ∙ (bytes_eq-Decides p.1 p.1).1 refl)

pub same_key-exact : (a b : InstanceKey) → same_key a b ≡ true → a ≡ b
same_key-exact a b h =
    let s = both (bytes_eq a.path b.path) (same_pairs a.globals b.globals)
    (bytes_eq-Decides a.path b.path) (pointwise_decides pair-exact a.globals b.globals) h in
    (λ j. record { path = s.0 j; globals = s.1 j })

-- equal keys' projects evaluate to the same
pub evaluated-same : (files : List File) (one other : InstanceKey) (instance : Instance) →
    same_key one other ≡ true →
    (evaluated files one ≡ Ok (seen_instance instance))
    ↔ (evaluated files other ≡ Ok (seen_instance instance))
evaluated-same files one other instance equal =
    let P : InstanceKey → Type 0 = λ key. evaluated files key ≡ Ok (seen_instance instance) in
    let same = same_key-exact one other equal in (subst P same, subst P (sym same))
