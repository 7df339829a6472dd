-- Tests on runs and marks, and what they say.
use Rattle.std.proofs.Common.{
  ◌≡◌,
  Bool,
  true,
  false,
  ◌==◌,
  ◌||◌,
  ◌&&◌,
  ◌⊎◌,
  inl,
  inr,
  List,
  [],
  ◌∷◌,
  Option,
  None,
  Some,
  ℕ,
  nat_eq,
  ◌≢◌,
  refl,
  sym,
  ap,
  ◌∙◌,
}
use Rattle.std.specs.Cmp.{unsigned_Decides}
use Rattle.std.proofs.lemmas.Bool.{eqb-true, eq-eqb}
use Rattle.msb_laws.specs.Asking.{and_then}
use Rattle.result_cache.specs.declared.run.RunId.{RunId}
use Rattle.result_cache.specs.Same.{same_run, is_in}
use Rattle.result_cache.specs.Exact.{run-exact}
use Rattle.result_cache.specs.Hashes.{run_hash}
use Rattle.result_cache.specs.Lists.{In}
use Rattle.result_cache.specs.Journal.{Mark, act_of, end_of, same_mark}

pub clash : (b : Bool) → b ≡ true → b ≡ false → ⊥
clash b h g = cc

-- by cases on a test, keeping the equation
pub tells : (b : Bool) → (b ≡ true) ⊎ (b ≡ false)
tells true = inl refl
tells false = inr refl

pub or_right : (a b : Bool) → b ≡ true → (a || b) ≡ true
or_right true b h = refl
or_right false b h = h

pub or_left : (a b : Bool) → a ≡ true → (a || b) ≡ true
or_left true b h = refl
or_left false b h = absurd (cc)

pub or_cases : (a b : Bool) → (a || b) ≡ true → (a ≡ true) ⊎ (b ≡ true)
or_cases true b h = inl refl
or_cases false b h = inr h

pub or_neither : (a b : Bool) → (a || b) ≡ false → (a ≡ false) × (b ≡ false)
or_neither true b h = absurd (cc)
or_neither false b h = (refl, h)

pub and_both : (a b : Bool) → (a && b) ≡ true → (a ≡ true) × (b ≡ true)
and_both true b h = (refl, h)
and_both false b h = absurd (cc)

pub same_run-refl : (r : RunId) → same_run r r ≡ true
same_run-refl r = (run-exact r r).1 refl

pub same_run-true : (r s : RunId) → same_run r s ≡ true → r ≡ s
same_run-true r s h = (run-exact r s).0 h

pub same_run-eq : (r s : RunId) → r ≡ s → same_run r s ≡ true
same_run-eq r s h = (run-exact r s).1 h

-- runs with different hashes are different
pub hash-apart : (a b : RunId) → (run_hash a ≡ run_hash b → ⊥) → same_run a b ≡ false
hash-apart a b apart = by (same_run a b) refl
  where
    by : (t : Bool) → same_run a b ≡ t → t ≡ false
    by true h = absurd (apart (ap run_hash (same_run-true a b h)))
    by false h = refl

pub hashes-tell : (h k : ℕ) (a b : RunId) → h ≡ run_hash a → k ≡ run_hash b → h ≢ k
    → nat_eq h k ≡ same_run a b
hashes-tell h k a b p q apart =
    by (nat_eq h k) refl ∙ sym (hash-apart a b (λ e. apart (p ∙ (e ∙ sym q))))
  where
    by : (t : Bool) → nat_eq h k ≡ t → nat_eq h k ≡ false
    by true e = absurd (apart ((unsigned_Decides h k).0 e))
    by false e = e

pub same_mark-refl : (m : Mark) → same_mark m m ≡ true
same_mark-refl (end_of r) = same_run-refl r
same_mark-refl (act_of r n) = rw (same_run-refl r, eq-eqb n n refl)

pub same_mark-true : (a b : Mark) → same_mark a b ≡ true → a ≡ b
same_mark-true (end_of r) (end_of s) h = ap end_of (same_run-true r s h)
same_mark-true (act_of r n) (act_of s k) h =
    let x = and_both (same_run r s) (n == k) h in
    let p : r ≡ s = same_run-true r s x.0 in
    let q : n ≡ k = eqb-true n k x.1 in cc
same_mark-true (end_of r) (act_of s k) h = absurd (cc)
same_mark-true (act_of r n) (end_of s) h = absurd (cc)

pub is_in-true : (r : RunId) (runs : List RunId) → In r runs → is_in r runs ≡ true
is_in-true r [] i = absurd i
is_in-true r (x ∷ runs) (inl p) = or_left (same_run x r) (is_in r runs) (same_run-eq x r p)
is_in-true r (x ∷ runs) (inr i) = or_right (same_run x r) (is_in r runs) (is_in-true r runs i)

pub in-is_in : (r : RunId) (runs : List RunId) → is_in r runs ≡ true → In r runs
in-is_in r [] h = absurd (cc)
in-is_in r (x ∷ runs) h = elim (or_cases (same_run x r) (is_in r runs) h)
    [ inl p ↦ inl (same_run-true x r p) | inr p ↦ inr (in-is_in r runs p) ]

pub and_then-some : {X Y : Type 0} (o : Option X) (f : X → Option Y) (y : Y) → and_then o f ≡ Some y
    → (x : X) × (o ≡ Some x) × (f x ≡ Some y)
and_then-some None f y h = absurd (cc)
and_then-some (Some x) f y h = (x, refl, h)
