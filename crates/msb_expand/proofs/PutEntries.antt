-- What stands behind a name where a value is put behind another.
use Rattle.std.proofs.Common.{
  ◌≡◌,
  ℕ,
  Bool,
  true,
  false,
  cond,
  List,
  [],
  ◌∷◌,
  Some,
  refl,
  sym,
  ap,
  ◌∙◌,
}
use Rattle.std.specs.BTreeMap.{insert_entry}
use Rattle.std.specs.Cmp.Lexicographic.{slice_cmp}
use Rattle.std.specs.Ordering.{nat_cmp, is_eq, match_ordering}
use Rattle.std.specs.Str.{bytes_eq}
use Rattle.std.specs.declared.cmp.Ordering.{Ordering}
use Rattle.std.specs.declared.cmp.Ordering.TheVariants.{Less, Equal, Greater}
use Rattle.std.proofs.lemmas.Map.Text.{is_eq-slice_cmp}
use Rattle.std.proofs.lemmas.Slice.Eq.{bytes_eq-Decides}
use Rattle.msb_values.specs.Pairs.{value_at}

put_less : {T : Type 0} (k n : List ℕ) (t : T) (e : List ℕ × T) (es : List (List ℕ × T))
    (r : Ordering) → is_eq r ≡ bytes_eq n e.0
    → value_at k (insert_entry (slice_cmp nat_cmp) es n t)
    ≡ cond (bytes_eq k n) (Some t) (value_at k es)
    → value_at k
    (match_ordering r ((n, t) ∷ e ∷ es) ((e.0, t) ∷ es)
    (e ∷ insert_entry (slice_cmp nat_cmp) es n t))
    ≡ cond (bytes_eq k n) (Some t) (cond (bytes_eq k e.0) (Some e.1) (value_at k es))
put_less k n t e es Less is rest = refl
put_less k n t e es Equal is rest =
    let same : n ≡ e.0 = (bytes_eq-Decides n e.0).0 (sym is) in
    same_key (bytes_eq k e.0)
    ∙ ap (λ m. cond (bytes_eq k m) (Some t) (cond (bytes_eq k e.0) (Some e.1) (value_at k es)))
    (sym same)
  where
    same_key : (b : Bool) → cond b (Some t) (value_at k es)
        ≡ cond b (Some t) (cond b (Some e.1) (value_at k es))
    same_key true = refl
    same_key false = refl
put_less k n t e es Greater is rest =
    ap (λ v. cond (bytes_eq k e.0) (Some e.1) v) rest
    ∙ other (bytes_eq k n) (bytes_eq k e.0) refl refl
  where
    other : (a b : Bool) → bytes_eq k n ≡ a → bytes_eq k e.0 ≡ b
        → cond b (Some e.1) (cond a (Some t) (value_at k es))
        ≡ cond a (Some t) (cond b (Some e.1) (value_at k es))
    other true true first second =
        let same : n ≡ e.0 = sym ((bytes_eq-Decides k n).0 first)
        ∙ (bytes_eq-Decides k e.0).0 second in
        let equal : bytes_eq n e.0 ≡ true = (bytes_eq-Decides n e.0).1 same in
        cc
    other true false first second = refl
    other false true first second = refl
    other false false first second = refl

pub put_at : {T : Type 0} (k n : List ℕ) (t : T) (es : List (List ℕ × T))
    → value_at k (insert_entry (slice_cmp nat_cmp) es n t)
    ≡ cond (bytes_eq k n) (Some t) (value_at k es)
put_at k n t [] = refl
put_at k n t (e ∷ es) = put_less k n t e es (slice_cmp nat_cmp n e.0) (is_eq-slice_cmp n e.0)
    (put_at k n t es)
