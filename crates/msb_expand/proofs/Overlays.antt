-- What a name has among an item's metadata and its type's defaults.
use Rattle.std.proofs.Common.{
  ◌≡◌,
  ℕ,
  Bool,
  true,
  false,
  cond,
  List,
  [],
  ◌∷◌,
  Option,
  Some,
  None,
  refl,
  sym,
  ap,
  ◌∙◌,
}
use Rattle.std.specs.BTreeMap.{insert_entry}
use Rattle.std.specs.Cmp.Lexicographic.{slice_cmp}
use Rattle.std.specs.Ordering.{nat_cmp}
use Rattle.std.specs.Str.{bytes_eq}
use Rattle.std.proofs.lemmas.Slice.Eq.{bytes_eq-Decides}
use Rattle.msb_values.specs.Pairs.{value_at}
use Rattle.msb_values.specs.Overlays.{put_missing, overlaid}
use Rattle.msb_expand.proofs.PutEntries.{put_at}

put_own : (k n d t : List ℕ) (own : List (List ℕ × List ℕ)) (o : Option (List ℕ))
    → value_at n own ≡ o → value_at k own ≡ Some t → value_at k (put_missing o own n d) ≡ Some t
put_own k n d t own (Some x) there is = is
put_own k n d t own None there is = put_at k n d own ∙ ap (λ v. cond (bytes_eq k n) (Some d) v) is
    ∙ other (bytes_eq k n) refl
  where
    other : (b : Bool) → bytes_eq k n ≡ b → cond b (Some d) (Some t) ≡ Some t
    other true same =
        let here : value_at k own ≡ None = ap (λ x. value_at x own) ((bytes_eq-Decides k n).0 same)
        ∙ there in
        cc
    other false same = refl

put_other : (k n d : List ℕ) (own : List (List ℕ × List ℕ)) (o : Option (List ℕ))
    → value_at n own ≡ o → bytes_eq k n ≡ false → value_at k own ≡ None
    → value_at k (put_missing o own n d) ≡ None
put_other k n d own (Some x) there apart is = is
put_other k n d own None there apart is = put_at k n d own
    ∙ ap (λ b. cond b (Some d) (value_at k own)) apart ∙ is

-- an item's own text
pub own_at : (k t : List ℕ) (defaults own : List (List ℕ × List ℕ)) → value_at k own ≡ Some t
    → value_at k (overlaid defaults own) ≡ Some t
own_at k t [] own is = is
own_at k t (p ∷ ps) own is = own_at k t ps (put_missing (value_at p.0 own) own p.0 p.1)
    (put_own k p.0 p.1 t own (value_at p.0 own) refl is)

-- else the default
pub default_at : (k : List ℕ) (defaults own : List (List ℕ × List ℕ)) → value_at k own ≡ None
    → value_at k (overlaid defaults own) ≡ value_at k defaults
default_at k [] own is = is
default_at k (p ∷ ps) own is = first
    (λ apart. default_at k ps (put_missing (value_at p.0 own) own p.0 p.1)
    (put_other k p.0 p.1 own (value_at p.0 own) refl apart is)) (bytes_eq k p.0) refl
  where
    first :
        (bytes_eq k p.0 ≡ false
        → value_at k (overlaid ps (put_missing (value_at p.0 own) own p.0 p.1)) ≡ value_at k ps)
        → (b : Bool) → bytes_eq k p.0 ≡ b
        → value_at k (overlaid ps (put_missing (value_at p.0 own) own p.0 p.1))
        ≡ cond b (Some p.1) (value_at k ps)
    first later true same =
        let here : value_at p.0 own ≡ None = ap (λ x. value_at x own)
        (sym ((bytes_eq-Decides k p.0).0 same)) ∙ is in
        ap (λ o. value_at k (overlaid ps (put_missing o own p.0 p.1))) here
        ∙ own_at k p.1 ps (insert_entry (slice_cmp nat_cmp) own p.0 p.1)
        (put_at k p.0 p.1 own ∙ ap (λ b. cond b (Some p.1) (value_at k own)) same)
    first later false apart = later apart
