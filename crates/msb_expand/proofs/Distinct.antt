-- Texts that were seen before, by a set of folded texts.
use Rattle.std.proofs.Common.{
  ◌≡◌,
  ℕ,
  Bool,
  true,
  false,
  not,
  cond,
  ◌||◌,
  List,
  [],
  ◌∷◌,
  ◌++◌,
  refl,
  sym,
  ap,
  ◌∙◌,
  append_assoc,
}
use Rattle.std.specs.Bool.{OnFalse}
use Rattle.std.specs.BTreeMap.{is_at}
use Rattle.std.specs.BTreeSet.{BTreeSet, IsUnchanged, contains}
use Rattle.std.specs.Cmp.Lexicographic.{slice_cmp}
use Rattle.std.specs.List.{list_any}
use Rattle.std.specs.Ordering.{nat_cmp}
use Rattle.std.specs.Str.{bytes_eq}
use Rattle.std.proofs.lemmas.Map.Text.{is_eq-slice_cmp}
use Rattle.std.proofs.lemmas.Slice.Eq.{bytes_eq-Decides}
use Rattle.msb_values.specs.Folded.{folded_bytes, FoldsAsCompared}
use Rattle.msb_values.specs.Same.{folded, is_same_text}
use Rattle.msb_values.specs.declared.item.Item.{Item}
use Rattle.msb_expand.specs.Functions.{distinct_from, kept_if}

-- the set holds what these texts fold to
abbrev pub HoldsFolded : BTreeSet (List ℕ) → List (List ℕ) → Type 0
HoldsFolded set seen = (text : List ℕ) → contains (slice_cmp nat_cmp) set (folded_bytes text)
    ≡ list_any (is_same_text text) seen

bytes_eq-sym : (xs ys : List ℕ) → bytes_eq xs ys ≡ bytes_eq ys xs
bytes_eq-sym xs ys = both (bytes_eq xs ys) (bytes_eq ys xs) refl refl
  where
    both : (a b : Bool) → bytes_eq xs ys ≡ a → bytes_eq ys xs ≡ b → a ≡ b
    both true true first second = refl
    both false false first second = refl
    both true false first second =
        let there : bytes_eq ys xs ≡ true = (bytes_eq-Decides ys xs).1
        (sym ((bytes_eq-Decides xs ys).0 first)) in
        cc
    both false true first second =
        let there : bytes_eq xs ys ≡ true = (bytes_eq-Decides xs ys).1
        (sym ((bytes_eq-Decides ys xs).0 second)) in
        cc

cond_or : (a b : Bool) → cond a true b ≡ (a || b)
cond_or true b = refl
cond_or false b = refl

-- a set with one more
holds_more : (set new : BTreeSet (List ℕ)) (seen : List (List ℕ)) (text ident : List ℕ)
    → FoldsAsCompared → ident ≡ folded_bytes text
    → ((q : List ℕ) → contains (slice_cmp nat_cmp) new q
    ≡ cond (is_at (slice_cmp nat_cmp ident) q) true (contains (slice_cmp nat_cmp) set q))
    → HoldsFolded set seen → HoldsFolded new (text ∷ seen)
holds_more set new seen text ident compared is updates holds other =
    updates (folded_bytes other)
    ∙ ap (λ b. cond b true (contains (slice_cmp nat_cmp) set (folded_bytes other)))
    (is_eq-slice_cmp ident (folded_bytes other) ∙ ap (λ i. bytes_eq i (folded_bytes other)) is
    ∙ compared text other ∙ bytes_eq-sym (folded text) (folded other))
    ∙ ap (λ b. cond (is_same_text other text) true b) (holds other)
    ∙ cond_or (is_same_text other text) (list_any (is_same_text other) seen)

not_not : (b c : Bool) → b ≡ not c → c ≡ not b
not_not true true is = cc
not_not true false is = refl
not_not false true is = refl
not_not false false is = cc

pub distinct_turn : (set new : BTreeSet (List ℕ)) (seen : List (List ℕ)) (item : Item)
    (ident : List ℕ) (is : Bool) (kept more rest all : List Item) → FoldsAsCompared
    → HoldsFolded set seen → ident ≡ folded_bytes item.ident
    → is ≡ not (contains (slice_cmp nat_cmp) set ident)
    → ((q : List ℕ) → contains (slice_cmp nat_cmp) new q
    ≡ cond (is_at (slice_cmp nat_cmp ident) q) true (contains (slice_cmp nat_cmp) set q))
    → OnFalse is (IsUnchanged set new) → more ≡ kept ++ kept_if is item []
    → kept ++ distinct_from seen (item ∷ rest) ≡ all
    → (x : List (List ℕ)) × HoldsFolded new x × (more ++ distinct_from x rest ≡ all)
distinct_turn set new seen item ident is kept more rest all compared holds folds first updates
    unchanged grown so_far =
    turn is (sym (holds item.ident) ∙ ap (contains (slice_cmp nat_cmp) set) (sym folds)
    ∙ not_not is (contains (slice_cmp nat_cmp) set ident) first) unchanged grown
  where
    turn : (b : Bool) → list_any (is_same_text item.ident) seen ≡ not b
        → OnFalse b (IsUnchanged set new) → more ≡ kept ++ kept_if b item []
        → (x : List (List ℕ)) × HoldsFolded new x × (more ++ distinct_from x rest ≡ all)
    turn true asked same put = (
      item.ident ∷ seen,
      holds_more set new seen item.ident ident compared folds updates holds,
      ap (λ front. front ++ distinct_from (item.ident ∷ seen) rest) put
          ∙ append_assoc kept (item ∷ []) (distinct_from (item.ident ∷ seen) rest)
          ∙ ap
          (λ b. kept
          ++ elim b [
            | true ↦ distinct_from seen rest
            | false ↦ item
                ∷ distinct_from (item.ident ∷ seen) rest
          ]) (sym asked)
          ∙ so_far,
    )
    turn false asked same put = (
      seen,
      (λ text. ap (λ keys. list_any (is_at (slice_cmp nat_cmp (folded_bytes text))) keys) same
          ∙ holds text),
      ap (λ front. front ++ distinct_from seen rest) put
          ∙ append_assoc kept [] (distinct_from seen rest)
          ∙ ap
          (λ b. kept
          ++ elim b [
            | true ↦ distinct_from seen rest
            | false ↦ item
                ∷ distinct_from (item.ident ∷ seen) rest
          ]) (sym asked)
          ∙ so_far,
    )
