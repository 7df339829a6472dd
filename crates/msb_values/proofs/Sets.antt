-- What a set of texts or items says of the items of a list.
use Rattle.std.proofs.Common.{
  ◌≡◌,
  ℕ,
  ◌+◌,
  ◌<◌,
  Bool,
  true,
  false,
  not,
  cond,
  if◌then◌else◌,
  List,
  [],
  ◌∷◌,
  ◌++◌,
  length,
  drop,
  get_or,
  map,
  refl,
  sym,
  ap,
  ◌∙◌,
  append_assoc,
}
use Rattle.std.proofs.lemmas.List.{drop_more}
use Rattle.std.specs.List.{list_any}
use Rattle.std.specs.Str.{bytes_eq}
use Rattle.msb_values.specs.Changes.{
  is_named_in,
  without_named,
  is_among,
  with_metadata_if,
  with_metadata_on,
}
use Rattle.msb_values.specs.Folded.{folded_bytes, FoldsAsCompared}
use Rattle.msb_values.specs.Same.{is_same_text}
use Rattle.msb_values.specs.declared.item.Item.{Item}

pub folded_any : (ident : List ℕ) (texts : List (List ℕ)) → FoldsAsCompared
    → list_any (λ one. bytes_eq one (folded_bytes ident)) (map folded_bytes texts)
    ≡ list_any (λ text. is_same_text text ident) texts
folded_any ident [] compared = refl
folded_any ident (text ∷ texts) compared = rw (compared text ident, folded_any ident texts compared)
    refl

-- an item stays, or is named
pub kept_turn : (texts : List (List ℕ)) (item : Item) (kept more rest : List Item) (is : Bool)
    → is ≡ is_named_in texts item → more ≡ kept ++ (if is then [] else item ∷ [])
    → more ++ without_named texts rest ≡ kept ++ without_named texts (item ∷ rest)
kept_turn texts item kept more rest true is grown =
    ap (λ front. front ++ without_named texts rest) grown
    ∙ append_assoc kept [] (without_named texts rest)
    ∙ ap
    (λ named. kept ++ cond (not named) (item ∷ without_named texts rest)
    (without_named texts rest)) is
kept_turn texts item kept more rest false is grown =
    ap (λ front. front ++ without_named texts rest) grown
    ∙ append_assoc kept (item ∷ []) (without_named texts rest)
    ∙ ap
    (λ named. kept ++ cond (not named) (item ∷ without_named texts rest)
    (without_named texts rest)) is

-- an item gets the metadata, or stays as it is
pub changed_turn : (given : List Item) (pairs : List (List ℕ × List ℕ)) (item changed_item : Item)
    (changed more rest : List Item) (is : Bool) → is ≡ is_among given item
    → changed_item ≡ with_metadata_if is pairs item
    → more ≡ changed ++ changed_item ∷ [] → more ++ with_metadata_on given pairs rest
    ≡ changed ++ with_metadata_on given pairs (item ∷ rest)
changed_turn given pairs item changed_item changed more rest is among made grown =
    ap (λ front. front ++ with_metadata_on given pairs rest) grown
    ∙ append_assoc changed (changed_item ∷ []) (with_metadata_on given pairs rest)
    ∙ ap (λ one. changed ++ one ∷ with_metadata_on given pairs rest)
    (made ∙ ap (λ b. with_metadata_if b pairs item) among)

pub dropped : {X : Type 0} (xs : List X) (i : ℕ) (x : X) → i < length xs → x ≡ get_or xs i x
    → drop i xs ≡ x ∷ drop (i + 1) xs
dropped xs i x h is = drop_more xs i x h ∙ ap (λ y. y ∷ drop (i + 1) xs) (sym is)
