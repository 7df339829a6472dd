-- What a set of texts, items or keys says of the items of a list, and loops that write over the
-- entries of a list.
use Rattle.std.proofs.Common.{
  ◌≡◌,
  ℕ,
  suc,
  ◌+◌,
  ◌<◌,
  Bool,
  true,
  false,
  not,
  cond,
  ◌||◌,
  ◌&&◌,
  if◌then◌else◌,
  List,
  [],
  ◌∷◌,
  ◌++◌,
  take,
  drop,
  length,
  get_or,
  set,
  map,
  refl,
  sym,
  ap,
  ap₂,
  ◌∙◌,
  append_assoc,
  append-nil,
  add-one,
  take-suc-set,
  drop-set-lt,
  drop-cons,
  arith,
}
use Rattle.std.proofs.lemmas.List.Folds.{list_any-append}
use Rattle.std.specs.Bool.{OnFalse}
use Rattle.std.specs.HashSet.{HashSet, IsUnchanged, contains}
use Rattle.std.specs.List.{list_any}
use Rattle.msb_values.proofs.Folding.{folds_as_compared}
use Rattle.msb_values.specs.declared.item.Item.{Item}
use Rattle.msb_items.specs.FoldedNames.{item_unless}
use Rattle.msb_items.specs.Repeats.{is_repeat, without_repeats}
use Rattle.msb_items.specs.RepeatKeys.{HasKeys, item_if, key_of, same_key}
use Rattle.msb_items.specs.declared.repeats.ItemKey.{ItemKey}

-- one more entry is written
pub written_step : {A : Type 0} (f : A → A) (xs : List A) (i : ℕ) (d v : A) → i < length xs
    → v ≡ f (get_or xs i d)
    → take (i + 1) (set xs i v) ++ map f (drop (i + 1) (set xs i v))
    ≡ take i xs ++ map f (drop i xs)
written_step f xs i d v within is =
    let next : i < suc i = omega arith in
    rw (
      add-one,
      take-suc-set xs i v within,
      drop-set-lt (suc i) xs i v next,
      drop-cons xs i d
          within,
      is,
    )
    (append_assoc (take i xs) (f (get_or xs i d) ∷ []) (map f (drop (suc i) xs)))

pub as_if : (is : Bool) (item : Item) → item_unless is item ≡ (if is then [] else item ∷ [])
as_if true item = refl
as_if false item = refl

-- a key is in the set of some items just where the item repeats one of them
pub is_found : (defaults : List (List ℕ × List ℕ)) (item : Item) (items : List Item)
    → list_any (λ one. same_key one (key_of defaults item)) (map (key_of defaults) items)
    ≡ list_any (λ other. is_repeat defaults other item) items
is_found defaults item [] = refl
is_found defaults item (other ∷ items) = rw
    (folds_as_compared other.ident item.ident, is_found defaults item items) refl

-- an item is kept, or left out
pub repeats_turn : (defaults : List (List ℕ × List ℕ)) (there kept more : List Item) (item : Item)
    (rest : List Item) (is_new : Bool)
    → is_new ≡ not (list_any (λ other. is_repeat defaults other item) (there ++ kept))
    → more ≡ kept ++ item_if is_new item
    → more ++ without_repeats defaults (there ++ more) rest
    ≡ kept ++ without_repeats defaults (there ++ kept) (item ∷ rest)
repeats_turn defaults there kept more item rest is_new = go
    (list_any (λ other. is_repeat defaults other item) (there ++ kept))
  where
    go : (b : Bool) → is_new ≡ not b → more ≡ kept ++ item_if is_new item
        → more ++ without_repeats defaults (there ++ more) rest
        ≡ kept
        ++ (elim b [
          | true ↦ without_repeats defaults (there ++ kept) rest
          | false ↦ item
              ∷ without_repeats defaults ((there ++ kept) ++ item ∷ []) rest
        ])
    go true new grown =
        let same : more ≡ kept = grown ∙ ap (λ b. kept ++ item_if b item) new ∙ append-nil kept in
        ap (λ m. m ++ without_repeats defaults (there ++ m) rest) same
    go false new grown =
        let same : more ≡ kept ++ item ∷ [] = grown ∙ ap (λ b. kept ++ item_if b item) new in
        ap (λ m. m ++ without_repeats defaults (there ++ m) rest) same
        ∙ append_assoc kept (item ∷ []) _
        ∙ ap (λ seen. kept ++ item ∷ without_repeats defaults seen rest)
        (sym (append_assoc there kept (item ∷ [])))

-- a key is known or was added before just where its item repeats one that is there or one that is
-- kept
pub is_known : {S T : Type 0} (defaults : List (List ℕ × List ℕ)) (there kept : List Item)
    (item : Item) (key : ItemKey) (known : HashSet ItemKey S) (own : HashSet ItemKey T)
    → HasKeys defaults there known → HasKeys defaults kept own → key ≡ key_of defaults item
    → (contains same_key known key || contains same_key own key)
    ≡ list_any (λ other. is_repeat defaults other item) (there ++ kept)
is_known defaults there kept item key known own known_has own_has is =
    ap₂ ◌||◌ (known_has key ∙ found there) (own_has key ∙ found kept)
    ∙ sym (list_any-append (λ other. is_repeat defaults other item) there kept)
  where
    found : (items : List Item) → list_any (λ one. same_key one key) (map (key_of defaults) items)
        ≡ list_any (λ other. is_repeat defaults other item) items
    found items = ap (λ k. list_any (λ one. same_key one k) (map (key_of defaults) items)) is
        ∙ is_found defaults item items

or_false : (a : Bool) → (a || false) ≡ a
or_false true = refl
or_false false = refl

-- what a set has after a key was put in
pub has_added : {S : Type 0} (key one : ItemKey) (is_new : Bool) (old new : HashSet ItemKey S)
    → OnFalse is_new (IsUnchanged old new) → contains same_key new one
    ≡ cond (same_key key one) true (contains same_key old one)
    → contains same_key new one ≡ (contains same_key old one || (is_new && same_key key one))
has_added key one true old new same updates = updates
    ∙ turned (same_key key one) (contains same_key old one)
  where
    turned : (a b : Bool) → cond a true b ≡ (b || a)
    turned true true = refl
    turned true false = refl
    turned false true = refl
    turned false false = refl
has_added key one false old new same updates = ap (list_any (same_key one)) same ∙ sym (or_false _)

-- the set then has the keys of what is kept
pub keys_turn : {S : Type 0} (defaults : List (List ℕ × List ℕ)) (kept more : List Item)
    (item : Item) (is_new : Bool) (key : ItemKey) (old new : HashSet ItemKey S)
    → HasKeys defaults kept old → key ≡ key_of defaults item → more ≡ kept ++ item_if is_new item
    → ((one : ItemKey) → contains same_key new one
    ≡ (contains same_key old one || (is_new && same_key key one)))
    → HasKeys defaults more new
keys_turn defaults kept more item is_new key old new has is grown added = λ one.
    added one
    ∙ ap₂ ◌||◌ (has one) (ap (λ k. is_new && same_key k one) is)
    ∙ last is_new one
    ∙ ap (λ items. list_any (λ other. same_key other one) (map (key_of defaults) items)) (sym grown)
  where
    mapped : (xs ys : List Item) → map (key_of defaults) (xs ++ ys)
        ≡ map (key_of defaults) xs ++ map (key_of defaults) ys
    mapped [] ys = refl
    mapped (x ∷ xs) ys = ap (λ zs. key_of defaults x ∷ zs) (mapped xs ys)

    last : (is : Bool) (one : ItemKey)
        → (list_any (λ other. same_key other one) (map (key_of defaults) kept)
        || (is && same_key (key_of defaults item) one))
        ≡ list_any (λ other. same_key other one)
        (map (key_of defaults) (kept ++ item_if is item))
    last true one =
        ap (λ b. list_any (λ other. same_key other one) (map (key_of defaults) kept) || b)
        (sym (or_false (same_key (key_of defaults item) one)))
        ∙ sym
        (list_any-append (λ other. same_key other one) (map (key_of defaults) kept)
        (key_of defaults item ∷ []))
        ∙ ap (list_any (λ other. same_key other one)) (sym (mapped kept (item ∷ [])))
    last false one = or_false _
        ∙ ap (λ items. list_any (λ other. same_key other one) (map (key_of defaults) items))
        (sym (append-nil kept))
