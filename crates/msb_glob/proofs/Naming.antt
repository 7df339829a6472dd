-- What the code holds of entries names just the items that the entries name.
use Rattle.std.proofs.Common.{
  ◌≡◌,
  ℕ,
  Bool,
  true,
  false,
  ◌||◌,
  List,
  [],
  ◌∷◌,
  Result,
  Ok,
  Err,
  refl,
  sym,
  ap,
  ap₂,
  ◌∙◌,
}
use Rattle.std.specs.List.{list_any}
use Rattle.std.specs.BTreeMap.{is_at}
use Rattle.std.specs.BTreeSet.{insert_key}
use Rattle.std.specs.Ordering.{nat_cmp, is_eq, match_ordering}
use Rattle.std.specs.declared.cmp.Ordering.{Ordering}
use Rattle.std.specs.declared.cmp.Ordering.TheVariants.{Less, Equal, Greater}
use Rattle.std.specs.Cmp.Lexicographic.{slice_cmp}
use Rattle.std.proofs.lemmas.Map.Lookups.{exact_bytes}
use Rattle.std.proofs.lemmas.Map.Text.{is_eq-slice_cmp}
use Rattle.msb_laws.specs.Results.{and_then, map_ok}
use Rattle.msb_paths.specs.Refused.{normal_path}
use Rattle.msb_paths.specs.declared.errors.NormalFault.{NormalFault}
use Rattle.msb_values.proofs.Folding.{folds_as_compared}
use Rattle.msb_glob.specs.Parsed.{Reading, with_slashes}
use Rattle.msb_glob.specs.ItemNames.{ItemNames, fits, is_named, is_same_ident}
use Rattle.msb_glob.specs.FoldedNames.{
  fits_any,
  folded_ident,
  has_ident,
  folded_names,
  is_named_by,
  path_or_none,
  with_ident,
  with_idents,
}

-- what is in a set with one more key
swapped : (a b c : Bool) → (a || (b || c)) ≡ (b || (a || c))
swapped true true c = refl
swapped true false c = refl
swapped false b c = refl

doubled : (a c : Bool) → (a || c) ≡ (a || (a || c))
doubled true c = refl
doubled false c = refl

with_key : (q k : List ℕ) (keys : List (List ℕ))
    → list_any (is_at (slice_cmp nat_cmp q)) (insert_key (slice_cmp nat_cmp) keys k)
    ≡ (is_eq (slice_cmp nat_cmp q k) || list_any (is_at (slice_cmp nat_cmp q)) keys)
with_key q k [] = refl
with_key q k (x ∷ xs) = go (with_key q k xs) (slice_cmp nat_cmp k x) refl
  where
    go : list_any (is_at (slice_cmp nat_cmp q)) (insert_key (slice_cmp nat_cmp) xs k)
        ≡ (is_eq (slice_cmp nat_cmp q k) || list_any (is_at (slice_cmp nat_cmp q)) xs)
        → (o : Ordering) → slice_cmp nat_cmp k x ≡ o
        → list_any (is_at (slice_cmp nat_cmp q))
        (match_ordering o (k ∷ x ∷ xs) (x ∷ xs) (x ∷ insert_key (slice_cmp nat_cmp) xs k))
        ≡ (is_eq (slice_cmp nat_cmp q k)
        || (is_eq (slice_cmp nat_cmp q x) || list_any (is_at (slice_cmp nat_cmp q)) xs))
    go later Less is = refl
    go later Equal is =
        let same : k ≡ x = exact_bytes k x is in
        doubled (is_eq (slice_cmp nat_cmp q x)) (list_any (is_at (slice_cmp nat_cmp q)) xs)
        ∙ ap (λ y. is_eq (slice_cmp nat_cmp q y)
        || (is_eq (slice_cmp nat_cmp q x) || list_any (is_at (slice_cmp nat_cmp q)) xs))
        (sym same)
    go later Greater is =
        ap (λ b. is_eq (slice_cmp nat_cmp q x) || b) later
        ∙ swapped (is_eq (slice_cmp nat_cmp q x)) (is_eq (slice_cmp nat_cmp q k))
        (list_any (is_at (slice_cmp nat_cmp q)) xs)

-- what is in a set of identities
found : (ident text : List ℕ) → is_eq (slice_cmp nat_cmp (folded_ident ident) (folded_ident text))
    ≡ is_same_ident ident text
found ident text = is_eq-slice_cmp (folded_ident ident) (folded_ident text)
    ∙ folds_as_compared (with_slashes ident) (with_slashes text)

folded_idents : (ident : List ℕ) (names : List (List ℕ) × List Reading) (idents : List (List ℕ))
    → has_ident (with_idents names idents).0 ident
    ≡ (list_any (is_same_ident ident) idents || has_ident names.0 ident)
folded_idents ident names [] = refl
folded_idents ident names (text ∷ texts) =
    folded_idents ident (with_ident names text) texts
    ∙ ap (λ b. list_any (is_same_ident ident) texts || b)
    (with_key (folded_ident ident) (folded_ident text) names.0
    ∙ ap (λ b. b || has_ident names.0 ident) (found ident text))
    ∙ moved (list_any (is_same_ident ident) texts) (is_same_ident ident text)
    (has_ident names.0 ident)
  where
    moved : (a b c : Bool) → (a || (b || c)) ≡ ((b || a) || c)
    moved true true c = refl
    moved true false c = refl
    moved false true c = refl
    moved false false c = refl

same_patterns : (names : List (List ℕ) × List Reading) (idents : List (List ℕ))
    → (with_idents names idents).1 ≡ names.1
same_patterns names [] = refl
same_patterns names (text ∷ texts) = same_patterns (with_ident names text) texts

-- a pattern matches no path that is none
never : {X : Type 0} (xs : List X) → false ≡ list_any (λ x. false) xs
never [] = refl
never (x ∷ xs) = never xs

fits_same : (r : Result (List ℕ) NormalFault) (patterns : List Reading)
    → fits_any (path_or_none r) patterns ≡ list_any (fits r) patterns
fits_same (Ok path) patterns = refl
fits_same (Err fault) patterns = never patterns

shortened : (a : Bool) → (a || false) ≡ a
shortened true = refl
shortened false = refl

pub named_same : (folder : List ℕ) (names : ItemNames) (ident : List ℕ)
    → is_named_by folder (folded_names names) ident ≡ is_named folder names ident
named_same folder names ident =
    ap₂ ◌||◌ (folded_idents ident ([], names.patterns) names.idents
    ∙ shortened (list_any (is_same_ident ident) names.idents))
    (ap (fits_any (path_or_none (normal_path folder ident)))
    (same_patterns ([], names.patterns) names.idents)
    ∙ fits_same (normal_path folder ident) names.patterns)

-- what goes on by which identities are named
pub chosen : {X E : Type 0} (folder : List ℕ) (next : (List ℕ → Bool) → Result X E)
    (r : Result ItemNames E) (names : List (List ℕ) × List Reading)
    → map_ok folded_names r ≡ Ok names
    → and_then r (λ found. next (is_named folder found)) ≡ next (is_named_by folder names)
chosen folder next (Err e) names is = cc
chosen folder next (Ok found) names is =
    let same : folded_names found ≡ names = cc in
    let named : is_named folder found ≡ is_named_by folder (folded_names found) = λ i ident.
    sym (named_same folder found ident) i in
    ap next named ∙ ap (λ ns. next (is_named_by folder ns)) same
