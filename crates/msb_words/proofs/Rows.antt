-- What a parse holds of names with values: a row for each.
use Rattle.std.proofs.Common.{
  ◌≡◌,
  ℕ,
  List,
  [],
  ◌∷◌,
  ◌++◌,
  map,
  Bool,
  true,
  false,
  cond,
  Option,
  Some,
  None,
  refl,
  sym,
  ap,
  ◌∙◌,
  append-nil,
  true≢false,
}
use Rattle.std.specs.Prelude.{
  ◌||◌,
  codes,
  find,
  if◌then◌else◌,
  option_map,
  option_and_then,
  slice_get,
}
use Rattle.std.specs.Option.{option_map_or, option_or}
use Rattle.std.specs.Str.{bytes_eq}
use Rattle.std.proofs.lemmas.List.{map-append}
use Rattle.std.proofs.lemmas.List.Folds.{find-append, list_any-append}
use Rattle.clap.specs.Facts.{explicit_source}
use Rattle.clap.specs.Values.{bool_text}
use Rattle.clap.specs.Walk.{
  Row,
  Rule,
  at_row,
  first_of,
  has_row,
  more_values,
  one_of,
  row_text,
  with_default,
  with_values,
  without,
}
use Rattle.clap.specs.Simple.{filled}
use Rattle.clap.specs.Takes.{is_given}
use Rattle.clap.specs.declared.builder.value_parser.Reading.TheVariants.{AsWritten}
use Rattle.clap.specs.declared.parser.matches.ValueSource.TheVariants.{CommandLine, DefaultValue}
use Rattle.clap.proofs.WalkLemmas.{list_any-map, find-map}
use Rattle.msb_words.specs.Given.{Names, has, value_in, with}
use Rattle.msb_words.specs.Grammar.{flag}

abbrev pub row : List ℕ × List ℕ → Row
row n = record
    { id = n.0; values = n.1 ∷ []; count = None; source = Some CommandLine; reading = AsWritten }

abbrev pub rows : Names → List Row
rows = map row

pub split_or : (a b : Bool) → (a || b) ≡ false → (a ≡ false) × (b ≡ false)
split_or true b is = absurd (true≢false is)
split_or false b is = (refl, is)

or_false : (a : Bool) → (a || false) ≡ a
or_false true = refl
or_false false = refl

pub same_names : (id : List ℕ) (names : Names) → has_row id (rows names) ≡ has id names
same_names id names = sym (list_any-map (λ r. bytes_eq r.id id) row names)

-- a name that is new comes last
at_absent : (id : List ℕ) (change : Row → List Row) (missing : List Row) (names : Names)
    → has id names ≡ false → at_row id change missing (rows names) ≡ rows names ++ missing
at_absent id change missing [] none = refl
at_absent id change missing (n ∷ names) none =
    let p = split_or (bytes_eq n.0 id) (has id names) none in
    rw (p.0) (ap (λ rs. row n ∷ rs) (at_absent id change missing names p.1))

pub one_more : (id value : List ℕ) (names : Names) → has id names ≡ false
    → with_values id AsWritten CommandLine (value ∷ []) (without id (rows names))
    ≡ rows (with id value names)
one_more id value names none =
    ap (with_values id AsWritten CommandLine (value ∷ []))
    (at_absent id (λ _. []) [] names none ∙ append-nil (rows names))
    ∙ at_absent id (more_values CommandLine (value ∷ [])) (row (id, value) ∷ []) names none
    ∙ sym (map-append row names ((id, value) ∷ []))

-- ---- the flag

abbrev pub flag_rule : Rule
flag_rule = filled (flag (codes "clean"))

-- the flag's row where the words don't have it
abbrev default_row : Row
default_row = record {
  id = codes "clean";
  values = codes "false"
      ∷ [];
  count = None;
  source = Some DefaultValue;
  reading = AsWritten;
}

-- the rows at the end
abbrev pub all_rows : Names → List Row
all_rows names = if has (codes "clean") names then rows names else rows names ++ default_row ∷ []

pub defaulted : (names : Names) → with_default (rows names) flag_rule ≡ all_rows names
defaulted names = go (has (codes "clean") names) refl
  where
    go : (b : Bool) → has (codes "clean") names ≡ b
        → with_default (rows names) flag_rule ≡ cond b (rows names) (rows names ++ default_row ∷ [])
    go true old = rw (same_names (codes "clean") names, old) refl
    go false new =
        rw (same_names (codes "clean") names, new)
        (at_absent (codes "clean") (more_values DefaultValue (codes "false" ∷ []))
        (default_row ∷ []) names new)

-- no other name sees a row that is added
apart : (id : List ℕ) (rs : List Row) (r : Row) → bytes_eq r.id id ≡ false
    → find (λ s. bytes_eq s.id id) (rs ++ r ∷ []) ≡ find (λ s. bytes_eq s.id id) rs
apart id rs r differs = find-append (λ s. bytes_eq s.id id) rs (r ∷ [])
    ∙ rw (differs) (go (find (λ s. bytes_eq s.id id) rs))
  where
    go : (o : Option Row) → option_or o None ≡ o
    go None = refl
    go (Some x) = refl

same_row : (id : List ℕ) (names : Names) → bytes_eq (codes "clean") id ≡ false
    → find (λ r. bytes_eq r.id id) (all_rows names)
    ≡ option_map row (find (λ n. bytes_eq n.0 id) names)
same_row id names differs = go (has (codes "clean") names)
    ∙ sym (find-map (λ r. bytes_eq r.id id) row names)
  where
    go : (b : Bool)
        → find (λ r. bytes_eq r.id id) (cond b (rows names) (rows names ++ default_row ∷ []))
        ≡ find (λ r. bytes_eq r.id id) (rows names)
    go true = refl
    go false = apart id (rows names) default_row differs

-- what a name has
pub same_value : (id : List ℕ) (names : Names) → bytes_eq (codes "clean") id ≡ false
    → first_of id (all_rows names) ≡ value_in names id
same_value id names differs = ap (option_and_then (λ (r : Row). slice_get r.values 0))
    (same_row id names differs) ∙ go (find (λ n. bytes_eq n.0 id) names)
  where
    go : (o : Option (List ℕ × List ℕ))
        → option_and_then (λ (r : Row). slice_get r.values 0) (option_map row o)
        ≡ option_map (λ n. n.1) o
    go None = refl
    go (Some n) = refl

pub no_value : (id : List ℕ) (names : Names) → has id names ≡ false → value_in names id ≡ None
no_value id [] none = refl
no_value id (n ∷ names) none = let p = split_or (bytes_eq n.0 id) (has id names) none in rw (p.0)
    (no_value id names p.1)

is_there : (id : List ℕ) (names : Names)
    → option_map_or (λ (r : Row). explicit_source r.source)
    (option_map row (find (λ n. bytes_eq n.0 id) names)) false ≡ has id names
is_there id [] = refl
is_there id (n ∷ names) = go (bytes_eq n.0 id) (is_there id names)
  where
    go : (b : Bool)
        → option_map_or (λ (r : Row). explicit_source r.source)
        (option_map row (find (λ n. bytes_eq n.0 id) names)) false ≡ has id names
        → option_map_or (λ (r : Row). explicit_source r.source)
        (option_map row (cond b (Some n) (find (λ n. bytes_eq n.0 id) names))) false
        ≡ (b || has id names)
    go true is = refl
    go false is = is

pub same_given : (id : List ℕ) (names : Names) → bytes_eq (codes "clean") id ≡ false
    → is_given id (all_rows names) ≡ has id names
same_given id names differs = ap
    (λ o. option_map_or (λ (r : Row). explicit_source r.source) o false) (same_row id names differs)
    ∙ is_there id names

-- another name changes nothing
pub other_name : (id name value : List ℕ) (names : Names) → bytes_eq name id ≡ false
    → has id (with name value names) ≡ has id names
other_name id name value names differs =
    list_any-append (λ n. bytes_eq n.0 id) names ((name, value) ∷ [])
    ∙ rw (differs) (or_false (has id names))

pub own_name : (id value : List ℕ) (names : Names) → bytes_eq id id ≡ true
    → has id (with id value names) ≡ true
own_name id value names same = list_any-append (λ n. bytes_eq n.0 id) names ((id, value) ∷ [])
    ∙ rw (same) (or_true (has id names))
  where
    or_true : (a : Bool) → (a || true) ≡ true
    or_true true = refl
    or_true false = refl

pub other_value : (id name value : List ℕ) (names : Names) → bytes_eq name id ≡ false
    → value_in (with name value names) id ≡ value_in names id
other_value id name value names differs = ap (option_map (λ n. n.1))
    (find-append (λ n. bytes_eq n.0 id) names ((name, value) ∷ [])
    ∙ rw (differs) (go (find (λ n. bytes_eq n.0 id) names)))
  where
    go : (o : Option (List ℕ × List ℕ)) → option_or o None ≡ o
    go None = refl
    go (Some n) = refl

pub own_value : (id value : List ℕ) (names : Names) → has id names ≡ false → bytes_eq id id ≡ true
    → value_in (with id value names) id ≡ Some value
own_value id value [] new same = rw (same) refl
own_value id value (n ∷ names) new same = let p = split_or (bytes_eq n.0 id) (has id names) new
    in rw (p.0) (own_value id value names p.1 same)

-- ---- the flag's value

-- where it stands it is `true`
abbrev pub FlagIsTrue : Names → Type 0
FlagIsTrue names =
    has (codes "clean") names ≡ true → value_in names (codes "clean") ≡ Some (codes "true")

pub flag_kept : (name value : List ℕ) (names : Names) → bytes_eq name (codes "clean") ≡ false
    → FlagIsTrue names → FlagIsTrue (with name value names)
flag_kept name value names differs is there =
    other_value (codes "clean") name value names differs
    ∙ is (sym (other_name (codes "clean") name value names differs) ∙ there)

pub flag_added : (names : Names) → has (codes "clean") names ≡ false
    → FlagIsTrue (with (codes "clean") (codes "true") names)
flag_added names new there = own_value (codes "clean") (codes "true") names new refl

-- what the rows at the end say of the flag
pub flag_read : (names : Names) → FlagIsTrue names
    → one_of (codes "clean") (all_rows names) ≡ Some (bool_text (has (codes "clean") names))
flag_read names flagged = go (has (codes "clean") names) refl
  where
    written : (o : Option (List ℕ × List ℕ)) → option_and_then row_text (option_map row o)
        ≡ option_map (λ n. n.1) o
    written None = refl
    written (Some n) = refl

    in_rows : option_and_then row_text (find (λ r. bytes_eq r.id (codes "clean")) (rows names))
        ≡ value_in names (codes "clean")
    in_rows =
        ap (option_and_then row_text)
        (sym (find-map (λ r. bytes_eq r.id (codes "clean")) row names))
        ∙ written (find (λ n. bytes_eq n.0 (codes "clean")) names)

    no_row : (others : Names) → has (codes "clean") others ≡ false
        → find (λ r. bytes_eq r.id (codes "clean")) (rows others ++ default_row ∷ [])
        ≡ Some default_row
    no_row [] new = refl
    no_row (n ∷ others) new = let p = split_or (bytes_eq n.0 (codes "clean"))
        (has (codes "clean") others) new in rw (p.0) (no_row others p.1)

    go : (b : Bool) → has (codes "clean") names ≡ b
        → option_and_then row_text
        (find (λ r. bytes_eq r.id (codes "clean"))
        (cond b (rows names) (rows names ++ default_row ∷ []))) ≡ Some (bool_text b)
    go true there = in_rows ∙ flagged there
    go false new = ap (option_and_then row_text) (no_row names new)
