-- The parts of a text between its separators.
use Rattle.std.proofs.Common.{
  ◌≡◌,
  ◌≢◌,
  ℕ,
  ◌+◌,
  ◌<◌,
  Bool,
  true,
  false,
  ◌||◌,
  cond,
  if◌then◌else◌,
  eqb,
  List,
  [],
  ◌∷◌,
  ◌++◌,
  length,
  get_or,
  map,
  Option,
  Some,
  None,
  MatchOption,
  IfSome,
  Bor,
  refl,
  sym,
  ap,
  ◌∙◌,
  arith,
  append_assoc,
}
use Rattle.std.specs.List.{
  All,
  slice_split,
  position_or_len,
  after_first,
  list_any,
  flat_map,
  onto_first,
}
use Rattle.std.proofs.lemmas.Bool.{eqb-true}
use Rattle.std.proofs.lemmas.List.{get_or_default, length-drop, length-map}
use Rattle.std.proofs.lemmas.List.Folds.{list_any-append}
use Rattle.std.proofs.lemmas.List.Splits.{slice_split_first, slice_split_none, length-slice_split}
use Rattle.std.proofs.lemmas.Str.Pattern.{IsSplitOnceResult, split_once_first, split_parts}
use Rattle.msb_paths.specs.Segments.{is_backslash}
use Rattle.msb_glob.specs.Parsed.{parted_by, with_slashes}

other_byte : (b c : ℕ) (x : Bool) → eqb b c ≡ x → b ≢ c → x ≡ false
other_byte b c true is differs = absurd (differs (eqb-true b c is))
other_byte b c false is differs = refl

none_passes : (c : ℕ) (text : List ℕ) → ((i : ℕ) → i < length text → get_or text i 0 ≢ c)
    → All (λ b. eqb b c ≡ false) text
none_passes c text none = λ k d below. ap (λ b. eqb b c) (get_or_default text k d 0 below)
    ∙ other_byte (get_or text k 0) c _ refl (none k below)

pub parts_of_split : (c : ℕ) (text : List ℕ) (r : Option (Bor (List ℕ) × Bor (List ℕ))) → c < 128
    → IsSplitOnceResult c text r
    → MatchOption r (slice_split (λ b. eqb b c) text ≡ text ∷ [])
    (λ p. slice_split (λ b. eqb b c) text ≡ p.0.now ∷ slice_split (λ b. eqb b c) p.1.now)
parts_of_split c text None ascii cases = slice_split_none (λ b. eqb b c) text
    (none_passes c text (split_parts c text None cases ascii))
parts_of_split c text (Some p) ascii cases =
    let cut = split_once_first c text (Some p) cases ascii in
    slice_split_first (λ b. eqb b c) text 0 cut.0
    ∙ ap (λ x. x ∷ slice_split (λ b. eqb b c) (after_first (λ b. eqb b c) text)) (sym cut.1)
    ∙ ap (λ xs. p.0.now ∷ slice_split (λ b. eqb b c) xs) (sym cut.2)

pub shorter_behind_split : (c : ℕ) (text : List ℕ) (r : Option (Bor (List ℕ) × Bor (List ℕ)))
    → c < 128 → IsSplitOnceResult c text r
    → IfSome r (λ p. length p.1.now < length text)
shorter_behind_split c text None ascii cases = tt
shorter_behind_split c text (Some p) ascii cases =
    let cut = split_once_first c text (Some p) cases ascii in
    omega
    (arith, ap length cut.2, length-drop (position_or_len (λ b. eqb b c) text + 1) text, cut.0)

-- What is read around separators, up to the first one.
parted_on : {A : Type 0} (x : A) (list : List A) (lists : List (List A)) → 0 < length lists
    → parted_by x (list ∷ lists) ≡ list ++ x ∷ parted_by x lists
parted_on x list [] some = absurd (omega arith)
parted_on x list (next ∷ lists) some = refl

length_parts : {A : Type 0} (plain : List ℕ → List A) (p : ℕ → Bool) (text : List ℕ)
    → 0 < length (map plain (slice_split p text))
length_parts plain p text = omega
    (arith, length-map (slice_split p text) plain, length-slice_split p text)

pub read_past_separator : {A : Type 0} (x : A) (plain : List ℕ → List A) (p : ℕ → Bool)
    (text before behind : List ℕ) → slice_split p text ≡ before ∷ slice_split p behind
    → parted_by x (map plain (slice_split p text))
    ≡ plain before ++ x ∷ parted_by x (map plain (slice_split p behind))
read_past_separator x plain p text before behind is =
    ap (λ parts. parted_by x (map plain parts)) is
    ∙ parted_on x (plain before) (map plain (slice_split p behind))
    (length_parts plain p behind)

-- one turn of a loop that reads around separators
pub read_on : {A : Type 0} (x : A) (plain : List ℕ → List A) (p : ℕ → Bool)
    (whole read next longer : List A) (text before behind : List ℕ)
    → slice_split p text ≡ before ∷ slice_split p behind
    → read ++ parted_by x (map plain (slice_split p text)) ≡ whole → next ≡ read ++ plain before
    → longer ≡ next ++ x ∷ []
    → longer ++ parted_by x (map plain (slice_split p behind)) ≡ whole
read_on x plain p whole read next longer text before behind is inv one two =
    let tail = parted_by x (map plain (slice_split p behind)) in
    ap (λ r. r ++ tail) two ∙ append_assoc next (x ∷ []) tail ∙ ap (λ r. r ++ x ∷ tail) one
    ∙ append_assoc read (plain before) (x ∷ tail)
    ∙ ap (λ r. read ++ r) (sym (read_past_separator x plain p text before behind is)) ∙ inv

pub read_last : {A : Type 0} (x : A) (plain : List ℕ → List A) (p : ℕ → Bool)
    (whole read next : List A) (text : List ℕ) → slice_split p text ≡ text ∷ []
    → read ++ parted_by x (map plain (slice_split p text)) ≡ whole → next ≡ read ++ plain text
    → next ≡ whole
read_last x plain p whole read next text is inv one = one
    ∙ ap (λ parts. read ++ parted_by x (map plain parts)) (sym is) ∙ inv

pub list_any-flat_map : {A B : Type 0} (test : B → Bool) (f : A → List B) (xs : List A)
    → list_any (λ x. list_any test (f x)) xs ≡ list_any test (flat_map f xs)
list_any-flat_map test f [] = refl
list_any-flat_map test f (x ∷ xs) = ap (λ b. list_any test (f x) || b) (list_any-flat_map test f xs)
    ∙ sym (list_any-append test (f x) (flat_map f xs))

-- a text with `/` for each `\` is its parts with `/` between them
with_slashes_on : (b : ℕ) (parts : List (List ℕ)) (cuts : Bool) → 0 < length parts
    → parted_by 47 (map (λ part. part) (cond cuts ([] ∷ parts) (onto_first b parts)))
    ≡ cond cuts 47 b ∷ parted_by 47 (map (λ part. part) parts)
with_slashes_on b [] cuts some = absurd (omega arith)
with_slashes_on b (part ∷ parts) true some = refl
with_slashes_on b (part ∷ []) false some = refl
with_slashes_on b (part ∷ next ∷ parts) false some = refl

pub with_slashes_is : (text : List ℕ)
    → parted_by 47 (map (λ part. part) (slice_split is_backslash text)) ≡ with_slashes text
with_slashes_is [] = refl
with_slashes_is (b ∷ bs) =
    with_slashes_on b (slice_split is_backslash bs) (is_backslash b)
    (omega (arith, length-slice_split is_backslash bs))
    ∙ ap (λ xs. (if is_backslash b then 47 else b) ∷ xs) (with_slashes_is bs)
