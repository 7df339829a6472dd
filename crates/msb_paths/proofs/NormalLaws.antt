-- What is normal stays normal: segments of clean texts, the names of a walk, and their path.
use Rattle.std.proofs.Common.{
  ◌≡◌,
  ℕ,
  Bool,
  true,
  false,
  ◌||◌,
  ◌&&◌,
  not,
  cond,
  List,
  [],
  ◌∷◌,
  ◌++◌,
  length,
  take,
  Option,
  Some,
  None,
  option_and_then,
  Result,
  Ok,
  Err,
  refl,
  sym,
  ap,
  ◌∙◌,
  eqb,
  suc,
  zero,
  IfOk,
  ◌-◌,
}
use Rattle.std.proofs.lemmas.List.{append-nil}
use Rattle.std.proofs.lemmas.List.Splits.{slice_split-cons_no}
use Rattle.std.specs.List.{slice_split, onto_first, flat_map, list_all, join_with_byte}
use Rattle.std.proofs.lemmas.Bool.{and_parts, and_from}
use Rattle.std.proofs.lemmas.List.Folds.{list_all-append}
use Rattle.msb_paths.specs.Segments.{
  is_slash,
  is_backslash,
  is_separator,
  is_printable,
  is_plain,
  is_here,
  is_parent,
  is_normal_segment,
  segments,
}
use Rattle.msb_paths.specs.Normal.{
  is_normal,
  is_clean,
  is_rooted,
  start_of,
  parent_of,
  entered,
  walked,
  path_of,
  normalized,
}
use Rattle.msb_paths.specs.Answer.{Gives}
use Rattle.msb_paths.specs.declared.errors.PathFault.{PathFault}
use Rattle.msb_paths.proofs.Walks.{Names}

-- the names joined by `/`, as the loop that joins them goes along
pub join-first : (x : List ℕ) (xs : Names) → join_with_byte 47 (x ∷ xs)
    ≡ x ++ flat_map (λ y. 47 ∷ y) xs
join-first x [] = sym (append-nil x)
join-first x (y ∷ xs) = ap (λ z. x ++ 47 ∷ z) (join-first y xs)

-- segments of a clean text
onto_plain : (b : ℕ) (parts : Names) → is_plain b ≡ true → list_all (list_all is_plain) parts ≡ true
    → list_all (list_all is_plain) (onto_first b parts) ≡ true
onto_plain b [] plain all = and_from _ _ (and_from _ _ plain refl) refl
onto_plain b (part ∷ parts) plain all =
    let both = and_parts (list_all is_plain part) (list_all (list_all is_plain) parts) all in
    and_from _ _ (and_from _ _ plain both.0) both.1

plain_on : (b : ℕ) (parts : Names) (cuts : Bool) → is_separator b ≡ cuts → is_printable b ≡ true
    → list_all (list_all is_plain) parts ≡ true
    → list_all (list_all is_plain) (cond cuts ([] ∷ parts) (onto_first b parts)) ≡ true
plain_on b parts true is printable all = all
plain_on b parts false is printable all = onto_plain b parts (and_from _ _ printable (ap not is))
    all

pub segments_plain : (text : List ℕ) → is_clean text ≡ true
    → list_all (list_all is_plain) (segments text) ≡ true
segments_plain [] clean = refl
segments_plain (b ∷ bs) clean =
    let both = and_parts (is_printable b) (is_clean bs) clean in
    plain_on b (segments bs) (is_separator b) refl both.0 (segments_plain bs both.1)

-- names of a walk
take_all_pass : {X : Type 0} (p : X → Bool) (n : ℕ) (xs : List X) → list_all p xs ≡ true
    → list_all p (take n xs) ≡ true
take_all_pass p zero xs all = refl
take_all_pass p (suc n) [] all = refl
take_all_pass p (suc n) (x ∷ xs) all =
    let both = and_parts (p x) (list_all p xs) all in and_from _ _ both.0
    (take_all_pass p n xs both.1)

parent_normal : (names next : Names) (root : Bool) → list_all is_normal_segment names ≡ true
    → cond root None (Some (take (length names - 1) names)) ≡ Some next
    → list_all is_normal_segment next ≡ true
parent_normal names next true all is = absurd (cc)
parent_normal names next false all is =
    let shorter : take (length names - 1) names ≡ next = cc in
    ap (list_all is_normal_segment) (sym shorter)
    ∙ take_all_pass is_normal_segment (length names - 1) names all

entered_on : (names : Names) (segment : List ℕ) (next : Names) (here parent : Bool)
    → is_here segment ≡ here → is_parent segment ≡ parent
    → list_all is_plain segment ≡ true → list_all is_normal_segment names ≡ true
    → cond here (Some names) (cond parent (parent_of names) (Some (names ++ segment ∷ [])))
    ≡ Some next → list_all is_normal_segment next ≡ true
entered_on names segment next true parent h p plain all is = let same : names
    ≡ next = cc in ap (list_all is_normal_segment) (sym same) ∙ all
entered_on names segment next false true h p plain all is = parent_normal names next
    (eqb (length names) 0) all is
entered_on names segment next false false h p plain all is =
    let longer : names ++ segment ∷ [] ≡ next = cc in
    let one : is_normal_segment segment ≡ true = and_from _ _ (and_from _ _ (ap not h) (ap not p))
    plain in
    ap (list_all is_normal_segment) (sym longer)
    ∙ list_all-append is_normal_segment names (segment ∷ [])
    ∙ and_from _ _ all (and_from _ _ one refl)

walked_on : (rest : Names) (next : Names) (place : Option Names)
    → ((names : Names) → list_all is_normal_segment names ≡ true → walked rest names ≡ Some next
    → list_all is_normal_segment next ≡ true)
    → ((names : Names) → place ≡ Some names → list_all is_normal_segment names ≡ true)
    → option_and_then (walked rest) place ≡ Some next → list_all is_normal_segment next ≡ true
walked_on rest next None later now is = absurd (cc)
walked_on rest next (Some names) later now is = later names (now names refl) is

pub walked_normal : (segs names next : Names) → list_all (list_all is_plain) segs ≡ true
    → list_all is_normal_segment names ≡ true
    → walked segs names ≡ Some next → list_all is_normal_segment next ≡ true
walked_normal [] names next plain all is = let same : names
    ≡ next = cc in ap (list_all is_normal_segment) (sym same) ∙ all
walked_normal (s ∷ segs) names next plain all is =
    let both = and_parts (list_all is_plain s) (list_all (list_all is_plain) segs) plain in
    walked_on segs next (entered names s)
    (λ ns allowed step. walked_normal segs ns next both.1 allowed step)
    (λ ns step. entered_on names s ns (is_here s) (is_parent s) refl refl both.0 all step) is

-- a path of normal names has these segments
plain_no_slash : (b : ℕ) → is_plain b ≡ true → is_slash b ≡ false
plain_no_slash b plain = no (is_slash b) (is_backslash b)
    (and_parts (is_printable b) (not (is_separator b)) plain).1
  where
    no : (x y : Bool) → not (x || y) ≡ true → x ≡ false
    no true y e = sym e
    no false y e = refl

split_plain : (bs : List ℕ) → list_all is_plain bs ≡ true → slice_split is_slash bs ≡ bs ∷ []
split_plain [] plain = refl
split_plain (b ∷ bs) plain =
    let both = and_parts (is_plain b) (list_all is_plain bs) plain in
    slice_split-cons_no is_slash b bs (plain_no_slash b both.0)
    ∙ ap (onto_first b) (split_plain bs both.1)

split_at_slash : (bs more : List ℕ) → list_all is_plain bs ≡ true
    → slice_split is_slash (bs ++ 47 ∷ more) ≡ bs ∷ slice_split is_slash more
split_at_slash [] more plain = refl
split_at_slash (b ∷ bs) more plain =
    let both = and_parts (is_plain b) (list_all is_plain bs) plain in
    slice_split-cons_no is_slash b (bs ++ 47 ∷ more) (plain_no_slash b both.0)
    ∙ ap (onto_first b) (split_at_slash bs more both.1)

plain_name : (name : List ℕ) → is_normal_segment name ≡ true → list_all is_plain name ≡ true
plain_name name normal =
    (and_parts (not (is_here name) && not (is_parent name)) (list_all is_plain name) normal).1

pub split-join : (name : List ℕ) (names : Names) → list_all is_normal_segment (name ∷ names) ≡ true
    → slice_split is_slash (join_with_byte 47 (name ∷ names)) ≡ name ∷ names
split-join name [] all = split_plain name
    (plain_name name (and_parts (is_normal_segment name) true all).0)
split-join name (next ∷ names) all =
    let both = and_parts (is_normal_segment name) (list_all is_normal_segment (next ∷ names)) all in
    split_at_slash name (join_with_byte 47 (next ∷ names)) (plain_name name both.0)
    ∙ ap (λ ns. name ∷ ns) (split-join next names both.1)

path_normal : (place : Option Names) (path : List ℕ)
    → ((names : Names) → place ≡ Some names → list_all is_normal_segment names ≡ true)
    → path_of place ≡ Ok path → is_normal path ≡ true
path_normal None path all is = absurd (cc)
path_normal (Some []) path all is = absurd (cc)
path_normal (Some (name ∷ names)) path all is =
    let same : join_with_byte 47 (name ∷ names) ≡ path = cc in
    ap is_normal (sym same) ∙ ap (list_all is_normal_segment) (split-join name names (all _ refl))
    ∙ all _ refl

clean_start : (base text : List ℕ) (rooted : Bool) → is_clean base ≡ true
    → is_clean (cond rooted [] base) ≡ true
clean_start base text true clean = refl
clean_start base text false clean = clean

-- a clean text on a clean base gives a normal path
pub normalized_normal : (base text path : List ℕ) → normalized base text ≡ Ok path
    → is_clean base ≡ true → is_clean text ≡ true → is_normal path ≡ true
normalized_normal base text path is base_clean text_clean =
    let start = start_of base text in
    let plain : list_all (list_all is_plain) (segments start ++ segments text) ≡ true =
    list_all-append (list_all is_plain) (segments start) (segments text)
    ∙ and_from _ _ (segments_plain start (clean_start base text (is_rooted text) base_clean))
    (segments_plain text text_clean) in
    path_normal (walked (segments start ++ segments text) []) path
    (λ names walk. walked_normal (segments start ++ segments text) [] names plain refl walk) is

pub normal_where_ok : (answer : Result (List ℕ) PathFault) (base text : List ℕ)
    → Gives answer (normalized base text)
    → IfOk answer (λ path. is_clean base ≡ true → is_clean text ≡ true → is_normal path ≡ true)
normal_where_ok (Ok path) base text is = λ base_clean text_clean.
    normalized_normal base text path is base_clean text_clean
normal_where_ok (Err e) base text is = tt
