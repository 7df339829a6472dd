-- How a walk along the segments goes on.
use Rattle.std.proofs.Common.{
  ◌≡◌,
  ℕ,
  ◌+◌,
  ◌<◌,
  Bool,
  true,
  false,
  ◌||◌,
  cond,
  List,
  [],
  ◌∷◌,
  ◌++◌,
  length,
  get_or,
  drop,
  Option,
  Some,
  None,
  option_and_then,
  Err,
  refl,
  sym,
  ap,
  ◌∙◌,
  arith,
}
use Rattle.std.specs.List.{slice_split, onto_first, flat_map}
use Rattle.std.proofs.lemmas.List.{drop_more, drop_all}
use Rattle.std.proofs.lemmas.List.Splits.{length-slice_split}
use Rattle.msb_paths.specs.Answer.{ComesTo}
use Rattle.msb_paths.specs.Segments.{is_slash, is_backslash, segments}
use Rattle.msb_paths.specs.Normal.{entered, walked}
use Rattle.msb_paths.specs.declared.errors.PathFault.{PathFault}
use Rattle.msb_paths.specs.declared.errors.PathFault.TheVariants.{AboveRoot, Empty, Memory}

abbrev pub Names : Type 0
Names = List (List ℕ)

-- first one list of segments, and then another
walked_after : (xs ys : Names)
    → ((names : Names) → walked (xs ++ ys) names ≡ option_and_then (walked ys) (walked xs names))
    → (place : Option Names) → option_and_then (walked (xs ++ ys)) place
    ≡ option_and_then (walked ys) (option_and_then (walked xs) place)
walked_after xs ys appends None = refl
walked_after xs ys appends (Some next) = appends next

pub walked-append : (xs ys names : Names) → walked (xs ++ ys) names
    ≡ option_and_then (walked ys) (walked xs names)
walked-append [] ys names = refl
walked-append (x ∷ xs) ys names = walked_after xs ys (walked-append xs ys) (entered names x)

-- a cut at both separators is a cut at `/`, and then of each part at `\`
abbrev pub cut : List ℕ → Names
cut part = slice_split is_backslash part

cut_on : (b : ℕ) (parts more all : Names) (cuts : Bool) → 0 < length parts → parts ++ more ≡ all
    → cond cuts ([] ∷ parts) (onto_first b parts) ++ more ≡ cond cuts ([] ∷ all) (onto_first b all)
cut_on b [] more all cuts some is = absurd (omega arith)
cut_on b (part ∷ parts) more all true some is = ap (λ ps. [] ∷ ps) is
cut_on b (part ∷ parts) more all false some is = ap (onto_first b) is

cut_by_both : (b : ℕ) (parts all : Names) (slash : Bool) → 0 < length parts
    → flat_map cut parts ≡ all
    → flat_map cut (cond slash ([] ∷ parts) (onto_first b parts))
    ≡ cond (slash || is_backslash b) ([] ∷ all) (onto_first b all)
cut_by_both b [] all slash some is = absurd (omega arith)
cut_by_both b (part ∷ parts) all true some is = ap (λ ps. [] ∷ ps) is
cut_by_both b (part ∷ parts) all false some is =
    cut_on b (cut part) (flat_map cut parts) all (is_backslash b)
    (omega (arith, length-slice_split is_backslash part)) is

pub flat_map-cut : (text : List ℕ) → flat_map cut (slice_split is_slash text) ≡ segments text
flat_map-cut [] = refl
flat_map-cut (b ∷ bs) =
    cut_by_both b (slice_split is_slash bs) (segments bs) (is_slash b)
    (omega (arith, length-slice_split is_slash bs)) (flat_map-cut bs)

-- One turn of a loop along a list: what is left of the list leads by G from the names so far, and
-- one entry by F.
walk_turn : (G : Names → Names → Option Names) (F : Names → List ℕ → Option Names)
    → ((x : List ℕ) (xs names : Names) → G (x ∷ xs) names ≡ option_and_then (G xs) (F names x))
    → (all : Names) (n : ℕ) (x : List ℕ) (names : Names) (whole : Option Names)
    → (n < length all) × (x ≡ get_or all n x) → G (drop n all) names ≡ whole
    → whole ≡ option_and_then (G (drop (n + 1) all)) (F names x)
walk_turn G F turns all n x names whole at inv =
    sym inv ∙ ap (λ xs. G xs names) (drop_more all n x at.0) ∙ turns _ _ names
    ∙ ap (λ y. option_and_then (G (drop (n + 1) all)) (F names y)) (sym at.1)

pub walk_goes_on : (G : Names → Names → Option Names) (F : Names → List ℕ → Option Names)
    → ((x : List ℕ) (xs names : Names) → G (x ∷ xs) names ≡ option_and_then (G xs) (F names x))
    → (all : Names) (n m : ℕ) (x : List ℕ) (names next : Names) (whole : Option Names)
    → (n < length all) × (x ≡ get_or all n x) → G (drop n all) names ≡ whole → F names x ≡ Some next
    → m ≡ n + 1 → G (drop m all) next ≡ whole
walk_goes_on G F turns all n m x names next whole at inv some is =
    ap (λ k. G (drop k all) next) is
    ∙ sym (walk_turn G F turns all n x names whole at inv
    ∙ ap (option_and_then (G (drop (n + 1) all))) some)

-- a fault of one turn is the fault of the whole
pub refused : {A B : Type 0} (view : A → Names) (other : B → Names) (e : PathFault)
    (step whole : Option Names)
    → (step ≡ None → whole ≡ None) → ComesTo view (Err e) step → ComesTo other (Err e) whole
refused view other AboveRoot step whole none is = none is
refused view other Empty step whole none is = is
refused view other Memory step whole none is = tt

pub walk_stops : {A B : Type 0} (view : A → Names) (other : B → Names) (e : PathFault)
    → (G : Names → Names → Option Names) (F : Names → List ℕ → Option Names)
    → ((x : List ℕ) (xs names : Names) → G (x ∷ xs) names ≡ option_and_then (G xs) (F names x))
    → (all : Names) (n : ℕ) (x : List ℕ) (names : Names) (whole : Option Names)
    → (n < length all) × (x ≡ get_or all n x) → G (drop n all) names ≡ whole
    → ComesTo view (Err e) (F names x) → ComesTo other (Err e) whole
walk_stops view other e G F turns all n x names whole at inv =
    refused view other e _ whole (λ none. walk_turn G F turns all n x names whole at inv
    ∙ ap (option_and_then (G (drop (n + 1) all))) none)

pub walk_ends : (G : Names → Names → Option Names) → ((names : Names) → G [] names ≡ Some names)
    → (all : Names) (n : ℕ) (names : Names) (whole : Option Names) → n ≡ length all
    → G (drop n all) names ≡ whole → whole ≡ Some names
walk_ends G ends all n names whole is inv = sym inv
    ∙ ap (λ xs. G xs names) (drop_all n all (omega arith)) ∙ ends names

-- the walk over parts that are cut in turn
pub walked-flat_map : (x : List ℕ) (xs names : Names)
    → walked (flat_map cut (x ∷ xs)) names ≡ option_and_then (λ n. walked (flat_map cut xs) n)
    (walked (cut x) names)
walked-flat_map x xs names = walked-append (cut x) (flat_map cut xs) names

-- two texts, one after the other, from the root
pub start_refused : (xs ys none : Names) → none ≡ [] → walked xs none ≡ None
    → walked (xs ++ ys) [] ≡ None
start_refused xs ys none is stops = walked-append xs ys []
    ∙ ap (option_and_then (walked ys)) (ap (walked xs) (sym is) ∙ stops)

pub start_goes_on : (xs ys none next : Names) → none ≡ [] → walked xs none ≡ Some next
    → walked ys next ≡ walked (xs ++ ys) []
start_goes_on xs ys none next is goes = sym (walked-append xs ys []
    ∙ ap (option_and_then (walked ys)) (ap (walked xs) (sym is) ∙ goes))
