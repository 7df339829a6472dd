-- One turn of a loop that goes on from what is so far, or ends at the first fault.
use Rattle.std.proofs.Common.{
  ◌≡◌,
  ℕ,
  ◌+◌,
  ◌<◌,
  List,
  ◌∷◌,
  length,
  get_or,
  drop,
  Result,
  Ok,
  Err,
  sym,
  ap,
  ◌∙◌,
}
use Rattle.std.proofs.lemmas.List.{drop_more}
use Rattle.msb_expand.specs.declared.faults.ExpandFault.{ExpandFault}
use Rattle.msb_expand.specs.declared.faults.ExpandFault.TheVariants.{
  ItemsHere,
  MetadataHere,
  UnknownFunction,
  BadArgument,
  Overflow,
  TooLong,
  MixedList,
  BadPath,
  Expr,
  Memory,
}
use Rattle.msb_laws.specs.Results.{and_then}
use Rattle.msb_expand.specs.Answers.{Gives}

-- a fault of a step is the fault of the whole
pub passed_on : {U W : Type 0} (e : ExpandFault) (step : Result U ExpandFault)
    (whole : Result W ExpandFault)
    → ((f : ExpandFault) → step ≡ Err f → whole ≡ Err f) → Gives (Err e) step → Gives (Err e) whole
passed_on ItemsHere step whole same is = same _ is
passed_on MetadataHere step whole same is = same _ is
passed_on (UnknownFunction name) step whole same is = same _ is
passed_on (BadArgument name) step whole same is = same _ is
passed_on (Overflow name) step whole same is = same _ is
passed_on TooLong step whole same is = same _ is
passed_on MixedList step whole same is = same _ is
passed_on (BadPath ident) step whole same is = same _ is
passed_on (Expr fault) step whole same is = same _ is
passed_on Memory step whole same is = tt

-- what is left of a list leads by G from what is so far, and one entry by F
turn : {X S R : Type 0} (G : List X → S → Result R ExpandFault) (F : S → X → Result S ExpandFault)
    → ((x : X) (xs : List X) (s : S) → G (x ∷ xs) s ≡ and_then (F s x) (G xs))
    → (all : List X) (n : ℕ) (x : X) (s : S) (whole : Result R ExpandFault)
    → (n < length all) × (x ≡ get_or all n x) → G (drop n all) s ≡ whole
    → whole ≡ and_then (F s x) (G (drop (n + 1) all))
turn G F turns all n x s whole at so_far =
    sym so_far ∙ ap (λ xs. G xs s) (drop_more all n x at.0) ∙ turns _ _ s
    ∙ ap (λ y. and_then (F s y) (G (drop (n + 1) all))) (sym at.1)

pub goes_on : {X S R : Type 0} (G : List X → S → Result R ExpandFault)
    (F : S → X → Result S ExpandFault)
    → ((x : X) (xs : List X) (s : S) → G (x ∷ xs) s ≡ and_then (F s x) (G xs))
    → (all : List X) (n : ℕ) (x : X) (s next : S) (whole : Result R ExpandFault)
    → (n < length all) × (x ≡ get_or all n x) → G (drop n all) s ≡ whole → F s x ≡ Ok next
    → G (drop (n + 1) all) next ≡ whole
goes_on G F turns all n x s next whole at so_far is =
    sym (turn G F turns all n x s whole at so_far ∙ ap (λ r. and_then r (G (drop (n + 1) all))) is)

pub stops : {X S R : Type 0} (e : ExpandFault) (G : List X → S → Result R ExpandFault)
    (F : S → X → Result S ExpandFault)
    → ((x : X) (xs : List X) (s : S) → G (x ∷ xs) s ≡ and_then (F s x) (G xs))
    → (all : List X) (n : ℕ) (x : X) (s : S) (whole : Result R ExpandFault)
    → (n < length all) × (x ≡ get_or all n x) → G (drop n all) s ≡ whole → Gives (Err e) (F s x)
    → Gives (Err e) whole
stops e G F turns all n x s whole at so_far =
    passed_on e (F s x) whole (λ f is. turn G F turns all n x s whole at so_far
    ∙ ap (λ r. and_then r (G (drop (n + 1) all))) is)
