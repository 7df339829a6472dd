-- A function that may fail, over a list.
use Rattle.std.proofs.Common.{
  ◌≡◌,
  List,
  [],
  ◌∷◌,
  map,
  Result,
  Ok,
  Err,
  ◌++◌,
  refl,
  sym,
  ap,
  ◌∙◌,
  append_assoc,
  subst,
}
use Rattle.std.specs.Result.{IsErrAnd}
use Rattle.msb_batching.specs.declared.faults.BatchFault.{BatchFault}
use Rattle.msb_batching.specs.declared.faults.BatchFault.TheVariants.{
  NoList,
  NoValue,
  Expand,
  Memory,
}
use Rattle.msb_batching.specs.Answers.{Gives, GivesAs}
use Rattle.msb_laws.specs.Results.{and_then, map_ok, all_ok}

pub all_ok-map : {X Y Z E : Type 0} (f : Y → Result Z E) (g : X → Y) (xs : List X)
    → all_ok f (map g xs) ≡ all_ok (λ x. f (g x)) xs
all_ok-map f g [] = refl
all_ok-map f g (x ∷ xs) = ap (λ r. and_then (f (g x)) (λ y. map_ok (λ ys. y ∷ ys) r))
    (all_ok-map f g xs)

pub map_ok-same : {Y E : Type 0} (r : Result Y E) → map_ok (λ y. y) r ≡ r
map_ok-same (Ok y) = refl
map_ok-same (Err fault) = refl

-- one more is read
moved : {Y E : Type 0} (made : List Y) (y : Y) (r : Result (List Y) E)
    → map_ok (λ ys. made ++ ys) (map_ok (λ ys. y ∷ ys) r) ≡ map_ok (λ ys. (made ++ y ∷ []) ++ ys) r
moved made y (Ok ys) = ap Ok (sym (append_assoc made (y ∷ []) ys))
moved made y (Err fault) = refl

pub read_more : {X Y E : Type 0} (f : X → Result Y E) (whole : Result (List Y) E) (made : List Y)
    (x : X) (xs : List X) (y : Y)
    → whole ≡ map_ok (λ ys. made ++ ys) (all_ok f (x ∷ xs)) → f x ≡ Ok y
    → whole ≡ map_ok (λ ys. (made ++ y ∷ []) ++ ys) (all_ok f xs)
read_more f whole made x xs y so_far e =
    so_far
    ∙ ap
    (λ r. map_ok (λ ys. made ++ ys) (and_then r (λ z. map_ok (λ ys. z ∷ ys) (all_ok f xs)))) e
    ∙ moved made y (all_ok f xs)

-- or none
stopped : {X Y E : Type 0} (f : X → Result Y E) (whole : Result (List Y) E) (made : List Y) (x : X)
    (xs : List X) (fault : E)
    → whole ≡ map_ok (λ ys. made ++ ys) (all_ok f (x ∷ xs)) → f x ≡ Err fault → whole ≡ Err fault
stopped f whole made x xs fault so_far e = so_far
    ∙ ap (λ r. map_ok (λ ys. made ++ ys) (and_then r (λ z. map_ok (λ ys. z ∷ ys) (all_ok f xs)))) e

pub read_fails : {X Y : Type 0} (f : X → Result Y BatchFault) (whole : Result (List Y) BatchFault)
    (made : List Y) (x : X) (xs : List X) (fault : BatchFault)
    → whole ≡ map_ok (λ ys. made ++ ys) (all_ok f (x ∷ xs)) → Gives (Err fault) (f x)
    → Gives (Err fault) whole
read_fails f whole made x xs (NoList name) so_far e = stopped f whole made x xs _ so_far e
read_fails f whole made x xs (NoValue kind ident name) so_far e = stopped f whole made x xs _ so_far
    e
read_fails f whole made x xs (Expand fault) so_far e = stopped f whole made x xs _ so_far e
read_fails f whole made x xs Memory so_far e = tt

-- a fault is handed on
pub handed_on : {V U : Type 0} (view : V → U) (answer : Result U BatchFault)
    (result : Result V BatchFault) (fault : BatchFault)
    → IsErrAnd result (λ e. e ≡ fault) → Gives {T = U} (Err fault) answer
    → GivesAs view result answer
handed_on view answer (Ok v) fault told given = absurd told
handed_on view answer (Err e) fault told given = subst (λ f. Gives (Err f) answer) (sym told) given
