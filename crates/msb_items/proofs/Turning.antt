-- Loops over lists of which each entry is seen as something else, or gives a part of the whole.
use Rattle.std.proofs.Common.{
  ◌≡◌,
  ℕ,
  Bool,
  true,
  false,
  cond,
  List,
  [],
  ◌∷◌,
  ◌++◌,
  map,
  filter,
  Result,
  Ok,
  Err,
  refl,
  sym,
  ap,
  ◌∙◌,
  append_assoc,
  append-nil,
}
use Rattle.std.specs.List.{flat_map}
use Rattle.msb_laws.specs.Results.{and_then, map_ok, all_ok, fold_ok}
use Rattle.msb_elements.specs.Nodes.{Node}
use Rattle.msb_elements.specs.View.{view}
use Rattle.msb_elements.specs.declared.element.Element.{Element}
use Rattle.build_world.specs.Elements.{At, at}

same_after : {X Y E : Type 0} (r : Result X E) (f g : X → Result Y E) → ((x : X) → f x ≡ g x)
    → and_then r f ≡ and_then r g
same_after (Ok x) f g same = same x
same_after (Err e) f g same = refl

pub fold-map : {S X Y E : Type 0} (step : S → Y → Result S E) (seen : X → Y) (s : S) (xs : List X)
    → fold_ok step s (map seen xs) ≡ fold_ok (λ s x. step s (seen x)) s xs
fold-map step seen s [] = refl
fold-map step seen s (x ∷ xs) = same_after (step s (seen x)) _ _
    (λ next. fold-map step seen next xs)

-- over the children of an element
pub over_children : {S E : Type 0} (step : S → At → Result S E) (file : List ℕ) (s : S)
    (children : List Element) (nodes : List Node) → map view children ≡ nodes
    → fold_ok step s (map (at file) nodes) ≡ fold_ok (λ s child. step s (at file (view child))) s
    children
over_children step file s children nodes is =
    ap (λ ns. fold_ok step s (map (at file) ns)) (sym is)
    ∙ fold-map step (at file) s (map view children)
    ∙ fold-map (λ s node. step s (at file node)) view s children

-- each answer adds to what there is so far
regroup : {Y Z E : Type 0} (seen : Y → List Z) (s : List Z) (y : Y) (rest : Result (List Y) E)
    → map_ok (λ ys. s ++ flat_map seen ys) (map_ok (λ ys. y ∷ ys) rest)
    ≡ map_ok (λ ys. (s ++ seen y) ++ flat_map seen ys) rest
regroup seen s y (Ok ys) = ap Ok (sym (append_assoc s (seen y) (flat_map seen ys)))
regroup seen s y (Err e) = refl

turn : {Y Z E : Type 0} (seen : Y → List Z) (s : List Z) (r : Result Y E) (rest : Result (List Y) E)
    (next : List Z → Result (List Z) E)
    → ((s : List Z) → map_ok (λ ys. s ++ flat_map seen ys) rest ≡ next s)
    → map_ok (λ ys. s ++ flat_map seen ys) (and_then r (λ y. map_ok (λ ys. y ∷ ys) rest))
    ≡ and_then (map_ok (λ y. s ++ seen y) r) next
turn seen s (Ok y) rest next later = regroup seen s y rest ∙ later (s ++ seen y)
turn seen s (Err e) rest next later = refl

pub fold-joined : {X Y Z E : Type 0} (f : X → Result Y E) (seen : Y → List Z) (s : List Z)
    (xs : List X)
    → map_ok (λ ys. s ++ flat_map seen ys) (all_ok f xs)
    ≡ fold_ok (λ s x. map_ok (λ y. s ++ seen y) (f x)) s xs
fold-joined f seen s [] = ap Ok (append-nil s)
fold-joined f seen s (x ∷ xs) = turn seen s (f x) (all_ok f xs) _
    (λ next. fold-joined f seen next xs)

joined : {Z E : Type 0} (s : List Z) (r : Result (List (List Z)) E)
    → map_ok (λ more. s ++ more) (map_ok (flat_map (λ list. list)) r)
    ≡ map_ok (λ lists. s ++ flat_map (λ list. list) lists) r
joined s (Ok lists) = refl
joined s (Err e) = refl

pub fold-lists : {X Z E : Type 0} (f : X → Result (List Z) E) (s : List Z) (xs : List X)
    → map_ok (λ more. s ++ more) (map_ok (flat_map (λ list. list)) (all_ok f xs))
    ≡ fold_ok (λ s x. map_ok (λ more. s ++ more) (f x)) s xs
fold-lists f s xs = joined s (all_ok f xs) ∙ fold-joined f (λ list. list) s xs

one_each : {Y Z : Type 0} (g : Y → Z) (ys : List Y) → map g ys ≡ flat_map (λ y. g y ∷ []) ys
one_each g [] = refl
one_each g (y ∷ ys) = ap (λ zs. g y ∷ zs) (one_each g ys)

mapped : {Y Z E : Type 0} (g : Y → Z) (s : List Z) (r : Result (List Y) E)
    → map_ok (λ ys. s ++ map g ys) r ≡ map_ok (λ ys. s ++ flat_map (λ y. g y ∷ []) ys) r
mapped g s (Ok ys) = ap (λ zs. Ok (s ++ zs)) (one_each g ys)
mapped g s (Err e) = refl

pub fold-each : {X Y Z E : Type 0} (f : X → Result Y E) (g : Y → Z) (s : List Z) (xs : List X)
    → map_ok (λ ys. s ++ map g ys) (all_ok f xs)
    ≡ fold_ok (λ s x. map_ok (λ y. s ++ g y ∷ []) (f x)) s xs
fold-each f g s xs = mapped g s (all_ok f xs) ∙ fold-joined f (λ y. g y ∷ []) s xs

-- from nothing on
pub from_nothing : {Y E : Type 0} (r : Result (List Y) E) → map_ok (λ ys. [] ++ ys) r ≡ r
from_nothing (Ok ys) = refl
from_nothing (Err e) = refl

pub fold-same : {X Y E : Type 0} (f : X → Result Y E) (s : List Y) (xs : List X)
    → map_ok (λ more. s ++ more) (all_ok f xs)
    ≡ fold_ok (λ s x. map_ok (λ y. s ++ y ∷ []) (f x)) s xs
fold-same f s xs = whole s (all_ok f xs) ∙ fold-each f (λ y. y) s xs
  where
    same_list : {Y : Type 0} (ys : List Y) → ys ≡ map (λ y. y) ys
    same_list [] = refl
    same_list (y ∷ ys) = ap (λ zs. y ∷ zs) (same_list ys)

    whole : {Y E : Type 0} (s : List Y) (r : Result (List Y) E)
        → map_ok (λ more. s ++ more) r ≡ map_ok (λ more. s ++ map (λ y. y) more) r
    whole s (Ok ys) = ap (λ zs. Ok (s ++ zs)) (same_list ys)
    whole s (Err e) = refl

-- a loop that takes a list apart: so far it has `front`, and `all` is the answer of the whole list
pub record IsTaken {X Y E : Type 0} (f : X → Result Y E) (rest : List X) (front : List Y)
    (all : Result (List Y) E) : Type 0 where
  pub is : all ≡ map_ok (λ more. front ++ more) (all_ok f rest)

pub taken_stop : {X Y E : Type 0} (f : X → Result Y E) (rest more : List X) (x : X) (front : List Y)
    (all : Result (List Y) E) (e : E) → IsTaken f rest front all → rest ≡ x ∷ more
    → map_ok (λ y. front ++ y ∷ []) (f x) ≡ Err e → all ≡ Err e
taken_stop f rest more x front all e left is fails = left.is ∙ fold-same f front rest
    ∙ rw (is, fails) refl

pub taken_step : {X Y E : Type 0} (f : X → Result Y E) (rest more : List X) (x : X)
    (front next : List Y) (all : Result (List Y) E) → IsTaken f rest front all → rest ≡ x ∷ more
    → map_ok (λ y. front ++ y ∷ []) (f x) ≡ Ok next → IsTaken f more next all
taken_step f rest more x front next all left is gives = record
    { is = left.is ∙ fold-same f front rest ∙ rw (is, gives) (sym (fold-same f next more)) }

-- over the entries that pass a test
joined_one : {Y E : Type 0} (s : List Y) (r rest : Result (List Y) E)
    (next : List Y → Result (List Y) E) → ((s : List Y) → map_ok (λ ys. s ++ ys) rest ≡ next s)
    → map_ok (λ ys. s ++ ys) (and_then r (λ front. map_ok (λ ys. front ++ ys) rest))
    ≡ and_then (map_ok (λ ys. s ++ ys) r) next
joined_one s (Ok front) (Ok ys) next later = ap Ok (sym (append_assoc s front ys))
    ∙ later (s ++ front)
joined_one s (Ok front) (Err e) next later = later (s ++ front)
joined_one s (Err e) rest next later = refl

first_apart : {X Y E : Type 0} (f : X → Result Y E) (test : X → Bool) (x : X) (xs : List X)
    (b : Bool)
    → all_ok f (cond b (x ∷ filter test xs) (filter test xs))
    ≡ and_then (all_ok f (cond b (x ∷ []) []))
    (λ front. map_ok (λ ys. front ++ ys) (all_ok f (filter test xs)))
first_apart f test x xs true = go (f x) (all_ok f (filter test xs))
  where
    go : {Y E : Type 0} (r : Result Y E) (rest : Result (List Y) E)
        → and_then r (λ y. map_ok (λ ys. y ∷ ys) rest)
        ≡ and_then (and_then r (λ y. Ok (y ∷ []))) (λ front. map_ok (λ ys. front ++ ys) rest)
    go (Ok y) rest = refl
    go (Err e) rest = refl
first_apart f test x xs false = sym (from_nothing (all_ok f (filter test xs)))

pub fold-filtered : {X Y E : Type 0} (f : X → Result Y E) (test : X → Bool) (s : List Y)
    (xs : List X)
    → map_ok (λ more. s ++ more) (all_ok f (filter test xs))
    ≡ fold_ok (λ s x. map_ok (λ more. s ++ more) (all_ok f (filter test (x ∷ [])))) s xs
fold-filtered f test s [] = ap Ok (append-nil s)
fold-filtered f test s (x ∷ xs) =
    ap (map_ok (λ more. s ++ more)) (first_apart f test x xs (test x))
    ∙ joined_one s (all_ok f (filter test (x ∷ []))) (all_ok f (filter test xs)) _
    (λ next. fold-filtered f test next xs)
