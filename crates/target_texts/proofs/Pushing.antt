-- Loops that push the changes of one entry after another, up to the first fault.
use Rattle.std.proofs.Common.{
  ◌≡◌,
  ℕ,
  ◌+◌,
  ◌<◌,
  ◌≤◌,
  List,
  [],
  ◌∷◌,
  ◌++◌,
  length,
  drop,
  get_or,
  map,
  Some,
  None,
  refl,
  sym,
  ap,
  ◌∙◌,
  subst,
  append_assoc,
  append-nil,
  add-one,
  drop-cons,
  arith,
}
use Rattle.std.proofs.lemmas.Grind.{common_steps}
use Rattle.msb_values.proofs.Causing.{unless}
use Rattle.msb_values.specs.Caused.{UnlessMemory}
use Rattle.msb_values.specs.declared.change.Change.{Change}
use Rattle.msb_elements.specs.Nodes.{Node}
use Rattle.msb_elements.specs.View.{view}
use Rattle.msb_elements.specs.declared.element.Element.{Element}
use Rattle.build_world.specs.Elements.{At, at}
use Rattle.build_world.specs.declared.fault.EvalFault.{EvalFault}
use Rattle.target_texts.specs.Made.{Made, made_before, up_to_fault}

-- so far the changes of the front are pushed, and `whole` is made by all entries
pub record IsPushed {X : Type 0} (of : X → Made) (rest : List X) (before now : List Change)
    (whole : Made) : Type 0 where
  pub front : List Change
  pub so_far : now ≡ before ++ front
  pub is : whole ≡ made_before front None (up_to_fault of rest)

pub pushed_none : {X : Type 0} (of : X → Made) (xs : List X) (before : List Change)
    → IsPushed of xs before before (up_to_fault of xs)
pushed_none of xs before = record { front = []; so_far = sym (append-nil before); is = refl }

regrouped : (front more : List Change) (rest : Made)
    → made_before front None (made_before more None rest) ≡ made_before (front ++ more) None rest
regrouped front more rest = λ i.
    record { changes = sym (append_assoc front more rest.changes) i; fault = rest.fault }

next : {X : Type 0} (of : X → Made) (x : X) (xs : List X) (before now after : List Change)
    (whole : Made) → IsPushed of (x ∷ xs) before now whole
    → after ≡ now ++ (of x).changes → (of x).fault ≡ None → IsPushed of xs before after whole
next of x xs before now after whole h pushed none = record {
  front = h.front ++ (of x).changes;
  so_far = pushed ∙ ap (λ l. l ++ (of x).changes) h.so_far
      ∙ append_assoc before h.front (of x).changes;
  is = h.is
      ∙ ap
      (λ fault. made_before h.front None (made_before (of x).changes fault (up_to_fault of xs)))
      none ∙ regrouped h.front (of x).changes (up_to_fault of xs);
}

stop : {X : Type 0} (of : X → Made) (x : X) (xs : List X) (before now after : List Change)
    (whole : Made) (fault : EvalFault) → IsPushed of (x ∷ xs) before now whole
    → after ≡ now ++ (of x).changes → (of x).fault ≡ Some fault
    → (after ≡ before ++ whole.changes) × (whole.fault ≡ Some fault)
stop of x xs before now after whole fault h pushed some =
    let all = h.is
    ∙ ap (λ f. made_before h.front None (made_before (of x).changes f (up_to_fault of xs))) some
    in (
      pushed ∙ ap (λ l. l ++ (of x).changes) h.so_far ∙ append_assoc before h.front (of x).changes
          ∙ ap (λ (m : Made). before ++ m.changes) (sym all),
      ap (λ (m : Made). m.fault) all,
    )

-- by the place in a list
past : {X : Type 0} (xs : List X) (i : ℕ) → length xs ≤ i → drop i xs ≡ []
past xs i h = grind (arith, common_steps)

pub pushed_next : {X : Type 0} (of : X → Made) (xs : List X) (i : ℕ) (x : X) (made : Made)
    (before now after : List Change) (whole : Made) → IsPushed of (drop i xs) before now whole
    → i < length xs → x ≡ get_or xs i x
    → made ≡ of x → after ≡ now ++ made.changes → made.fault ≡ None
    → IsPushed of (drop (i + 1) xs) before after whole
pushed_next of xs i x made before now after whole h within is made_is pushed none =
    let rest : drop i xs ≡ x ∷ drop (i + 1) xs = rw (add-one, drop-cons xs i x, ← is) refl in
    next of x (drop (i + 1) xs) before now after whole
    (subst (λ l. IsPushed of l before now whole) rest h)
    (pushed ∙ ap (λ (m : Made). now ++ m.changes) made_is)
    (sym (ap (λ (m : Made). m.fault) made_is) ∙ none)

pub pushed_stop : {X : Type 0} (of : X → Made) (xs : List X) (i : ℕ) (x : X) (made : Made)
    (before now after : List Change) (whole : Made) (fault : EvalFault)
    → IsPushed of (drop i xs) before now whole → i < length xs
    → x ≡ get_or xs i x → made ≡ of x
    → UnlessMemory fault.cause ((after ≡ now ++ made.changes) × (made.fault ≡ Some fault))
    → UnlessMemory fault.cause ((after ≡ before ++ whole.changes) × (whole.fault ≡ Some fault))
pushed_stop of xs i x made before now after whole fault h within is made_is given =
    let rest : drop i xs ≡ x ∷ drop (i + 1) xs = rw (add-one, drop-cons xs i x, ← is) refl in
    unless fault.cause (λ (p : (after ≡ now ++ made.changes) × (made.fault ≡ Some fault)).
    stop of x (drop (i + 1) xs) before now after whole fault
    (subst (λ l. IsPushed of l before now whole) rest h)
    (p.0 ∙ ap (λ (m : Made). now ++ m.changes) made_is)
    (sym (ap (λ (m : Made). m.fault) made_is) ∙ p.1))
    given

pub pushed_all : {X : Type 0} (of : X → Made) (xs : List X) (i : ℕ) (before now : List Change)
    (whole : Made) → IsPushed of (drop i xs) before now whole → length xs ≤ i
    → (now ≡ before ++ whole.changes) × (whole.fault ≡ None)
pushed_all of xs i before now whole h over =
    let all = h.is ∙ ap (λ l. made_before h.front None (up_to_fault of l)) (past xs i over) in (
      h.so_far ∙ ap (λ l. before ++ l) (sym (append-nil h.front))
          ∙ ap (λ (m : Made). before ++ m.changes) (sym all),
      ap (λ (m : Made). m.fault) all,
    )

-- over the children of an element
mapped : {X Y : Type 0} (of : Y → Made) (seen : X → Y) (xs : List X)
    → up_to_fault of (map seen xs) ≡ up_to_fault (λ x. of (seen x)) xs
mapped of seen [] = refl
mapped of seen (x ∷ xs) = ap (made_before (of (seen x)).changes (of (seen x)).fault)
    (mapped of seen xs)

pub over_children : (of : At → Made) (file : List ℕ) (children : List Element) (nodes : List Node)
    → map view children ≡ nodes
    → up_to_fault of (map (at file) nodes) ≡ up_to_fault (λ child. of (at file (view child)))
    children
over_children of file children nodes is =
    ap (λ ns. up_to_fault of (map (at file) ns)) (sym is) ∙ mapped of (at file) (map view children)
    ∙ mapped (λ node. of (at file node)) view children
