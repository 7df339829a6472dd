-- The elements of a file and its first fault, step by step.
use Rattle.std.proofs.Common.{
  ◌≡◌,
  ℕ,
  suc,
  ◌+◌,
  ◌==◌,
  ◌⊎◌,
  ◌≢◌,
  inl,
  inr,
  List,
  [],
  ◌∷◌,
  ◌++◌,
  ◌||◌,
  length,
  map,
  Bool,
  true,
  false,
  Option,
  Some,
  None,
  Result,
  Ok,
  Err,
  refl,
  sym,
  ap,
  ◌∙◌,
  arith,
}
use Rattle.std.proofs.lemmas.List.{map-append}
use Rattle.std.proofs.lemmas.Bool.Decides.{eqb_tells}
use Rattle.std.specs.Result.{result_err}
use Rattle.serde_json.specs.Data.{Data}
use Rattle.serde_json.specs.View.{view as value_of, items_view}
use Rattle.serde_json.specs.declared.value.Value.{Value}
use Rattle.msb_elements.specs.Nodes.{Node, node, Nodes, name_of}
use Rattle.msb_elements.specs.Stands.{standing_of, child_kind}
use Rattle.msb_elements.specs.Trees.{
  Tree,
  no_element,
  element,
  Trees,
  tree_of,
  trees_of,
  as_element,
}
use Rattle.msb_elements.specs.Checks.{Pair, own_fault, is_on_error}
use Rattle.msb_elements.specs.Checked.{IsFault}
use Rattle.msb_elements.specs.Projects.{
  with_children,
  in_front,
  is_no_trees,
  is_on_error_below,
  element_or_fault,
  children_or_fault,
  below_or_fault,
  root_or_fault,
  project_in,
}
use Rattle.msb_elements.specs.Forms.{json_in}
use Rattle.msb_elements.specs.View.{view, views}
use Rattle.msb_elements.specs.declared.element.Element.{Element}
use Rattle.msb_elements.specs.declared.errors.ReadFault.{ReadFault}
use Rattle.msb_elements.specs.declared.errors.ReadFault.TheVariants.{
  NotJson,
  NotElement,
  UnknownElement,
  Misplaced,
  MissingAttribute,
  BothAttributes,
  BadName,
  Memory,
}
use Rattle.msb_elements.specs.declared.kind.Kind.{Kind}
use Rattle.msb_elements.specs.declared.kind.Standing.{Standing}
use Rattle.msb_elements.proofs.Fronts.{onto, onto-last, onto-none}

-- a fault of a part is the fault of the whole that it is the first of
pub fault_of_whole : (fault : ReadFault) (part whole : Option ReadFault)
    → ((f : ReadFault) → part ≡ Some f → whole ≡ Some f) → IsFault fault part → IsFault fault whole
fault_of_whole Memory part whole carries is = tt
fault_of_whole NotJson part whole carries is = carries _ is
fault_of_whole (NotElement place) part whole carries is = carries _ is
fault_of_whole (UnknownElement place) part whole carries is = carries _ is
fault_of_whole (Misplaced place) part whole carries is = carries _ is
fault_of_whole (MissingAttribute place name) part whole carries is = carries _ is
fault_of_whole (BothAttributes place one other) part whole carries is = carries _ is
fault_of_whole (BadName place at) part whole carries is = carries _ is

err_is : {X : Type 0} (found : Result X ReadFault) (f : ReadFault) → result_err found ≡ Some f
    → found ≡ Err f
err_is (Ok x) f is = absurd (cc)
err_is (Err g) f is = cc

pub no_tree_fault : (parent : Option Kind) (after last : Bool) (place : List ℕ) (t : Tree)
    → as_element t ≡ None → element_or_fault parent after last place t ≡ Err (NotElement place)
unfolding element_or_fault
no_tree_fault parent after last place no_element none = refl
no_tree_fault parent after last place (element name attributes text entries) none = absurd (cc)

-- an element's own fault, and then those of its children
pub element_out : (parent : Option Kind) (after last : Bool) (place : List ℕ) (t : Tree)
    (name text : List ℕ) (attributes : List Pair) (entries : Trees) (standing : Standing)
    → as_element t ≡ Some (element name attributes text entries)
    → standing ≡ standing_of parent name
    → element_or_fault parent after last place t
    ≡ with_children place name attributes text
    (own_fault standing after last place name attributes text entries)
    (below_or_fault standing place entries)
unfolding element_or_fault
element_out parent after last place no_element name text attributes entries standing some is =
    absurd (cc)
element_out parent after last place (element own_name own_attributes own_text own_entries) name text
    attributes entries standing some is =
    let same : element own_name own_attributes own_text own_entries
    ≡ element name attributes text entries = cc in
    ap (element_or_fault parent after last place) same ∙ rw (sym is) refl

own_first : (place name text : List ℕ) (attributes : List Pair) (own : Option ReadFault)
    (below : Result Nodes ReadFault) (f : ReadFault) → own ≡ Some f
    → result_err (with_children place name attributes text own below) ≡ Some f
own_first place name text attributes own below f is = rw is refl

below_next : (place name text : List ℕ) (attributes : List Pair) (own : Option ReadFault)
    (below : Result Nodes ReadFault) (f : ReadFault) → own ≡ None → result_err below ≡ Some f
    → result_err (with_children place name attributes text own below) ≡ Some f
below_next place name text attributes own below f none is = rw (none, err_is below f is) refl

pub own_refuses : (fault : ReadFault) (whole : Result Node ReadFault) (place name text : List ℕ)
    (attributes : List Pair) (own : Option ReadFault) (below : Result Nodes ReadFault)
    → whole ≡ with_children place name attributes text own below → IsFault fault own
    → IsFault fault (result_err whole)
own_refuses fault whole place name text attributes own below is = fault_of_whole fault own
    (result_err whole) (λ f here. ap result_err is
    ∙ own_first place name text attributes own below f here)

pub below_refuses : (fault : ReadFault) (whole : Result Node ReadFault) (place name text : List ℕ)
    (attributes : List Pair) (own : Option ReadFault) (below : Result Nodes ReadFault)
    → whole ≡ with_children place name attributes text own below → own ≡ None
    → IsFault fault (result_err below) → IsFault fault (result_err whole)
below_refuses fault whole place name text attributes own below is none = fault_of_whole fault
    (result_err below) (result_err whole) (λ f here. ap result_err is
    ∙ below_next place name text attributes own below f none here)

-- the children with others in front
abbrev pub with_front : List Node → Result Nodes ReadFault → Result Nodes ReadFault
with_front front (Ok ns) = Ok (onto front ns)
with_front front (Err fault) = Err fault

front_none : (found : Result Nodes ReadFault) → found ≡ with_front [] found
front_none (Ok ns) = refl
front_none (Err fault) = refl

longer_front : (front : List Node) (x : Node) (rest : Result Nodes ReadFault)
    → with_front front (in_front (Ok x) rest) ≡ with_front (front ++ x ∷ []) rest
longer_front front x (Ok ns) = ap Ok (onto-last front x ns)
longer_front front x (Err fault) = refl

name_kept : (place name text : List ℕ) (attributes : List Pair) (own : Option ReadFault)
    (below : Result Nodes ReadFault) (n : Node)
    → with_children place name attributes text own below ≡ Ok n → name ≡ name_of n
name_kept place name text attributes (Some fault) below n is = absurd (cc)
name_kept place name text attributes None (Err fault) n is = absurd (cc)
name_kept place name text attributes None (Ok children) n is = let same : node place name attributes
    text children ≡ n = cc in ap name_of same

-- an entry's name is that of the element that it is
on_error_kept : (kind parent : Option Kind) (after last : Bool) (place : List ℕ) (t : Tree)
    (n : Node) → element_or_fault parent after last place t ≡ Ok n
    → is_on_error_below kind t ≡ is_on_error (child_kind kind (name_of n))
unfolding element_or_fault
on_error_kept kind parent after last place no_element n is = absurd (cc)
on_error_kept kind parent after last place (element name attributes text entries) n is = ap
    (λ own. is_on_error (child_kind kind own)) (name_kept place name text attributes _ _ n is)

-- the loop has the elements `front` of the entries before i, `vs` are left, and `all` is the answer
-- for all entries
pub record IsSoFar (kind : Option Kind) (place : List ℕ) (vs : List Value) (i : ℕ) (after : Bool)
    (front : List Element) (all : Result Nodes ReadFault) : Type 0 where
  pub is : all
      ≡ with_front (map view front)
      (children_or_fault kind after place i (trees_of (items_view vs)))

pub so_far_start : (kind : Option Kind) (place : List ℕ) (vs ws : List Value) (i : ℕ)
    (front : List Element) → vs ≡ ws → i ≡ 0 → front ≡ []
    → IsSoFar kind place vs i false front
    (children_or_fault kind false place 0 (trees_of (items_view ws)))
so_far_start kind place vs ws i front same zero none = record
    { is = rw (same, zero, none) (front_none _) }

-- one more entry, which is the last or not
so_far_out : (kind : Option Kind) (place : List ℕ) (vs rest : List Value) (v : Value) (i : ℕ)
    (after last : Bool) (front : List Element) (all : Result Nodes ReadFault)
    → IsSoFar kind place vs i after front all → vs ≡ v ∷ rest
    → last ≡ is_no_trees (trees_of (items_view rest))
    → all
    ≡ with_front (map view front)
    (in_front (element_or_fault kind after last (place ++ i ∷ []) (tree_of (value_of v)))
    (children_or_fault kind (after || is_on_error_below kind (tree_of (value_of v))) place
    (i + 1) (trees_of (items_view rest))))
unfolding children_or_fault
so_far_out kind place vs rest v i after last front all so_far is end = so_far.is ∙ rw (is, end) refl

pub so_far_step : (kind : Option Kind) (place : List ℕ) (vs rest : List Value) (v : Value) (i : ℕ)
    (after last next : Bool) (front : List Element) (e : Element) (all : Result Nodes ReadFault)
    → IsSoFar kind place vs i after front all → vs ≡ v ∷ rest
    → last ≡ is_no_trees (trees_of (items_view rest))
    → element_or_fault kind after last (place ++ i ∷ []) (tree_of (value_of v)) ≡ Ok (view e)
    → next ≡ (after || is_on_error (child_kind kind (name_of (view e))))
    → IsSoFar kind place rest (i + 1) next (front ++ e ∷ []) all
so_far_step kind place vs rest v i after last next front e all so_far is end some next_is =
    record {
      is = so_far_out kind place vs rest v i after last front all so_far is end
          ∙ rw (
            some,
            on_error_kept kind kind after last (place ++ i ∷ []) (tree_of (value_of v)) (view e)
                some,
            ← next_is,
            map-append,
          ) (longer_front (map view front) (view e) _);
    }

stopped : (fault : ReadFault) (front : List Node) (found : Result Node ReadFault)
    (rest all : Result Nodes ReadFault) → all ≡ with_front front (in_front found rest)
    → result_err found ≡ Some fault → result_err all ≡ Some fault
stopped fault front found rest all is here =
    let refused : with_front front (in_front found rest)
    ≡ Err fault = rw (err_is found fault here) refl in
    ap result_err (is ∙ refused)

pub so_far_stop : (fault : ReadFault) (kind : Option Kind) (place : List ℕ) (vs rest : List Value)
    (v : Value) (i : ℕ) (after last : Bool) (front : List Element) (all : Result Nodes ReadFault)
    → IsSoFar kind place vs i after front all → vs ≡ v ∷ rest
    → last ≡ is_no_trees (trees_of (items_view rest))
    → IsFault fault
    (result_err (element_or_fault kind after last (place ++ i ∷ []) (tree_of (value_of v))))
    → IsFault fault (result_err all)
so_far_stop fault kind place vs rest v i after last front all so_far is end =
    fault_of_whole fault _ _
    (λ f here. stopped f (map view front) _ _ all
    (so_far_out kind place vs rest v i after last front all so_far is end) here)

pub so_far_end : (kind : Option Kind) (place : List ℕ) (vs : List Value) (i : ℕ) (after : Bool)
    (front : List Element) (all : Result Nodes ReadFault) → length vs ≡ 0
    → IsSoFar kind place vs i after front all → all ≡ Ok (views front)
unfolding children_or_fault
so_far_end kind place [] i after front all none so_far = so_far.is
    ∙ ap Ok (onto-none (map view front))
so_far_end kind place (v ∷ vs) i after front all none so_far = absurd (omega arith)

end_at : (rest : List Value) (i n : ℕ) (b : Bool) → i + suc (length rest) ≡ n
    → ((b ≡ true) × (i + 1 ≡ n)) ⊎ ((b ≡ false) × (i + 1 ≢ n))
    → b ≡ is_no_trees (trees_of (items_view rest))
end_at [] i n b counted (inl (is, end)) = is
end_at [] i n b counted (inr (is, before)) = absurd (before (omega arith))
end_at (v ∷ rest) i n b counted (inl (is, end)) = absurd (omega arith)
end_at (v ∷ rest) i n b counted (inr (is, before)) = is

-- the entry is the last where none is left behind it
pub last_is : (vs rest : List Value) (v : Value) (i n : ℕ) → vs ≡ v ∷ rest → i + length vs ≡ n
    → (i + 1 == n) ≡ is_no_trees (trees_of (items_view rest))
last_is vs rest v i n is counted = end_at rest i n (i + 1 == n)
    (ap (λ xs. i + length xs) (sym is) ∙ counted) (eqb_tells (i + 1) n)

pub project_some : (bytes : List ℕ) (d : Data) → json_in bytes ≡ Some d
    → project_in bytes ≡ root_or_fault (Some d)
unfolding project_in
project_some bytes d json = rw json refl

pub project_none : (bytes : List ℕ) → json_in bytes ≡ None → project_in bytes ≡ Err NotJson
unfolding project_in
project_none bytes json = rw json refl
