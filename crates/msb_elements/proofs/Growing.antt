-- The tree that a value says, by the values of its members.
use Rattle.std.proofs.Common.{
  ◌≡◌,
  ℕ,
  ◌==◌,
  ◌&&◌,
  Bool,
  List,
  [],
  ◌∷◌,
  length,
  true,
  false,
  true≢false,
  Option,
  Some,
  None,
  is_some,
  Result,
  Ordering,
  Less,
  Equal,
  Greater,
  if◌then◌else◌,
  codes,
  refl,
  sym,
  ap,
  subst,
  ◌∙◌,
}
use Rattle.std.specs.Option.{option_map_or}
use Rattle.std.proofs.lemmas.Map.Text.{is_eq-slice_cmp}
use Rattle.std.specs.Ordering.{nat_cmp, is_eq, match_ordering}
use Rattle.std.specs.Str.{bytes_eq}
use Rattle.std.specs.Cmp.Lexicographic.{slice_cmp}
use Rattle.serde_json.specs.Data.{
  Data,
  null,
  boolean,
  number,
  string,
  array,
  object,
  Members,
  no_members,
  member,
}
use Rattle.serde_json.specs.Find.{get, get_member}
use Rattle.serde_json.specs.View.{items_view}
use Rattle.serde_json.specs.declared.value.Value.{Value}
use Rattle.msb_elements.specs.Forms.{has_element_members, name_in, attributes_in, text_in}
use Rattle.msb_elements.specs.Trees.{
  Tree,
  no_element,
  element,
  Trees,
  grown_of,
  tree_of,
  trees_of,
  entries_in_members,
  entries_at,
  entries_if,
  as_element,
  of_values,
}
use Rattle.msb_elements.specs.Reads.{Gives}
use Rattle.msb_elements.specs.declared.errors.PartFault.{PartFault}
use Rattle.msb_elements.specs.Checks.{Pair, is_when, missing_in}
use Rattle.msb_elements.specs.declared.kind.Kind.TheVariants.{Choose}

at_ordering : (o : Ordering) (d : Data) (entries : Option Trees) (rest : Option Data)
    → entries ≡ entries_if rest → (if is_eq o then entries_at d else entries)
    ≡ entries_if (match_ordering o rest (Some d) rest)
at_ordering Less d entries rest later = later
at_ordering Equal d entries rest later = refl
at_ordering Greater d entries rest later = later

entries_found : (ms : Members) → entries_in_members ms ≡ entries_if (get_member (codes "c") ms)
entries_found no_members = refl
entries_found (member key d ms) = rw (← is_eq-slice_cmp (codes "c") key)
    (at_ordering (slice_cmp nat_cmp (codes "c") key) d _ _ (entries_found ms))

pub grown_by_members : (d : Data) → has_element_members d ≡ true
    → tree_of d ≡ grown_of (name_in d) (attributes_in d) (text_in d)
    (entries_if (get (codes "c") d))
grown_by_members (object ms) has = rw (has, entries_found ms) refl
grown_by_members null has = absurd (cc)
grown_by_members (boolean b) has = absurd (cc)
grown_by_members (number n) has = absurd (cc)
grown_by_members (string s) has = absurd (cc)
grown_by_members (array ds) has = absurd (cc)

-- a value that is no object, or one with a member that no element has, is no element
pub no_tree : (d : Data) → has_element_members d ≡ false → as_element (tree_of d) ≡ None
no_tree (object ms) has = rw has refl
no_tree null has = refl
no_tree (boolean b) has = refl
no_tree (number n) has = refl
no_tree (string s) has = refl
no_tree (array ds) has = refl

pub tree_by_values : (ms : Members) (name attributes text entries : Option Data)
    → has_element_members (object ms) ≡ true → name ≡ get_member (codes "e") ms
    → attributes ≡ get_member (codes "a") ms → text ≡ get_member (codes "t") ms
    → entries ≡ get_member (codes "c") ms
    → of_values name attributes text entries ≡ as_element (tree_of (object ms))
tree_by_values ms name attributes text entries has name_is attributes_is text_is entries_is = rw
    (name_is, attributes_is, text_is, entries_is)
    (sym (ap as_element (grown_by_members (object ms) has)))

pub gives_same : {X : Type 0} (seen : X → Tree) (result : Result X PartFault)
    (found whole : Option Tree) → found ≡ whole → Gives seen result found → Gives seen result whole
gives_same seen result found whole same given = let P : Option Tree
    → Type 0 = Gives seen result in subst P same given

no_when : (t : Tree) → as_element t ≡ None → is_when t ≡ false
no_when no_element none = refl
no_when (element name attributes text entries) none = absurd (cc)

-- whether an element with these parts has the name When
abbrev when_of : Option (List ℕ) → Option (List Pair) → Option (List ℕ) → Option Trees → Bool
when_of name attributes text entries = is_some attributes
    && (is_some text
    && (is_some entries && option_map_or (λ n. bytes_eq n (codes "When")) name false))

when_grown : (name : Option (List ℕ)) (attributes : Option (List Pair)) (text : Option (List ℕ))
    (entries : Option Trees) → is_when (grown_of name attributes text entries)
    ≡ when_of name attributes text entries
when_grown None None text entries = refl
when_grown None (Some attributes) None entries = refl
when_grown None (Some attributes) (Some text) None = refl
when_grown None (Some attributes) (Some text) (Some entries) = refl
when_grown (Some name) None text entries = refl
when_grown (Some name) (Some attributes) None entries = refl
when_grown (Some name) (Some attributes) (Some text) None = refl
when_grown (Some name) (Some attributes) (Some text) (Some entries) = refl

when_by : (d : Data) (has : Bool) → has_element_members d ≡ has
    → is_when (tree_of d)
    ≡ (has && when_of (name_in d) (attributes_in d) (text_in d) (entries_if (get (codes "c") d)))
when_by d true has = ap is_when (grown_by_members d has)
    ∙ when_grown (name_in d) (attributes_in d) (text_in d) (entries_if (get (codes "c") d))
when_by d false has = no_when (tree_of d) (no_tree d has)

-- whether a value is an element of the name When, by what each of its members is
pub when_found : (d : Data) (has attributes text entries named : Bool) → has ≡ has_element_members d
    → attributes ≡ is_some (attributes_in d) → text ≡ is_some (text_in d)
    → entries ≡ is_some (entries_if (get (codes "c") d))
    → named ≡ option_map_or (λ n. bytes_eq n (codes "When")) (name_in d) false
    → is_when (tree_of d) ≡ (has && (attributes && (text && (entries && named))))
when_found d has attributes text entries named has_is attributes_is text_is entries_is named_is = rw
    (has_is, attributes_is, text_is, entries_is, named_is) (when_by d (has_element_members d) refl)

-- a Choose with something below it has no missing attribute
pub not_missed : (attributes : List Pair) (vs : List Value) → (length vs == 0) ≡ false
    → None ≡ missing_in Choose attributes (trees_of (items_view vs))
not_missed attributes [] is = absurd (true≢false is)
not_missed attributes (v ∷ vs) is = refl
