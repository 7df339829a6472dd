-- What the texts of an element speak of: metadata, and lists. (MSBuild batching)
use Rattle.std.specs.Prelude.{
  Bool,
  ◌||◌,
  ◌&&◌,
  is_none,
  List,
  [],
  ◌∷◌,
  ◌++◌,
  filter,
  Option,
  Some,
  None,
  option_to_list,
}
use Rattle.std.specs.List.{list_any, flat_map}
use Rattle.std.specs.Str.{bytes_eq}
use Rattle.msb_laws.specs.Words.{Name}
use Rattle.msb_expression.specs.declared.expression.Expr.{Expr}
use Rattle.msb_expression.specs.declared.expression.Part.{Part}
use Rattle.msb_expression.specs.declared.expression.Part.TheVariants.{
  Plain,
  Prop,
  Func,
  Meta,
  Items,
}
use Rattle.msb_values.specs.Keys.{key_of}
use Rattle.msb_expand.specs.Tokens.{reference_key, is_qualifier}
use Rattle.msb_batching.specs.declared.reference.Reference.{Reference}
use Rattle.msb_batching.specs.Distinct.{distinct}

-- names are compared without case, by their keys
abbrev pub same_reference : Reference → Reference → Bool
same_reference a b = is_qualifier a.kind b.kind && bytes_eq a.name b.name

abbrev pub keyed : Option (Option Name × Name) → List Reference
keyed None = []
keyed (Some key) = record { kind = key.0; name = key.1 } ∷ []

-- the metadata reference that a part is
abbrev pub part_references : Part → List Reference
part_references (Plain text) = []
part_references (Prop name) = []
part_references (Func subject calls) = []
part_references (Meta qualifier name) = keyed (reference_key qualifier name)
part_references (Items kind steps separator) = []

-- the list that an item reference names
abbrev pub part_names : Part → List Name
part_names (Plain text) = []
part_names (Prop name) = []
part_names (Func subject calls) = []
part_names (Meta qualifier name) = []
part_names (Items kind steps separator) = option_to_list (key_of kind)

-- the list that qualifies a metadata reference
abbrev pub part_qualifiers : Part → List Name
part_qualifiers part = flat_map (λ reference. option_to_list reference.kind) (part_references part)

-- the list that a part mentions, either way
abbrev pub part_mentions : Part → List Name
part_mentions part = part_qualifiers part ++ part_names part

abbrev pub of_parts : {X : Type 0} → (Part → List X) → List Expr → List X
of_parts of texts = flat_map (λ text. flat_map of text.parts) texts

-- What an element speaks of, each once and in order. Its own item type counts as named after all
-- others.
pub record Spoken : Type 0 where
  pub references : List Reference
  pub named : List Name
  pub qualified : List Name
  pub mentioned : List Name

abbrev pub spoken : List Expr → Option Name → Spoken
spoken texts own = record {
  references = distinct same_reference (of_parts part_references texts);
  named = distinct bytes_eq (of_parts part_names texts ++ option_to_list own);
  qualified = distinct bytes_eq (of_parts part_qualifiers texts);
  mentioned = distinct bytes_eq (of_parts part_mentions texts ++ option_to_list own);
}

abbrev pub has : Name → List Name → Bool
has kind kinds = list_any (bytes_eq kind) kinds

abbrev pub is_unqualified : Reference → Bool
is_unqualified reference = is_none reference.kind

-- `%(X.M)` batches list X, and `%(M)` every list that is named
abbrev pub is_batched : Spoken → Name → Bool
is_batched s kind = has kind s.qualified
    || (list_any is_unqualified s.references && has kind s.named)

-- the batched lists, in order of first mention
abbrev pub batched : Spoken → List Name
batched s = filter (is_batched s) s.mentioned

-- the first reference that no type qualifies
abbrev pub name_or : Option Name → Name → Option Name → Option Name
name_or None name other = Some name
name_or (Some kind) name other = other

abbrev pub unqualified : List Reference → Option Name
unqualified [] = None
unqualified (reference ∷ references) = name_or reference.kind reference.name
    (unqualified references)

-- such a reference, where no list is named
abbrev pub listless_in : List Name → List Reference → Option Name
listless_in [] references = unqualified references
listless_in (kind ∷ named) references = None

abbrev pub listless : Spoken → Option Name
listless s = listless_in s.named s.references
