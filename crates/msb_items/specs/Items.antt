-- The items of each type, after each item element in turn. (MSBuild items; Item element; ItemGroup
-- element)
use Rattle.std.specs.Prelude.{
  List,
  [],
  ◌∷◌,
  ◌++◌,
  map,
  filter,
  not,
  Bool,
  true,
  false,
  Option,
  Some,
  None,
  Result,
  Ok,
  codes,
  if◌then◌else◌,
}
use Rattle.std.specs.List.{flat_map}
use Rattle.std.specs.BTreeMap.{insert_entry}
use Rattle.std.specs.Ordering.{nat_cmp}
use Rattle.std.specs.Cmp.Lexicographic.{slice_cmp}
use Rattle.std.specs.Str.{bytes_eq}
use Rattle.msb_laws.specs.Words.{Text, Name, Path}
use Rattle.msb_laws.specs.Results.{and_then, map_ok, all_ok, fold_ok}
use Rattle.msb_values.specs.Pairs.{value_at}
use Rattle.msb_values.specs.declared.cause.Cause.{Cause}
use Rattle.msb_values.specs.declared.item.Item.{Item}
use Rattle.msb_values.specs.declared.scope.Scope.{Scope}
use Rattle.msb_elements.specs.Nodes.{name_of}
use Rattle.msb_expand.specs.Keys.{key_of}
use Rattle.msb_expand.specs.Scenes.{list_or}
use Rattle.msb_glob.specs.Parsed.{Reading}
use Rattle.msb_glob.specs.Expanded.{is_match, match_of}
use Rattle.msb_glob.specs.declared.expansion.Match.{Match}
use Rattle.build_world.specs.declared.fault.EvalFault.{EvalFault}
use Rattle.build_world.specs.Elements.{At, children_of, attribute_of, or_fault}
use Rattle.element_texts.specs.Contexts.{
  ElementContext,
  item_context,
  metadata_context,
  after_each,
  element_holds,
  entries_at,
}
use Rattle.msb_items.specs.Metadata.{WrittenMetadata, item_attributes, metadata_on, metadata_value}
use Rattle.msb_items.specs.Definitions.{project_path}
use Rattle.msb_items.specs.Patterns.{is_pattern_entry, pattern_of}
use Rattle.msb_glob.specs.ItemNames.{ItemNames}
use Rattle.msb_items.specs.ItemNames.{names_of, is_named}
use Rattle.msb_expand.specs.declared.entry.Entry.{Entry}

-- an item with a metadata, and with each of those written on an element, which see those ahead of
-- them
abbrev pub with_metadata : Item → Option (Name × Text) → Item
with_metadata item None = item
with_metadata item (Some pair) = record {
  ident = item.ident;
  recursive = item.recursive;
  meta = insert_entry (slice_cmp nat_cmp)
      item.meta pair.0 pair.1;
}

abbrev pub with_metadata_written : ElementContext → Name → Item → WrittenMetadata
    → Result Item EvalFault
with_metadata_written p kind item metadata = map_ok (with_metadata item)
    (metadata_value (metadata_context p kind item) metadata)

abbrev pub with_all_metadata : ElementContext → Name → List WrittenMetadata → Item
    → Result Item EvalFault
with_all_metadata p kind written item = fold_ok (with_metadata_written p kind) item written

-- the items of an entry: the files that a pattern matches, or the entry itself, be there a file or
-- not
abbrev pub item_of : Match → Item
item_of match = record { ident = match.ident; recursive = match.recursive; meta = [] }

abbrev pub matched : List Path → Reading → List Item
matched files pattern = map item_of (map (match_of pattern) (filter (is_match pattern) files))

abbrev pub items_of : List Path → Path → Entry → Result (List Item) Cause
items_of files project entry = if is_pattern_entry entry then map_ok (matched files)
    (pattern_of project entry) else Ok (entry.item ∷ [])

abbrev pub all_items : List Path → Path → List Entry → Result (List Item) Cause
all_items files project entries = map_ok (flat_map (λ items. items))
    (all_ok (items_of files project) entries)

-- the items of Include's entries
abbrev pub items_at : ElementContext → At → Text → Result (List Item) EvalFault
items_at p e written = and_then (entries_at p e written)
    (λ entries. or_fault e (all_items p.files p.project entries))

-- what the entries of an attribute name
abbrev pub names_at : ElementContext → At → Text → Result ItemNames EvalFault
names_at p e written = and_then (entries_at p e written)
    (λ entries. or_fault e (names_of p.project entries))

-- the items of a type
abbrev pub list_of : Scope → Name → List Item
list_of scope kind = list_or (value_at kind scope.items) []

abbrev pub with_list : Scope → Name → List Item → Scope
with_list scope kind items = record {
  globals = scope.globals;
  props = scope.props;
  items = insert_entry (slice_cmp nat_cmp)
      scope.items kind items;
  defaults = scope.defaults;
}

-- some items, less those that are named
abbrev pub unnamed : Path → List Item → ItemNames → List Item
unnamed project items names = filter (λ item. not (is_named project names item)) items

-- less those that Exclude names, if it is there
abbrev pub less_excluded : ElementContext → At → Option Text → List Item
    → Result (List Item) EvalFault
less_excluded p e None items = Ok items
less_excluded p e (Some exclude) items = map_ok (unnamed p.project items) (names_at p e exclude)

-- the items that an Include adds, each with the metadata that are written on the element
abbrev pub new_items : ElementContext → Name → At → Text → Result (List Item) EvalFault
new_items p kind e include =
    and_then (items_at p e include) (λ items.
    and_then (less_excluded p e (attribute_of (codes "Exclude") e) items)
    (all_ok (with_all_metadata p kind (metadata_on item_attributes e))))

-- Include adds items
abbrev pub included : ElementContext → Name → At → Text → Result Scope EvalFault
included p kind e include = map_ok (λ new. with_list p.scope kind (list_of p.scope kind ++ new))
    (new_items p kind e include)

-- Remove takes items away
abbrev pub removed : ElementContext → Name → At → Text → Result Scope EvalFault
removed p kind e remove = map_ok
    (λ names. with_list p.scope kind (unnamed p.project (list_of p.scope kind) names))
    (names_at p e remove)

-- Update changes the metadata of the items that it names
abbrev pub updated_if : Bool → ElementContext → Name → List WrittenMetadata → Item
    → Result Item EvalFault
updated_if true p kind written item = with_all_metadata p kind written item
updated_if false p kind written item = Ok item

abbrev pub updated_items : ElementContext → Name → List WrittenMetadata → ItemNames → List Item
    → Result (List Item) EvalFault
updated_items p kind written names items = all_ok
    (λ item. updated_if (is_named p.project names item) p kind written item) items

abbrev pub updated : ElementContext → Name → At → Text → Result Scope EvalFault
updated p kind e update =
    and_then (names_at p e update) (λ names.
    map_ok (with_list p.scope kind)
    (updated_items p kind (metadata_on item_attributes e) names (list_of p.scope kind)))

abbrev pub changed_by : ElementContext → Name → At → Option Text → Option Text → Option Text
    → Result Scope EvalFault
changed_by p kind e (Some include) remove update = included p kind e include
changed_by p kind e None (Some remove) update = removed p kind e remove
changed_by p kind e None None (Some update) = updated p kind e update
changed_by p kind e None None None = Ok p.scope

abbrev pub item_named : Option Name → ElementContext → At → Result Scope EvalFault
item_named None p e = Ok p.scope
item_named (Some kind) p e = changed_by p kind e (attribute_of (codes "Include") e)
    (attribute_of (codes "Remove") e) (attribute_of (codes "Update") e)

abbrev pub item_if : Bool → ElementContext → At → Result Scope EvalFault
item_if true p e = item_named (key_of (name_of e.node)) p e
item_if false p e = Ok p.scope

-- an item element
abbrev pub with_item : ElementContext → At → Result Scope EvalFault
with_item p e = and_then (element_holds p e) (λ holds. item_if holds p e)

abbrev pub items_if : Bool → ElementContext → At → Result Scope EvalFault
items_if true p e = after_each with_item p (children_of e)
items_if false p e = Ok p.scope

-- an ItemGroup
abbrev pub with_items : ElementContext → At → Result Scope EvalFault
with_items p e = and_then (element_holds p e) (λ holds. items_if holds p e)

-- no other element changes an item
abbrev pub itemed_by : ElementContext → At → Result Scope EvalFault
itemed_by p e = if bytes_eq (name_of e.node) (codes "ItemGroup") then with_items p e else Ok p.scope

abbrev pub all_itemed : List Path → Scope → List At → Result Scope EvalFault
all_itemed files scope elements = after_each itemed_by
    (item_context files (project_path elements) scope) elements
