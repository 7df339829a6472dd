-- What a change makes of a scope. (MSBuild targets; PropertyGroup element; ItemGroup element.)
use Rattle.std.specs.Prelude.{
  List,
  [],
  ◌++◌,
  fold,
  Bool,
  not,
  map,
  filter,
  unwrap_or,
  if◌then◌else◌,
}
use Rattle.std.specs.BTreeMap.{insert_entry}
use Rattle.std.specs.Cmp.Lexicographic.{slice_cmp}
use Rattle.std.specs.List.{list_any}
use Rattle.std.specs.Ordering.{nat_cmp}
use Rattle.msb_laws.specs.Words.{Name, Pairs, Text}
use Rattle.msb_values.specs.Equal.{same_item}
use Rattle.msb_values.specs.Pairs.{value_at, changed_at, all_put}
use Rattle.msb_values.specs.Same.{is_same_text}
use Rattle.msb_values.specs.declared.change.Change.{Change}
use Rattle.msb_values.specs.declared.change.Change.TheVariants.{
  SetProp,
  AddItems,
  RemoveItems,
  SetMeta,
}
use Rattle.msb_values.specs.declared.item.Item.{Item}
use Rattle.msb_values.specs.declared.scope.Scope.{Scope}

-- the identity equals one of these texts, without case
abbrev pub is_named_in : List Text → Item → Bool
is_named_in texts item = list_any (λ text. is_same_text text item.ident) texts

-- the items whose identities equal none of these texts
abbrev pub without_named : List Text → List Item → List Item
without_named texts items = filter (λ item. not (is_named_in texts item)) items

-- the item equals one of these
abbrev pub is_among : List Item → Item → Bool
is_among given item = list_any (λ one. same_item one item) given

abbrev pub with_metadata : Pairs → Item → Item
with_metadata pairs item = record
    { ident = item.ident; recursive = item.recursive; meta = all_put item.meta pairs }

abbrev pub with_metadata_if : Bool → Pairs → Item → Item
with_metadata_if is pairs item = if is then with_metadata pairs item else item

-- the items, of which those that equal one of the given get the metadata
abbrev pub with_metadata_on : List Item → Pairs → List Item → List Item
with_metadata_on given pairs items = map (λ item. with_metadata_if (is_among given item) pairs item)
    items

-- the items of a type and behind them these
abbrev pub with_added : Name → List Item → List (Name × List Item) → List (Name × List Item)
with_added kind items lists = insert_entry (slice_cmp nat_cmp) lists kind
    (unwrap_or (value_at kind lists) [] ++ items)

abbrev pub with_props : Scope → Pairs → Scope
with_props scope props = record
    { globals = scope.globals; props = props; items = scope.items; defaults = scope.defaults }

abbrev pub with_lists : Scope → List (Name × List Item) → Scope
with_lists scope lists = record
    { globals = scope.globals; props = scope.props; items = lists; defaults = scope.defaults }

-- a type that has no items yet has none to take away or to change
abbrev pub applied : Change → Scope → Scope
applied (SetProp name value) scope = with_props scope
    (insert_entry (slice_cmp nat_cmp) scope.props name value)
applied (AddItems kind items) scope = with_lists scope (with_added kind items scope.items)
applied (RemoveItems kind texts) scope = with_lists scope
    (changed_at kind (without_named texts) scope.items)
applied (SetMeta kind given pairs) scope = with_lists scope
    (changed_at kind (with_metadata_on given pairs) scope.items)

-- a scope after some changes, one after another
abbrev pub all_applied : List Change → Scope → Scope
all_applied changes scope = fold (λ scope change. applied change scope) scope changes
