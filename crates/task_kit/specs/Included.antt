-- CreateItem: items of entries and of the files that patterns match, with metadata. (CreateItem
-- task)
use Rattle.std.specs.Prelude.{
  ℕ,
  Bool,
  not,
  ◌==◌,
  List,
  [],
  ◌∷◌,
  map,
  filter,
  Option,
  Some,
  None,
  option_and_then,
  Result,
  Ok,
  Err,
  codes,
  if◌then◌else◌,
}
use Rattle.std.specs.List.{flat_map}
use Rattle.msb_laws.specs.Results.{and_then, map_ok, all_ok}
use Rattle.msb_laws.specs.Words.{Text, Name, Path}
use Rattle.msb_values.specs.Changes.{with_metadata}
use Rattle.msb_values.specs.Escapes.{unescaped}
use Rattle.msb_values.specs.declared.item.Item.{Item}
use Rattle.msb_glob.specs.Expanded.{is_match, match_of}
use Rattle.msb_glob.specs.ItemNames.{ItemNames, is_named}
use Rattle.msb_glob.specs.Parsed.{Reading, parsed, is_pattern}
use Rattle.msb_glob.specs.declared.errors.GlobFault.{GlobFault}
use Rattle.msb_glob.specs.declared.expansion.Match.{Match}
use Rattle.msb_expand.specs.Computed.{is_computed}
use Rattle.msb_files.specs.Views.{View, paths}
use Rattle.task_trait.specs.Params.{items_of, check_known, unless, needed_items, or_bad, pair_of}
use Rattle.task_trait.specs.declared.failures.Failure.{Failure}
use Rattle.task_trait.specs.declared.failures.Failure.TheVariants.{BadParameter}
use Rattle.task_trait.specs.declared.tools.Param.{Param}
use Rattle.task_trait.specs.declared.tools.TaskOutput.{TaskOutput}
use Rattle.task_kit.specs.Progress.{succeeded}

-- an entry comes without escapes, so a `%` in a pattern stands for itself
abbrev pub percent_of : ℕ → Text
percent_of byte = if byte == 37 then codes "%25" else byte ∷ []

abbrev pub pattern_text : Text → Text
pattern_text text = flat_map percent_of text

abbrev pub pattern_or_bad : Name → Result Reading GlobFault → Result Reading Failure
pattern_or_bad name (Ok pattern) = Ok pattern
pattern_or_bad name (Err fault) = Err (BadParameter name)

-- an entry of the parameter of this name as a pattern
abbrev pub is_pattern_entry : Item → Bool
is_pattern_entry entry = is_pattern entry.ident

abbrev pub pattern_in : Path → Name → Item → Result Reading Failure
pattern_in dir name entry = pattern_or_bad name (parsed dir (pattern_text entry.ident))

-- what a match makes of its entry, without escapes
abbrev pub item_matched : Item → Match → Item
item_matched entry match = record
    { ident = unescaped match.ident; recursive = match.recursive; meta = entry.meta }

abbrev pub items_matched : List Path → Item → Reading → List Item
items_matched files entry pattern = map (item_matched entry)
    (map (match_of pattern) (filter (is_match pattern) files))

-- the files that an entry matches as a pattern, or the entry itself, be there a file or not
abbrev pub items_of_entry : Path → List Path → Item → Result (List Item) Failure
items_of_entry dir files entry =
    if is_pattern_entry entry then map_ok (items_matched files entry)
    (pattern_in dir (codes "include") entry) else Ok (entry ∷ [])

-- the lists that entries give, one after another
abbrev pub all_of : {X : Type 0} → (Item → Result (List X) Failure) → List Item
    → Result (List X) Failure
all_of each entries = map_ok (flat_map (λ list. list)) (all_ok each entries)

abbrev pub items_included : Path → List Path → List Item → Result (List Item) Failure
items_included dir files entries = all_of (items_of_entry dir files) entries

-- the pattern that an entry of Exclude is, if it is one
abbrev pub patterns_of_entry : Path → Item → Result (List Reading) Failure
patterns_of_entry dir entry =
    if is_pattern_entry entry then map_ok (λ pattern. pattern ∷ [])
    (pattern_in dir (codes "exclude") entry) else Ok []

abbrev pub idents_of : List Item → List Text
idents_of entries = map (λ entry. entry.ident) entries

-- what the entries of Exclude name, among which are these patterns
abbrev pub names_excluded : List Reading → List Item → ItemNames
names_excluded patterns entries = record { idents = idents_of entries; patterns = patterns }

abbrev pub less_excluded : Path → ItemNames → List Item → List Item
less_excluded dir names items = filter (λ item. not (is_named dir names item.ident)) items

-- the items of the entries, less those that Exclude names; its patterns are read first
abbrev pub items_created : Path → List Path → List Item → List Item → Result (List Item) Failure
items_created dir files entries excluded =
    and_then (all_of (patterns_of_entry dir) excluded)
    (λ patterns. map_ok (less_excluded dir (names_excluded patterns excluded))
    (items_included dir files entries))

-- an entry of AdditionalMetadata: a name that is not computed, and its value
abbrev pub unless_computed : Name × Text → Option (Name × Text)
unless_computed pair = if is_computed pair.0 then None else Some pair

abbrev pub metadata_in : Item → Result (Name × Text) Failure
metadata_in entry = or_bad (codes "additionalmetadata")
    (option_and_then unless_computed (pair_of entry.ident))

abbrev pub include_output : List Item → Param
include_output items = record { name = codes "include"; items = items }

abbrev pub create_item : Path → View → List Param → Result TaskOutput Failure
create_item dir view params =
    unless (check_known (codes "createitem") params)
    (and_then (needed_items (codes "include") params) (λ entries.
    and_then (all_ok metadata_in (items_of (codes "additionalmetadata") params)) (λ metadata.
    map_ok (λ items. succeeded (include_output (map (with_metadata metadata) items) ∷ []))
    (items_created dir (paths view) entries (items_of (codes "exclude") params)))))
