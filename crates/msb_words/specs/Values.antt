-- What the values of options say. (MSBuild command-line reference; MSBuild global properties.)
use Rattle.std.specs.Prelude.{
  ℕ,
  ◌^◌,
  List,
  [],
  ◌∷◌,
  ◌==◌,
  ◌&&◌,
  nat_le,
  nat_lt,
  length,
  Bool,
  true,
  false,
  Option,
  Some,
  None,
  if◌then◌else◌,
  codes,
  option_map,
  option_and_then,
}
use Rattle.std.specs.List.{list_any, before_first, after_first}
use Rattle.std.specs.Str.{all_ascii_digits, bytes_eq}
use Rattle.std.specs.Str.Parse.{digits_value}
use Rattle.std.specs.Ordering.{nat_cmp}
use Rattle.std.specs.BTreeMap.{insert_entry}
use Rattle.std.specs.Cmp.Lexicographic.{slice_cmp}
use Rattle.msb_laws.specs.Words.{Name, Pairs, Text}
use Rattle.msb_laws.specs.Traverse.{traverse}
use Rattle.msb_values.specs.Keys.{key_if, key_of}
use Rattle.msb_values.specs.Lists.{list_of}
use Rattle.msb_values.specs.Names.{bad_place, is_target_byte}
use Rattle.msb_reserved.specs.Reserved.{is_reserved}

-- one or more entries
abbrev pub if_some : List Text → Option (List Text)
if_some [] = None
if_some (entry ∷ entries) = Some (entry ∷ entries)

abbrev pub entries_in : Text → Option (List Text)
entries_in value = if_some (list_of value)

-- the name of a target, if the text is one (MSBuild targets)
abbrev pub target_name : Text → Option Name
target_name text = key_if (bad_place is_target_byte text) text

-- the targets of the entries
abbrev pub targets_in : Text → Option (List Name)
targets_in value = option_and_then (traverse target_name) (entries_in value)

abbrev pub targets_if : Option Text → Option (List Name)
targets_if None = Some []
targets_if (Some value) = targets_in value

-- a property that the engine does not set itself (MSBuild reserved and well-known properties)
abbrev pub if_free : Name → Option Name
if_free key = if is_reserved key then None else Some key

abbrev pub property_name : Text → Option Name
property_name text = option_and_then if_free (key_of text)

-- what stands before the first `=`, and what stands after it
abbrev pub cut_at_equals : Text → Option (Text × Text)
cut_at_equals text =
    if list_any (λ b. b == 61) text
    then Some (before_first (λ b. b == 61) text, after_first (λ b. b == 61) text) else None

abbrev pub named : Text × Text → Option (Name × Text)
named parts = option_map (λ name. (name, parts.1)) (property_name parts.0)

-- the property and the value of an entry `N=V`
abbrev pub global_of : Text → Option (Name × Text)
global_of entry = option_and_then named (cut_at_equals entry)

-- the properties of the entries in turn: of a name that is given twice the last counts
abbrev pub globals_after : Pairs → List Text → Option Pairs
globals_after globals [] = Some globals
globals_after globals (entry ∷ entries) =
    option_and_then (λ g. globals_after (insert_entry (slice_cmp nat_cmp) globals g.0 g.1) entries)
    (global_of entry)

abbrev pub globals_in : Text → Option Pairs
globals_in value = option_and_then (globals_after []) (entries_in value)

abbrev pub globals_if : Option Text → Option Pairs
globals_if None = Some []
globals_if (Some value) = globals_in value

-- decimal digits, one or more and at most so many
abbrev pub are_digits : ℕ → Text → Bool
are_digits most value =
    nat_lt 0 (length value) && nat_le (length value) most && all_ascii_digits value

-- the number of so many digits at most, if it is below 2^64
abbrev pub number_of : ℕ → Text → Option ℕ
number_of most value =
    if are_digits most value && nat_lt (digits_value 10 value) (2 ^ 64)
    then Some (digits_value 10 value) else None

-- a number from 1 to the most
abbrev pub up_to : ℕ → ℕ → Option ℕ
up_to most number = if nat_lt 0 number && nat_le number most then Some number else None

-- from 1 to 64 nodes
abbrev pub nodes_in : Text → Option ℕ
nodes_in value = option_and_then (up_to 64) (number_of 2 value)

-- this many nodes where the option is left out
abbrev pub nodes_if : ℕ → Option Text → Option ℕ
nodes_if without None = Some without
nodes_if without (Some value) = nodes_in value

-- from 1 to 100 projects
abbrev pub size_in : Text → Option ℕ
size_in value = option_and_then (up_to 100) (number_of 3 value)

abbrev pub size_if : Option Text → Option ℕ
size_if None = Some 0
size_if (Some value) = size_in value

abbrev pub seed_in : Text → Option ℕ
seed_in value = number_of 20 value

-- the one value is `low`
abbrev pub low_in : Text → Option Bool
low_in value = if bytes_eq value (codes "low") then Some true else None

abbrev pub low_if : Option Text → Option Bool
low_if None = Some false
low_if (Some value) = low_in value
