-- What is done with a bucket of a target that has Inputs and Outputs. (Incremental builds)
use Rattle.std.specs.Prelude.{
  ℕ,
  ◌==◌,
  ◌&&◌,
  List,
  [],
  ◌∷◌,
  length,
  Bool,
  true,
  false,
  Option,
  Some,
  None,
  if◌then◌else◌,
}
use Rattle.msb_laws.specs.Words.{Path}
use Rattle.msb_values.specs.declared.item.Item.{Item}
use Rattle.msb_values.specs.declared.mode.Mode.{Mode}
use Rattle.msb_values.specs.declared.mode.Mode.TheVariants.{Incremental, Clean}
use Rattle.msb_files.specs.Views.{View}
use Rattle.target_incremental.specs.declared.decision.Choice.{Choice}
use Rattle.target_incremental.specs.declared.decision.Choice.TheVariants.{Run, Skip, Nothing, Part}
use Rattle.target_incremental.specs.Ages.{pair_is_old, any_is_old}

-- over every pair: one that is out of date is enough to run
abbrev pub by_pairs : View → (inputs outputs : List Path) → Choice
by_pairs view inputs outputs = if any_is_old view inputs outputs then Run else Skip

-- the items whose own pair is out of date
abbrev pub item_if : Bool → Item → List Item → List Item
item_if true item items = item ∷ items
item_if false item items = items

abbrev pub old_items : View → (inputs outputs : List Path) → List Item → List Item
old_items view (input ∷ inputs) (output ∷ outputs) (item ∷ items) = item_if
    (pair_is_old view input output) item (old_items view inputs outputs items)
old_items view inputs outputs items = []

-- none of them is Skip, all are Run, and some are Part
abbrev pub of_items : List Item → (all : ℕ) → Choice
of_items [] all = Skip
of_items (item ∷ items) all = if length (item ∷ items) == all then Run else Part (item ∷ items)

-- item by item, where inputs and outputs are as many as the items
abbrev pub by_items : View → (inputs outputs : List Path) → List Item → Choice
by_items view inputs outputs items =
    if length inputs == length items && length outputs == length items then of_items
    (old_items view inputs outputs items) (length items)
    else by_pairs view inputs outputs

-- by the items of a target that takes them one by one, or else by every pair
abbrev pub by_shape : View → (inputs outputs : List Path) → Option (List Item) → Choice
by_shape view inputs outputs (Some items) = by_items view inputs outputs items
by_shape view inputs outputs None = by_pairs view inputs outputs

-- a clean build runs all that has something to do
abbrev pub in_mode : Mode → View → (inputs outputs : List Path) → Option (List Item) → Choice
in_mode Clean view inputs outputs items = Run
in_mode Incremental view inputs outputs items = by_shape view inputs outputs items

-- where either list is empty, there is nothing to do
abbrev pub decision : View → (inputs outputs : List Path) → Option (List Item) → Mode → Choice
decision view [] outputs items mode = Nothing
decision view (input ∷ inputs) [] items mode = Nothing
decision view (input ∷ inputs) (output ∷ outputs) items mode = in_mode mode view (input ∷ inputs)
    (output ∷ outputs) items
