-- No item function takes more than two arguments.
use Rattle.std.proofs.Common.{◌≡◌, refl, [], ◌∷◌, ◌≤◌, length, List, Option, None, Some, Err, rules}
use Rattle.msb_laws.specs.Words.{Text, Name, Path}
use Rattle.msb_values.specs.declared.item.Item.{Item}
use Rattle.msb_expand.specs.declared.faults.ExpandFault.TheVariants.{UnknownFunction}
use Rattle.msb_expand.specs.declared.functions.Function.{Function}
use Rattle.msb_expand.specs.declared.functions.Function.TheVariants.{
  Count,
  Distinct,
  Reverse,
  HasMetadata,
  WithMetadataValue,
  AnyHaveMetadataValue,
  ClearMetadata,
}
use Rattle.msb_expand.specs.Functions.{function_result}

of_three : (project : Path) (name : Name) (function : Option Function) (one two three : Text)
    (more : List Text) (items : List Item) →
    function_result project name function (one ∷ two ∷ three ∷ more) items
    ≡ Err (UnknownFunction name)
of_three project name None one two three more items = refl
of_three project name (Some Count) one two three more items = refl
of_three project name (Some Distinct) one two three more items = refl
of_three project name (Some Reverse) one two three more items = refl
of_three project name (Some HasMetadata) one two three more items = refl
of_three project name (Some WithMetadataValue) one two three more items = refl
of_three project name (Some AnyHaveMetadataValue) one two three more items = refl
of_three project name (Some ClearMetadata) one two three more items = refl

pub too_many : (project : Path) (name : Name) (function : Option Function) (args : List Text)
    (items : List Item) → 3 ≤ length args →
    function_result project name function args items ≡ Err (UnknownFunction name)
too_many project name function [] items long = search rules
too_many project name function (one ∷ []) items long = search rules
too_many project name function (one ∷ two ∷ []) items long = search rules
too_many project name function (one ∷ two ∷ three ∷ more) items long = of_three project name
    function one two three more items
