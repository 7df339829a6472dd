-- The items that a target returns. (Target element: Returns, Outputs, KeepDuplicateOutputs)
use Rattle.std.specs.Prelude.{List, [], Bool, true, false, Option, Some, None, Result, Ok, codes}
use Rattle.msb_laws.specs.Words.{Text}
use Rattle.msb_laws.specs.Results.{and_then, map_ok}
use Rattle.msb_values.specs.Escapes.{unescaped}
use Rattle.msb_values.specs.declared.item.Item.{Item}
use Rattle.msb_expand.specs.declared.lens.Bucket.{Bucket}
use Rattle.build_world.specs.Elements.{At, attribute_of, or_fault}
use Rattle.build_world.specs.Instances.{UsedTarget}
use Rattle.build_world.specs.declared.fault.EvalFault.{EvalFault}
use Rattle.element_texts.specs.Contexts.{ElementContext, in_bucket, list_at, text_at}
use Rattle.msb_items.specs.Repeats.{without_repeats}
use Rattle.msb_items.specs.Truths.{truth_or}

-- Returns, or where no Target element of the file has one, Outputs
abbrev pub returns_by : Bool → Option Text → Option Text → Option Text
returns_by file_has_returns (Some returns) outputs = Some returns
returns_by true None outputs = None
returns_by false None outputs = outputs

abbrev pub returns_of : UsedTarget → Option Text
returns_of target = returns_by target.file_has_returns
    (attribute_of (codes "Returns") target.element) (attribute_of (codes "Outputs") target.element)

-- whether an item is returned again
abbrev pub keeps_if : ElementContext → At → Option Text → Result Bool EvalFault
keeps_if p e None = Ok false
keeps_if p e (Some written) = and_then (text_at p e written)
    (λ text. or_fault e (truth_or false (unescaped text)))

abbrev pub keeps_repeats : ElementContext → At → Result Bool EvalFault
keeps_repeats p e = keeps_if p e (attribute_of (codes "KeepDuplicateOutputs") e)

-- else one of equal identity and metadata is left out
abbrev pub less_repeats : Bool → List Item → List Item → List Item
less_repeats true there items = items
less_repeats false there items = without_repeats [] there items

-- a text of the target in a bucket, of whose lists the scope has what the children have left
abbrev pub without_lists : Bucket → Bucket
without_lists bucket = record bucket { lists = [] }

abbrev pub in_target : ElementContext → Bucket → ElementContext
in_target p bucket = in_bucket p (without_lists bucket)

abbrev pub listed_items : ElementContext → At → (keeps : Bool) → (there : List Item) → Text
    → Result (List Item) EvalFault
listed_items p e keeps there written = map_ok (less_repeats keeps there) (list_at p e written)

abbrev pub returned_items : ElementContext → Bucket → At → (there : List Item) → Text
    → Result (List Item) EvalFault
returned_items p bucket e there written = and_then (keeps_repeats p e)
    (λ keeps. listed_items (in_target p bucket) e keeps there written)
