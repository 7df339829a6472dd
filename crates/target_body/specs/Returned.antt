-- The items that a bucket of a target returns. (Target element: Returns)
use Rattle.std.specs.Prelude.{ℕ, List, [], Option, Some, None, Result, Ok}
use Rattle.msb_laws.specs.Results.{map_ok}
use Rattle.msb_laws.specs.Words.{Text}
use Rattle.msb_expand.specs.declared.lens.Bucket.{Bucket}
use Rattle.build_world.specs.declared.fault.EvalFault.{EvalFault}
use Rattle.msb_values.specs.declared.item.Item.{Item}
use Rattle.target_texts.specs.Returned.{returned_items, returns_of}
use Rattle.target_body.specs.States.{Run, State, Stopped, or_stop, with_items, context_in}

abbrev pub items_if : Run → Bucket → State → Option Text → Result (List Item) EvalFault
items_if run bucket s None = Ok []
items_if run bucket s (Some written) = returned_items (context_in run s s.scope) bucket
    run.target.element s.items written

-- the items that a bucket returns, after its children
abbrev pub returned : Run → Bucket → State → Result State Stopped
returned run bucket s = map_ok (λ items. with_items items s)
    (or_stop s (items_if run bucket s (returns_of run.target)))
