use Rattle.std.proofs.Common.{◌++◌}
use Rattle.msb_laws.proofs.Collecting.{IsFolded}
use Rattle.msb_laws.specs.Results.{map_ok}
use Rattle.build_world.specs.Elements.{seen_element}
use Rattle.msb_items.specs.Batched.{joined_ok}
use Rattle.target_texts.specs.Parameters.{param_of}
use Rattle.target_texts.specs.Seen.{seen_context}
use Rattle.target_texts.proofs.parameters.params_of.Given as goal

abbrev pub invariant-loop-attribute : goal.invariant-loop-attribute
invariant-loop-attribute l =
    IsFolded
    (λ s pair. map_ok (λ more. s ++ more)
    (param_of (seen_context l.fn.task.context) (seen_element l.fn.task.element) l.fn.task.task.now
    pair)) l.attributes l.attribute-index l.params
    (joined_ok
    (param_of (seen_context l.fn.task.context) (seen_element l.fn.task.element) l.fn.task.task.now)
    l.attributes)
