use Rattle.std.proofs.Common.{◌++◌}
use Rattle.msb_laws.proofs.Collecting.{IsFolded}
use Rattle.msb_laws.specs.Results.{map_ok}
use Rattle.msb_elements.specs.View.{view}
use Rattle.build_world.specs.Elements.{at, children_of, seen_element}
use Rattle.msb_items.specs.Batched.{child_read, joined_ok}
use Rattle.msb_items.specs.ReadTexts.{exprs_in}
use Rattle.msb_items.proofs.batched.push_children.Given as goal

abbrev pub invariant-loop-child : goal.invariant-loop-child
invariant-loop-child l =
    IsFolded
    (λ s child. map_ok (λ more. s ++ more) (child_read (at l.element.file.now (view child))))
    l.child-items l.child-index (exprs_in l.read.items)
    (map_ok (λ more. exprs_in l.initial.read.items ++ more)
    (joined_ok child_read (children_of (seen_element l.element))))
