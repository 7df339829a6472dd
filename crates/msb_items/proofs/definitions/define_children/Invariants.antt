use Rattle.msb_laws.proofs.Collecting.{IsFolded}
use Rattle.msb_elements.specs.View.{view}
use Rattle.build_world.specs.Elements.{at, children_of, seen_element}
use Rattle.msb_items.specs.Definitions.{with_definition}
use Rattle.element_texts.specs.Contexts.{after_each, with_scope}
use Rattle.msb_items.specs.Seen.{definitions_in}
use Rattle.msb_items.proofs.definitions.define_children.Given as goal

abbrev pub invariant-loop-child : goal.invariant-loop-child
invariant-loop-child g l =
    let context = definitions_in g.F.Present.files l.source l.initial.scope in
    IsFolded
    (λ s child. with_definition (with_scope context s) (at l.element.file.now (view child)))
    l.child-items l.child-index l.scope
    (after_each with_definition context (children_of (seen_element l.element)))
