use Rattle.std.proofs.Common.{map}
use Rattle.msb_laws.proofs.Collecting.{IsFolded}
use Rattle.build_world.specs.Elements.{seen_placed}
use Rattle.msb_items.specs.Items.{itemed_by}
use Rattle.element_texts.specs.Contexts.{after_each, with_scope}
use Rattle.msb_items.specs.Seen.{items_in}
use Rattle.msb_items.proofs.items.take_all.Given as goal

abbrev pub invariant-loop-placed : goal.invariant-loop-placed
invariant-loop-placed g l =
    let context = items_in g.F.Present.files l.source.source l.initial.scope in
    IsFolded (λ s placed. itemed_by (with_scope context s) (seen_placed placed)) l.elements
    l.placed-index l.scope (after_each itemed_by context (map seen_placed l.elements))
