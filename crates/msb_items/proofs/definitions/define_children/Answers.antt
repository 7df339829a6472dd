use Rattle.msb_items.specs.Definitions.{with_definition}
use Rattle.element_texts.specs.Contexts.{with_scope}
use Rattle.msb_items.specs.Seen.{definitions_in}
use Rattle.msb_items.proofs.Turning.{over_children}
use Rattle.msb_items.proofs.definitions.define_children.Goals as goal

pub loop-child-init : goal.loop-child-init
loop-child-init g c =
    let context = definitions_in g.F.Present.files c.args.source.now c.args.scope.now in
    record {
      is = over_children (λ s e. with_definition (with_scope context s) e)
          c.args.element.now.file.now c.args.scope.now _ _ c.children-child-items.ensures;
    }
