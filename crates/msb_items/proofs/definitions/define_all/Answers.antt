use Rattle.build_world.specs.Elements.{seen_placed}
use Rattle.msb_items.specs.Definitions.{defined_by}
use Rattle.element_texts.specs.Contexts.{with_scope}
use Rattle.msb_items.specs.Seen.{definitions_in}
use Rattle.msb_items.proofs.Turning.{fold-map}
use Rattle.msb_items.proofs.definitions.define_all.Goals as goal

pub loop-placed-init : goal.loop-placed-init
loop-placed-init g c =
    let context = definitions_in g.F.Present.files c.args.source.now c.args.scope.now in
    record {
      is = fold-map (λ s e. defined_by (with_scope context s) e) seen_placed c.args.scope.now
          c.args.elements.now;
    }
