use Rattle.build_world.specs.Elements.{seen_placed}
use Rattle.msb_items.specs.Items.{itemed_by}
use Rattle.element_texts.specs.Contexts.{with_scope}
use Rattle.msb_items.specs.Seen.{items_in}
use Rattle.msb_items.proofs.Turning.{fold-map}
use Rattle.msb_items.proofs.items.take_all.Goals as goal

pub loop-placed-init : goal.loop-placed-init
loop-placed-init g c =
    let context = items_in g.F.Present.files c.args.source.now.source c.args.scope.now in
    record {
      is = fold-map (λ s e. itemed_by (with_scope context s) e) seen_placed c.args.scope.now
          c.args.elements.now;
    }
