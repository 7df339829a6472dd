use Rattle.msb_items.specs.Definitions.{with_default_written}
use Rattle.element_texts.specs.Contexts.{with_scope}
use Rattle.msb_items.specs.Seen.{definitions_in, metadata_of}
use Rattle.msb_items.proofs.Turning.{fold-map}
use Rattle.msb_items.proofs.definitions.set_defaults.Goals as goal

pub loop-metadata-init : goal.loop-metadata-init
loop-metadata-init g c =
    let context = definitions_in g.F.Present.files c.args.source.now c.args.scope.now in
    record {
      is = fold-map (λ s m. with_default_written c.args.kind.now (with_scope context s) m)
          metadata_of c.args.scope.now c.args.written.now;
    }
