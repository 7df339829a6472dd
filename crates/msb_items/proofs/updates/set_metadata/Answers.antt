use Rattle.msb_items.specs.Items.{with_metadata_written}
use Rattle.element_texts.specs.Seen.{context_of}
use Rattle.msb_items.specs.Seen.{metadata_of}
use Rattle.msb_items.proofs.Turning.{fold-map}
use Rattle.msb_items.proofs.updates.set_metadata.Goals as goal

pub loop-metadata-init : goal.loop-metadata-init
loop-metadata-init g c =
    record {
      is = fold-map
          (with_metadata_written (context_of g.F.Present.files c.args.context.now) c.args.kind.now)
          metadata_of c.args.item.now c.args.written.now;
    }
