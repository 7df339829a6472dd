use Rattle.std.proofs.Common.{map}
use Rattle.msb_laws.proofs.Collecting.{IsFolded}
use Rattle.msb_items.specs.Items.{with_all_metadata, with_metadata_written}
use Rattle.element_texts.specs.Seen.{context_of}
use Rattle.msb_items.specs.Seen.{metadata_of}
use Rattle.msb_items.proofs.updates.set_metadata.Given as goal

abbrev pub invariant-loop-metadata : goal.invariant-loop-metadata
invariant-loop-metadata g l =
    let context = context_of g.F.Present.files l.context in
    IsFolded (λ s metadata. with_metadata_written context l.kind s (metadata_of metadata)) l.written
    l.metadata-index l.item
    (with_all_metadata context l.kind (map metadata_of l.written) l.initial.item)
