use Rattle.std.proofs.Common.{map}
use Rattle.msb_laws.proofs.Collecting.{IsFolded}
use Rattle.msb_items.specs.Definitions.{with_default_written, with_defaults_written}
use Rattle.element_texts.specs.Contexts.{with_scope}
use Rattle.msb_items.specs.Seen.{definitions_in, metadata_of}
use Rattle.msb_items.proofs.definitions.set_defaults.Given as goal

abbrev pub invariant-loop-metadata : goal.invariant-loop-metadata
invariant-loop-metadata g l =
    let context = definitions_in g.F.Present.files l.source l.initial.scope in
    IsFolded
    (λ s metadata. with_default_written l.kind (with_scope context s) (metadata_of metadata))
    l.written l.metadata-index l.scope
    (with_defaults_written l.kind context (map metadata_of l.written))
