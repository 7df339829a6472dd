use Rattle.std.proofs.Common.{◌∙◌, ap₂, ap, map}
use Rattle.msb_batching.specs.Buckets.{or_this}
use Rattle.msb_batching.specs.Numbers.{with_batches, lists_from}
use Rattle.msb_batching.specs.Filling.{buckets_by}
use Rattle.msb_batching.specs.Rows.{pairs_of}
use Rattle.msb_batching.proofs.Outcome.{buckets_are}
use Rattle.msb_batching.proofs.batching.bucket_batches.Goals as goal

pub returns : goal.returns
returns c =
    let batches = map pairs_of c.args.batches.items in
    c.in_ok-fill_buckets.ensures
    ∙ ap₂ (buckets_by c.args.references.now)
    (c.deref.ensures.value
    ∙ c.in_ok-spelled.ensures
    ∙ ap₂ or_this c.in_ok-empty_tuple.ensures
    (c.in_ok-lists.ensures.tuples ∙ ap (λ tuples. with_batches tuples batches)
    c.new-tuples.ensures.none))
    (c.in_ok-lists.ensures.numbers ∙ ap (λ tuples. lists_from tuples batches)
    c.new-tuples.ensures.none)
    ∙ buckets_are c.args.references.now batches
