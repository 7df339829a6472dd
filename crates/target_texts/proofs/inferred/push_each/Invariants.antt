use Rattle.std.proofs.Common.{drop}
use Rattle.build_world.specs.Elements.{seen_element}
use Rattle.msb_expand.specs.declared.lens.Bucket.{Bucket}
use Rattle.element_texts.specs.Contexts.{in_bucket}
use Rattle.target_texts.specs.Inferred.{inference}
use Rattle.target_texts.specs.Made.{Made, up_to_fault}
use Rattle.target_texts.specs.Seen.{seen_context}
use Rattle.target_texts.proofs.Pushing.{IsPushed}
use Rattle.target_texts.proofs.inferred.push_each.Given as goal

abbrev pub invariant-loop-bucket : goal.invariant-loop-bucket
invariant-loop-bucket l =
    let of : Bucket
    → Made = λ bucket. inference (in_bucket (seen_context l.task.context) bucket)
    (seen_element l.task.element) l.task.task.now in
    IsPushed of (drop l.bucket-index l.buckets) l.initial.changes l.changes
    (up_to_fault of l.buckets)
