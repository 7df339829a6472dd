use Rattle.std.proofs.Common.{◌++◌, List, Result}
use Rattle.msb_laws.proofs.Collecting.{IsFolded}
use Rattle.msb_laws.specs.Results.{map_ok}
use Rattle.msb_values.specs.declared.change.Change.{Change}
use Rattle.msb_expand.specs.declared.lens.Bucket.{Bucket}
use Rattle.build_world.specs.declared.fault.EvalFault.{EvalFault}
use Rattle.build_world.specs.Elements.{seen_element}
use Rattle.msb_items.specs.Batched.{joined_ok}
use Rattle.element_texts.specs.Contexts.{in_bucket}
use Rattle.element_texts.specs.Seen.{context_of}
use Rattle.msb_items.specs.TargetGroups.{changes_in}
use Rattle.msb_items.proofs.target_groups.bucket_changes.Given as goal

abbrev pub invariant-loop-bucket : goal.invariant-loop-bucket
invariant-loop-bucket g l =
    let changes : Bucket → Result (List Change) EvalFault = λ bucket.
    changes_in l.element.group l.element.name.now
    (in_bucket (context_of g.F.Present.files l.context) bucket) (seen_element l.element.at) in
    IsFolded (λ s bucket. map_ok (λ more. s ++ more) (changes bucket)) l.buckets l.bucket-index
    l.changes (joined_ok changes l.buckets)
