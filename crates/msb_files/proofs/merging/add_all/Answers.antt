use Rattle.std.proofs.Common.{◌-◌, drop, ap, ◌∙◌, sym}
use Rattle.result_cache.specs.Journal.{add, merge}
use Rattle.msb_files.proofs.MergeSteps.{merge_more}
use Rattle.msb_files.proofs.merging.add_all.Goals as goal

pub loop-at-preserved : goal.loop-at-preserved
loop-at-preserved c =
    let journal = c.args.journal.now in
    let other = c.args.other.now in
    let n = c.count-count.result in
    let at = c.loop-at.at in
    c.in_ok-add.ensures.ok
    ∙ (ap (λ j. add j c.in_ok-copy.field-0) c.loop-at.invariant
    ∙ (ap (add (merge journal (drop (n - at) other))) c.in_ok-copy.ensures
    ∙ sym
    (merge_more journal other n at c.newest.result.now c.count-count.ensures c.loop-at-test.true
    c.newest.ensures)))
