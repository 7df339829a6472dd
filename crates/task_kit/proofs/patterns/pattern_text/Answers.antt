use Rattle.std.proofs.Common.{rules}
use Rattle.task_kit.proofs.Percents.{goes_on}
use Rattle.task_kit.proofs.patterns.pattern_text.Goals as goal

pub loop-part-preserved : goal.loop-part-preserved
loop-part-preserved c = record {
  is_text = search rules;
  so_far = goes_on c.loop-part.whole _ _ c.in-Some.part.now _ _ _ c.in_ok-push_str.ensures.ok
      c.in_ok-push_str-2.ensures.ok c.in-Some.ensures.cut c.loop-part.invariant.so_far;
}
