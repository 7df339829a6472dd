use Rattle.std.proofs.Common.{◌≡◌, ◌++◌, length}
use Rattle.task_kit.specs.Included.{pattern_text}
use denote.Shadow.{shadow}
use denote.Text.{Utf8}
use Rattle.task_kit.proofs.patterns.pattern_text.Given as goal

abbrev pub invariant-loop-part : goal.invariant-loop-part
invariant-loop-part l = record {
  is_text : shadow (Utf8 l.rest);
  so_far : l.whole ++ pattern_text l.rest
      ≡ pattern_text l.fn.text;
}

abbrev pub decreases-loop-part : goal.decreases-loop-part
decreases-loop-part l = length l.rest
