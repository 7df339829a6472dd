use Rattle.std.proofs.Common.{◌≡◌, ◌++◌, drop}
use Rattle.task_kit.specs.Lines.{lines_of}
use Rattle.task_kit.proofs.lines.push_lines.Given as goal

abbrev pub invariant-loop-line : goal.invariant-loop-line
invariant-loop-line l = l.bytes ++ lines_of (drop l.line-index l.lines)
    ≡ l.initial.bytes ++ lines_of l.lines
