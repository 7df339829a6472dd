use Rattle.std.proofs.Common.{◌≡◌, ◌≤◌, take, reverse}
use Rattle.std.specs.List.{count_by}
use Rattle.build_outcome.specs.Counted.{is_end}
use Rattle.build_outcome.proofs.counted.runs_in.Given as goal

abbrev pub invariant-loop-at : goal.invariant-loop-at
invariant-loop-at l = record {
  so_far : l.runs ≡ count_by is_end (take l.at (reverse l.journal));
  few : l.runs ≤ l.at;
}
