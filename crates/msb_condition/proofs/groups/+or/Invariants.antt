use Rattle.std.proofs.Common.{◌≡◌, ◌+◌, ◌*◌, ◌-◌, ◌≤◌, List, length, map, true, false}
use Rattle.std.specs.List.{fold}
use Rattle.msb_condition.specs.Leads.{HasRoom, run_at, takes_or, takes_and, starts_and}
use Rattle.msb_condition.specs.Machine.{Frame, done}
use Rattle.msb_condition.specs.Places.{tokens_at}
use Rattle.msb_condition.specs.Trees.{Tree, either, both}
use Rattle.msb_condition.specs.View.{tree_of}
use Rattle.msb_condition.proofs.groups.+or.Given as goal

abbrev pub decreases-or : goal.decreases-or
decreases-or l = 6 * l.room + 5

abbrev pub decreases-more_or : goal.decreases-more_or
decreases-more_or l = 6 * l.room + 4

abbrev pub decreases-and : goal.decreases-and
decreases-and l = 6 * l.room + 3

abbrev pub decreases-more_and : goal.decreases-more_and
decreases-more_and l = 6 * l.room + 2

abbrev pub decreases-unary : goal.decreases-unary
decreases-unary l = 6 * l.room + 1

abbrev pub decreases-negation : goal.decreases-negation
decreases-negation l = 6 * l.room + 0

abbrev pub decreases-group : goal.decreases-group
decreases-group l = 6 * l.room + 0

abbrev pub invariant-more_or-loop-next : goal.invariant-more_or-loop-next
invariant-more_or-loop-next l = record {
  after : l.at ≤ l.end;
  within : l.end ≤ length l.text;
  no_and : starts_and (tokens_at l.end l.text) ≡ false;
  runs : (frames : List Frame) (left : Tree) → HasRoom frames l.room → takes_or frames ≡ true
      → run_at l.text l.at frames (done left)
      ≡ run_at l.text l.end frames (done (fold either left (map tree_of l.others.items)));
}

abbrev pub decreases-more_or-loop-next : goal.decreases-more_or-loop-next
decreases-more_or-loop-next l = length l.text - l.end

abbrev pub invariant-more_and-loop-next : goal.invariant-more_and-loop-next
invariant-more_and-loop-next l = record {
  after : l.at ≤ l.end;
  within : l.end ≤ length l.text;
  runs : (frames : List Frame) (left : Tree) → HasRoom frames l.room → takes_and frames ≡ true
      → run_at l.text l.at frames (done left)
      ≡ run_at l.text l.end frames (done (fold both left (map tree_of l.others.items)));
}

abbrev pub decreases-more_and-loop-next : goal.decreases-more_and-loop-next
decreases-more_and-loop-next l = length l.text - l.end
