use Rattle.std.proofs.Common.{◌≡◌, length, map}
use Rattle.build_scheduler.specs.Shown.{Listed, woken_by}
use Rattle.build_scheduler.proofs.result.wake_listed.Given as goal

abbrev pub decreases-loop-number : goal.decreases-loop-number
decreases-loop-number g l = length l.waiting.numbers

abbrev pub invariant-loop-number : goal.invariant-loop-number
invariant-loop-number g l = record {
  listed : Listed l.id l.slots.items l.ready l.waiting.numbers;
  same : map (woken_by l.id) l.slots.items ≡ map (woken_by l.id) l.fn.slots.items;
}
