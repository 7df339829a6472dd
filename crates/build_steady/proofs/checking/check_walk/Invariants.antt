use Rattle.std.proofs.Common.{◌≡◌, ◌-◌, ◌^◌}
use mathlib.Core.List.{IsPrefix}
use Rattle.build_steady.specs.Held.{IsCheckStep}
use Rattle.build_steady.proofs.checking.check_walk.Given as goal

abbrev pub invariant-loop-check : goal.invariant-loop-check
invariant-loop-check g l =
    let m = g.W.Walker in
    record {
      turn : IsCheckStep m.seen (m.seen l.fn.walk).world l.check
          l.next;
      front : IsPrefix (m.used l.initial.place) (m.used l.place);
      place : m.Fits l.place (m.seen l.fn.walk).world;
      lent : m.lent l.place ≡ m.lent l.initial.place;
    }

abbrev pub decreases-loop-check : goal.decreases-loop-check
decreases-loop-check g l = 2 ^ 62 - l.check.asks
