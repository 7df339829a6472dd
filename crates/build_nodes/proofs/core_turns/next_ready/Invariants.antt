use Rattle.std.proofs.Common.{◌≡◌, ◌-◌, ◌^◌, false, length, None}
use mathlib.Core.List.{IsPrefix}
use Rattle.build_scheduler.specs.Ready.{IsSomeReady}
use Rattle.build_nodes.specs.Leaving.{has_left}
use Rattle.build_nodes.specs.Marked.{marked}
use Rattle.build_nodes.proofs.core_turns.next_ready.Given as goal

abbrev pub invariant-loop-next : goal.invariant-loop-next
invariant-loop-next g l =
    let m = g.W.Walker in
    let first = l.fn.core in
    record {
      world : m.world_of l.core.world ≡ m.world_of first.world;
      running : l.core.end ≡ None;
      active : has_left l.node (marked l.core.history.events l.core.end) ≡ false;
      continues : IsPrefix (marked first.history.events first.end)
          (marked l.core.history.events l.core.end);
      nodes : l.core.history.nodes ≡ first.history.nodes;
      ready : IsSomeReady (m.world_of l.core.world) l.core.history.events l.next;
    }

abbrev pub decreases-loop-next : goal.decreases-loop-next
decreases-loop-next g l = 2 ^ 63 - length l.core.history.events
