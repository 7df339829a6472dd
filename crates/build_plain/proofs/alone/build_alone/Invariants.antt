use Rattle.std.proofs.Common.{◌≡◌, ◌-◌, ◌^◌, length}
use mathlib.Core.List.{IsPrefix}
use Rattle.build_meaning.specs.History.{retires}
use Rattle.build_plain.specs.Driven.{Drives, IsFree}
use Rattle.build_plain.specs.Used.{UnlessMemory, Uses}
use Rattle.build_plain.proofs.alone.build_alone.Given as goal

abbrev pub invariant-loop-core : goal.invariant-loop-core
invariant-loop-core g l =
    let m = g.W.Walker in
    record {
      world : m.world_of l.core.world ≡ m.world_of l.initial.core.world;
      drives : Drives (m.world_of l.initial.core.world) l.initial.core.history.events
          l.core.history.events;
      free : IsFree (m.world_of l.initial.core.world) l.core.history.events l.core.end;
      uses : retires l.initial.core.history.events ≡ 0
          → UnlessMemory l.core.end
          ∥ Uses (m.world_of l.initial.core.world) l.initial.core.history.events
          l.core.history.events (m.used l.initial.place) (m.used l.place) ∥₁;
      front : IsPrefix (m.used l.initial.place) (m.used l.place);
      place : m.Fits l.place (m.world_of l.initial.core.world);
      lent : m.lent l.place ≡ m.lent l.initial.place;
    }

abbrev pub decreases-loop-core : goal.decreases-loop-core
decreases-loop-core g l = 2 ^ 63 - length l.core.history.events
