use Rattle.std.proofs.Common.{◌≡◌, ◌++◌, length}
use mathlib.Core.List.{IsPrefix}
use Rattle.build_plain.specs.Driven.{Drives, IsTurn}
use Rattle.build_plain.specs.Used.{UnlessMemory, Uses, due_in}
use Rattle.build_plain.proofs.Turns.{left_of}
use Rattle.build_plain.proofs.alone.work.Given as goal

abbrev pub invariant-loop-turn : goal.invariant-loop-turn
invariant-loop-turn g l =
    let m = g.W.Walker in
    record {
      world : m.world_of l.core.world ≡ m.world_of l.initial.core.world;
      drives : Drives (m.world_of l.initial.core.world) l.initial.core.history.events
          l.core.history.events;
      turn : IsTurn m.seen (m.world_of l.initial.core.world)
          l.core.history.events l.core.table.finished l.core.end l.id l.turn;
      uses : UnlessMemory l.core.end
          ∥ Uses (m.world_of l.initial.core.world) l.initial.core.history.events
          l.core.history.events (m.used l.initial.place
          ++ due_in m.seen (m.world_of l.initial.core.world) l.initial.core.table.finished
          l.initial.turn) (m.used l.place ++ due_in m.seen (m.world_of l.initial.core.world)
          l.core.table.finished l.turn) ∥₁;
      front : IsPrefix (m.used l.initial.place) (m.used l.place);
      place : m.Fits l.place (m.world_of l.initial.core.world);
      lent : m.lent l.place ≡ m.lent l.initial.place;
    }

abbrev pub decreases-loop-turn : goal.decreases-loop-turn
decreases-loop-turn g l = left_of (length l.core.history.events) l.turn
