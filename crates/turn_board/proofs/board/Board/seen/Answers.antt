use Rattle.std.proofs.Common.{rules}
use mathlib.Core.Option.{none}
use Rattle.atomic_table.specs.Table.{step}
use Rattle.turn_board.proofs.LoadKeeps.{load_keeps}
use Rattle.turn_board.proofs.board.Board.seen.Goals as goal

pub load-requires : goal.load-requires
load-requires g c = (
  search rules,
  search rules,
  load_keeps g.S.Histories.world g.S.Histories.history _ _ _ _
      (step 0 0 0 0 none) c.seat.invariant.0,
)
