use Rattle.std.proofs.Common.{rules, ap, ◌∙◌, arith}
use mathlib.Core.Option.{none}
use Rattle.atomic_table.specs.Table.{step}
use Rattle.turn_board.proofs.JoinKeeps.{join_keeps}
use Rattle.turn_board.proofs.LoadKeeps.{load_keeps}
use Rattle.turn_board.proofs.board.Board.join.Goals as goal

pub join_seat-requires : goal.join_seat-requires
join_seat-requires g c =
    let home = ap (λ v. v.has_state) c.seat.view_is ∙ c.requires.home.0 in
    let home' = ap (λ v. v.has_state) c.other.view_is ∙ c.requires.home.1 in (
      search rules,
      search rules,
      c.other.invariant.2 home',
      search rules,
      join_keeps
          g.S.Histories.world g.S.Histories.history _ _ _ _ _ c.seat.invariant.0 home
          c.other.invariant.0 home',
    )

pub load-requires : goal.load-requires
load-requires g c =
    let share = ap (λ m. m.0.share) c.join_seat.ensures.2 in
    let mine = c.seat.invariant.0 in (
      search rules,
      search rules,
      load_keeps g.S.Histories.world g.S.Histories.history _ _ _ _
          (step 0 0 0 0 none) (omega arith),
    )
