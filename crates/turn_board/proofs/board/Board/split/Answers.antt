use Rattle.std.proofs.Common.{rules, ap, ◌∙◌}
use Rattle.turn_board.proofs.SplitKeeps.{split_keeps}
use Rattle.turn_board.proofs.board.Board.split.Goals as goal

pub split_seat-requires : goal.split_seat-requires
split_seat-requires g c =
    let home = ap (λ v. v.has_state) c.seat.view_is ∙ c.requires.home in (
      search rules,
      search rules,
      split_keeps g.S.Histories.world g.S.Histories.history _ _ _
          (search rules) home,
    )
