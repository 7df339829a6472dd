use Rattle.std.proofs.Common.{rules, ◌≡◌, ◌%◌, Some, ap, sym, ◌∙◌, ◌∷◌, arith}
use mathlib.Core.Option.{none}
use Rattle.atomic_table.specs.Table.{rest, step}
use Rattle.turn_board.proofs.TakeKeeps.{take_keeps}
use Rattle.turn_board.proofs.board.Board.take.Goals as goal

pub fetch_or-requires : goal.fetch_or-requires
fetch_or-requires g c =
    let home = ap (λ v. v.has_state) c.seat.view_is ∙ c.requires.home in (
      search rules,
      search rules,
      take_keeps g.S.Histories.world g.S.Histories.history _ _ _ _
          (step 0 0 0 0 none) c.seat.invariant.0 home (c.seat.invariant.2 home),
    )

pub exchange-requires : goal.exchange-requires
exchange-requires g c =
    let even : c.fetch_or.result % 2 ≡ 0 = omega arith in
    let t = c.fetch_or.ensures.2.0 even in
    let e = ap (λ m. m.1) t.1 in
    (search rules, (Some t.0, e ∙ ap (λ l. (0, Some t.0) ∷ rest l) (sym e)))
