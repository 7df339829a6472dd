use Rattle.std.proofs.Common.{rules, ◌*◌, ap, sym, subst, ◌∙◌}
use mathlib.Core.List.{IsPrefix}
use mathlib.Core.Option.{none}
use Rattle.atomic_table.specs.Table.{step}
use Rattle.turn_board.proofs.GiveKeeps.{give_keeps}
use Rattle.turn_board.proofs.board.Board.give.Goals as goal

pub store-requires : goal.store-requires
store-requires g c =
    let out = ap (λ s. s.has_state) c.seat.view_is ∙ c.requires.out in
    let world = ap (λ s. s.world) c.seat.view_is ∙ c.requires.world in
    let continues = subst (λ l. IsPrefix l (g.S.Histories.history c.args.state))
    (sym (ap (λ s. s.seen) c.seat.view_is)) c.requires.continues in (
      search rules,
      search rules,
      give_keeps g.S.Histories.world g.S.Histories.history _ _ _ _ _ _ c.args.state _
          (step 0 0 0 0 none) c.exchange.ensures.3 (c.seat.invariant.1 out) c.seat.invariant.0 out
          world continues (ap (λ n. 2 * n) c.events-word.ensures),
    )
