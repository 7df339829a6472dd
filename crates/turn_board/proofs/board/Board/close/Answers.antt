use Rattle.std.proofs.Common.{ap, sym, ◌∙◌}
use mathlib.Core.Option.{some-injective}
use Rattle.turn_board.proofs.OpenClose.{close_finds, close_gives}
use Rattle.turn_board.proofs.board.Board.close.Goals as goal

pub unreachable-requires : goal.unreachable-requires
unreachable-requires g c =
    let whole = ap (λ s. s.share) c.seat.view_is ∙ c.requires.whole in
    let home = ap (λ s. s.has_state) c.seat.view_is ∙ c.requires.home in
    let t = close_finds g.S.Histories.world g.S.Histories.history _ _ _ _ _ whole home
    c.close_with-closed.ensures.values.2 in
    let slot = some-injective _ _ (sym c.take-slot.ensures.value ∙ t.1) in
    cc (slot, c.in-None.is)

pub returns-clause-world : goal.returns-clause-world
returns-clause-world g c =
    let whole = ap (λ s. s.share) c.seat.view_is ∙ c.requires.whole in
    let home = ap (λ s. s.has_state) c.seat.view_is ∙ c.requires.home in
    let t = close_finds g.S.Histories.world g.S.Histories.history _ _ _ _ _ whole home
    c.close_with-closed.ensures.values.2 in
    sym (ap (λ s. s.world) c.seat.view_is)
    ∙ (close_gives g.S.Histories.world g.S.Histories.history c.seat.inside.place.me.0 _ _ _ t
    c.take-slot.ensures.value c.in-Some.is).0

pub returns-clause-history : goal.returns-clause-history
returns-clause-history g c =
    let whole = ap (λ s. s.share) c.seat.view_is ∙ c.requires.whole in
    let home = ap (λ s. s.has_state) c.seat.view_is ∙ c.requires.home in
    let t = close_finds g.S.Histories.world g.S.Histories.history _ _ _ _ _ whole home
    c.close_with-closed.ensures.values.2 in
    sym (sym (ap (λ s. s.seen) c.seat.view_is)
    ∙ (close_gives g.S.Histories.world g.S.Histories.history c.seat.inside.place.me.0 _ _ _ t
    c.take-slot.ensures.value c.in-Some.is).1)
