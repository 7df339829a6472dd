use Rattle.std.proofs.Common.{◌≡◌, ◌*◌, ◌∷◌, ◌++◌, [], Some, ap, sym, ◌∙◌, length}
use Rattle.turn_board.proofs.OpenClose.{open_keeps}
use Rattle.turn_board.proofs.board.Board.open.Goals as goal

pub new-requires : goal.new-requires
new-requires g c =
    let first = c.of-first.result.value in
    let same = c.of-first.ensures in
    let events : c.events-word.result ≡ length (g.S.Histories.history first) = c.events-word.ensures
    ∙ ap (λ s. length (g.S.Histories.history s)) (sym same) in
    let slots : c.push_reserved.new.self.items ≡ Some first ∷ [] = c.push_reserved.ensures.items
    ∙ (ap (λ l. l ++ Some c.args.state ∷ []) c.in-Ok.ensures.items
    ∙ ap (λ s. Some s ∷ []) (sym same)) in
    open_keeps g.S.Histories.world g.S.Histories.history first _ _ (ap (λ n. (2 * n) ∷ []) events)
    slots
