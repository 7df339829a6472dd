use Rattle.std.proofs.lemmas.Result.{err_from_is_err_and}
use Rattle.std.proofs.Common.{map}
use Rattle.msb_expand.specs.Seen.{seen_item}
use Rattle.msb_expand.specs.Values.{joined}
use Rattle.msb_expand.proofs.Turns.{passed_on}
use Rattle.msb_expand.proofs.Uncut.{joined_too_long}
use Rattle.msb_expand.proofs.whole.Whole.push_joined.Goals as goal

pub returns-in_err-push_joined : goal.returns-in_err-push_joined
returns-in_err-push_joined c =
    let p = err_from_is_err_and c.from_residual-in_err-push_joined.result
    c.from_residual-in_err-push_joined.ensures.1 in
    rw (p.1, p.2)
    (passed_on _ _ _
    (λ f is. joined_too_long c.args.self.now c.in_ok-text.text
    (joined c.args.separator.now (map seen_item c.args.items.now)) f c.in_ok-text.ensures is)
    c.in_err-push_joined.ensures)
