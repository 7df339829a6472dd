use Rattle.std.proofs.Common.{ℕ, List, Bor, ◌∙◌}
use Rattle.msb_functions.proofs.Replacing.{replaced_is}
use Rattle.msb_functions.proofs.text_calls.replace_all.Goals as goal

pub returns : goal.returns
returns c =
    let now : Bor (List ℕ) → List ℕ = λ q. q.now in
    let found = c.in_ok-replace.ensures.ok in
    c.from.ensures ∙ replaced_is now c.args.to.now found.0 c.args.from c.args.text.now _ c.requires
    found.1
