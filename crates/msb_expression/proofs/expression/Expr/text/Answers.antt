use Rattle.std.proofs.Common.{◌≡◌, rules, subst, sym}
use Rattle.msb_expression.specs.Grammar.{IsReading}
use Rattle.msb_expression.specs.Written.{text_of}
use Rattle.msb_expression.proofs.WrittenReads.{text_again}
use Rattle.msb_expression.proofs.expression.Expr.text.Goals as goal

pub returns-clause-again : goal.returns-clause-again
returns-clause-again c = λ text r.
    let e : c.push_parts.new.word ≡ text_of c.args.self.now.parts = search rules in
    subst (λ word. IsReading word c.args.self.now.parts) (sym e)
    (text_again text c.args.self.now.parts r)
