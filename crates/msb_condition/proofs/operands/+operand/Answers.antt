use Rattle.std.proofs.Common.{◌≡◌, [], ◌∷◌, sym, subst, ◌-◌, take, drop}
use Rattle.std.specs.Prelude.{IfOk}
use Rattle.msb_expression.specs.declared.expression.Part.TheVariants.{Plain}
use Rattle.msb_condition.specs.Grammar.{of_parts}
use Rattle.msb_condition.specs.Leads.{Leads, step_at, step_on}
use Rattle.msb_condition.specs.Machine.{end_operand}
use Rattle.msb_condition.specs.Reading.{IsRefused}
use Rattle.msb_condition.specs.View.{operand_of}
use Rattle.msb_condition.proofs.MachineLaws.{plain_word, quoted_step, unended_step}
use Rattle.msb_condition.proofs.operands.+operand.Goals as goal

pub operand_of-returns-in-Quoted-clause-leads : goal.operand_of-returns-in-Quoted-clause-leads
operand_of-returns-in-Quoted-clause-leads t c = λ frames room.
    subst
    (λ next. Leads c.args.text.now c.expression.result
    (step_at c.args.text.now next c.args.token.end)
    (λ left tokens. step_on c.args.text.now (end_operand frames (operand_of left)) tokens))
    (sym
    (quoted_step c.args.text.now frames c.args.token.kind c.args.token.start c.args.token.end
    c.in-Quoted.is c.requires.1.1.1.1 c.requires.1.1.0))
    (c.expression.ensures.leads frames)

pub operand_of-returns-in-Unended-clause-leads : goal.operand_of-returns-in-Unended-clause-leads
operand_of-returns-in-Unended-clause-leads t c = λ frames room.
    subst (λ next. IsRefused c.unended_fault.result (step_at c.args.text.now next c.args.token.end))
    (sym
    (unended_step c.args.text.now frames c.args.token.kind c.args.token.start c.args.token.end
    c.in-Unended.is c.requires.1.1.1.1))
    (c.unended_fault.ensures c.args.token.end)

pub function_at-returns-in-None-clause-leads : goal.function_at-returns-in-None-clause-leads
function_at-returns-in-None-clause-leads t c = λ frames room.
    plain_word c.args.text.now c.args.token.end frames c.args.function
    (take (c.args.token.end - c.args.token.start) (drop c.args.token.start c.args.text.now))
    c.plain.result c.in-None.ensures.none
    (subst (λ word. IfOk c.plain.result (λ found. operand_of found.0 ≡ of_parts (Plain word ∷ [])))
    c.range.ensures.value c.plain.ensures.word) c.plain.ensures.end c.plain.ensures.memory
