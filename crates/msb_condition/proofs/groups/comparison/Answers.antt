use Rattle.std.proofs.Common.{sym, ap, ◌∙◌}
use Rattle.msb_condition.specs.Leads.{step_on}
use Rattle.msb_condition.specs.Machine.{end_unary}
use Rattle.msb_condition.specs.Places.{tokens_at, token_in}
use Rattle.msb_condition.specs.View.{operand_of}
use Rattle.msb_condition.proofs.MachineLaws.{truth_at, truth_at_end}
use Rattle.msb_condition.proofs.TreeLaws.{truth_tree}
use Rattle.msb_condition.proofs.groups.comparison.Goals as goal

pub returns-in-None-clause-leads : goal.returns-in-None-clause-leads
returns-in-None-clause-leads c = λ frames room w.
    truth_at_end c.args.text.now c.args.at frames (operand_of c.args.left) c.in-None.ensures.next w
    ∙ ap
    (λ tree. step_on c.args.text.now (end_unary frames tree)
    (tokens_at c.args.at c.args.text.now)) (sym (truth_tree c.args.left))

pub returns-in_default-clause-leads : goal.returns-in_default-clause-leads
returns-in_default-clause-leads c = λ frames room w.
    truth_at c.args.text.now c.args.at (token_in c.args.text.now c.in-Some.token)
    c.in-Some.token.end frames (operand_of c.args.left) c.in-Some.ensures.next w
    c.in_default.not-Compare c.in_default.not-Equals c.in_default.not-Bang
    ∙ ap
    (λ tree. step_on c.args.text.now (end_unary frames tree)
    (tokens_at c.args.at c.args.text.now)) (sym (truth_tree c.args.left))
