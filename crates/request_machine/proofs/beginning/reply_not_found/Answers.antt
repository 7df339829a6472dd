use Rattle.std.proofs.Common.{ap, ◌∙◌}
use Rattle.request_machine.specs.Requests.{unevaluated}
use Rattle.request_machine.specs.declared.stage.Stage.TheVariants.{Over}
use Rattle.request_machine.proofs.beginning.reply_not_found.Goals as goal

pub returns-clause-reply : goal.returns-clause-reply
returns-clause-reply g c =
    ap Over (c.of_fault.ensures ∙ ap unevaluated c.in_ok-text.ensures)
