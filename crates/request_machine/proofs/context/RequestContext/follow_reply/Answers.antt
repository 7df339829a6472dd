use Rattle.std.proofs.Common.{ap, ◌∙◌, subst}
use Rattle.target_order.specs.Answers.{fits}
use Rattle.request_machine.specs.OrderSteps.{FitsBody}
use Rattle.request_machine.proofs.context.RequestContext.follow_reply.Goals as goal

pub answer_order-requires : goal.answer_order-requires
answer_order-requires c = ap (λ asked. fits asked c.in-Answer.answer) c.requires.asked
    ∙ subst FitsBody c.in-Answer.is c.requires.fits
