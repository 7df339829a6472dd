use Rattle.request_machine.proofs.request.Request.ask_first.Goals as goal

pub ask-requires : goal.ask-requires
ask-requires g c = c.in_ok-stage.ensures.stands.between
