use Rattle.request_machine.proofs.request.Request.drop.Goals as goal

pub invariant_of-self : goal.invariant_of-self
invariant_of-self g c =
    let self = c.args.self in
    record { own_run = self.own_run; known = self.known }
