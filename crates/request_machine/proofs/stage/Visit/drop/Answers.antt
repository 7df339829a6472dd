use Rattle.request_machine.proofs.stage.Visit.drop.Goals as goal

pub invariant_of-self : goal.invariant_of-self
invariant_of-self g c =
    let self = c.args.self in
    record { asks_body = self.asks_body; own_body = self.own_body }
