use Rattle.std.proofs.Common.{None, Some}
use Rattle.build_scheduler.proofs.Looking.{brought-none, brought-one, on-ok, parent-caller}
use Rattle.build_scheduler.proofs.dependents.Dependents.add_caller.Goals as goal

pub returns-in-None : goal.returns-in-None
returns-in-None c =
    let self = c.args.self.now in
    brought-none c.args.origins.now.items c.args.place c.args.request self.requests.keys
    self.needs.items
    (parent-caller c.args.origins.now.items c.args.request None c.in-None.ensures)

pub returns-in-Some : goal.returns-in-Some
returns-in-Some c =
    let self = c.args.self.now in
    on-ok c.add.result
    (brought-one c.args.origins.now.items c.args.place c.args.request c.in-Some.caller
    self.requests.keys self.needs.items c.add.new.self.requests.keys c.add.new.self.needs.items
    (parent-caller c.args.origins.now.items c.args.request (Some c.in-Some.caller)
    c.in-Some.ensures)) c.add.ensures
