use Rattle.build_scheduler.proofs.Looking.{number-added, number-there}
use Rattle.build_scheduler.proofs.dependents.Dependents.add.Goals as goal

pub returns-in_ok-push : goal.returns-in_ok-push
returns-in_ok-push c =
    let self = c.args.self.now in
    number-added self.requests.keys c.insert.new.self.keys self.needs.items c.push.new.self.items
    c.args.request c.args.place c.in_ok-insert.field-0 c.in_ok-insert.ensures.added
    c.in_ok-insert.ensures.keys c.if-branch.true c.in_ok-push.ensures.items

pub returns-else-branch : goal.returns-else-branch
returns-else-branch c =
    let self = c.args.self.now in
    number-there self.requests.keys c.insert.new.self.keys self.needs.items c.args.request
    c.args.place c.in_ok-insert.field-0 c.in_ok-insert.ensures.added c.in_ok-insert.ensures.keys
    c.if-branch.false
