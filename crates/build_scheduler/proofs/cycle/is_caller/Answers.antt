use Rattle.std.proofs.Common.{None, Some, refl}
use Rattle.std.proofs.lemmas.Bool.{eq-eqb}
use Rattle.build_meaning.specs.Lists.{at}
use Rattle.build_meaning.proofs.EventsKeepLawful.{some-is}
use Rattle.build_meaning.proofs.ParentsAndChildren.{none_some}
use Rattle.build_scheduler.proofs.FreeCalls.{one-caller}
use Rattle.build_scheduler.proofs.cycle.is_caller.Goals as goal

pub returns-in-Some : goal.returns-in-Some
returns-in-Some c h =
    let origin = at c.args.origins.now.items c.args.id in
    eq-eqb c.in-Some.caller c.args.by (some-is c.in-Some.caller c.args.by
    (one-caller origin (Some c.in-Some.caller) (Some c.args.by) c.in-Some.ensures h))

pub returns-in-None : goal.returns-in-None
returns-in-None c h =
    let origin = at c.args.origins.now.items c.args.id in
    none_some (Some c.args.by) c.args.by refl
    (one-caller origin (Some c.args.by) None h c.in-None.ensures)
