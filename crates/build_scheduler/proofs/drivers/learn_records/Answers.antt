use Rattle.std.proofs.Common.{subst, sym}
use Rattle.build_scheduler.specs.Drivers.{AreAlike}
use Rattle.build_scheduler.proofs.NoRecords.{first-alike, go-alike}
use Rattle.build_scheduler.proofs.drivers.learn_records.Goals as goal

pub returns-in-First-clause-learns : goal.returns-in-First-clause-learns
returns-in-First-clause-learns g c =
    let m = g.W.Walker in
    let walk = c.args.walk.now in
    let w = (m.seen walk).world in
    let these = (m.seen walk).learnt in
    let those = c.args.table.now.finished in
    let p = (m.seen walk).position in
    subst (λ answer. AreAlike w these those p answer) (sym c.in-First.is)
    (first-alike w these those p)

pub returns-in-Go-clause-learns : goal.returns-in-Go-clause-learns
returns-in-Go-clause-learns g c =
    let m = g.W.Walker in
    let walk = c.args.walk.now in
    let w = (m.seen walk).world in
    let these = (m.seen walk).learnt in
    let those = c.args.table.now.finished in
    let p = (m.seen walk).position in
    subst (λ answer. AreAlike w these those p answer) (sym c.in-Go.is) (go-alike w these those p)
