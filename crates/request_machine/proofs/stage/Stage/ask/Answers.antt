use Rattle.std.proofs.Common.{◌≡◌, true, sym, subst}
use Rattle.build_scheduler.specs.declared.walker.Ask.TheVariants.{Done, Want}
use Rattle.request_machine.specs.Asks.{AsksAt}
use Rattle.request_machine.specs.Stages.{is_between_runs}
use Rattle.request_machine.proofs.PlacesAnswered.{asks_over, asks_wanted}
use Rattle.request_machine.proofs.stage.Stage.ask.Goals as goal

pub returns-in_ok-copy-in-Visits : goal.returns-in_ok-copy-in-Visits
returns-in_ok-copy-in-Visits g c =
    let runs = c.args.runs.now in
    let v = c.in-Visits.visit in
    subst (λ run. AsksAt runs c.args.self.now (Want run)) (sym c.in_ok-copy-in-Visits.ensures)
    (subst (λ stage. AsksAt runs stage (Want v.run)) (sym c.in-Visits.is)
    (asks_wanted runs v (subst (λ stage. is_between_runs stage ≡ true) c.in-Visits.is c.requires)))

pub returns-in_ok-result-in-Over : goal.returns-in_ok-result-in-Over
returns-in_ok-result-in-Over g c =
    let runs = c.args.runs.now in
    subst (λ told. AsksAt runs c.args.self.now (Done told)) (sym c.in_ok-result-in-Over.ensures)
    (asks_over runs c.in-Over.reply c.args.self.now c.in-Over.is)
