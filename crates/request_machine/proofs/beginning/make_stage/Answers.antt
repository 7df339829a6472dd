use Rattle.request_machine.proofs.Starting.{wants_stands}
use Rattle.request_machine.proofs.beginning.make_stage.Goals as goal

pub returns-in_ok-copy-in-Wants : goal.returns-in_ok-copy-in-Wants
returns-in_ok-copy-in-Wants g c =
    let e = c.want_run.ensures in
    wants_stands c.args.key.now c.want_run.result c.args.instance c.args.state c.args.order
    (record { instance = c.in_ok-copy-in-Wants.field-0; target = c.in-Wants.target })
    c.args.next_stop e.instance e.state e.order e.run e.at c.in-Wants.is
    c.in_ok-copy-in-Wants.ensures
