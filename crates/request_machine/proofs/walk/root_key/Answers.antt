use Rattle.std.proofs.Common.{not, ap, ◌∙◌}
use Rattle.request_machine.proofs.WalksAnswered.{root_is, some_named}
use Rattle.request_machine.proofs.walk.root_key.Goals as goal

pub returns : goal.returns
returns c =
    root_is c.args.world.now c.in_ok-path.path c.in_ok-globals.globals c.in_ok-targets.targets
    (not c.is_empty.result) c.in_ok-path.ensures c.in_ok-globals.ensures c.in_ok-targets.ensures
    (ap not c.is_empty.ensures ∙ some_named c.args.world.now.targets)
