use Rattle.task_msbuild.proofs.AllThere.{all_called_so}
use Rattle.task_msbuild.proofs.calls.all_calls.Goals as goal

pub returns-then-all_there : goal.returns-then-all_there
returns-then-all_there c = all_called_so c.args.tree.now.files c.args.globals.now
    c.args.parameters.now c.in_ok-shared.shared c.in_ok-lists.lists c.as_slice.result.now
    c.look_up-projects.result.now c.calls_of_all.result c.in_ok-shared.ensures
    c.in_ok-lists.ensures c.as_slice.ensures c.look_up-projects.ensures
    (c.requires c.if-all_there.true) c.calls_of_all.ensures
