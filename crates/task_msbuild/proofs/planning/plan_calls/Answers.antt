use Rattle.task_msbuild.proofs.AllThere.{all_shown}
use Rattle.task_msbuild.proofs.planning.plan_calls.Goals as goal

pub all_calls-requires : goal.all_calls-requires
all_calls-requires c = λ there. all_shown c.args.tree.now.files c.args.parameters.now
    c.in_ok-notes.notes c.are_all_there-all_there.result c.in_ok-notes.ensures
    c.are_all_there-all_there.ensures there
