use denote.Exit.{no}
use denote.Param.Send.{arg_send, param_send}
use Rattle.task_trait.proofs.tools.Counted.TheSendSync as counted
use Rattle.engine_tests.proofs.refusing.build_on.Goals as goal

pub build_at-requires-send-T : goal.build_at-requires-send-T
build_at-requires-send-T g c κs within = param_send _ _
    (arg_send _ no _ (counted.the_send _ _ c.type_bounds.sync-T))
