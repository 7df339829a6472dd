use Rattle.std.proofs.Common.{◌≡◌, All, vec_len}
use Rattle.msb_instance.specs.Kept.{AreEvaluated}
use Rattle.request_machine.specs.NodeContexts.{Suits}
use Rattle.request_machine.specs.Worlds.{world_of}
use Rattle.msb_outcomes.proofs.on_nodes.contexts_of.Given as goal

abbrev pub invariant-loop-lent : goal.invariant-loop-lent
invariant-loop-lent g l =
    let answer = g.T.CountedTools.answer in
    record {
      count : vec_len l.contexts ≡ l.lent-index;
      kept : AreEvaluated l.fn.world.tree.files l.shared;
      suit : All (λ context. Suits answer context.world.now context.instances
          (world_of answer l.fn.world)) l.contexts.items;
    }
