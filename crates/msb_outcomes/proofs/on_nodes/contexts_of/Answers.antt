use Rattle.std.proofs.Common.{All, refl, rules, subst, sym}
use Rattle.std.proofs.lemmas.List.Elements.{All-push}
use Rattle.msb_instance.specs.Kept.{AreEvaluated}
use Rattle.request_machine.specs.NodeContexts.{Suits}
use Rattle.request_machine.specs.Worlds.{world_of}
use Rattle.msb_outcomes.proofs.on_nodes.contexts_of.Goals as goal

pub loop-lent-preserved : goal.loop-lent-preserved
loop-lent-preserved g c =
    let answer = g.T.CountedTools.answer in
    let world = c.args.world.now in
    record {
      count = search rules;
      kept = subst (AreEvaluated world.tree.files) (sym c.beside.ensures.kept)
          c.loop-lent.invariant.kept;
      suit = subst (All (λ context. Suits answer context.world.now context.instances
          (world_of answer world))) (sym c.in_ok-push.ensures.items)
          (All-push
          (λ context. Suits answer context.world.now context.instances (world_of answer world))
          c.loop-lent.contexts.items _ c.loop-lent.invariant.suit
          (refl, c.in_ok-instances.ensures.other));
    }
