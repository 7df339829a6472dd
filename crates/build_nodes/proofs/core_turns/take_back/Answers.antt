use Rattle.std.proofs.Math.Logic.{∥∥₁_elim, ∥∥₁_map}
use Rattle.build_scheduler.proofs.HistoryFacts.{some-prop}
use Rattle.build_nodes.proofs.Away.{back-fits, back-out}
use Rattle.build_nodes.proofs.core_turns.take_back.Goals as goal

pub back-requires : goal.back-requires
back-requires g c =
    let m = g.W.Walker in
    let core = c.args.core.now in
    let held = c.args.held in
    record {
      advanced = ∥∥₁_elim c.requires.back (some-prop _)
          (λ b. back-fits m.seen m.earlier (m.world_of core.world) core.history.events
          core.table.finished held.id held.walk held.answer b);
    }

pub retire-requires-clause-out : goal.retire-requires-clause-out
retire-requires-clause-out g c =
    let m = g.W.Walker in
    let core = c.args.core.now in
    let held = c.args.held in
    let e = c.back.ensures in
    ∥∥₁_map c.requires.back (λ b. back-out m.seen m.earlier (m.world_of core.world)
    core.history.events core.table.finished held.id held.walk c.back.new.self held.answer b e.stands
    e.world e.learnt)
