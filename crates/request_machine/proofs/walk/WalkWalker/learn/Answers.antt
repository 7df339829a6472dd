use Rattle.std.proofs.Common.{IfSome, refl, sym, ap, subst, ◌∙◌}
use Rattle.result_cache.specs.Table.{TableRuns}
use Rattle.build_scheduler.specs.Learnt.{ArePartOf}
use Rattle.build_scheduler.specs.Position.{answered}
use Rattle.request_machine.specs.Replayed.{IsReplayed}
use Rattle.request_machine.specs.WalkPosition.{request_position}
use Rattle.request_machine.specs.Worlds.{world_of}
use Rattle.request_machine.proofs.ReplayedBefore.{replayed-more}
use Rattle.request_machine.proofs.walk.WalkWalker.learn.Goals as goal

pub invariant_of-self : goal.invariant_of-self
invariant_of-self g c =
    let walk = c.args.self.now in
    let journal = walk.request.journal in
    record {
      begun = walk.begun;
      fits = walk.fits;
      known = subst (λ records. ∥ IfSome walk.replayed (IsReplayed records journal) ∥₁)
          (sym (ap (λ (t : TableRuns). t.finished) c.replace.ensures.after
          ∙ c.in_ok-learnt.ensures.finished))
          (replayed-more walk.learnt.finished c.args.table.now.finished c.requires.in_order
          c.requires.known journal walk.replayed walk.known);
    }

pub returns : goal.returns
returns g c =
    let r = c.args.self.now.request in
    let w = world_of g.T.CountedTools.answer r.world.now in
    let p = request_position g.T.CountedTools.calls r in
    let table = c.args.table.now.finished in
    let same = ap (λ (t : TableRuns). t.finished) c.replace.ensures.after
    ∙ c.in_ok-learnt.ensures.finished in
    record {
      learns = ap (λ records. answered w records p c.args.arg3.now) same;
      known = subst (λ records. ArePartOf records table) (sym same)
          (record { in_order = c.requires.in_order; shared = λ run made is. is });
      err = tt;
      world = refl;
      position = refl;
      asked = refl;
      earlier = refl;
    }
