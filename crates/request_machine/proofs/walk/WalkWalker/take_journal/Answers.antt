use Rattle.std.proofs.Common.{Some, sym, ap, ◌∙◌, subst}
use Rattle.build_scheduler.specs.Learnt.{ArePartOf}
use Rattle.result_cache.specs.Replay.{replay_all}
use Rattle.result_cache.specs.Table.{TableRuns}
use Rattle.request_machine.proofs.walk.WalkWalker.take_journal.Goals as goal

pub invariant_of-self : goal.invariant_of-self
invariant_of-self g c =
    let walk = c.args.self.now in
    let journal = walk.request.journal in
    let e = c.into_replayed.ensures in
    let same = ap (λ (t : TableRuns). t.finished) c.replace.ensures.after
    ∙ c.in-Ok.ensures.finished in
    record {
      begun = walk.begun;
      fits = walk.fits;
      known = ∣ ap (λ records. replay_all records c.into_replayed.result.runs journal) same
          ∙ (ap (λ runs. replay_all c.args.table.now.finished runs journal) e.runs
          ∙ (c.requires.replays ∙ ap Some (sym e.journal))) ∣₁;
    }

pub returns-in-Ok-clause-known : goal.returns-in-Ok-clause-known
returns-in-Ok-clause-known g c =
    let table = c.args.table.now.finished in
    subst (λ records. ArePartOf records table)
    (sym (ap (λ (t : TableRuns). t.finished) c.replace.ensures.after
    ∙ c.in-Ok.ensures.finished))
    (record { in_order = c.requires.in_order; shared = λ run made is. is })
