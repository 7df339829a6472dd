use Rattle.std.proofs.Common.{IsSome, sym, ap, ◌∙◌, subst}
use Rattle.build_meaning.specs.SoFar.{runs_of}
use Rattle.result_cache.specs.Replay.{replay_all}
use Rattle.request_machine.specs.StoppedBodies.{IsResumed}
use Rattle.request_machine.proofs.ReplayedBefore.{given-both}
use Rattle.request_machine.proofs.request.Request.resume.Goals as goal

pub journal_after-requires-clause-replays : goal.journal_after-requires-clause-replays
journal_after-requires-clause-replays g c =
    let r = c.args.self.now in
    let table = c.args.learnt.now.finished in
    subst (λ rs. IsSome (replay_all table (runs_of rs) r.journal)) (sym c.as_slice-entries.ensures)
    c.requires.replays

pub returns-clause-stopped : goal.returns-clause-stopped
returns-clause-stopped g c =
    let answer = g.T.CountedTools.answer in
    let calls = g.T.CountedTools.calls in
    let r = c.args.self.now in
    let table = c.args.learnt.now.finished in
    let results = c.args.results.now in
    let old = c.args.tools.now in
    let new = c.resume_visit.new.tools in
    given-both c.resume_visit.result (λ stopped goes own. subst
    (λ s. IsResumed answer calls r.world.now table results s r.journal stopped.journal old new
    stopped.run_stop) (sym c.in-Visits.is) (record {
      replayed = c.in_ok-journal.journal;
      is = ap (λ rs. replay_all table (runs_of rs) r.journal) (sym c.as_slice-entries.ensures)
          ∙ c.in_ok-journal.ensures;
      goes = goes;
      own = own;
    })) c.resume_visit.ensures.goes c.resume_visit.ensures.own
