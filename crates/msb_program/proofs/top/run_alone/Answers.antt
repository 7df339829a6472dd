use Rattle.std.proofs.Common.{[], inr, map, refl}
use Rattle.std.specs.Prelude.{string_bytes}
use Rattle.msb_paths.specs.Refused.{normal_path}
use Rattle.msb_outcomes.proofs.Working.{has_status}
use Rattle.msb_program.proofs.Answered.{is_answered}
use Rattle.msb_program.proofs.Calling.{
  done_calls,
  made_history,
  no_trial_built,
  no_trial_meant,
  undone_incomplete,
  undone_unmade,
}
use Rattle.msb_program.proofs.NextBuilds.{calls_of_others}
use Rattle.msb_program.proofs.Ready.{ended_since, ready_answers, runs_of_words}
use Rattle.msb_program.proofs.TrialEnded.{no_trial, trial_answers}
use Rattle.msb_program.proofs.top.run_alone.Goals as goal

pub outcome_alone-outcome-requires : goal.outcome_alone-outcome-requires
outcome_alone-outcome-requires g c =
    let ready = c.in-Ready.ensures.prepared in
    has_status c.in-Ready.options ready.files (normal_path [] c.in-Ready.options.project)
    c.in-Ready.work ready.is

pub returns-in-Ended-clause-answer : goal.returns-in-Ended-clause-answer
returns-in-Ended-clause-answer g c =
    is_answered g.T.CountedTools.answer _ _ _ c.in-Ended.status
    (c.in-Ended.ensures.prepared g.T.CountedTools.answer)

pub returns-in-Trial-clause-answer : goal.returns-in-Trial-clause-answer
returns-in-Trial-clause-answer g c =
    is_answered g.T.CountedTools.answer _ _ _ c.end_trial.result
    (trial_answers g.T.CountedTools.answer c.in-Trial.options c.in-Trial.ensures.prepared
    c.trial_alone.result c.trial_alone.ensures c.end_trial.result c.end_trial.ensures)

pub returns-in-Ready-clause-answer : goal.returns-in-Ready-clause-answer
returns-in-Ready-clause-answer g c =
    is_answered g.T.CountedTools.answer _ _ _ c.end.result
    (ready_answers g.T.CountedTools.answer c.in-Ready.options c.in-Ready.work
    c.in-Ready.ensures.prepared c.outcome_alone-outcome.result
    c.outcome_alone-outcome.ensures.outcome c.end.result c.end.ensures)

pub returns-in-Ended-clause-history : goal.returns-in-Ended-clause-history
returns-in-Ended-clause-history g c = λ given build.
    inr (undone_unmade g.T.CountedTools.answer _ _ given build _ _ c.in-Ended.status refl
    c.in-Ended.ensures.undone)

pub returns-in-Trial-clause-history : goal.returns-in-Trial-clause-history
returns-in-Trial-clause-history g c = λ given build.
    let prepared = c.in-Trial.ensures.prepared in
    absurd (no_trial_built (map string_bytes c.args.words.now)
    (g.S.Store.seen c.args.store.now).tree given build c.in-Trial.options prepared.asked
    prepared.trial)

pub returns-in-Ready-clause-history : goal.returns-in-Ready-clause-history
returns-in-Ready-clause-history g c = λ given build.
    let ready = c.in-Ready.ensures.prepared in
    made_history g.T.CountedTools.answer _ _ given build c.in-Ready.options ready.files
    c.in-Ready.work ready.asked ready.loaded ready.is _ _ c.end.result
    c.outcome_alone-outcome.result _ _ c.outcome_alone-outcome.ensures.calls
    (ended_since c.in-Ready.options c.in-Ready.work ready c.outcome_alone-outcome.result _ _
    c.end.result c.end.ensures)

pub returns-in-Ended-clause-calls : goal.returns-in-Ended-clause-calls
returns-in-Ended-clause-calls g c = λ meant m done.
    absurd (undone_incomplete _ _ _ c.in-Ended.status c.in-Ended.ensures.undone done)

pub returns-in-Trial-clause-calls : goal.returns-in-Trial-clause-calls
returns-in-Trial-clause-calls g c = λ meant m done.
    let prepared = c.in-Trial.ensures.prepared in
    absurd (no_trial_meant g.T.CountedTools.answer (map string_bytes c.args.words.now)
    (g.S.Store.seen c.args.store.now).tree meant m c.in-Trial.options prepared.asked prepared.trial)

pub returns-in-Ready-clause-calls : goal.returns-in-Ready-clause-calls
returns-in-Ready-clause-calls g c = λ meant m done.
    let ready = c.in-Ready.ensures.prepared in
    done_calls g.T.CountedTools.answer (map string_bytes c.args.words.now)
    (g.S.Store.seen c.args.store.now).tree meant m c.in-Ready.options ready.files c.in-Ready.work
    c.outcome_alone-outcome.result (g.T.CountedTools.calls c.args.tools.now)
    (g.T.CountedTools.calls c.outcome_alone-outcome.new.tools) _ _ c.end.result ready.asked
    ready.loaded ready.is c.outcome_alone-outcome.ensures.calls c.end.ensures done

pub returns-in-Ended-clause-idle : goal.returns-in-Ended-clause-idle
returns-in-Ended-clause-idle g c = λ clean m done.
    absurd (undone_incomplete _ _ _ c.in-Ended.status c.in-Ended.ensures.undone done)

pub returns-in-Trial-clause-idle : goal.returns-in-Trial-clause-idle
returns-in-Trial-clause-idle g c = λ clean m done.
    let prepared = c.in-Trial.ensures.prepared in
    absurd (no_trial_built (map string_bytes c.args.words.now)
    (g.S.Store.seen c.args.store.now).tree m.means.given m.means.build c.in-Trial.options
    prepared.asked prepared.trial)

pub returns-in-Ready-clause-idle : goal.returns-in-Ready-clause-idle
returns-in-Ready-clause-idle g c = λ clean m.
    calls_of_others g.T.CountedTools.answer (map string_bytes c.args.words.now)
    (g.S.Store.seen c.args.store.now).tree clean m _ _ c.end.result
    (returns-in-Ready-clause-calls g c)

pub returns-in-Ready-clause-uncalled : goal.returns-in-Ready-clause-uncalled
returns-in-Ready-clause-uncalled g c = λ unasked.
    let ready = c.in-Ready.ensures.prepared in
    c.outcome_alone-outcome.ensures.uncalled (λ makes.
    unasked
    (runs_of_words _ ready.files c.in-Ready.options c.in-Ready.work ready.asked ready.is makes))

pub returns-in-Ready-clause-untouched : goal.returns-in-Ready-clause-untouched
returns-in-Ready-clause-untouched g c = λ trial.
    let ready = c.in-Ready.ensures.prepared in
    absurd (no_trial _ c.in-Ready.options ready.asked ready.project trial)
