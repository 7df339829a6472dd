use Rattle.std.proofs.Common.{[], inr, map, refl}
use Rattle.std.specs.Prelude.{string_bytes}
use Rattle.msb_paths.specs.Refused.{normal_path}
use Rattle.msb_outcomes.proofs.Working.{has_status}
use Rattle.msb_program.proofs.Answered.{is_answered}
use Rattle.msb_program.proofs.Calling.{made_on_nodes, no_trial_built, undone_unmade}
use Rattle.msb_program.proofs.Ready.{ended_since, ready_answers}
use Rattle.msb_program.proofs.TrialEnded.{no_trial, trial_answers}
use Rattle.msb_program.proofs.top.run.Goals as goal

pub outcome_on-outcome-requires-clause-status : goal.outcome_on-outcome-requires-clause-status
outcome_on-outcome-requires-clause-status g c κs within =
    let ready = c.in-Ready.ensures.prepared in
    has_status c.in-Ready.options ready.files (normal_path [] c.in-Ready.options.project)
    c.in-Ready.work ready.is

pub returns-in-Ended-clause-answer : goal.returns-in-Ended-clause-answer
returns-in-Ended-clause-answer g c =
    is_answered g.T.Tools.answer _ _ _ c.in-Ended.status
    (c.in-Ended.ensures.prepared g.T.Tools.answer)

pub returns-in-Trial-clause-answer : goal.returns-in-Trial-clause-answer
returns-in-Trial-clause-answer g c =
    is_answered g.T.Tools.answer _ _ _ c.end_trial.result
    (trial_answers g.T.Tools.answer c.in-Trial.options c.in-Trial.ensures.prepared c.trial_on.result
    c.trial_on.ensures c.end_trial.result c.end_trial.ensures)

pub returns-in-Ready-clause-answer : goal.returns-in-Ready-clause-answer
returns-in-Ready-clause-answer g c =
    is_answered g.T.Tools.answer _ _ _ c.end.result
    (ready_answers g.T.Tools.answer c.in-Ready.options c.in-Ready.work c.in-Ready.ensures.prepared
    c.outcome_on-outcome.result c.outcome_on-outcome.ensures.outcome c.end.result c.end.ensures)

pub returns-in-Ended-clause-nodes : goal.returns-in-Ended-clause-nodes
returns-in-Ended-clause-nodes g c = λ given build.
    inr (undone_unmade g.T.Tools.answer _ _ given build _ _ c.in-Ended.status refl
    c.in-Ended.ensures.undone)

pub returns-in-Trial-clause-nodes : goal.returns-in-Trial-clause-nodes
returns-in-Trial-clause-nodes g c = λ given build.
    let prepared = c.in-Trial.ensures.prepared in
    absurd (no_trial_built (map string_bytes c.args.words.now)
    (g.S.Store.seen c.args.store.now).tree given build c.in-Trial.options prepared.asked
    prepared.trial)

pub returns-in-Ready-clause-nodes : goal.returns-in-Ready-clause-nodes
returns-in-Ready-clause-nodes g c = λ given build.
    let ready = c.in-Ready.ensures.prepared in
    made_on_nodes g.T.Tools.answer _ _ given build c.in-Ready.options ready.files c.in-Ready.work
    ready.asked ready.loaded ready.is _ _ c.end.result c.outcome_on-outcome.result
    c.outcome_on-outcome.ensures.nodes
    (ended_since c.in-Ready.options c.in-Ready.work ready c.outcome_on-outcome.result _ _
    c.end.result c.end.ensures)

pub returns-in-Ready-clause-untouched : goal.returns-in-Ready-clause-untouched
returns-in-Ready-clause-untouched g c = λ trial.
    let ready = c.in-Ready.ensures.prepared in
    absurd (no_trial _ c.in-Ready.options ready.asked ready.project trial)
