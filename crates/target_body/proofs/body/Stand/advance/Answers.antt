use Rattle.std.proofs.Common.{IfOk, subst, sym}
use Rattle.target_body.specs.Bodies.{body_by}
use Rattle.target_body.specs.Left.{left, waiting_run}
use Rattle.target_body.specs.Seen.{seen_chooser, seen_run, seen_state}
use Rattle.target_body.specs.Standings.{Fits, Goes, standing_by}
use Rattle.target_body.specs.Work.{body_of}
use Rattle.target_body.specs.declared.body.Stand.{Stand}
use Rattle.target_body.proofs.Telling.{all_gone, waits_fits}
use Rattle.target_body.proofs.body.Stand.advance.Goals as goal

pub returns-in-Begun-clause-goes : goal.returns-in-Begun-clause-goes
returns-in-Begun-clause-goes g c =
    let run = seen_run c.args.context.now in
    let choose = seen_chooser c.args.context.now in
    let P : Stand → Type 0 = λ stand. IfOk c.begin.result (λ r. Goes g.T.CountedTools.answer
    c.args.context.now.id.now (body_by choose run) (standing_by choose run stand) c.args.results.now
    c.args.journal.now c.begin.new.journal (g.T.CountedTools.calls c.args.tools.now)
    (g.T.CountedTools.calls c.begin.new.tools) r.0 (standing_by choose run r.1)) in
    subst P (sym c.in-Begun.is) c.begin.ensures.goes

pub returns-in-Waiting-clause-goes : goal.returns-in-Waiting-clause-goes
returns-in-Waiting-clause-goes g c =
    let run = seen_run c.args.context.now in
    let choose = seen_chooser c.args.context.now in
    let w = c.in-Waiting.waiting in
    let P : Stand → Type 0 = λ stand. IfOk c.resume.result (λ r. Goes g.T.CountedTools.answer
    c.args.context.now.id.now (body_by choose run) (standing_by choose run stand) c.args.results.now
    c.args.journal.now c.resume.new.journal (g.T.CountedTools.calls c.args.tools.now)
    (g.T.CountedTools.calls c.resume.new.tools) r.0 (standing_by choose run r.1)) in
    subst P (sym c.in-Waiting.is)
    (all_gone g.T.CountedTools.answer c.args.context.now.id.now choose run (waiting_run w.at)
    w.state.segments (λ results journal. body_of (left choose run w.at (seen_state w.state journal)
    results journal))
    c.args.results.now c.args.journal.now c.resume.new.journal
    (g.T.CountedTools.calls c.args.tools.now) (g.T.CountedTools.calls c.resume.new.tools)
    c.resume.result
    (subst (λ (stand : Stand). Fits (standing_by choose run stand) c.args.results.now)
    c.in-Waiting.is c.requires) c.resume.ensures.goes)

pub resume-requires-clause-waits : goal.resume-requires-clause-waits
resume-requires-clause-waits g c =
    let run = seen_run c.args.context.now in
    let choose = seen_chooser c.args.context.now in
    let w = c.in-Waiting.waiting in
    (waits_fits (waiting_run w.at) w.state.segments
    (λ results journal. body_of (left choose run w.at (seen_state w.state journal) results
    journal)) c.args.results.now
    (subst (λ (stand : Stand). Fits (standing_by choose run stand) c.args.results.now)
    c.in-Waiting.is c.requires)).0

pub resume-requires-clause-fits : goal.resume-requires-clause-fits
resume-requires-clause-fits g c =
    let run = seen_run c.args.context.now in
    let choose = seen_chooser c.args.context.now in
    let w = c.in-Waiting.waiting in
    (waits_fits (waiting_run w.at) w.state.segments
    (λ results journal. body_of (left choose run w.at (seen_state w.state journal) results
    journal)) c.args.results.now
    (subst (λ (stand : Stand). Fits (standing_by choose run stand) c.args.results.now)
    c.in-Waiting.is c.requires)).1
