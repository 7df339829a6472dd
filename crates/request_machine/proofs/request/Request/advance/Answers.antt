use Rattle.std.proofs.Common.{IsSome, subst}
use Rattle.build_scheduler.specs.Position.{answered}
use Rattle.request_machine.specs.Answered.{IsNext}
use Rattle.request_machine.specs.Stages.{has_begun}
use Rattle.request_machine.specs.WalkPosition.{request_position}
use Rattle.request_machine.specs.Worlds.{world_of}
use Rattle.request_machine.proofs.PlacesAnswered.{go_fits, results_wait, use_fits}
use Rattle.request_machine.proofs.request.Request.advance.Goals as goal

pub begin-requires : goal.begin-requires
begin-requires g c = record {
  unbegun = subst (IsNext (has_begun c.args.self.now.stage)) c.in-First.is c.requires.turn;
  world = c.requires.place.0;
  kept = c.requires.place.1;
}

pub begin_run-requires : goal.begin_run-requires
begin_run-requires g c =
    let answer = g.T.CountedTools.answer in
    let calls = g.T.CountedTools.calls in
    let r = c.args.self.now in
    let w = r.world.now in
    let table = c.args.learnt.now.finished in
    go_fits answer calls w r.key table r.journal r.runs r.stage
    (subst (IsNext (has_begun r.stage)) c.in-Go.is c.requires.turn)
    (subst (λ a. IsSome (answered (world_of answer w) table (request_position calls r) a))
    c.in-Go.is c.requires.fits)

pub use_record-requires : goal.use_record-requires
use_record-requires g c =
    let answer = g.T.CountedTools.answer in
    let calls = g.T.CountedTools.calls in
    let r = c.args.self.now in
    let w = r.world.now in
    let table = c.args.learnt.now.finished in
    use_fits answer calls w r.key table r.journal r.runs r.stage
    (subst (IsNext (has_begun r.stage)) c.in-Use.is c.requires.turn) r.own_run
    (subst (λ a. IsSome (answered (world_of answer w) table (request_position calls r) a))
    c.in-Use.is c.requires.fits)

pub take_results-requires : goal.take_results-requires
take_results-requires g c =
    let answer = g.T.CountedTools.answer in
    let calls = g.T.CountedTools.calls in
    let r = c.args.self.now in
    let w = r.world.now in
    let table = c.args.learnt.now.finished in
    let results = c.in-Results.results in
    let both = results_wait answer calls w r.key table r.journal r.runs results r.stage
    (subst (λ a. IsSome (answered (world_of answer w) table (request_position calls r) a))
    c.in-Results.is c.requires.fits) in
    record { waits = both.0; replays = both.1; known = c.requires.known }
