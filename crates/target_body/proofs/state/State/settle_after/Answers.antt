use Rattle.std.proofs.Common.{◌∙◌, Ok, ap, sym}
use Rattle.msb_laws.specs.Results.{map_ok}
use Rattle.target_body.specs.Seen.{ended, seen_state}
use Rattle.target_body.specs.States.{settled}
use Rattle.target_body.proofs.state.State.settle_after.Goals as goal

pub returns-in_ok-settle-in-Fine-clause-ended : goal.returns-in_ok-settle-in-Fine-clause-ended
returns-in_ok-settle-in-Fine-clause-ended c journal =
    ap Ok (c.in_ok-settle-in-Fine.ensures.settled journal)
    ∙ sym (ap (λ ending. map_ok settled (ended ending (seen_state c.args.self.now journal)))
    c.in-Fine.is)
