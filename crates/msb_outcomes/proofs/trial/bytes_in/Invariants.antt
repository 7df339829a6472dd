use Rattle.std.proofs.Common.{◌≡◌, ◌+◌, drop}
use Rattle.msb_outcomes.specs.Trials.{bytes_in}
use Rattle.msb_outcomes.proofs.trial.bytes_in.Given as goal

abbrev pub invariant-loop-act : goal.invariant-loop-act
invariant-loop-act l = l.bytes + bytes_in (drop l.act-index l.acts) ≡ bytes_in l.acts
