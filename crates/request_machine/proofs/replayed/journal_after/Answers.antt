use Rattle.std.proofs.Common.{IfSome, subst}
use Rattle.std.proofs.Math.Logic.{∥∥₁_elim}
use Rattle.request_machine.specs.Replayed.{IsReplayed}
use Rattle.request_machine.proofs.ReplayedBefore.{replayed-prop}
use Rattle.request_machine.proofs.replayed.journal_after.Goals as goal

pub replay_others-requires-clause-known : goal.replay_others-requires-clause-known
replay_others-requires-clause-known c =
    let table = c.args.learnt.now.finished in
    let journal = c.args.journal.now in
    ∥∥₁_elim c.requires.known (replayed-prop table journal _) (λ h.
    subst (λ o. IfSome o (IsReplayed table journal)) c.in-Some.is h)
