use Rattle.std.proofs.Common.{IfOk, subst}
use Rattle.msb_files.specs.Indices.{IsOrdered}
use Rattle.msb_files.proofs.sorted.by_path.Goals as goal

pub returns : goal.returns
returns c =
    subst (λ places. IfOk c.order.result
    (λ sorted. IsOrdered c.args.entries.now places sorted.items)) c.in_ok-places.ensures
    c.order.ensures
