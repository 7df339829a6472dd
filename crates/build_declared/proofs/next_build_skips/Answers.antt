use Rattle.build_declared.proofs.StaysFresh.{next-skips}
use Rattle.build_declared.proofs.next_build_skips.Goals as goal

pub returns : goal.returns
returns c tools w left clean out again trusted settled commit repeated declared next meant =
    next-skips tools w left clean out again trusted settled commit repeated declared next meant
