use Rattle.build_declared.proofs.StaysFresh.{stays-fresh, stays-no-older}
use Rattle.build_declared.proofs.stays_fresh.Goals as goal

pub returns-clause-fresh : goal.returns-clause-fresh
returns-clause-fresh c tools w left clean out again trusted settled commit repeated =
    stays-fresh tools w left clean out again trusted settled commit repeated

pub returns-clause-no_older : goal.returns-clause-no_older
returns-clause-no_older c tools w left clean out again trusted settled commit repeated =
    stays-no-older tools w left clean out again trusted settled commit repeated
