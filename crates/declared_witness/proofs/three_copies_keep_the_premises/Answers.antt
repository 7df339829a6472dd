use Rattle.std.specs.Prelude.{codes}
use Rattle.declared_witness.proofs.Computed.{part-means}
use Rattle.declared_witness.proofs.Declared.{declared}
use Rattle.declared_witness.proofs.Fresh.{fresh}
use Rattle.declared_witness.proofs.Repeated.{done, repeats, up-to-date}
use Rattle.declared_witness.proofs.Settled.{settles}
use Rattle.declared_witness.proofs.three_copies_keep_the_premises.Goals as goal

pub returns-clause-part : goal.returns-clause-part
returns-clause-part c tools = part-means tools

pub returns-clause-trustworthy : goal.returns-clause-trustworthy
returns-clause-trustworthy c tools mode =
    record { declared = declared (codes "old") 7 tools; fresh = fresh tools }

pub returns-clause-settled : goal.returns-clause-settled
returns-clause-settled c tools = settles tools

pub returns-clause-done : goal.returns-clause-done
returns-clause-done c = done

pub returns-clause-repeated : goal.returns-clause-repeated
returns-clause-repeated c tools = repeats tools

pub returns-clause-declared : goal.returns-clause-declared
returns-clause-declared c tools = declared (codes "two") 10 tools

pub returns-clause-up_to_date : goal.returns-clause-up_to_date
returns-clause-up_to_date c tools = up-to-date tools
