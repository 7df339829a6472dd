use Rattle.msb_expand.proofs.filters.with_some.Goals as goal

pub returns : goal.returns
returns c = c.filter.ensures
