use Rattle.std.proofs.Common.{◌∙◌, ap, lit<}
use Rattle.std.proofs.lemmas.Iterator.Consumers.{YieldsList-end, YieldsList-at}
use Rattle.std.proofs.lemmas.Iterator.Splits.{YieldsList-from_str_split}
use Rattle.msb_values.specs.Lists.{entries_of}
use Rattle.msb_values.proofs.lists.split_list.Goals as goal

pub returns : goal.returns
returns c =
    let split = c.split-piece-items.ensures in
    let pieces = YieldsList-at c.into_iter-piece-iterator.ensures.into_iter_gives
    (YieldsList-from_str_split 59 c.args.text.now (lit< tt) split.text split.has_more
    split.pattern) in
    c.loop-piece.invariant
    ∙ ap entries_of
    (YieldsList-end pieces c.loop-piece.yielded _ c.loop-piece.yielded_by _ _ c.in-None.is
    c.next.ensures.steps).0
