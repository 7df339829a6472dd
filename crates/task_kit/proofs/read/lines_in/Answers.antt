use Rattle.std.proofs.Common.{◌∙◌, ap, lit<, map}
use Rattle.std.proofs.lemmas.Iterator.Consumers.{YieldsList-end, YieldsList-at}
use Rattle.std.proofs.lemmas.Iterator.Splits.{YieldsList-from_str_split}
use Rattle.msb_values.specs.Lists.{entries_of}
use Rattle.msb_expand.specs.Functions.{plain_item}
use Rattle.task_kit.proofs.read.lines_in.Goals as goal

pub returns : goal.returns
returns c =
    let split = c.split-piece-items.ensures in
    let all = YieldsList-from_str_split 10 c.args.text.now (lit< tt) split.text split.has_more
    split.pattern in
    let pieces = YieldsList-at c.into_iter-piece-iterator.ensures.into_iter_gives all in
    let told = YieldsList-end pieces c.loop-piece.yielded _ c.loop-piece.yielded_by _ _ c.in-None.is
    c.next.ensures.steps in
    c.loop-piece.invariant ∙ ap (λ texts. map plain_item (entries_of texts)) told.0
