use Rattle.std.proofs.Common.{◌∙◌, ap}
use Rattle.msb_values.specs.Changes.{without_named}
use Rattle.msb_items.proofs.PutBack.{put_back}
use Rattle.msb_items.proofs.applying.remove_items.Goals as goal

pub returns : goal.returns
returns c =
    let change = without_named c.args.texts.now in
    put_back c.args.kind.now change c.args.lists.now _ _ c.none.result c.in_ok-shared.shared
    c.in_ok-kept-2.kept
    c.in_ok-shared.ensures.left
    c.in_ok-shared.ensures.had
    (c.in_ok-kept-2.ensures ∙ c.from.ensures ∙ c.in_ok-kept.ensures ∙ ap change c.into_vec.ensures
    ∙ ap change c.in_ok-items.ensures)
    c.in_ok-replace.ensures.left
