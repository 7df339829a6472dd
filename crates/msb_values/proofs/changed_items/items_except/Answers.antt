use Rattle.std.proofs.Common.{◌+◌, ◌++◌, ◌∙◌, ap, sym, map, drop}
use Rattle.std.specs.List.{list_any}
use Rattle.std.specs.Str.{bytes_eq}
use Rattle.msb_values.specs.Changes.{without_named}
use Rattle.msb_values.specs.Folded.{folded_bytes}
use Rattle.msb_values.proofs.Sets.{folded_any, kept_turn, dropped}
use Rattle.msb_values.proofs.changed_items.items_except.Goals as goal

pub loop-item-preserved : goal.loop-item-preserved
loop-item-preserved c =
    let items = c.args.items.now in
    let texts = c.args.texts.now in
    let at = c.loop-item.item-index in
    let item = c.item-item.result in
    let named =
    c.contains.ensures
    ∙ c.in_ok-named.ensures c.in_ok-ident.ident
    ∙ ap (λ keys. list_any (λ one. bytes_eq one c.in_ok-ident.ident) keys)
    c.in_ok-fold_all.ensures
    ∙ ap (λ ident. list_any (λ one. bytes_eq one ident) (map folded_bytes texts))
    (c.in_ok-ident.ensures.value ∙ ap folded_bytes c.as_str.ensures)
    ∙ folded_any item.ident texts c.in_ok-ident.ensures.compared in
    kept_turn texts item c.loop-item.kept c.keep_unless.new.kept (drop (at + 1) items)
    c.contains.result named c.in_ok-keep_unless.ensures
    ∙ ap (λ left. c.loop-item.kept ++ without_named texts left)
    (sym (dropped items at item c.loop-item-test.true c.item-item.is))
    ∙ c.loop-item.invariant
