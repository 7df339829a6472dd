use Rattle.std.proofs.Common.{◌++◌, ◌∙◌, ap, sym, map}
use Rattle.std.specs.List.{list_any}
use Rattle.std.specs.Str.{bytes_eq}
use Rattle.std.specs.Vec.Iter.{into_iter_items}
use Rattle.msb_values.specs.Changes.{without_named}
use Rattle.msb_values.specs.Folded.{folded_bytes}
use Rattle.msb_values.proofs.Sets.{folded_any, kept_turn}
use Rattle.msb_items.proofs.SetLemmas.{as_if}
use Rattle.msb_items.proofs.applying.items_except.Goals as goal

pub loop-item-preserved : goal.loop-item-preserved
loop-item-preserved c =
    let texts = c.args.texts.now in
    let kept = c.loop-item.kept.items in
    let item = c.in-Some.item in
    let named =
    c.contains.ensures
    ∙ c.in_ok-named.ensures c.in_ok-ident.ident
    ∙ ap (λ keys. list_any (λ one. bytes_eq one c.in_ok-ident.ident) keys)
    c.in_ok-fold_all.ensures
    ∙ ap (λ ident. list_any (λ one. bytes_eq one ident) (map folded_bytes texts))
    (c.in_ok-ident.ensures.value ∙ ap folded_bytes c.as_str.ensures)
    ∙ folded_any item.ident texts c.in_ok-ident.ensures.compared in
    kept_turn texts item kept c.keep_unless.new.kept.items (into_iter_items c.next.new.self)
    c.contains.result named
    (c.in_ok-keep_unless.ensures ∙ ap (λ more. kept ++ more) (as_if c.contains.result item))
    ∙ ap (λ left. kept ++ without_named texts left) (sym c.in-Some.ensures.steps.0)
    ∙ c.loop-item.invariant
