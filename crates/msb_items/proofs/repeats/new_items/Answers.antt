use Rattle.std.proofs.Common.{◌++◌, ◌∙◌, ap, sym, map, not, append-nil}
use Rattle.std.specs.List.{list_any}
use Rattle.std.specs.Vec.Iter.{into_iter_items}
use Rattle.msb_items.specs.Repeats.{without_repeats}
use Rattle.msb_items.specs.RepeatKeys.{key_of, same_key}
use Rattle.msb_items.proofs.SetLemmas.{is_known, keys_turn, repeats_turn}
use Rattle.msb_items.proofs.repeats.new_items.Goals as goal

pub loop-item-init : goal.loop-item-init
loop-item-init c =
    let defaults = c.args.defaults.now in
    let left = into_iter_items c.into_iter-item-iterator.result in
    record {
      keys = λ key.
          ap (list_any (same_key key)) c.new-own.ensures.empty
          ∙ ap (λ items. list_any (λ one. same_key one key) (map (key_of defaults) items))
          (sym c.new-kept.ensures.items);
      kept = λ there known.
          ap (λ kept. kept ++ without_repeats defaults (there ++ kept) left)
          c.new-kept.ensures.items
          ∙ ap (λ seen. without_repeats defaults seen left) (append-nil there)
          ∙ ap (without_repeats defaults there) c.into_iter-item-iterator.ensures.into_iter_gives.0;
    }

pub loop-item-preserved : goal.loop-item-preserved
loop-item-preserved c =
    let defaults = c.args.defaults.now in
    let kept = c.loop-item.kept.items in
    let more = c.keep_if.new.kept.items in
    let item = c.in-Some.item in
    let key = c.in_ok-key.key in
    let is_new = c.in_ok-is_new.is_new in
    let grown = c.in_ok-keep_if.ensures in
    record {
      keys = keys_turn defaults kept more item is_new key c.loop-item.own c.add_unknown.new.own
          c.loop-item.invariant.keys c.in_ok-key.ensures grown c.in_ok-is_new.ensures.added;
      kept = λ there known.
          repeats_turn defaults there kept more item (into_iter_items c.next.new.self) is_new
          (c.in_ok-is_new.ensures.is_new ∙ ap not
          (is_known defaults there kept item key c.args.known.now c.loop-item.own known
          c.loop-item.invariant.keys c.in_ok-key.ensures))
          grown
          ∙ ap (λ left. kept ++ without_repeats defaults (there ++ kept) left)
          (sym c.in-Some.ensures.steps.0)
          ∙ c.loop-item.invariant.kept there known;
    }
