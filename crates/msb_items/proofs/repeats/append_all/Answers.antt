use Rattle.std.proofs.Common.{◌++◌, ◌∷◌, ◌∙◌, [], true, ap, sym, append_assoc}
use Rattle.std.specs.Vec.Iter.{into_iter_items}
use Rattle.msb_items.specs.RepeatKeys.{key_of}
use Rattle.msb_items.proofs.SetLemmas.{has_added, keys_turn}
use Rattle.msb_items.proofs.repeats.append_all.Goals as goal

pub loop-item-preserved : goal.loop-item-preserved
loop-item-preserved c =
    let items = c.loop-item.items in
    let item = c.in-Some.item in
    let key = c.in_ok-of.field-0 in
    let left = into_iter_items c.next.new.self in
    record {
      keys =
          keys_turn [] items c.push.new.self item true key c.loop-item.keys c.insert.new.self
          c.loop-item.invariant.keys (c.in_ok-of.ensures
          ∙ ap (λ defaults. key_of defaults item) c.new-none.ensures) c.in_ok-push.ensures.ok
          (λ one. has_added key one true c.loop-item.keys c.insert.new.self tt
          (c.in_ok-insert.ensures.updates.0 one));
      items =
          ap (λ items. items ++ left) c.in_ok-push.ensures.ok
          ∙ append_assoc items (item ∷ []) left
          ∙ ap (λ left. items ++ left) (sym c.in-Some.ensures.steps.0)
          ∙ c.loop-item.invariant.items;
    }
