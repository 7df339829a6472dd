use Rattle.std.proofs.Common.{◌+◌, ◌<◌, List, map, length, sym, ap, ◌∙◌, subst, arith}
use Rattle.std.specs.Borrow.{Bor}
use Rattle.std.proofs.Math.ListN.{get_or-map}
use Rattle.std.proofs.lemmas.List.{length-map}
use Rattle.msb_laws.specs.Words.{Name}
use Rattle.target_order.specs.declared.row.TargetRow.{TargetRow}
use Rattle.target_order.specs.Table.{AreHooked}
use Rattle.target_order.proofs.Hooking.{hooks_more}
use Rattle.target_order.proofs.hooks.hooks.Goals as goal

pub loop-at-preserved : goal.loop-at-preserved
loop-at-preserved c =
    let rows = map (λ (x : Bor TargetRow). x.now) c.args.rows.now in
    let at = c.loop-at.at in
    let r = c.index-rows-at.result.now in
    let named = c.as_slice.ensures ∙ c.list.ensures in
    let hooked = subst
    (λ (ns : List Name). AreHooked (at + 1) r.name ns c.args.numbers.now c.loop-at.hooks.lists.items
    c.add.new.self.lists.items c.add.new.self.turns.items) named c.in_ok-add.ensures in
    let lt : at < length rows = let t = c.loop-at-test.true in omega
    (arith, length-map c.args.rows.now (λ (x : Bor TargetRow). x.now)) in
    let read = ap (λ (x : Bor TargetRow). x.now) c.index-rows-at.is
    ∙ sym (get_or-map (λ (x : Bor TargetRow). x.now) c.args.rows.now at c.index-rows-at.result)
    in (
      hooks_more c.args.side rows at r c.args.numbers.now c.loop-at.hooks.lists.items
          c.add.new.self.lists.items c.add.new.self.turns.items lt read c.loop-at.invariant.0
          hooked,
      hooked.turns_len,
      hooked.past,
    )
