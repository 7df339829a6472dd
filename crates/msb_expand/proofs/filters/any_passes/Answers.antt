use Rattle.std.proofs.Common.{
  sym,
  ap,
  ◌∙◌,
  List,
  map,
  ◌+◌,
  ◌∷◌,
  drop,
  Result,
  Err,
  Ok,
  Bool,
  true,
  false,
}
use Rattle.std.proofs.lemmas.List.{at_drop_more}
use Rattle.std.proofs.lemmas.Result.{err_from_is_err_and}
use Rattle.msb_expand.specs.Functions.{any_passes}
use Rattle.msb_expand.specs.Seen.{seen_item}
use Rattle.msb_expand.specs.Wanted.{passes}
use Rattle.msb_expand.specs.declared.seen.Seen.{Seen}
use Rattle.msb_expand.specs.declared.faults.ExpandFault.{ExpandFault}
use Rattle.msb_expand.proofs.Giving.{gives_same}
use Rattle.msb_expand.proofs.Filtering.{finds, seeks_on, seeking_stops}
use Rattle.msb_expand.proofs.filters.any_passes.Goals as goal

pub returns-in_err-item_passes : goal.returns-in_err-item_passes
returns-in_err-item_passes c =
    let project = c.args.project.now in
    let of = c.args.of.now in
    let wanted = passes c.args.wanted.now in
    let asked : List Seen → Result Bool ExpandFault = λ items.
    any_passes project of wanted (map seen_item items) in
    let rest = drop (c.loop-item.item-index + 1) c.args.items.now in
    let p = err_from_is_err_and c.from_residual-in_err-item_passes.result
    c.from_residual-in_err-item_passes.ensures.1 in
    let turn = at_drop_more asked c.args.items.now c.loop-item.item-index c.item-item.result
    c.loop-item-test.true ∙ ap (λ item. asked (item ∷ rest)) (sym c.item-item.is) in
    rw (p.1, p.2)
    (gives_same (Err c.in_err-item_passes.field-0.0) _ _ (sym turn ∙ c.loop-item.invariant.1)
    (seeking_stops c.in_err-item_passes.field-0.0 wanted _
    (λ value. elim (wanted value) [ true ↦ Ok true | false ↦ asked rest ])
    (rw c.loop-item.invariant.0 at c.in_err-item_passes.ensures)))

pub returns-then-branch : goal.returns-then-branch
returns-then-branch c =
    let project = c.args.project.now in
    let of = c.args.of.now in
    let wanted = passes c.args.wanted.now in
    let asked : List Seen → Result Bool ExpandFault = λ items.
    any_passes project of wanted (map seen_item items) in
    let rest = drop (c.loop-item.item-index + 1) c.args.items.now in
    let turn = at_drop_more asked c.args.items.now c.loop-item.item-index c.item-item.result
    c.loop-item-test.true ∙ ap (λ item. asked (item ∷ rest)) (sym c.item-item.is) in
    sym c.loop-item.invariant.1 ∙ turn
    ∙ finds wanted _ (asked rest) (rw c.loop-item.invariant.0 at c.in_ok-item_passes.ensures
    ∙ ap (λ b. Ok b) c.if-branch.true)

pub loop-item-preserved : goal.loop-item-preserved
loop-item-preserved c =
    let project = c.args.project.now in
    let of = c.args.of.now in
    let wanted = passes c.args.wanted.now in
    let asked : List Seen → Result Bool ExpandFault = λ items.
    any_passes project of wanted (map seen_item items) in
    let rest = drop (c.loop-item.item-index + 1) c.args.items.now in
    let turn = at_drop_more asked c.args.items.now c.loop-item.item-index c.item-item.result
    c.loop-item-test.true ∙ ap (λ item. asked (item ∷ rest)) (sym c.item-item.is) in (
      c.loop-item.invariant.0,
      sym
          (turn ∙ seeks_on wanted _ (asked rest)
          (rw c.loop-item.invariant.0 at c.in_ok-item_passes.ensures
          ∙ ap (λ b. Ok b) c.if-branch.false)) ∙ c.loop-item.invariant.1,
    )
