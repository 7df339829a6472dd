use Rattle.std.proofs.Common.{sym, ap, ◌∙◌, map, ◌++◌, Err}
use Rattle.std.specs.Vec.Iter.{into_iter_items}
use Rattle.std.proofs.lemmas.Result.{err_from_is_err_and}
use Rattle.msb_expand.specs.Functions.{filtered, kept_if}
use Rattle.msb_laws.specs.Results.{map_ok}
use Rattle.msb_expand.specs.Seen.{seen_item}
use Rattle.msb_expand.specs.Wanted.{passes}
use Rattle.msb_expand.proofs.Giving.{gives_same}
use Rattle.msb_expand.proofs.Filtering.{keeps_on, keeping_stops}
use Rattle.msb_expand.proofs.filters.filter.Goals as goal

pub returns-in_err-passes : goal.returns-in_err-passes
returns-in_err-passes c =
    let project = c.args.project.now in
    let of = c.args.of.now in
    let wanted = passes c.args.wanted.now in
    let item = seen_item c.in-Some.item in
    let rest = filtered project of wanted (map seen_item (into_iter_items c.next.new.self)) in
    let kept = map seen_item c.loop-item.kept.items in
    let p = err_from_is_err_and c.from_residual-in_err-passes.result
    c.from_residual-in_err-passes.ensures.1 in
    rw (p.1, p.2)
    (gives_same (Err c.in_err-passes.field-0.0) _ _
    (ap (λ items. map_ok (λ rest. kept ++ rest) (filtered project of wanted (map seen_item items)))
    (sym c.in-Some.ensures.steps.0) ∙ c.loop-item.invariant.1)
    (keeping_stops c.in_err-passes.field-0.0 wanted _ kept
    (λ value. map_ok (kept_if (wanted value) item) rest)
    (rw c.loop-item.invariant.0 at c.in_err-passes.ensures)))

pub loop-item-preserved : goal.loop-item-preserved
loop-item-preserved c =
    let project = c.args.project.now in
    let of = c.args.of.now in
    let wanted = passes c.args.wanted.now in
    let item = seen_item c.in-Some.item in
    let rest = filtered project of wanted (map seen_item (into_iter_items c.next.new.self)) in
    let kept = map seen_item c.loop-item.kept.items in
    let asked = rw c.loop-item.invariant.0 at c.in_ok-passes.ensures in (
      c.loop-item.invariant.0,
      keeps_on wanted _ c.in_ok-passes.passes item kept (map seen_item c.keep_if.new.kept.items)
          rest asked c.in_ok-keep_if.ensures
          ∙ ap
          (λ items. map_ok (λ rest. kept ++ rest)
          (filtered project of wanted (map seen_item items))) (sym c.in-Some.ensures.steps.0)
          ∙ c.loop-item.invariant.1,
    )
