use Rattle.std.proofs.Common.{◌≡◌, map, Ok, Err, sym, ap, ◌∙◌, subst}
use Rattle.std.specs.List.{fold}
use Rattle.std.proofs.lemmas.Result.{err_from_is_err_and}
use Rattle.msb_condition.specs.Answers.{Gives, view_of}
use Rattle.msb_condition.specs.Trees.{Tree, either, both}
use Rattle.msb_condition.specs.Truth.{truth_of, any_truth, every_truth, or_else, and_also}
use Rattle.msb_condition.specs.View.{tree_of, view_step}
use Rattle.msb_condition.specs.declared.condition.Cond.TheFolds.{fold-roll-Cond}
use Rattle.msb_condition.specs.declared.condition.Cond.TheOpen as open_cond
use Rattle.msb_condition.specs.declared.condition.Cond.TheVariants.{rolls-Or, rolls-And}
use Rattle.msb_condition.specs.declared.condition.Cond.TheViews.{Or, And}
use Rattle.msb_condition.proofs.TruthLaws.{or_chain, and_chain, or_fault, and_fault}
use Rattle.msb_condition.proofs.truth.+holds.Goals as goal

pub holds-returns-in_err-holds-in-Or : goal.holds-returns-in_err-holds-in-Or
holds-returns-in_err-holds-in-Or g t c =
    let p = err_from_is_err_and c.from_residual.result c.from_residual.ensures.1 in
    let e : tree_of (Or c.in-Or.first c.in-Or.others)
    ≡ fold either (tree_of c.in-Or.first.value) (map tree_of c.in-Or.others.items) = ap tree_of
    (sym (rolls-Or c.in-Or.first c.in-Or.others))
    ∙ fold-roll-Cond Tree view_step (open_cond.Or c.in-Or.first c.in-Or.others) in
    let w : truth_of (view_of c.args.lens.now (g.F.Present.files c.args.files.now))
    (tree_of c.args.cond.now)
    ≡ or_else
    (truth_of (view_of c.args.lens.now (g.F.Present.files c.args.files.now))
    (tree_of c.deref.result.now))
    (any_truth (view_of c.args.lens.now (g.F.Present.files c.args.files.now))
    (map tree_of c.in-Or.others.items)) =
    ap (λ x. truth_of (view_of c.args.lens.now (g.F.Present.files c.args.files.now)) (tree_of x))
    c.in-Or.is ∙ ap (truth_of (view_of c.args.lens.now (g.F.Present.files c.args.files.now))) e
    ∙ or_chain (view_of c.args.lens.now (g.F.Present.files c.args.files.now))
    (tree_of c.in-Or.first.value) (map tree_of c.in-Or.others.items)
    ∙ ap
    (λ x.
    or_else
    (truth_of (view_of c.args.lens.now (g.F.Present.files c.args.files.now)) (tree_of x))
    (any_truth (view_of c.args.lens.now (g.F.Present.files c.args.files.now))
    (map tree_of c.in-Or.others.items))) (sym c.deref.ensures) in
    subst (Gives c.from_residual.result) (sym w)
    (or_fault c.from_residual.result p.0
    (truth_of (view_of c.args.lens.now (g.F.Present.files c.args.files.now))
    (tree_of c.deref.result.now))
    (any_truth (view_of c.args.lens.now (g.F.Present.files c.args.files.now))
    (map tree_of c.in-Or.others.items)) p.1
    (subst
    (λ r.
    Gives r
    (truth_of (view_of c.args.lens.now (g.F.Present.files c.args.files.now))
    (tree_of c.deref.result.now))) (ap Err (sym p.2) ∙ sym p.1) c.in_err-holds-in-Or.ensures))

pub holds-returns-then-branch : goal.holds-returns-then-branch
holds-returns-then-branch g t c =
    let e : tree_of (Or c.in-Or.first c.in-Or.others)
    ≡ fold either (tree_of c.in-Or.first.value) (map tree_of c.in-Or.others.items) = ap tree_of
    (sym (rolls-Or c.in-Or.first c.in-Or.others))
    ∙ fold-roll-Cond Tree view_step (open_cond.Or c.in-Or.first c.in-Or.others) in
    let w : truth_of (view_of c.args.lens.now (g.F.Present.files c.args.files.now))
    (tree_of c.args.cond.now)
    ≡ or_else
    (truth_of (view_of c.args.lens.now (g.F.Present.files c.args.files.now))
    (tree_of c.deref.result.now))
    (any_truth (view_of c.args.lens.now (g.F.Present.files c.args.files.now))
    (map tree_of c.in-Or.others.items)) =
    ap (λ x. truth_of (view_of c.args.lens.now (g.F.Present.files c.args.files.now)) (tree_of x))
    c.in-Or.is ∙ ap (truth_of (view_of c.args.lens.now (g.F.Present.files c.args.files.now))) e
    ∙ or_chain (view_of c.args.lens.now (g.F.Present.files c.args.files.now))
    (tree_of c.in-Or.first.value) (map tree_of c.in-Or.others.items)
    ∙ ap
    (λ x.
    or_else
    (truth_of (view_of c.args.lens.now (g.F.Present.files c.args.files.now)) (tree_of x))
    (any_truth (view_of c.args.lens.now (g.F.Present.files c.args.files.now))
    (map tree_of c.in-Or.others.items))) (sym c.deref.ensures) in
    w
    ∙ ap
    (λ a.
    or_else a
    (any_truth (view_of c.args.lens.now (g.F.Present.files c.args.files.now))
    (map tree_of c.in-Or.others.items))) (c.in_ok-holds-in-Or.ensures ∙ ap Ok c.if-branch.true)

pub holds-returns-else-branch : goal.holds-returns-else-branch
holds-returns-else-branch g t c =
    let e : tree_of (Or c.in-Or.first c.in-Or.others)
    ≡ fold either (tree_of c.in-Or.first.value) (map tree_of c.in-Or.others.items) = ap tree_of
    (sym (rolls-Or c.in-Or.first c.in-Or.others))
    ∙ fold-roll-Cond Tree view_step (open_cond.Or c.in-Or.first c.in-Or.others) in
    let w : truth_of (view_of c.args.lens.now (g.F.Present.files c.args.files.now))
    (tree_of c.args.cond.now)
    ≡ or_else
    (truth_of (view_of c.args.lens.now (g.F.Present.files c.args.files.now))
    (tree_of c.deref.result.now))
    (any_truth (view_of c.args.lens.now (g.F.Present.files c.args.files.now))
    (map tree_of c.in-Or.others.items)) =
    ap (λ x. truth_of (view_of c.args.lens.now (g.F.Present.files c.args.files.now)) (tree_of x))
    c.in-Or.is ∙ ap (truth_of (view_of c.args.lens.now (g.F.Present.files c.args.files.now))) e
    ∙ or_chain (view_of c.args.lens.now (g.F.Present.files c.args.files.now))
    (tree_of c.in-Or.first.value) (map tree_of c.in-Or.others.items)
    ∙ ap
    (λ x.
    or_else
    (truth_of (view_of c.args.lens.now (g.F.Present.files c.args.files.now)) (tree_of x))
    (any_truth (view_of c.args.lens.now (g.F.Present.files c.args.files.now))
    (map tree_of c.in-Or.others.items))) (sym c.deref.ensures) in
    subst (Gives c.any_holds.result)
    (sym
    (w
    ∙ ap
    (λ a.
    or_else a
    (any_truth (view_of c.args.lens.now (g.F.Present.files c.args.files.now))
    (map tree_of c.in-Or.others.items))) (c.in_ok-holds-in-Or.ensures ∙ ap Ok c.if-branch.false)
    ∙ ap
    (λ xs. any_truth (view_of c.args.lens.now (g.F.Present.files c.args.files.now))
    (map tree_of xs)) (sym c.deref-in-Or.ensures.value)))
    c.any_holds.ensures

pub holds-returns-in_err-holds-in-And : goal.holds-returns-in_err-holds-in-And
holds-returns-in_err-holds-in-And g t c =
    let p = err_from_is_err_and c.from_residual-in_err-holds-in-And.result
    c.from_residual-in_err-holds-in-And.ensures.1 in
    let e : tree_of (And c.in-And.first c.in-And.others)
    ≡ fold both (tree_of c.in-And.first.value) (map tree_of c.in-And.others.items) = ap tree_of
    (sym (rolls-And c.in-And.first c.in-And.others))
    ∙ fold-roll-Cond Tree view_step (open_cond.And c.in-And.first c.in-And.others) in
    let w : truth_of (view_of c.args.lens.now (g.F.Present.files c.args.files.now))
    (tree_of c.args.cond.now)
    ≡ and_also
    (truth_of (view_of c.args.lens.now (g.F.Present.files c.args.files.now))
    (tree_of c.deref-in-And.result.now))
    (every_truth (view_of c.args.lens.now (g.F.Present.files c.args.files.now))
    (map tree_of c.in-And.others.items)) =
    ap (λ x. truth_of (view_of c.args.lens.now (g.F.Present.files c.args.files.now)) (tree_of x))
    c.in-And.is ∙ ap (truth_of (view_of c.args.lens.now (g.F.Present.files c.args.files.now))) e
    ∙ and_chain (view_of c.args.lens.now (g.F.Present.files c.args.files.now))
    (tree_of c.in-And.first.value) (map tree_of c.in-And.others.items)
    ∙ ap
    (λ x.
    and_also
    (truth_of (view_of c.args.lens.now (g.F.Present.files c.args.files.now)) (tree_of x))
    (every_truth (view_of c.args.lens.now (g.F.Present.files c.args.files.now))
    (map tree_of c.in-And.others.items))) (sym c.deref-in-And.ensures) in
    subst (Gives c.from_residual-in_err-holds-in-And.result) (sym w)
    (and_fault c.from_residual-in_err-holds-in-And.result p.0
    (truth_of (view_of c.args.lens.now (g.F.Present.files c.args.files.now))
    (tree_of c.deref-in-And.result.now))
    (every_truth (view_of c.args.lens.now (g.F.Present.files c.args.files.now))
    (map tree_of c.in-And.others.items)) p.1
    (subst
    (λ r.
    Gives r
    (truth_of (view_of c.args.lens.now (g.F.Present.files c.args.files.now))
    (tree_of c.deref-in-And.result.now))) (ap Err (sym p.2) ∙ sym p.1)
    c.in_err-holds-in-And.ensures))

pub holds-returns-then-not-branch : goal.holds-returns-then-not-branch
holds-returns-then-not-branch g t c =
    let e : tree_of (And c.in-And.first c.in-And.others)
    ≡ fold both (tree_of c.in-And.first.value) (map tree_of c.in-And.others.items) = ap tree_of
    (sym (rolls-And c.in-And.first c.in-And.others))
    ∙ fold-roll-Cond Tree view_step (open_cond.And c.in-And.first c.in-And.others) in
    let w : truth_of (view_of c.args.lens.now (g.F.Present.files c.args.files.now))
    (tree_of c.args.cond.now)
    ≡ and_also
    (truth_of (view_of c.args.lens.now (g.F.Present.files c.args.files.now))
    (tree_of c.deref-in-And.result.now))
    (every_truth (view_of c.args.lens.now (g.F.Present.files c.args.files.now))
    (map tree_of c.in-And.others.items)) =
    ap (λ x. truth_of (view_of c.args.lens.now (g.F.Present.files c.args.files.now)) (tree_of x))
    c.in-And.is ∙ ap (truth_of (view_of c.args.lens.now (g.F.Present.files c.args.files.now))) e
    ∙ and_chain (view_of c.args.lens.now (g.F.Present.files c.args.files.now))
    (tree_of c.in-And.first.value) (map tree_of c.in-And.others.items)
    ∙ ap
    (λ x.
    and_also
    (truth_of (view_of c.args.lens.now (g.F.Present.files c.args.files.now)) (tree_of x))
    (every_truth (view_of c.args.lens.now (g.F.Present.files c.args.files.now))
    (map tree_of c.in-And.others.items))) (sym c.deref-in-And.ensures) in
    w
    ∙ ap
    (λ a.
    and_also a
    (every_truth (view_of c.args.lens.now (g.F.Present.files c.args.files.now))
    (map tree_of c.in-And.others.items)))
    (c.in_ok-holds-in-And.ensures ∙ ap Ok c.if-not-branch.true)

pub holds-returns-else-not-branch : goal.holds-returns-else-not-branch
holds-returns-else-not-branch g t c =
    let e : tree_of (And c.in-And.first c.in-And.others)
    ≡ fold both (tree_of c.in-And.first.value) (map tree_of c.in-And.others.items) = ap tree_of
    (sym (rolls-And c.in-And.first c.in-And.others))
    ∙ fold-roll-Cond Tree view_step (open_cond.And c.in-And.first c.in-And.others) in
    let w : truth_of (view_of c.args.lens.now (g.F.Present.files c.args.files.now))
    (tree_of c.args.cond.now)
    ≡ and_also
    (truth_of (view_of c.args.lens.now (g.F.Present.files c.args.files.now))
    (tree_of c.deref-in-And.result.now))
    (every_truth (view_of c.args.lens.now (g.F.Present.files c.args.files.now))
    (map tree_of c.in-And.others.items)) =
    ap (λ x. truth_of (view_of c.args.lens.now (g.F.Present.files c.args.files.now)) (tree_of x))
    c.in-And.is ∙ ap (truth_of (view_of c.args.lens.now (g.F.Present.files c.args.files.now))) e
    ∙ and_chain (view_of c.args.lens.now (g.F.Present.files c.args.files.now))
    (tree_of c.in-And.first.value) (map tree_of c.in-And.others.items)
    ∙ ap
    (λ x.
    and_also
    (truth_of (view_of c.args.lens.now (g.F.Present.files c.args.files.now)) (tree_of x))
    (every_truth (view_of c.args.lens.now (g.F.Present.files c.args.files.now))
    (map tree_of c.in-And.others.items))) (sym c.deref-in-And.ensures) in
    subst (Gives c.all_hold.result)
    (sym
    (w
    ∙ ap
    (λ a.
    and_also a
    (every_truth (view_of c.args.lens.now (g.F.Present.files c.args.files.now))
    (map tree_of c.in-And.others.items)))
    (c.in_ok-holds-in-And.ensures ∙ ap Ok c.if-not-branch.false)
    ∙ ap
    (λ xs. every_truth (view_of c.args.lens.now (g.F.Present.files c.args.files.now))
    (map tree_of xs)) (sym c.deref-in-And-2.ensures.value)))
    c.all_hold.ensures
