use Rattle.std.proofs.Common.{◌≡◌, ◌||◌, fold, map, sym, ap, ◌∙◌}
use Rattle.std.specs.List.{list_any}
use Rattle.request_machine.specs.ConditionFiles.{tree_asks}
use Rattle.msb_condition.specs.Trees.{Tree, either, both}
use Rattle.msb_condition.specs.View.{tree_of, view_step}
use Rattle.msb_condition.specs.declared.condition.Cond.TheFolds.{fold-roll-Cond}
use Rattle.msb_condition.specs.declared.condition.Cond.TheOpen as open_cond
use Rattle.msb_condition.specs.declared.condition.Cond.TheVariants.{rolls-Or, rolls-And}
use Rattle.msb_condition.specs.declared.condition.Cond.TheViews.{Or, And}
use Rattle.request_machine.proofs.FilesSeen.{both_asks, either_asks}
use Rattle.request_machine.proofs.plain.+asks_files.Goals as goal

pub asks_files-returns-then-asks_files : goal.asks_files-returns-then-asks_files
asks_files-returns-then-asks_files t c =
    let o = c.in-Or in
    let more = list_any tree_asks (map tree_of o.others.items) in
    let e : tree_of (Or o.first o.others)
    ≡ fold either (tree_of o.first.value) (map tree_of o.others.items) =
    ap tree_of (sym (rolls-Or o.first o.others))
    ∙ fold-roll-Cond Tree view_step (open_cond.Or o.first o.others) in
    c.if-asks_files.true
    ∙ sym (ap (λ x. tree_asks (tree_of x)) o.is ∙ (ap tree_asks e
    ∙ (either_asks (tree_of o.first.value) (map tree_of o.others.items)
    ∙ ap (λ b. b || more) (ap (λ x. tree_asks (tree_of x)) (sym c.deref.ensures)
    ∙ (sym c.asks_files.ensures ∙ c.if-asks_files.true)))))

pub asks_files-returns-else-asks_files : goal.asks_files-returns-else-asks_files
asks_files-returns-else-asks_files t c =
    let o = c.in-Or in
    let more = list_any tree_asks (map tree_of o.others.items) in
    let e : tree_of (Or o.first o.others)
    ≡ fold either (tree_of o.first.value) (map tree_of o.others.items) =
    ap tree_of (sym (rolls-Or o.first o.others))
    ∙ fold-roll-Cond Tree view_step (open_cond.Or o.first o.others) in
    c.any_asks.ensures
    ∙ (ap (λ xs. list_any tree_asks (map tree_of xs)) c.deref-else-asks_files.ensures.value
    ∙ sym (ap (λ x. tree_asks (tree_of x)) o.is ∙ (ap tree_asks e
    ∙ (either_asks (tree_of o.first.value) (map tree_of o.others.items)
    ∙ ap (λ b. b || more) (ap (λ x. tree_asks (tree_of x)) (sym c.deref.ensures)
    ∙ (sym c.asks_files.ensures ∙ c.if-asks_files.false))))))

pub asks_files-returns-then-asks_files-2 : goal.asks_files-returns-then-asks_files-2
asks_files-returns-then-asks_files-2 t c =
    let a = c.in-And in
    let more = list_any tree_asks (map tree_of a.others.items) in
    let e : tree_of (And a.first a.others)
    ≡ fold both (tree_of a.first.value) (map tree_of a.others.items) =
    ap tree_of (sym (rolls-And a.first a.others))
    ∙ fold-roll-Cond Tree view_step (open_cond.And a.first a.others) in
    c.if-asks_files-2.true
    ∙ sym (ap (λ x. tree_asks (tree_of x)) a.is ∙ (ap tree_asks e
    ∙ (both_asks (tree_of a.first.value) (map tree_of a.others.items)
    ∙ ap (λ b. b || more) (ap (λ x. tree_asks (tree_of x)) (sym c.deref-in-And.ensures)
    ∙ (sym c.asks_files-in-And.ensures ∙ c.if-asks_files-2.true)))))

pub asks_files-returns-else-asks_files-2 : goal.asks_files-returns-else-asks_files-2
asks_files-returns-else-asks_files-2 t c =
    let a = c.in-And in
    let more = list_any tree_asks (map tree_of a.others.items) in
    let e : tree_of (And a.first a.others)
    ≡ fold both (tree_of a.first.value) (map tree_of a.others.items) =
    ap tree_of (sym (rolls-And a.first a.others))
    ∙ fold-roll-Cond Tree view_step (open_cond.And a.first a.others) in
    c.any_asks-else-asks_files-2.ensures
    ∙ (ap (λ xs. list_any tree_asks (map tree_of xs)) c.deref-else-asks_files-2.ensures.value
    ∙ sym (ap (λ x. tree_asks (tree_of x)) a.is ∙ (ap tree_asks e
    ∙ (both_asks (tree_of a.first.value) (map tree_of a.others.items)
    ∙ ap (λ b. b || more) (ap (λ x. tree_asks (tree_of x)) (sym c.deref-in-And.ensures)
    ∙ (sym c.asks_files-in-And.ensures ∙ c.if-asks_files-2.false))))))
