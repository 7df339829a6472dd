use Rattle.std.proofs.Common.{◌≡◌, length, Ok, Some, sym, ap, ◌∙◌, arith, ◌-◌}
use Rattle.std.proofs.lemmas.Result.{err_from_is_err_and}
use Rattle.std.proofs.lemmas.List.{nil_from_length}
use Rattle.std.specs.Vec.Iter.{into_iter_items}
use Rattle.file_store.specs.Files.{file_at}
use Rattle.msb_elements.specs.View.{view, views}
use Rattle.build_world.specs.Elements.{at}
use Rattle.msb_values.proofs.Causing.{passed_on}
use Rattle.build_world.specs.declared.fault.EvalFault.{EvalFault}
use Rattle.msb_properties.specs.Propertied.{holds_in_file, holds_in_project}
use Rattle.msb_properties.specs.Laid.{part_of, lay_all, lay_chosen, lay_import, lay_within}
use Rattle.msb_properties.specs.Seen.{seen_setting, seen_laid, seen_properties}
use Rattle.msb_properties.proofs.Taken.{gives_same}
use Rattle.msb_properties.proofs.Heights.{
  height,
  above_all,
  height_first,
  heights_rest,
  below_split,
  less_deep,
  lower,
  one_less,
}
use Rattle.msb_properties.proofs.Steps as step
use Rattle.msb_properties.proofs.laying.+laying.Goals as goal

pub lay_all-loop-child-preserved : goal.lay_all-loop-child-preserved
lay_all-loop-child-preserved t c =
    let context = c.args.context.now in
    let steps = c.in-Some.ensures.steps in
    let before = c.loop-child.invariant in
    let shorter = ap length steps.0 in
    record {
      laid = step.all_goes
          (lay_within (64 - length context.chain.now) (seen_setting context.setting))
          (seen_setting context.setting) context.chain.now context.file.now
          (seen_laid c.loop-child.layout) (seen_laid c.lay_one.new.layout) _ _ c.in-Some.child _
          steps.0 before.laid c.in_ok-lay_one.ensures.laid;
      kept = c.in_ok-lay_one.ensures.kept;
      counted = omega (arith, shorter, steps.1, before.counted);
      less_deep = heights_rest _ _ c.in-Some.child _ steps.0 before.less_deep;
    }

pub lay_all-returns-in_err-lay_one-clause-laid : goal.lay_all-returns-in_err-lay_one-clause-laid
lay_all-returns-in_err-lay_one-clause-laid t c =
    let context = c.args.context.now in
    let p = err_from_is_err_and c.from_residual.result c.from_residual.ensures.1 in
    rw (p.1, p.2)
    (passed_on (λ (f : EvalFault). f.cause) c.in_err-lay_one.field-0.0 _ _
    (λ f is.
    step.all_stops (lay_within (64 - length context.chain.now) (seen_setting context.setting))
    (seen_setting context.setting) context.chain.now context.file.now
    (seen_laid c.loop-child.layout) _ _ c.in-Some.child _ f c.in-Some.ensures.steps.0
    c.loop-child.invariant.laid is)
    c.in_err-lay_one.ensures.laid)

pub lay_all-returns-clause-laid : goal.lay_all-returns-clause-laid
lay_all-returns-clause-laid t c =
    let context = c.args.context.now in
    step.all_ends (lay_within (64 - length context.chain.now) (seen_setting context.setting))
    (seen_setting context.setting) context.chain.now context.file.now
    (seen_laid c.loop-child.layout) _ _
    (nil_from_length (into_iter_items c.loop-child.child-iterator)
    (sym c.loop-child.invariant.counted ∙ c.in-None.ensures.steps.0))
    c.loop-child.invariant.laid

pub lay_chosen-returns-in_err-holds_in_project-clause-laid :
    goal.lay_chosen-returns-in_err-holds_in_project-clause-laid
lay_chosen-returns-in_err-holds_in_project-clause-laid t c =
    let context = c.args.context.now in
    let p = err_from_is_err_and c.from_residual.result c.from_residual.ensures.1 in
    rw (p.1, p.2)
    (passed_on (λ (f : EvalFault). f.cause) c.in_err-holds_in_project.field-0.0 _ _
    (λ f is.
    step.chosen_stops
    (lay_within (64 - length context.chain.now) (seen_setting context.setting))
    (seen_setting context.setting) context.chain.now context.file.now
    (seen_laid c.loop-choice.layout) (seen_properties c.loop-choice.layout.properties)
    (into_iter_items c.loop-choice.choice-iterator) (into_iter_items c.next.new.self)
    c.in-Some.choice
    (lay_chosen (lay_within (64 - length context.chain.now) (seen_setting context.setting))
    (seen_setting context.setting) context.chain.now context.file.now
    (seen_laid c.args.layout.now) (views c.args.choices.items)) f c.in-Some.ensures.steps.0
    c.loop-choice.invariant.laid c.loop-choice.invariant.kept.kept
    (ap
    (λ f. holds_in_project (seen_setting context.setting)
    (seen_properties c.loop-choice.layout.properties) (at f (view c.in-Some.choice)))
    (sym c.as_str.ensures) ∙ is))
    c.in_err-holds_in_project.ensures)

pub lay_chosen-lay_all-requires : goal.lay_chosen-lay_all-requires
lay_chosen-lay_all-requires t c =
    let first = height_first _ _ c.in-Some.choice _ c.in-Some.ensures.steps.0
    c.loop-choice.invariant.less_deep in
    let below = below_split (view c.in-Some.choice) c.split-children.result.1.items
    c.split-children.ensures.children in
    (omega (arith, first, below, c.decreases), c.loop-choice.invariant.kept)

pub lay_chosen-returns-then-branch-clause-laid : goal.lay_chosen-returns-then-branch-clause-laid
lay_chosen-returns-then-branch-clause-laid t c =
    let context = c.args.context.now in
    gives_same _ c.lay_all.result _ _
    (step.chosen_takes (lay_within (64 - length context.chain.now) (seen_setting context.setting))
    (seen_setting context.setting) context.chain.now context.file.now
    (seen_laid c.loop-choice.layout) (seen_properties c.loop-choice.layout.properties)
    (into_iter_items c.loop-choice.choice-iterator) (into_iter_items c.next.new.self)
    c.in-Some.choice _ c.in-Some.ensures.steps.0 c.loop-choice.invariant.laid
    c.loop-choice.invariant.kept.kept
    (ap
    (λ f. holds_in_project (seen_setting context.setting)
    (seen_properties c.loop-choice.layout.properties) (at f (view c.in-Some.choice)))
    (sym c.as_str.ensures) ∙ (c.in_ok-holds_in_project.ensures ∙ ap Ok c.if-branch.true))
    ∙ ap
    (lay_all (lay_within (64 - length context.chain.now) (seen_setting context.setting))
    (seen_setting context.setting) context.chain.now context.file.now
    (seen_laid c.loop-choice.layout))
    (sym
    (step.nodes_split (view c.in-Some.choice) c.split-children.result.1.items
    c.split-children.ensures.children)))
    c.lay_all.ensures.laid

pub lay_chosen-loop-choice-preserved : goal.lay_chosen-loop-choice-preserved
lay_chosen-loop-choice-preserved t c =
    let context = c.args.context.now in
    let steps = c.in-Some.ensures.steps in
    let before = c.loop-choice.invariant in
    let shorter = ap length steps.0 in
    record {
      laid = step.chosen_goes
          (lay_within (64 - length context.chain.now) (seen_setting context.setting))
          (seen_setting context.setting) context.chain.now context.file.now
          (seen_laid c.loop-choice.layout) (seen_properties c.loop-choice.layout.properties)
          (into_iter_items c.loop-choice.choice-iterator) (into_iter_items c.next.new.self)
          c.in-Some.choice
          (lay_chosen (lay_within (64 - length context.chain.now) (seen_setting context.setting))
          (seen_setting context.setting) context.chain.now context.file.now
          (seen_laid c.args.layout.now) (views c.args.choices.items)) steps.0 before.laid
          before.kept.kept
          (ap
          (λ f. holds_in_project (seen_setting context.setting)
          (seen_properties c.loop-choice.layout.properties) (at f (view c.in-Some.choice)))
          (sym c.as_str.ensures) ∙ (c.in_ok-holds_in_project.ensures ∙ ap Ok c.if-branch.false));
      kept = before.kept;
      counted = omega (arith, shorter, steps.1, before.counted);
      less_deep = heights_rest _ _ c.in-Some.choice _ steps.0 before.less_deep;
    }

pub lay_chosen-returns-clause-laid : goal.lay_chosen-returns-clause-laid
lay_chosen-returns-clause-laid t c =
    let context = c.args.context.now in
    step.chosen_ends (lay_within (64 - length context.chain.now) (seen_setting context.setting))
    (seen_setting context.setting) context.chain.now context.file.now
    (seen_laid c.loop-choice.layout) _ _
    (nil_from_length (into_iter_items c.loop-choice.choice-iterator)
    (sym c.loop-choice.invariant.counted ∙ c.in-None.ensures.steps.0))
    c.loop-choice.invariant.laid

pub lay_file-returns-in_err-root-clause-laid : goal.lay_file-returns-in_err-root-clause-laid
lay_file-returns-in_err-root-clause-laid t c =
    let found : file_at c.args.path.now c.args.setting.now.tree.now.files
    ≡ Some c.in-Some.file.now = ap (λ p. file_at p c.args.setting.now.tree.now.files)
    (sym c.as_str.ensures) ∙ sym c.in-Some.ensures in
    let p = err_from_is_err_and c.from_residual-in_err-root.result
    c.from_residual-in_err-root.ensures.1 in
    rw (p.1, p.2)
    (passed_on (λ (f : EvalFault). f.cause) c.in_err-root.field-0.0 _ _
    (λ f is. step.file_stops (seen_setting c.args.setting.now) c.args.chain.now c.args.path.now
    (seen_laid c.args.layout.now) (64 - length c.args.chain.now) (64 - length c.in_ok-longer.longer)
    c.in-Some.file.now f
    (one_less c.args.chain.now c.in_ok-longer.longer c.args.path.now c.requires.short
    c.in_ok-longer.ensures)
    found is)
    c.in_err-root.ensures)

pub lay_file-lay_project-requires : goal.lay_file-lay_project-requires
lay_file-lay_project-requires t c =
    let found : file_at c.args.path.now c.args.setting.now.tree.now.files
    ≡ Some c.in-Some.file.now = ap (λ p. file_at p c.args.setting.now.tree.now.files)
    (sym c.as_str.ensures) ∙ sym c.in-Some.ensures in
    let deep = less_deep c.args.path.now c.args.setting.now.tree.now.files c.in-Some.file.now
    (view c.in_ok-root.root) found c.in_ok-root.ensures in (
      omega (
        arith,
        lower (64 - length c.args.chain.now) (64 - length c.in_ok-longer.longer)
            (height (view c.in_ok-root.root)) (above_all c.args.setting.now.tree.now.files)
            (one_less c.args.chain.now c.in_ok-longer.longer c.args.path.now c.requires.short
            c.in_ok-longer.ensures)
            deep,
        c.decreases,
      ),
      record { plain = c.requires.kept.plain; kept = c.requires.kept.kept },
    )

pub lay_file-returns-clause-laid : goal.lay_file-returns-clause-laid
lay_file-returns-clause-laid t c =
    let found : file_at c.args.path.now c.args.setting.now.tree.now.files
    ≡ Some c.in-Some.file.now = ap (λ p. file_at p c.args.setting.now.tree.now.files)
    (sym c.as_str.ensures) ∙ sym c.in-Some.ensures in
    gives_same _ c.lay_project.result _ _
    (step.file_goes (seen_setting c.args.setting.now) c.args.chain.now c.in_ok-longer.longer
    c.args.path.now (seen_laid c.args.layout.now) (64 - length c.args.chain.now)
    (64 - length c.in_ok-longer.longer) c.in-Some.file.now (view c.in_ok-root.root)
    (one_less c.args.chain.now c.in_ok-longer.longer c.args.path.now c.requires.short
    c.in_ok-longer.ensures)
    found c.in_ok-longer.ensures c.in_ok-root.ensures)
    c.lay_project.ensures.laid

pub lay_group-returns-in_err-holds_in_file-clause-laid :
    goal.lay_group-returns-in_err-holds_in_file-clause-laid
lay_group-returns-in_err-holds_in_file-clause-laid t c =
    let context = c.args.context.now in
    let p = err_from_is_err_and c.from_residual.result c.from_residual.ensures.1 in
    rw (p.1, p.2)
    (passed_on (λ (f : EvalFault). f.cause) c.in_err-holds_in_file.field-0.0 _ _
    (λ f is.
    step.group_fault
    (lay_within (64 - length context.chain.now) (seen_setting context.setting))
    (seen_setting context.setting) context.chain.now context.file.now
    (seen_laid c.args.layout.now) (view c.args.group)
    (seen_properties c.args.layout.now.properties) f c.requires.group c.requires.kept.kept
    (ap
    (λ f. holds_in_file (seen_setting context.setting)
    (seen_properties c.args.layout.now.properties) (at f (view c.args.group)))
    (sym c.as_str.ensures) ∙ is))
    c.in_err-holds_in_file.ensures)

pub lay_group-lay_all-requires : goal.lay_group-lay_all-requires
lay_group-lay_all-requires t c = (
  omega (
    arith,
    below_split (view c.args.group) c.split-imports.result.1.items
        c.split-imports.ensures.children,
    c.decreases,
  ),
  c.requires.kept,
)

pub lay_group-returns-then-branch-clause-laid : goal.lay_group-returns-then-branch-clause-laid
lay_group-returns-then-branch-clause-laid t c =
    let context = c.args.context.now in
    gives_same _ c.lay_all.result _ _
    (step.group_held (lay_within (64 - length context.chain.now) (seen_setting context.setting))
    (seen_setting context.setting) context.chain.now context.file.now
    (seen_laid c.args.layout.now) (view c.args.group)
    (seen_properties c.args.layout.now.properties) c.requires.group c.requires.kept.kept
    (ap
    (λ f. holds_in_file (seen_setting context.setting)
    (seen_properties c.args.layout.now.properties) (at f (view c.args.group)))
    (sym c.as_str.ensures) ∙ (c.in_ok-holds_in_file.ensures ∙ ap Ok c.if-branch.true))
    ∙ ap
    (lay_all (lay_within (64 - length context.chain.now) (seen_setting context.setting))
    (seen_setting context.setting) context.chain.now context.file.now
    (seen_laid c.args.layout.now))
    (sym
    (step.nodes_split (view c.args.group) c.split-imports.result.1.items
    c.split-imports.ensures.children)))
    c.lay_all.ensures.laid

pub lay_group-returns-clause-laid : goal.lay_group-returns-clause-laid
lay_group-returns-clause-laid t c =
    let context = c.args.context.now in
    step.group_not (lay_within (64 - length context.chain.now) (seen_setting context.setting))
    (seen_setting context.setting) context.chain.now context.file.now
    (seen_laid c.args.layout.now) (view c.args.group)
    (seen_properties c.args.layout.now.properties) c.requires.group c.requires.kept.kept
    (ap
    (λ f. holds_in_file (seen_setting context.setting)
    (seen_properties c.args.layout.now.properties) (at f (view c.args.group)))
    (sym c.as_str.ensures) ∙ (c.in_ok-holds_in_file.ensures ∙ ap Ok c.if-branch.false))

pub lay_one-lay_chosen-requires : goal.lay_one-lay_chosen-requires
lay_one-lay_chosen-requires t c = (
  omega (
    arith,
    below_split (view c.args.child) c.split-choices.result.1.items
        c.split-choices.ensures.children,
    c.decreases,
  ),
  c.requires,
)

pub lay_one-returns-in-Imported-clause-laid : goal.lay_one-returns-in-Imported-clause-laid
lay_one-returns-in-Imported-clause-laid t c =
    let context = c.args.context.now in
    gives_same _ c.lay_import.result _ _
    (step.laid_import (lay_within (64 - length context.chain.now) (seen_setting context.setting))
    (seen_setting context.setting) context.chain.now context.file.now
    (seen_laid c.args.layout.now) (view c.args.child)
    (ap part_of (sym c.name.ensures) ∙ sym c.of.ensures ∙ c.in-Imported.is)
    ∙ ap
    (λ f.
    lay_import (lay_within (64 - length context.chain.now) (seen_setting context.setting))
    (seen_setting context.setting) context.chain.now (seen_laid c.args.layout.now)
    (at f (view c.args.child))) (sym c.as_str.ensures))
    c.lay_import.ensures.laid

pub lay_one-returns-in-Chosen-clause-laid : goal.lay_one-returns-in-Chosen-clause-laid
lay_one-returns-in-Chosen-clause-laid t c =
    let context = c.args.context.now in
    gives_same _ c.lay_chosen.result _ _
    (step.laid_chosen (lay_within (64 - length context.chain.now) (seen_setting context.setting))
    (seen_setting context.setting) context.chain.now context.file.now
    (seen_laid c.args.layout.now) (view c.args.child)
    (ap part_of (sym c.name.ensures) ∙ sym c.of.ensures ∙ c.in-Chosen.is)
    ∙ ap
    (lay_chosen (lay_within (64 - length context.chain.now) (seen_setting context.setting))
    (seen_setting context.setting) context.chain.now context.file.now
    (seen_laid c.args.layout.now))
    (sym
    (step.nodes_split (view c.args.child) c.split-choices.result.1.items
    c.split-choices.ensures.children)))
    c.lay_chosen.ensures.laid

pub lay_one-returns-in-PassedOver-clause-laid : goal.lay_one-returns-in-PassedOver-clause-laid
lay_one-returns-in-PassedOver-clause-laid t c =
    let context = c.args.context.now in
    step.laid_over (lay_within (64 - length context.chain.now) (seen_setting context.setting))
    (seen_setting context.setting) context.chain.now context.file.now
    (seen_laid c.args.layout.now) (view c.args.child)
    (ap part_of (sym c.name.ensures) ∙ sym c.of.ensures ∙ c.in-PassedOver.is)

pub lay_one-returns-in-LaidOut-clause-laid : goal.lay_one-returns-in-LaidOut-clause-laid
lay_one-returns-in-LaidOut-clause-laid t c =
    let context = c.args.context.now in
    gives_same _ c.extend.result _ _
    (step.laid_out (lay_within (64 - length context.chain.now) (seen_setting context.setting))
    (seen_setting context.setting) context.chain.now context.file.now
    (seen_laid c.args.layout.now) (view c.args.child)
    (ap part_of (sym c.name.ensures) ∙ sym c.of.ensures ∙ c.in-LaidOut.is))
    c.extend.ensures.laid

pub lay_project-extend-requires : goal.lay_project-extend-requires
lay_project-extend-requires t c =
    c.in_ok-add_file.ensures.kept (seen_setting c.args.context.now.setting) c.requires

pub lay_project-lay_all-requires : goal.lay_project-lay_all-requires
lay_project-lay_all-requires t c = (
  omega (
    arith,
    below_split (view c.args.root) c.split-element.result.1.items
        c.split-element.ensures.children,
    c.decreases,
  ),
  c.in_ok-extend.ensures.kept,
)

pub lay_project-returns-clause-laid : goal.lay_project-returns-clause-laid
lay_project-returns-clause-laid t c =
    let context = c.args.context.now in
    gives_same _ c.lay_all.result _ _
    (step.project_laid (lay_within (64 - length context.chain.now) (seen_setting context.setting))
    (seen_setting context.setting) context.chain.now context.file.now
    (seen_laid c.args.layout.now) (seen_laid c.add_file.new.self) (seen_laid c.extend.new.self)
    (view c.args.root) (view c.split-element.result.0) c.split-element.result.1.items
    c.in_ok-add_file.ensures.laid c.in_ok-extend.ensures.laid c.split-element.ensures.element
    c.split-element.ensures.children)
    c.lay_all.ensures.laid
