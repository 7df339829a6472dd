use Rattle.std.proofs.Common.{◌∙◌, ℕ, List, ap, subst}
use Rattle.build_world.specs.Elements.{seen_element}
use Rattle.msb_files.specs.Views.{View, paths}
use Rattle.element_texts.specs.Contexts.{ElementContext, item_context}
use Rattle.target_texts.specs.Answered.{Pushes}
use Rattle.target_texts.specs.Inferred.{inferred_at}
use Rattle.target_body.proofs.tasks.push_inferred_in.Goals as goal

pub returns : goal.returns
returns c =
    let view : View = record
    { files = c.args.at.now.context.world.now.tree.files; journal = c.args.journal.now } in
    subst
    (λ (context : ElementContext). Pushes c.push_inferred.result c.args.changes.now
    c.push_inferred.new.changes (inferred_at context (seen_element c.args.at.now.element)))
    (c.of_items-element_context.ensures
    ∙ ap (λ (view : View). item_context (paths view) c.project.result.now c.args.scope.now)
    c.of-view.ensures
    ∙ ap (λ (path : List ℕ). item_context (paths view) path c.args.scope.now) c.project.ensures)
    c.push_inferred.ensures
