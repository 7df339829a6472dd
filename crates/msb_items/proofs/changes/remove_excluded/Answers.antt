use Rattle.std.proofs.Common.{Ok, sym, ap, ◌∙◌}
use Rattle.std.proofs.lemmas.Result.{err_from_is_err_and}
use Rattle.build_world.specs.Elements.{seen_element}
use Rattle.msb_glob.specs.FoldedNames.{folded_names, seen_names}
use Rattle.msb_items.specs.Items.{names_at, unnamed}
use Rattle.element_texts.specs.Seen.{context_of}
use Rattle.msb_items.proofs.Naming.{left_same}
use Rattle.msb_values.proofs.Causing.{unless}
use Rattle.msb_items.proofs.Stopping.{remapped}
use Rattle.msb_items.proofs.changes.remove_excluded.Goals as goal

pub returns : goal.returns
returns g c =
    left_same (λ items. items) c.args.context.now.project.now c.args.items.items _
    (seen_names c.in_ok-names.names) c.in_ok-names.ensures
    ∙ ap Ok (sym c.in_ok-keep_unnamed.ensures)

pub returns-in_err-names : goal.returns-in_err-names
returns-in_err-names g c =
    let p = err_from_is_err_and c.from_residual.result c.from_residual.ensures.1 in
    let context = context_of g.F.Present.files c.args.context.now in
    rw (p.1, p.2)
    (unless _
    (remapped folded_names (unnamed context.project c.args.items.items)
    (names_at context (seen_element c.args.element.now) c.args.exclude.now) _)
    c.in_err-names.ensures)
