use Rattle.std.proofs.Common.{◌∙◌, Ok, filter, sym, ap}
use Rattle.element_texts.specs.Contexts.{items_seen}
use Rattle.element_texts.specs.Seen.{context_of}
use Rattle.std.proofs.lemmas.Result.{err_from_is_err_and}
use Rattle.build_world.specs.Elements.{seen_element}
use Rattle.msb_glob.specs.FoldedNames.{folded_names, seen_names}
use Rattle.msb_items.specs.FoldedNames.{is_named_by}
use Rattle.msb_items.specs.ItemNames.{is_named}
use Rattle.msb_items.specs.Items.{names_at}
use Rattle.msb_items.proofs.Stopping.{remapped}
use Rattle.msb_values.proofs.Causing.{unless}
use Rattle.msb_items.proofs.Naming.{named_alike}
use Rattle.msb_items.proofs.target_items.named_items.Goals as goal

pub returns : goal.returns
returns g c =
    let context = context_of g.F.Present.files c.args.context.now in
    let names = seen_names c.in_ok-names.names in
    named_alike context.project (items_seen context c.args.kind.now) _ names c.in_ok-names.ensures
    ∙ ap Ok
    (sym
    (c.in_ok-find_named.ensures ∙ ap (filter (is_named_by context.project names))
    c.items.ensures))

pub returns-in_err-names : goal.returns-in_err-names
returns-in_err-names g c =
    let p = err_from_is_err_and c.from_residual.result c.from_residual.ensures.1 in
    let context = context_of g.F.Present.files c.args.context.now in
    let items = items_seen context c.args.kind.now in
    rw (p.1, p.2)
    (unless _
    (remapped folded_names (λ names. filter (is_named context.project names) items)
    (names_at context (seen_element c.args.element.now) c.args.written.now) _)
    c.in_err-names.ensures)
