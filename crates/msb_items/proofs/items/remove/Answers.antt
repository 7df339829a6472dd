use Rattle.std.proofs.Common.{◌≡◌, Ok, Err, sym, ap, ◌∙◌}
use Rattle.std.proofs.lemmas.Result.{err_from_is_err_and}
use Rattle.build_world.specs.Elements.{seen_element}
use Rattle.build_world.specs.declared.fault.EvalFault.{EvalFault}
use Rattle.msb_laws.specs.Results.{map_ok}
use Rattle.msb_glob.specs.FoldedNames.{folded_names, seen_names}
use Rattle.msb_items.specs.Items.{list_of, names_at, removed, unnamed, with_list}
use Rattle.element_texts.specs.Seen.{context_of}
use Rattle.msb_items.specs.Seen.{items_in}
use Rattle.msb_items.proofs.Naming.{left_same}
use Rattle.msb_values.proofs.Causing.{unless}
use Rattle.msb_items.proofs.Stopping.{remapped}
use Rattle.msb_items.proofs.items.remove.Goals as goal

pub returns : goal.returns
returns g c =
    let scope = c.args.scope.now in
    let kind = c.args.element.now.kind.now in
    let project = c.args.source.now.project.now in
    let items = list_of scope kind in
    ap
    (λ context. map_ok (λ found. with_list scope kind (unnamed project items found))
    (names_at context (seen_element c.args.element.now.at) c.args.written.now))
    (sym c.of_items-context.ensures)
    ∙ left_same (with_list scope kind) project items _ (seen_names c.in_ok-names.names)
    c.in_ok-names.ensures ∙ ap Ok (sym c.in_ok-remove_named.ensures)

pub returns-in_err-names : goal.returns-in_err-names
returns-in_err-names g c =
    let p = err_from_is_err_and c.from_residual.result c.from_residual.ensures.1 in
    let context = context_of g.F.Present.files c.of_items-context.result in
    let kind = c.args.element.now.kind.now in
    let e = seen_element c.args.element.now.at in
    let written = c.args.written.now in
    let stops : (fault : EvalFault) → map_ok folded_names (names_at context e written) ≡ Err fault
    → removed (items_in g.F.Present.files c.args.source.now c.args.scope.now) kind e written
    ≡ Err fault =
    λ fault is.
    ap (λ seen. removed seen kind e written) (sym c.of_items-context.ensures)
    ∙ remapped folded_names
    (λ names.
    with_list context.scope kind (unnamed context.project (list_of context.scope kind) names))
    (names_at context e written) fault is in
    rw (p.1, p.2) (unless _ (stops _) c.in_err-names.ensures)
