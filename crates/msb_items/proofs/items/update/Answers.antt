use Rattle.std.proofs.Common.{◌≡◌, List, Option, Ok, Err, sym, ap, ◌∙◌}
use Rattle.std.proofs.lemmas.Result.{err_from_is_err_and}
use Rattle.msb_laws.specs.Results.{and_then, map_ok}
use Rattle.msb_values.specs.declared.item.Item.{Item}
use Rattle.msb_values.specs.declared.scope.Scope.{Scope}
use Rattle.build_world.specs.Elements.{seen_element}
use Rattle.build_world.specs.declared.fault.EvalFault.{EvalFault}
use Rattle.msb_items.specs.ItemNames.{is_named}
use Rattle.msb_items.specs.Items.{list_of, names_at, updated, with_list}
use Rattle.msb_items.specs.Metadata.{item_attributes, metadata_on}
use Rattle.element_texts.specs.Contexts.{ElementContext}
use Rattle.msb_items.specs.Replaced.{replaced, replacements_of}
use Rattle.element_texts.specs.Seen.{context_of}
use Rattle.msb_items.specs.Seen.{items_in}
use Rattle.msb_items.proofs.Replacing.{updated_by}
use Rattle.msb_values.proofs.Causing.{unless}
use Rattle.msb_items.proofs.items.update.Goals as goal

pub returns : goal.returns
returns g c =
    let context = context_of g.F.Present.files c.of_items-context.result in
    let kind = c.args.element.now.kind.now in
    let e = seen_element c.args.element.now.at in
    let written = c.args.written.now in
    let put : List (Option Item) → Scope = λ replacements.
    with_list context.scope kind (replaced (list_of context.scope kind) replacements) in
    ap (λ seen. updated seen kind e written) (sym c.of_items-context.ensures)
    ∙ updated_by context kind e written
    ∙ ap (map_ok put) c.in_ok-replacements.ensures
    ∙ ap Ok
    (ap
    (λ (seen : ElementContext). with_list seen.scope kind
    (replaced (list_of seen.scope kind) c.in_ok-replacements.replacements.items))
    c.of_items-context.ensures ∙ sym c.in_ok-replace_in.ensures)

pub returns-in_err-replacements : goal.returns-in_err-replacements
returns-in_err-replacements g c =
    let p = err_from_is_err_and c.from_residual.result c.from_residual.ensures.1 in
    let context = context_of g.F.Present.files c.of_items-context.result in
    let kind = c.args.element.now.kind.now in
    let e = seen_element c.args.element.now.at in
    let written = c.args.written.now in
    let put : List (Option Item) → Scope = λ replacements.
    with_list context.scope kind (replaced (list_of context.scope kind) replacements) in
    let found = and_then (names_at context e written)
    (λ names. replacements_of context kind (metadata_on item_attributes e)
    (is_named context.project names) (list_of context.scope kind)) in
    let stops : (fault : EvalFault) → found ≡ Err fault
    → updated (items_in g.F.Present.files c.args.source.now c.args.scope.now) kind e written
    ≡ Err fault =
    λ fault is. ap (λ seen. updated seen kind e written) (sym c.of_items-context.ensures)
    ∙ updated_by context kind e written ∙ ap (map_ok put) is in
    rw (p.1, p.2) (unless _ (stops _) c.in_err-replacements.ensures)
