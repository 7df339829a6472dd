use Rattle.std.proofs.Common.{◌≡◌, Bool, List, Option, Result, Err, map, sym, ap, ◌∙◌, subst}
use Rattle.msb_laws.specs.Results.{and_then, map_ok}
use Rattle.msb_glob.specs.ItemNames.{ItemNames}
use Rattle.msb_values.specs.declared.item.Item.{Item}
use Rattle.build_world.specs.Answers.{GivesFault}
use Rattle.build_world.specs.declared.fault.EvalFault.{EvalFault}
use Rattle.build_world.specs.Elements.{seen_element}
use Rattle.std.proofs.lemmas.Result.{err_from_is_err_and}
use Rattle.msb_glob.specs.FoldedNames.{folded_names, seen_names}
use Rattle.msb_items.proofs.Stopping.{unmapped}
use Rattle.msb_values.proofs.Causing.{unless}
use Rattle.msb_items.specs.FoldedNames.{is_named_by}
use Rattle.msb_items.specs.ItemNames.{is_named}
use Rattle.msb_items.specs.Items.{list_of, names_at}
use Rattle.msb_items.specs.Metadata.{WrittenMetadata, item_attributes, metadata_on}
use Rattle.msb_items.specs.Replaced.{replacements_of}
use Rattle.element_texts.specs.Seen.{context_of}
use Rattle.msb_items.specs.Seen.{metadata_of}
use Rattle.msb_items.proofs.Naming.{chosen}
use Rattle.msb_items.proofs.changes.update_replacements.Goals as goal

pub returns : goal.returns
returns g c =
    let context = context_of g.F.Present.files c.args.context.now in
    let kind = c.args.element.now.kind.now in
    let e = seen_element c.args.element.now.at in
    let items = list_of c.args.context.now.scope.now kind in
    let names = seen_names c.in_ok-names.names in
    let next : (Item → Bool) → List WrittenMetadata → List Item
    → Result (List (Option Item)) EvalFault = λ test written items.
    replacements_of context kind written test items in
    let whole : and_then (names_at context e c.args.update.now)
    (λ names. replacements_of context kind (metadata_on item_attributes e)
    (is_named context.project names) items)
    ≡ next (is_named_by context.project names) (map metadata_of c.in_ok-written.written.items)
    c.list_of-items.result.now =
    chosen context.project (λ test. next test (metadata_on item_attributes e) items) _ names
    c.in_ok-names.ensures
    ∙ ap (λ written. next (is_named_by context.project names) written items)
    (sym c.in_ok-written.ensures)
    ∙ ap
    (λ items. next (is_named_by context.project names)
    (map metadata_of c.in_ok-written.written.items) items) (sym c.list_of-items.ensures) in
    let P : Result (List (Option Item)) EvalFault
    → Type 0 = λ x. GivesFault (λ replacements. replacements.items) c.replacements.result x in
    subst P (sym whole) c.replacements.ensures

pub returns-in_err-names : goal.returns-in_err-names
returns-in_err-names g c =
    let p = err_from_is_err_and c.from_residual.result c.from_residual.ensures.1 in
    let context = context_of g.F.Present.files c.args.context.now in
    let kind = c.args.element.now.kind.now in
    let e = seen_element c.args.element.now.at in
    let items = list_of c.args.context.now.scope.now kind in
    let found = names_at context e c.args.update.now in
    let next : ItemNames → Result (List (Option Item)) EvalFault = λ names.
    replacements_of context kind (metadata_on item_attributes e) (is_named context.project names)
    items in
    let stops : (fault : EvalFault) → map_ok folded_names found ≡ Err fault
    → and_then found next ≡ Err fault =
    λ fault is. ap (λ r. and_then r next) (unmapped folded_names found fault is) in
    rw (p.1, p.2) (unless _ (stops _) c.in_err-names.ensures)
