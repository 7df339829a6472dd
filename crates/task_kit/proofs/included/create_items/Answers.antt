use Rattle.std.proofs.Common.{List, Result, Ok, filter, not, sym, ap, ◌∙◌}
use Rattle.msb_laws.specs.Results.{and_then, map_ok}
use Rattle.msb_files.specs.Views.{paths}
use Rattle.msb_glob.specs.FoldedNames.{is_named_by, seen_names}
use Rattle.msb_glob.specs.Parsed.{Reading}
use Rattle.msb_values.specs.declared.item.Item.{Item}
use Rattle.task_trait.specs.declared.failures.Failure.{Failure}
use Rattle.task_kit.specs.Included.{items_included, less_excluded, names_excluded}
use Rattle.task_kit.proofs.Excluding.{left_same}
use Rattle.task_kit.proofs.included.create_items.Goals as goal

pub returns : goal.returns
returns c =
    let dir = c.args.dir.now in
    let included = items_included dir (paths c.args.view.now) c.args.entries.now in
    let excluded = c.args.excluded.now in
    let names = names_excluded c.in_ok-patterns.patterns excluded in
    ap
    (λ (r : Result (List Reading) Failure).
    and_then r (λ patterns. map_ok (less_excluded dir (names_excluded patterns excluded)) included))
    c.in_ok-patterns.ensures
    ∙ ap (map_ok (less_excluded dir names)) c.in_ok-items.ensures
    ∙ ap Ok
    (sym
    (c.in_ok-without_excluded.ensures
    ∙ ap
    (filter
    (λ (item : Item). not (is_named_by dir (seen_names c.in_ok-names.names) item.ident)))
    c.into_vec.ensures
    ∙ left_same dir names (seen_names c.in_ok-names.names) c.in_ok-items.items
    c.in_ok-names.ensures))
