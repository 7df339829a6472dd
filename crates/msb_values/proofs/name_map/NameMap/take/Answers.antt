use Rattle.std.proofs.Common.{◌∙◌, ap}
use Rattle.std.specs.BTreeMap.{insert_entry, is_at}
use Rattle.std.specs.Cmp.Lexicographic.{slice_cmp}
use Rattle.std.specs.Map.{remove_entry}
use Rattle.std.specs.Ordering.{nat_cmp}
use Rattle.msb_values.specs.Pairs.{value_at, without_name}
use Rattle.msb_values.proofs.Lookups.{lookup-value_at, removed-without, insert-removed}
use Rattle.msb_values.proofs.name_map.NameMap.take.Goals as goal

pub returns-clause-had : goal.returns-clause-had
returns-clause-had g c =
    let name = c.args.name.now in
    c.remove.ensures.value ∙ lookup-value_at name c.self.inside.map.entries
    ∙ ap (value_at name) c.self.view_is

pub returns-clause-left : goal.returns-clause-left
returns-clause-left g c =
    let name = c.args.name.now in
    c.remove.ensures.entries ∙ removed-without name c.self.inside.map.entries
    ∙ ap (without_name name) c.self.view_is

pub returns-clause-inserted : goal.returns-clause-inserted
returns-clause-inserted g c = λ next.
    let name = c.args.name.now in
    ap (λ entries. insert_entry (slice_cmp nat_cmp) entries name next) c.remove.ensures.entries
    ∙ ap
    (λ entries. insert_entry (slice_cmp nat_cmp)
    (remove_entry (is_at (slice_cmp nat_cmp name)) entries) name next) c.self.view_is
    ∙ insert-removed name next c.args.self.now c.names_rise.ensures
