use Rattle.std.proofs.Common.{◌∙◌, ap}
use Rattle.msb_values.specs.Pairs.{value_at}
use Rattle.msb_values.proofs.Lookups.{lookup-value_at}
use Rattle.msb_values.proofs.name_map.NameMap.get.Goals as goal

pub returns : goal.returns
returns g c =
    let name = c.args.name.now in
    c.get.ensures.value ∙ lookup-value_at name c.self.inside.map.entries
    ∙ ap (value_at name) c.self.view_is
