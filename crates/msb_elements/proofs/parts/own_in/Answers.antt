use Rattle.serde_json.specs.View.{members_view}
use Rattle.msb_elements.proofs.Growing.{gives_same, tree_by_values}
use Rattle.msb_elements.proofs.parts.own_in.Goals as goal

pub returns-in-Some : goal.returns-in-Some
returns-in-Some c =
    let are = c.in-Some.ensures in
    gives_same _ c.own_from.result _ _
    (tree_by_values (members_view c.args.members.entries) _ _ _ _ are.only are.name
    are.attributes are.text are.entries) c.own_from.ensures
