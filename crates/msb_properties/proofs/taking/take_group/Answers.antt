use Rattle.std.proofs.Common.{Ok, ap, ◌∙◌}
use Rattle.build_world.specs.Elements.{seen_element}
use Rattle.msb_properties.specs.Seen.{seen_setting, seen_properties}
use Rattle.msb_properties.proofs.Taken.{gives_same, group_each}
use Rattle.msb_properties.proofs.taking.take_group.Goals as goal

pub returns-then-branch-clause-taken : goal.returns-then-branch-clause-taken
returns-then-branch-clause-taken c =
    gives_same _ c.take_each.result _ _
    (group_each (seen_setting c.args.setting.now) (seen_properties c.args.properties.now)
    (seen_element c.args.element.now) c.children.result.now
    (c.in_ok-holds_in_file.ensures ∙ ap Ok c.if-branch.true) c.children.ensures)
    c.take_each.ensures.taken
