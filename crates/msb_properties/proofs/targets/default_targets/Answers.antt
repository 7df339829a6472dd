use Rattle.std.proofs.Common.{sym, ap, ◌∙◌}
use Rattle.msb_properties.specs.Passed.{names_at}
use Rattle.msb_properties.specs.Seen.{seen_setting, seen_properties}
use Rattle.msb_properties.proofs.Taken.{gives_same}
use Rattle.msb_properties.proofs.Named.{default_here}
use Rattle.msb_properties.proofs.targets.default_targets.Goals as goal

pub returns-in-Some : goal.returns-in-Some
returns-in-Some c =
    gives_same _ c.names.result _ _
    (sym c.loop-placed.invariant
    ∙ default_here (seen_setting c.args.setting.now) (seen_properties c.args.properties.now)
    c.args.elements.now c.loop-placed.placed-index c.placed-item.result c.in-Some.written.now
    c.loop-placed-test.true c.placed-item.is (sym c.in-Some.ensures)
    ∙ ap
    (λ e. names_at (seen_setting c.args.setting.now) (seen_properties c.args.properties.now) e
    c.in-Some.written.now) (sym c.of-element.ensures))
    c.names.ensures
