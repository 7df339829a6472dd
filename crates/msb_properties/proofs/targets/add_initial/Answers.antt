use Rattle.std.proofs.Common.{sym}
use Rattle.std.proofs.lemmas.Result.{err_from_is_err_and}
use Rattle.msb_values.proofs.Causing.{passed_on}
use Rattle.build_world.specs.Elements.{seen_element, seen_placed}
use Rattle.build_world.specs.declared.fault.EvalFault.{EvalFault}
use Rattle.msb_properties.specs.Seen.{seen_setting, seen_properties}
use Rattle.msb_properties.proofs.Named.{initial_stops}
use Rattle.msb_properties.proofs.targets.add_initial.Goals as goal

pub returns-in_err-more : goal.returns-in_err-more
returns-in_err-more c =
    let p = err_from_is_err_and c.from_residual.result c.from_residual.ensures.1 in
    rw (p.1, p.2)
    (passed_on (λ (f : EvalFault). f.cause) c.in_err-more.field-0.0 _ _
    (λ f is. initial_stops (seen_setting c.args.setting.now) (seen_properties c.args.properties.now)
    c.args.names.now (seen_placed c.args.placed.now) (seen_element c.of-element.result)
    c.in-Some.written.now f c.of-element.ensures (sym c.in-Some.ensures) is)
    c.in_err-more.ensures)
