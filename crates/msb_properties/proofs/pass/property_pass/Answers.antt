use Rattle.std.proofs.Common.{[], refl}
use Rattle.std.proofs.lemmas.Result.{err_from_is_err_and}
use Rattle.msb_values.proofs.Causing.{passed_on}
use Rattle.build_world.specs.declared.fault.EvalFault.{EvalFault}
use Rattle.msb_properties.specs.Settings.{setting}
use Rattle.msb_properties.specs.Seen.{seen_laid, seen_properties}
use Rattle.msb_properties.proofs.Passing.{pass_stops, pass_goes}
use Rattle.msb_properties.proofs.Taken.{gives_same}
use Rattle.msb_properties.proofs.pass.property_pass.Goals as goal

pub returns-in_err-lay_own : goal.returns-in_err-lay_own
returns-in_err-lay_own c =
    let p = err_from_is_err_and c.from_residual-in_err-lay_own.result
    c.from_residual-in_err-lay_own.ensures.1 in
    rw (p.1, p.2)
    (passed_on (λ (f : EvalFault). f.cause) c.in_err-lay_own.field-0.0 _ _
    (λ f is. pass_stops (setting c.args.tree.now.files c.args.key.now) []
    c.new.result.items c.new-2.result c.new-3.result f
    refl c.new.ensures.items c.new-2.ensures c.new-3.ensures is)
    c.in_err-lay_own.ensures.laid)

pub returns : goal.returns
returns c =
    gives_same _ c.with_targets.result _ _
    (pass_goes (setting c.args.tree.now.files c.args.key.now) []
    c.new.result.items c.new-2.result c.new-3.result
    (seen_laid c.lay_own.new.layout) (seen_properties c.lay_own.new.layout.properties)
    refl c.new.ensures.items c.new-2.ensures c.new-3.ensures
    c.in_ok-lay_own.ensures.laid c.in_ok-lay_own.ensures.kept.kept)
    c.with_targets.ensures
