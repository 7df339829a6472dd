use Rattle.std.proofs.Common.{ap, ◌∙◌}
use Rattle.std.specs.List.{list_any}
use Rattle.msb_values.specs.Acts.{act_path}
use Rattle.msb_values.specs.declared.act.Act.{Act}
use Rattle.msb_files.specs.Below.{has_file_below}
use Rattle.msb_files.specs.Views.{acts_of}
use Rattle.msb_files.proofs.LayerSteps.{any_here, any_later}
use Rattle.msb_files.proofs.layers.is_any_below.Goals as goal

pub returns-then-is_any_below : goal.returns-then-is_any_below
returns-then-is_any_below c =
    let test = λ (act : Act). has_file_below c.args.view.now c.args.folder.now (act_path act) in
    any_here c.args.layers.now c.loop-layer.layer-index c.layer-item.result
    (record { within = c.loop-layer-test.true; is = c.layer-item.is }) test
    c.is_any_below.result
    (c.is_any_below.ensures ∙ ap (λ l. list_any test (acts_of l)) c.get.ensures)
    c.if-is_any_below.true ∙ c.loop-layer.invariant

pub loop-layer-preserved : goal.loop-layer-preserved
loop-layer-preserved c =
    let test = λ (act : Act). has_file_below c.args.view.now c.args.folder.now (act_path act) in
    any_later c.args.layers.now c.loop-layer.layer-index c.layer-item.result
    (record { within = c.loop-layer-test.true; is = c.layer-item.is }) test
    c.is_any_below.result
    (c.is_any_below.ensures ∙ ap (λ l. list_any test (acts_of l)) c.get.ensures)
    c.if-is_any_below.false ∙ c.loop-layer.invariant
