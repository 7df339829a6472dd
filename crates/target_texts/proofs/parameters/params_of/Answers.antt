use Rattle.std.proofs.Common.{[], sym, ◌∙◌}
use Rattle.std.proofs.lemmas.Result.{err_from_is_err_and}
use Rattle.msb_laws.proofs.Collecting.{fold_step, fold_stop}
use Rattle.msb_values.proofs.Causing.{unless}
use Rattle.build_world.specs.Elements.{seen_element}
use Rattle.msb_items.specs.Batched.{joined_ok}
use Rattle.msb_items.proofs.Turning.{fold-lists, from_nothing}
use Rattle.target_texts.specs.Parameters.{param_of}
use Rattle.target_texts.specs.Seen.{seen_context}
use Rattle.target_texts.proofs.parameters.params_of.Goals as goal

pub loop-attribute-init : goal.loop-attribute-init
loop-attribute-init c =
    let param = param_of (seen_context c.args.task.now.context)
    (seen_element c.args.task.now.element)
    c.args.task.now.task.now in
    rw c.new-params.ensures
    (record {
      is = sym (from_nothing (joined_ok param c.args.attributes.now))
          ∙ fold-lists param [] c.args.attributes.now;
    })

pub loop-attribute-preserved : goal.loop-attribute-preserved
loop-attribute-preserved c =
    fold_step _ _ _ c.attribute-item.result _ _ _ c.loop-attribute.invariant
    c.loop-attribute-test.true c.attribute-item.is c.in_ok-push_param.ensures

pub returns-in_err-push_param : goal.returns-in_err-push_param
returns-in_err-push_param c =
    let p = err_from_is_err_and c.from_residual.result c.from_residual.ensures.1 in
    rw (p.1, p.2)
    (unless _
    (fold_stop _ _ _ c.attribute-item.result _ _ _ c.loop-attribute.invariant
    c.loop-attribute-test.true c.attribute-item.is) c.in_err-push_param.ensures)
