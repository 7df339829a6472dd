use Rattle.std.proofs.Common.{[], sym, ap, append-nil}
use Rattle.std.proofs.lemmas.Result.{err_from_is_err_and}
use Rattle.target_texts.specs.Outputs.{output}
use Rattle.target_texts.specs.Seen.{seen_context}
use Rattle.target_texts.proofs.Pushing.{over_children, pushed_next, pushed_stop, pushed_all}
use Rattle.target_texts.proofs.outputs.push_outputs.Goals as goal

pub loop-child-init : goal.loop-child-init
loop-child-init c =
    record {
      front = [];
      so_far = sym (append-nil c.args.changes.now);
      is = over_children
          (output (seen_context c.args.context.now) c.args.given.now) c.args.element.now.file.now _
          _
          c.children-child-items.ensures;
    }

pub loop-child-preserved : goal.loop-child-preserved
loop-child-preserved c =
    pushed_next _ _ _ c.child-item.result _ _ _ _ _ c.loop-child.invariant c.loop-child-test.true
    c.child-item.is (ap (output (seen_context c.args.context.now) c.args.given.now) c.child.ensures)
    c.in_ok-push_output.ensures.0 c.in_ok-push_output.ensures.1

pub returns : goal.returns
returns c = pushed_all _ _ _ _ _ _ c.loop-child.invariant c.loop-child-test.false

pub returns-in_err-push_output : goal.returns-in_err-push_output
returns-in_err-push_output c =
    let p = err_from_is_err_and c.from_residual.result c.from_residual.ensures.1 in
    rw (p.1, p.2)
    (pushed_stop _ _ _ c.child-item.result _ _ _ _ _ _ c.loop-child.invariant c.loop-child-test.true
    c.child-item.is (ap (output (seen_context c.args.context.now) c.args.given.now) c.child.ensures)
    c.in_err-push_output.ensures)
