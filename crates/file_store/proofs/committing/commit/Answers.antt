use Rattle.std.proofs.Common.{arith}
use Rattle.file_store.proofs.Commits.{told_more, told_contents}
use Rattle.file_store.proofs.committing.commit.Goals as goal

pub loop-place-preserved : goal.loop-place-preserved
loop-place-preserved g c =
    let l = c.loop-place in
    record {
      done = told_more _ l.place c.act-item.result _ _ _ c.loop-place-test.true c.act-item.is
          l.invariant.done c.in-Ok.ensures.done;
      later = omega (arith, c.in-Ok.ensures.cause.later);
    }

pub returns-clause-contents : goal.returns-clause-contents
returns-clause-contents g c =
    told_contents c.args.list.now c.as_slice-act-items.result.now c.loop-place.place _ _
    c.as_slice-act-items.ensures c.loop-place-test.false c.loop-place.invariant.done
