use Rattle.std.proofs.Common.{ap, sym, ◌∙◌, arith, refl, true≢false}
use Rattle.std.proofs.Math.ListN.{set}
use Rattle.msb_batching.proofs.Spreading.{put_in, put_out}
use Rattle.msb_batching.proofs.numbered.put.Goals as goal

pub returns-in_ok-push-in-Some : goal.returns-in_ok-push-in-Some
returns-in_ok-push-in-Some c =
    ap (set c.args.lists.now.items c.args.number) c.in_ok-push-in-Some.ensures.ok
    ∙ put_in c.args.number c.args.lists.now.items c.in-Some.list.now c.args.item
    (omega (arith, c.in-Some.ensures.variant.0 refl)) c.in-Some.ensures.value

pub returns-in-None : goal.returns-in-None
returns-in-None c = sym
    (put_out c.args.number c.args.lists.now.items c.args.item
    (λ lt. true≢false (sym (c.in-None.ensures.variant.1 (omega arith)))))
