use Rattle.std.proofs.Common.{arith}
use Rattle.build_meaning.specs.Meaning.{deepest}
use Rattle.build_scheduler.proofs.Nesting.{further-up, up-whole}
use Rattle.build_scheduler.proofs.request.keys_up.Goals as goal

pub loop-level-preserved : goal.loop-level-preserved
loop-level-preserved c =
    let v = c.loop-level.invariant in
    let y = further-up c.args.origins.now.items c.args.id c.loop-level.keys.items
    c.push_key.new.keys.items c.loop-level.next c.in_ok-next.next c.loop-level.level
    c.requires.nested v.above v.whole c.in_ok-next.ensures in
    record { above = y.0; whole = y.1; there = y.2 }

pub returns : goal.returns
unfolding deepest
returns c =
    let v = c.loop-level.invariant in
    up-whole c.args.origins.now.items c.args.id c.loop-level.keys.items c.loop-level.next
    c.loop-level.level v.above v.whole (omega (arith, c.loop-level-test.false))
