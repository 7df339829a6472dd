use Rattle.std.proofs.Common.{◌++◌}
use Rattle.build_world.specs.Elements.{seen_element}
use Rattle.msb_items.specs.Batched.{inner_read}
use Rattle.msb_items.specs.ReadTexts.{exprs_in}
use Rattle.msb_items.proofs.Telling.{told_at}
use Rattle.msb_items.proofs.batched.push_child.Goals as goal

pub returns-in-Err : goal.returns-in-Err
returns-in-Err c =
    let e = seen_element c.args.child.now in
    told_at e (λ more. exprs_in c.args.read.now.items ++ more) (inner_read e) c.in-Err.cause
    c.fault.result c.in-Err.ensures c.fault.ensures
