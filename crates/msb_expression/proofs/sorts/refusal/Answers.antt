use Rattle.std.proofs.Common.{arith}
use Rattle.msb_expression.proofs.Bytes.{refused-at}
use Rattle.msb_expression.proofs.sorts.refusal.Goals as goal

pub returns-in-Name : goal.returns-in-Name
returns-in-Name c = refused-at c.args.text.now c.args.at c.args.kind _ (omega arith) c.in-Name.is

pub returns-in-Transform : goal.returns-in-Transform
returns-in-Transform c = refused-at c.args.text.now c.args.at c.args.kind _ (omega arith)
    c.in-Transform.is

pub returns-in-Nested : goal.returns-in-Nested
returns-in-Nested c = refused-at c.args.text.now c.args.at c.args.kind _ (omega arith)
    c.in-Nested.is
