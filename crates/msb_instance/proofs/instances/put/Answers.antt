use Rattle.std.proofs.Common.{sym, subst}
use Rattle.once_table.proofs.Placing.{put-fits}
use Rattle.msb_instance.specs.Kept.{AllEvaluated, IsEvaluated, Keeps}
use Rattle.msb_instance.specs.KeyEquality.{evaluated-same, same_key, same_key-exact}
use Rattle.msb_instance.proofs.Keeping.{keeps-put, put-is}
use Rattle.msb_instance.proofs.instances.put.Goals as goal

pub returns-clause-keeps : goal.returns-clause-keeps
returns-clause-keeps c =
    let key = c.args.key.now in
    let instance = c.args.instance.now in
    let es = c.args.kept.now.entries in
    let is = put-is same_key same_key-exact key instance es c.insert.new.self.entries
    c.in_ok-copy.field-0 c.in_ok-copy-2.field-0 c.in_ok-insert.ensures.entries
    c.in_ok-copy.ensures c.in_ok-copy-2.ensures in
    subst (Keeps key instance) (sym is) (keeps-put same_key same_key-exact key instance es)

pub returns-clause-kept : goal.returns-clause-kept
returns-clause-kept c files are evaluates =
    let key = c.args.key.now in
    let instance = c.args.instance.now in
    let es = c.args.kept.now.entries in
    let is = put-is same_key same_key-exact key instance es c.insert.new.self.entries
    c.in_ok-copy.field-0 c.in_ok-copy-2.field-0 c.in_ok-insert.ensures.entries
    c.in_ok-copy.ensures c.in_ok-copy-2.ensures in
    subst (AllEvaluated files) (sym is)
    (put-fits same_key (IsEvaluated files) (evaluated-same files) key instance es are evaluates)
