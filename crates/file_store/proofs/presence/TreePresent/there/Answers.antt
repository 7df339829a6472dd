use Rattle.std.proofs.Common.{rules}
use Rattle.file_store.proofs.Below.{has_path, has_none}
use Rattle.file_store.proofs.presence.TreePresent.there.Goals as goal

pub returns-then-is_some : goal.returns-then-is_some
returns-then-is_some c = has_path c.args.path.now c.args.self.now.files _ (search rules)
    c.if-is_some.true

pub returns-else-is_some : goal.returns-else-is_some
returns-else-is_some c = has_none c.args.path.now c.args.self.now.files _ c.is_some.result
    (search rules) c.if-is_some.false (search rules)
