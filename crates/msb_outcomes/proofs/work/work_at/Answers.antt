use Rattle.std.proofs.Common.{IsSome, rules}
use Rattle.file_store.specs.Files.{file_at}
use Rattle.msb_outcomes.proofs.Working.{refused_work}
use Rattle.msb_outcomes.proofs.work.work_at.Goals as goal

pub returns-in-Err : goal.returns-in-Err
returns-in-Err c =
    let there : IsSome (file_at c.args.key.path c.args.tree.files) = search rules in
    refused_work c.args.options.now c.args.key c.args.tree.files
    (file_at c.args.key.path c.args.tree.files) there c.in-Err.fault c.refuse_by.result
    c.in-Err.ensures.gives c.refuse_by.ensures.refused c.refuse_by.ensures.cause
