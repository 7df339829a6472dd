use Rattle.std.proofs.Common.{[], ◌∷◌, ◌++◌, rules, tests}
use Rattle.std.proofs.lemmas.Fn.{always_returns_same}
use Rattle.file_store.proofs.Below.{ahead, parted, first_tells, none_left}
use Rattle.file_store.proofs.presence.has_below.Goals as goal

pub returns-then-first-files : goal.returns-then-first-files
returns-then-first-files c =
    let front = c.args.folder.now ++ 47 ∷ [] in
    let split = c.partition_point-first.ensures.partitioned (ahead front)
    (always_returns_same _ _ _ (λ a r f k. (search rules, search rules)))
    (parted front c.args.files.now c.requires) in
    first_tells front c.args.files.now c.partition_point-first.result c.index-files-first.result
    c.is_below.result (record { in_order = c.requires; split = split }) c.if-first-files.true
    c.index-files-first.is (search rules)

pub returns-else-first-files : goal.returns-else-first-files
returns-else-first-files c =
    let front = c.args.folder.now ++ 47 ∷ [] in
    let split = c.partition_point-first.ensures.partitioned (ahead front)
    (always_returns_same _ _ _ (λ a r f k. (search rules, search rules)))
    (parted front c.args.files.now c.requires) in
    none_left front c.args.files.now c.partition_point-first.result _
    (record { in_order = c.requires; split = split }) c.if-first-files.false
    (search (rules, tests))
