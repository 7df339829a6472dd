use Rattle.file_store.proofs.Removals.{removed}
use Rattle.file_store.proofs.memory.MemStoreStore.remove.Goals as goal

pub returns-clause-removed : goal.returns-clause-removed
returns-clause-removed c =
    removed c.args.path.now _ _ _ c.is_failing.ensures.tree c.remove.ensures
