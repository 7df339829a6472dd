use Rattle.msb_files.specs.Growth.{AreOnce}
use Rattle.msb_files.proofs.Growing.{merge_keeps, replay_keeps, once_added}
use Rattle.msb_files.proofs.laws.entries_stay_once.Goals as goal

pub returns-clause-added : goal.returns-clause-added
returns-clause-added c = once_added

pub returns-clause-merged : goal.returns-clause-merged
returns-clause-merged c = merge_keeps AreOnce once_added

pub returns-clause-replayed : goal.returns-clause-replayed
returns-clause-replayed c = replay_keeps AreOnce once_added
