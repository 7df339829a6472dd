-- Runs that were replayed before, and the journal that they have given. (MSBuild task)
-- Contracts of private functions alone name this: what requests mean is told without it.
use Rattle.std.specs.Prelude.{◌≡◌, Some}
use Rattle.result_cache.specs.Journal.{Journal}
use Rattle.result_cache.specs.Replay.{replay_all}
use Rattle.result_cache.specs.Table.{Records}
use Rattle.request_machine.specs.declared.replayed.Replayed.{Replayed}

-- by these records the runs, replayed in this journal, give the journal that is there
abbrev pub IsReplayed : Records → Journal → Replayed → Type 0
IsReplayed table journal r = replay_all table r.runs journal ≡ Some r.journal
