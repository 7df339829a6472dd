-- Requests that are plain: what they ask between their runs is told by the records that they use,
-- and by nothing else that their journals have. (MSBuild conditions, Exists)
use Rattle.std.specs.Prelude.{◌≡◌}
use Rattle.result_cache.specs.declared.request.RequestKey.{RequestKey}
use Rattle.result_cache.specs.declared.record.Record.{Record}
use Rattle.result_cache.specs.Journal.{Journal}
use Rattle.build_meaning.specs.World.{World}
use Rattle.build_meaning.specs.Walk.{Walk, gives, wants}

-- two walks that ask alike: both give one reply, or both want one run, and by each record of it
-- they ask alike then, whatever their journals are. Their bodies may differ: they see files
abbrev pub AskAlike : {P I A : Type 0} → Walk P I A → Walk P I A → Type 0
AskAlike (gives reply) (gives other) = reply ≡ other
AskAlike (wants site run b go) (wants place other c next) =
    (run ≡ other) × ((made : Record) (j k : Journal) → AskAlike (go made j) (next made k))
AskAlike walk other = ⊥

-- a request of this key asks alike, whatever the journal is with which it begins
abbrev pub IsPlain : {P I A : Type 0} → World P I A → RequestKey → Type 0
IsPlain w key = (j k : Journal) → AskAlike (w.walks key j) (w.walks key k)
