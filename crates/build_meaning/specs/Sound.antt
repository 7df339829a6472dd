-- When a table and a journal have the records that the meaning makes.
use Rattle.std.specs.Prelude.{List}
use Rattle.result_cache.specs.declared.run.RunId.{RunId}
use Rattle.result_cache.specs.declared.record.Record.{Record}
use Rattle.result_cache.specs.Lists.{In}
use Rattle.result_cache.specs.Journal.{Journal, ended}
use Rattle.result_cache.specs.Table.{FinishedRun, Records}
use Rattle.result_cache.specs.Replay.{IsClosed}
use Rattle.build_meaning.specs.SoFar.{ToolUse}
use Rattle.build_meaning.specs.Meaning.{Demanded, built}

-- the meaning contains a body of the run, which is at this site, begins with this journal and makes
-- this record
abbrev pub IsBuilt : {P I : Type 0} → List (Demanded P I) → P → RunId → Journal → Record → Type 0
IsBuilt {P} {I} demand site run from made =
    (tools : List (ToolUse I)) × In (built site run from made tools) demand

-- the meaning makes the run with this record
abbrev pub IsMade : {P I : Type 0} → List (Demanded P I) → RunId → Record → Type 0
IsMade {P} {I} demand run made = (site : P) × (from : Journal) × IsBuilt demand site run from made

-- the meaning makes each record of the table
abbrev pub HasMade : {P I : Type 0} → List (Demanded P I) → Records → Type 0
HasMade demand table = (f : FinishedRun) → In f table → IsMade demand f.run f.made

-- the journal is closed, and the meaning makes each of its records
pub record IsSound {P I : Type 0} (demand : List (Demanded P I)) (journal : Journal) : Type 0 where
  pub closed : IsClosed journal
  pub made : (run : RunId) (made : Record) → In (ended run made) journal → IsMade demand run made

-- a part of what the meaning contains
abbrev pub IsPart : {P I : Type 0} → List (Demanded P I) → List (Demanded P I) → Type 0
IsPart {P} {I} part demand = (e : Demanded P I) → In e part → In e demand
