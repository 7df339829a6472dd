-- When two builds have come to the same: the same files, and records that say the same to the
-- requests that use them. (Incremental builds)
use Rattle.std.specs.Prelude.{ℕ, ◌≡◌, Option, None, Some, unwrap_or}
use Rattle.msb_laws.specs.Words.{Text, Path}
use Rattle.msb_values.specs.Acts.{act_path}
use Rattle.msb_values.specs.declared.act.Act.{Act}
use Rattle.result_cache.specs.declared.run.RunId.{RunId}
use Rattle.result_cache.specs.declared.record.Record.{Record}
use Rattle.result_cache.specs.Lists.{In}
use Rattle.result_cache.specs.Journal.{Journal, acted, record_of, content}
use Rattle.build_meaning.specs.Walk.{Outcome}

-- the bytes of the file at a path: what the last act on it left, else what the tree has
abbrev pub seen : (Path → Option Text) → Journal → Path → Option Text
seen files journal path = unwrap_or (content journal path) (files path)

-- What others see of a run: whether it succeeded, the items that it returns and what it changes.
-- What was decided of its buckets, its notes and its acts on files may differ.
pub record AlikeOutcomes (first second : Outcome) : Type 0 where
  pub ok : first.ok ≡ second.ok
  pub items : first.items ≡ second.items
  pub changes : first.changes ≡ second.changes

-- so of the records of two runs
pub record AlikeRecords (first second : Record) : Type 0 where
  pub ok : first.ok ≡ second.ok
  pub items : first.items ≡ second.items
  pub changes : first.changes ≡ second.changes

-- a run has ended in neither of two journals, or in both, with such records
abbrev pub AlikeFound : Option Record → Option Record → Type 0
AlikeFound None None = Unit {0}
AlikeFound None (Some second) = ⊥
AlikeFound (Some first) None = ⊥
AlikeFound (Some first) (Some second) = AlikeRecords first second

-- Each path has one content by both journals over the files, the same runs have ended in them, and
-- the first journal has acts on such paths alone as may be acted on.
pub record AlikeJournals (files : Path → Option Text) (MayAct : Path → Type 0)
    (first second : Journal) : Type 0 where
  pub same : (path : Path) → seen files first path ≡ seen files second path
  pub records : (run : RunId) → AlikeFound (record_of first run) (record_of second run)
  pub only : (run : RunId) (number : ℕ) (act : Act) →
      In (acted run number act) first → MayAct (act_path act)
