-- What a status of the program says where a build may be trusted to skip what is up to date: its
-- result and its files are those of the clean build. (Incremental builds)
use Rattle.std.specs.Prelude.{◌≡◌, ◌⊎◌, ℕ, Bool, List, Option, Some}
use Rattle.msb_laws.specs.Words.{Path, Text}
use Rattle.file_store.specs.Seen.{OfTrees}
use Rattle.file_store.specs.declared.tree.File.{File}
use Rattle.result_cache.specs.declared.request.RequestResult.{RequestResult}
use Rattle.result_cache.specs.Journal.{Journal}
use Rattle.msb_files.specs.FinalTree.{IsFinalTree}
use Rattle.msb_files.specs.Views.{content}
use Rattle.build_world.specs.declared.world.World.{World}
use Rattle.build_meaning.specs.Meaning.{Given, meaning}
use Rattle.build_meaning.specs.Demand.{IsSteady}
use Rattle.build_report.specs.Shown.{shown_text}
use Rattle.build_outcome.specs.Outcomes.{status_of}
use Rattle.task_trait.specs.declared.tools.ToolInput.{ToolInput}
use Rattle.request_machine.specs.Walk.{Site}
use Rattle.request_machine.specs.Worlds.{world_of}
use Rattle.build_declared.specs.Clean.{IsTrustworthy}
use Rattle.build_declared.specs.Written.{bytes_in}
use Rattle.msb_outcomes.specs.Outcomes.{Answering}
use Rattle.msb_program.specs.Endings.{StoreChange, SinkChange, PrintedAll, StoreFailed, SinkFailed}
use Rattle.msb_program.specs.Meanings.{IsAskedOf}

-- The words ask for a build of the files that the store tells. The clean build of what it is given
-- comes to this, and is declared and fresh; and the build that is asked for is steady.
pub record MeansClean (tools : Answering) (words : List Text) (told : Option (List File))
    (clean : Given Site ToolInput RequestResult) : Type 0 where
  pub given : World
  pub build : IsAskedOf words told given
  pub trusted : IsTrustworthy tools given clean
  pub steady : (out : Given Site ToolInput RequestResult) →
      meaning (world_of tools given) ≡ Some out → IsSteady out.demand

-- each path has what a build with this journal leaves there
abbrev pub SavedFinal : StoreChange → Journal → Type 0
SavedFinal s journal = OfTrees (λ files. IsFinalTree files journal) s.before s.after

-- each path has the bytes that it had, or what a build with this journal leaves there
abbrev pub IsOldOrFinal : List File → Journal → List File → Type 0
IsOldOrFinal before journal after =
    (path : Path) →
    (bytes_in after path ≡ bytes_in before path)
    ⊎ (bytes_in after path ≡ content (record { files = before; journal = journal }) path)

abbrev pub SavedPart : StoreChange → Journal → Type 0
SavedPart s journal = OfTrees (λ files. IsOldOrFinal files journal) s.before s.after

-- The whole text was printed of a build whose root request gives this: its error text, the items
-- that it returns, and how the build ended. What is printed of the runs tells what was skipped.
abbrev pub PrintedOf : SinkChange → RequestResult → Type 0
PrintedOf p root = (journal : Journal) × (low : Bool) × PrintedAll p (shown_text root journal low)

-- What each status then says: how the build ends, what it returns, and what it leaves at each path
-- is what the clean build comes to.
pub record AnswersClean (s : StoreChange) (p : SinkChange)
    (clean : Given Site ToolInput RequestResult) (status : ℕ) : Type 0 where
  pub known : (status ≡ 0) ⊎ (status ≡ 1) ⊎ (status ≡ 5) ⊎ (status ≡ 6) ⊎ (status ≡ 7)
  pub done : (status ≡ 0) ⊎ (status ≡ 1) →
      (status ≡ status_of clean.value.ok)
      × SavedFinal s clean.journal × PrintedOf p clean.value
  pub sink : status ≡ 6 → SavedFinal s clean.journal
  pub part : (status ≡ 5) ⊎ (status ≡ 7) → SavedPart s clean.journal
  pub unfailing : ¬ StoreFailed s → ¬ SinkFailed p →
      (status ≡ 7) ⊎ (status ≡ status_of clean.value.ok)
