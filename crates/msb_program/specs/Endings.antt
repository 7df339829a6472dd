-- How an outcome ends: what becomes of the acts of its commit list, and of its text.
use Rattle.std.specs.Prelude.{
  ◌≡◌,
  ◌⊎◌,
  ◌++◌,
  ◌<◌,
  ℕ,
  List,
  length,
  slice_get,
  IsSomeAnd,
  Result,
  Ok,
  Err,
  codes,
}
use Rattle.msb_laws.specs.Words.{Text}
use Rattle.msb_laws.specs.Faults.{Rose}
use Rattle.msb_laws.specs.Gains.{Appends, AppendsFront, Prints}
use Rattle.msb_values.specs.declared.errors.NoMemory.{NoMemory}
use Rattle.msb_values.specs.Acts.{act_path}
use Rattle.msb_values.specs.declared.act.Act.{Act}
use Rattle.file_store.specs.Commits.{AreDone, AreDoneTo, HasContents}
use Rattle.file_store.specs.Seen.{OfTrees, SinkSeen, StoreSeen}
use Rattle.file_store.specs.declared.tree.File.{File}
use Rattle.build_report.specs.Line.{line}
use Rattle.msb_outcomes.specs.Outcomes.{Answering, IsOutcomeOf, IsUnfinished}
use Rattle.build_engine.specs.Statuses.{IsCompletion}
use Rattle.build_outcome.specs.declared.outcome.Outcome.{Outcome}
use Rattle.msb_words.specs.declared.options.Options.{Options}

-- what a store tells before and after the call
pub record StoreChange : Type 0 where
  pub before : StoreSeen
  pub after : StoreSeen

-- what a sink tells before and after the call
pub record SinkChange : Type 0 where
  pub before : SinkSeen
  pub after : SinkSeen

-- by what the store's type tells of its values
abbrev pub store_change : {S : Type 0} → (S → StoreSeen) → S → S → StoreChange
store_change seen old new = record { before = seen old; after = seen new }

-- by what the sink's type tells of its values
abbrev pub sink_change : {K : Type 0} → (K → SinkSeen) → K → K → SinkChange
sink_change seen old new = record { before = seen old; after = seen new }

-- the store's count of faults rose
abbrev pub StoreFailed : StoreChange → Type 0
StoreFailed s = Rose s.before.fault_count s.after.fault_count

-- the sink's count of faults rose
abbrev pub SinkFailed : SinkChange → Type 0
SinkFailed p = Rose p.before.fault_count p.after.fault_count

-- the files are as they were
abbrev pub Kept : StoreChange → Type 0
Kept s = s.after.tree ≡ s.before.tree

-- the whole list was done in order, and every path has what comes of that
pub record SavedAll (s : StoreChange) (list : List Act) : Type 0 where
  pub done : OfTrees (AreDone list) s.before s.after
  pub contents : OfTrees (HasContents list) s.before s.after

-- Those before a place of the list were done, and the one there was or was not: its path has the
-- old or the new bytes, or for a removal the old bytes or no file.
pub record SavedTo (s : StoreChange) (list : List Act) (place : ℕ) : Type 0 where
  pub within : place < length list
  pub done : OfTrees (AreDoneTo place list) s.before s.after

-- the whole text was printed
abbrev pub PrintedAll : SinkChange → Text → Type 0
PrintedAll p text = Appends p.before.bytes p.after.bytes text

-- a front of the text was printed
abbrev pub PrintedFront : SinkChange → Text → Type 0
PrintedFront p text = AppendsFront p.before.bytes p.after.bytes text

-- the whole text was printed, or a front of it where the sink failed
abbrev pub Printed : SinkChange → Text → Type 0
Printed p text = Prints p.before.fault_count p.after.fault_count p.before.bytes p.after.bytes text

-- nothing was printed
abbrev pub Silent : SinkChange → Type 0
Silent p = p.after.bytes ≡ p.before.bytes

-- all its acts were done, and its text was printed whole
abbrev pub EndsWhole : StoreChange → SinkChange → Outcome → Type 0
EndsWhole s p o = SavedAll s o.commit × PrintedAll p o.text

-- no file was written or removed, and its text was printed
abbrev pub EndsRefused : StoreChange → SinkChange → Outcome → Type 0
EndsRefused s p o = Kept s × Printed p o.text

-- all its acts were done, and then the sink failed
pub record EndsUnprinted (s : StoreChange) (p : SinkChange) (o : Outcome) : Type 0 where
  pub completion : IsCompletion o.status
  pub saved : SavedAll s o.commit
  pub rose : SinkFailed p
  pub printed : PrintedFront p o.text

-- its acts were done to a place where the store failed, whose path was printed
pub record EndsUnwritten (s : StoreChange) (p : SinkChange) (o : Outcome) : Type 0 where
  pub completion : IsCompletion o.status
  pub place : ℕ
  pub saved : SavedTo s o.commit place
  pub rose : StoreFailed s
  pub printed : IsSomeAnd (slice_get o.commit place)
      (λ act. Printed p (line (codes "store fault " ++ act_path act)))

-- its acts were done to a place where no memory was found, or where that the store failed could not
-- be told
pub record EndsHalfway (s : StoreChange) (o : Outcome) : Type 0 where
  pub completion : IsCompletion o.status
  pub place : ℕ
  pub saved : SavedTo s o.commit place

-- how an outcome ends, and the status that comes of it
abbrev pub Ends : Outcome → StoreChange → SinkChange → ℕ → Type 0
Ends o s p status =
    ((status ≡ o.status) × IsCompletion o.status × EndsWhole s p o)
    ⊎ ((status ≡ o.status) × IsUnfinished o.status × EndsRefused s p o)
    ⊎ ((status ≡ 6) × EndsUnprinted s p o)
    ⊎ ((status ≡ 5) × EndsUnwritten s p o)
    ⊎ ((status ≡ 7) × Silent p × EndsHalfway s o)

-- how what was made ends; for want of memory nothing was
abbrev pub EndsMade : Result Outcome NoMemory → StoreChange → SinkChange → ℕ → Type 0
EndsMade (Ok o) s p status = Ends o s p status
EndsMade (Err none) s p status = (status ≡ 7) × Kept s × Silent p

-- how a trial ends: its text is printed, or the sink fails; for want of memory there is none
abbrev pub EndsTrial : Result Text NoMemory → SinkChange → ℕ → Type 0
EndsTrial (Ok text) p status =
    ((status ≡ 0) × PrintedAll p text)
    ⊎ ((status ≡ 6) × SinkFailed p × PrintedFront p text)
EndsTrial (Err none) p status = (status ≡ 7) × Silent p

-- how an outcome of these files ends, where it is made
abbrev pub EndsOver : Answering → Options → List File → StoreChange → SinkChange → ℕ → Type 0
EndsOver tools options files s p status =
    ((outcome : Outcome) × IsOutcomeOf tools options files outcome × Ends outcome s p status)
    ⊎ ((status ≡ 7) × Kept s × Silent p)
