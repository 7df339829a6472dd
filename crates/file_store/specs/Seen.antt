-- What stores and sinks tell of themselves.
use Rattle.std.specs.Prelude.{ℕ, List, Option, IfSome, IsSomeAnd, Result}
use Rattle.msb_laws.specs.Words.{Text}
use Rattle.msb_laws.specs.Faults.{HasCause}
use Rattle.file_store.specs.Failed.{Failures}
use Rattle.file_store.specs.declared.store.StoreError.{StoreError}
use Rattle.file_store.specs.declared.store.StoreError.TheVariants.{Failed}
use Rattle.file_store.specs.declared.tree.File.{File}

-- of a store: its files, where it tells them, how often it has failed, and how often of each kind
pub record StoreSeen : Type 0 where
  pub tree : Option (List File)
  pub fault_count : ℕ
  pub failures : Failures

-- of a sink: the bytes that it has taken, where it tells them, and how often it has failed
pub record SinkSeen : Type 0 where
  pub bytes : Option Text
  pub fault_count : ℕ

-- P holds of the files before and after a call, where they are told
abbrev pub OfTrees : (List File → List File → Type 0) → StoreSeen → StoreSeen → Type 0
OfTrees P before now = IfSome before.tree (λ files. IsSomeAnd now.tree (P files))

-- the count of faults never falls, and where the call answers that the store failed it rose
abbrev pub CountsFault : {T : Type 0} → StoreSeen → StoreSeen → Result T StoreError → Type 0
CountsFault before now result = HasCause Failed before.fault_count now.fault_count result
