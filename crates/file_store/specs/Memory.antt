-- What a store in memory does at a call.
use Rattle.std.specs.Prelude.{
  ◌≡◌,
  ◌+◌,
  ◌-◌,
  ◌^◌,
  ◌⊎◌,
  ℕ,
  min,
  List,
  Contains,
  Any,
  Bool,
  if◌then◌else◌,
}
use Rattle.msb_laws.specs.Words.{Path}
use Rattle.file_store.specs.Failed.{Failures, counted}
use Rattle.file_store.specs.declared.tree.File.{File}
use Rattle.file_store.specs.declared.memory.MemStore.{MemStore}

-- the files that it holds
abbrev pub files_in : MemStore → List File
files_in store = store.tree.files

abbrev pub failures_of : MemStore → Failures
failures_of store = counted store.failed_listings store.failed_reads

-- it holds these files, no call has come, and these are to fail
pub record IsNewStore (tree : List File) (to_fail : Path) (store : MemStore) : Type 0 where
  pub files : files_in store ≡ tree
  pub fail : store.fail.items ≡ to_fail
  pub calls : store.calls ≡ 0
  pub faults : store.faults ≡ 0
  pub listings : store.failed_listings ≡ 0
  pub reads : store.failed_reads ≡ 0

-- the next call is one of those that are to fail
abbrev pub IsToFail : MemStore → Type 0
IsToFail store = Contains store.fail.items store.calls

-- the next call is a write that can't be made: it is to fail, or a file has the last stamp, after
-- which none is newer
abbrev pub IsNoWrite : MemStore → Type 0
IsNoWrite store = IsToFail store ⊎ Any (λ f. f.stamp ≡ 2 ^ 64 - 1) (files_in store)

-- one more, up to the last number
abbrev pub one_more : ℕ → ℕ
one_more n = min (n + 1) (2 ^ 64 - 1)

-- the call has its number, and only a failed one is a fault; which calls are to fail stays
pub record Counts (failed : Bool) (before after : MemStore) : Type 0 where
  pub fail : after.fail.items ≡ before.fail.items
  pub calls : after.calls ≡ one_more before.calls
  pub faults : after.faults ≡ (if failed then one_more before.faults else before.faults)
