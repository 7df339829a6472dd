-- What tells the entries of a journal apart: the run, and of an act its place.
use Rattle.std.specs.Prelude.{◌≡◌, ℕ, ◌++◌, Option, Some, None}
use Rattle.std.specs.Bool.{Decides}
use Rattle.std.specs.Hash.{HashWrites, u64}
use Rattle.result_cache.specs.Hashes.{run_hash}
use Rattle.result_cache.specs.declared.run.RunId.{RunId}
use Rattle.result_cache.specs.Journal.{Mark, act_of, end_of, same_mark}
use Rattle.result_cache.proofs.RunTests.{same_mark-refl, same_mark-true}

-- the mark of an act at this place, or else of the end of the run
abbrev pub mark_by : RunId → Option ℕ → Mark
mark_by run (Some number) = act_of run number
mark_by run None = end_of run

-- what a hash is fed of a mark
abbrev pub mark_writes : Mark → HashWrites
mark_writes (act_of run number) = u64 (run_hash run) ++ u64 number
mark_writes (end_of run) = u64 (run_hash run)

-- the test that tells marks apart holds exactly of equal ones
pub mark-exact : (a b : Mark) → Decides (same_mark a b) (a ≡ b)
mark-exact a b = ((λ h. same_mark-true a b h), λ h. rw (h, same_mark-refl b))
