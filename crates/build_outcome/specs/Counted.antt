-- How many runs have ended in a build. (MSBuild targets)
use Rattle.std.specs.Prelude.{ℕ, Bool, true, false}
use Rattle.std.specs.List.{count_by}
use Rattle.result_cache.specs.Journal.{Entry, acted, ended, Journal}

-- the entry tells that a run has ended
abbrev pub is_end : Entry → Bool
is_end (acted run place act) = false
is_end (ended run made) = true

-- how many runs have ended
abbrev pub runs_in : Journal → ℕ
runs_in journal = count_by is_end journal
