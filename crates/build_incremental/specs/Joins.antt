-- Calls made at once that write or remove one path. (MSBuild task: BuildInParallel)
use Rattle.std.specs.Prelude.{ℕ, ◌≡◌, false, List}
use Rattle.msb_laws.specs.Words.{Path}
use Rattle.msb_values.specs.Acts.{act_path}
use Rattle.msb_values.specs.declared.act.Act.{Act}
use Rattle.result_cache.specs.declared.run.RunId.{RunId}
use Rattle.result_cache.specs.Lists.{In}
use Rattle.result_cache.specs.Journal.{Journal, acted, act_of, has}
use Rattle.build_meaning.specs.Meaning.{Demanded, joined}

-- the run has acted on the path after the earlier journal
pub record ActedSince (earlier later : Journal) (run : RunId) (path : Path) : Type 0 where
  pub number : ℕ
  pub act : Act
  pub there : In (acted run number act) later
  pub since : has (act_of run number) earlier ≡ false
  pub at : act_path act ≡ path

-- where what was joined so far and what is joined next have acted on a path since the caller's
-- journal, all their acts on it are of one run
abbrev pub IsOfOneRun : Journal → Journal → Journal → Type 0
IsOfOneRun caller so_far next = (path : Path) (run other : RunId) →
    ActedSince caller so_far run path → ActedSince caller next other path → run ≡ other

-- so of each join that a meaning contains
abbrev pub AreOfOneRun : {P I : Type 0} → List (Demanded P I) → Type 0
AreOfOneRun demand = (caller so_far next : Journal) → In (joined caller so_far next) demand →
    IsOfOneRun caller so_far next

-- calls may be joined in any way
abbrev pub Anyhow : Journal → Journal → Journal → Type 0
Anyhow caller so_far next = Unit {0}
