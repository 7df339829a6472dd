-- What every legal history of a whole and steady world has in common with the world's meaning.
use Rattle.std.specs.Prelude.{◌≡◌, List, map, Some}
use Rattle.result_cache.specs.declared.run.RunId.{RunId}
use Rattle.result_cache.specs.declared.request.RequestResult.{RequestResult}
use Rattle.result_cache.specs.declared.record.Record.{Record}
use Rattle.result_cache.specs.Lists.{In}
use Rattle.result_cache.specs.Journal.{Journal}
use Rattle.result_cache.specs.Table.{FinishedRun, found}
use Rattle.build_meaning.specs.SoFar.{ToolUse}
use Rattle.build_meaning.specs.Meaning.{built, Given}
use Rattle.build_meaning.specs.Demand.{built_runs, IsSingle}
use Rattle.build_meaning.specs.Sound.{IsMade}
use Rattle.build_meaning.specs.State.{ToolsUsed, State}
use Rattle.build_meaning.specs.History.{EndsWith}
use Rattle.build_meaning.specs.Orderly.{AreDistinct}

-- each record of the table is that of every body of its run in the meaning, and there is such a
-- body; the tools of a finished run were used as by one of these bodies; and a root that is done
-- has the meaning's result and journal
pub record Agrees {P I A : Type 0} (out : Given P I RequestResult) (s : State P I A)
    : Type 0 where
  pub occurs : (run : RunId) (made : Record) → found s.table run ≡ Some made →
      IsMade out.demand run made
  pub every : (run : RunId) (made other : Record) → found s.table run ≡ Some made →
      IsMade out.demand run other → other ≡ made
  pub tools : (t : ToolsUsed I) → In t s.tools_used →
      (site : P) × (from : Journal) × (made : Record)
      × In (built site t.run from made t.tools) out.demand
  pub root : (result : RequestResult) (journal : Journal) → EndsWith s result journal
      → (result ≡ out.value) × (journal ≡ out.journal)

-- all runs of the meaning are finished; of each finished run it is told how its body used tools;
-- and where no calls are made at once, the meaning makes each run once, and it used tools as there
pub record IsComplete {P I A : Type 0} (out : Given P I RequestResult) (s : State P I A)
    : Type 0 where
  pub all : (run : RunId) (made : Record) → IsMade out.demand run made →
      found s.table run ≡ Some made
  pub tools_used : map (λ (t : ToolsUsed I). t.run) s.tools_used
      ≡ map (λ (f : FinishedRun). f.run) s.table
  pub once : IsSingle out.demand → AreDistinct (built_runs out.demand)
  pub same_tools : IsSingle out.demand → (site : P) (run : RunId) (from : Journal)
      (made : Record) (tools : List (ToolUse I)) →
      In (built site run from made tools) out.demand →
      In (record { run = run; tools = tools }) s.tools_used
