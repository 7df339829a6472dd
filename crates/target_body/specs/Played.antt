-- How far the run of a target gets by itself: what it does to files goes into the journal and tools
-- answer, until requests have to be called or it is over. (Target element; MSBuild task)
use Rattle.std.specs.Prelude.{ℕ, List, [], ◌∷◌, ◌++◌, length}
use Rattle.msb_laws.specs.Words.{Name}
use Rattle.msb_values.specs.declared.act.Act.{Act}
use Rattle.result_cache.specs.Journal.{Journal, acted, add}
use Rattle.result_cache.specs.declared.record.Segment.{Segment}
use Rattle.result_cache.specs.declared.record.Segment.TheVariants.{File}
use Rattle.result_cache.specs.declared.request.RequestKey.{RequestKey}
use Rattle.result_cache.specs.declared.request.RequestResult.{RequestResult}
use Rattle.result_cache.specs.declared.run.RunId.{RunId}
use Rattle.task_trait.specs.declared.tools.ToolAnswer.{ToolAnswer}
use Rattle.task_trait.specs.declared.tools.ToolInput.{ToolInput}
use Rattle.target_body.specs.Work.{Work, done, does, uses, calls, followed_by}

-- a run, and the function of the tools
pub record Player : Type 0 where
  pub run : RunId
  pub tools : Name → ToolInput → ToolAnswer

-- the acts and calls of the run so far, the calls of tools, and the journal of its request
pub record Done : Type 0 where
  pub segments : List Segment
  pub tools : List (Name × ToolInput)
  pub journal : Journal

abbrev pub with_act : RunId → Act → Done → Done
with_act run act d =
    let journal : Journal = add d.journal (acted run (length d.segments) act) in
    record { segments = d.segments ++ File act ∷ []; tools = d.tools; journal = journal }

abbrev pub with_tool : Name → ToolInput → Done → Done
with_tool name input d = record
    { segments = d.segments; tools = d.tools ++ (name, input) ∷ []; journal = d.journal }

-- it is over, or waits for the results of these requests
pub data Reached (R : Type 0) : Type 0 where
  over : R → Done → Reached R
  waits : List RequestKey → (List RequestResult → Journal → Work R) → Done → Reached R

abbrev pub played : {R : Type 0} → Player → Work R → Done → Reached R
played p (done end) d = over end d
played p (does act go) d = let next : Done = with_act p.run act d in played p (go next.journal) next
played p (uses name input go) d = played p (go (p.tools name input)) (with_tool name input d)
played p (calls key keys go) d = waits (key ∷ keys) go d

-- and goes on with what follows
abbrev pub reached_then : {R S : Type 0} → Player → Reached R → (R → Work S) → Reached S
reached_then p (over end d) next = played p (next end) d
reached_then p (waits keys go d) next = waits keys
    (λ results journal. followed_by (go results journal) next) d
