-- A part of the run of a target, by what it does next: it writes and removes files, uses tools and
-- calls requests, and comes to an end from which the next part goes on. (Target element; MSBuild
-- task, BuildInParallel)
use Rattle.std.specs.Prelude.{ℕ, List, [], ◌∷◌, Result, Ok, Err}
use Rattle.msb_laws.specs.Words.{Name}
use Rattle.msb_values.specs.declared.act.Act.{Act}
use Rattle.result_cache.specs.declared.request.RequestKey.{RequestKey}
use Rattle.result_cache.specs.declared.request.RequestResult.{RequestResult}
use Rattle.result_cache.specs.Journal.{Journal}
use Rattle.task_trait.specs.declared.tools.ToolAnswer.{ToolAnswer}
use Rattle.task_trait.specs.declared.tools.ToolInput.{ToolInput}
use Rattle.build_meaning.specs.Walk as walk
use Rattle.build_meaning.specs.Walk.{Body, Outcome}

-- It is done. Or it writes or removes a file, and goes on by the journal then; uses a tool by name,
-- and goes on by the answer; or calls requests at once, a first one and perhaps more, and goes on
-- by their results and the journal then.
pub data Work (R : Type 0) : Type 0 where
  done : R → Work R
  does : Act → (Journal → Work R) → Work R
  uses : Name → ToolInput → (ToolAnswer → Work R) → Work R
  calls : RequestKey → List RequestKey → (List RequestResult → Journal → Work R) → Work R

-- one part, and the part that follows from its end
abbrev pub followed_by : {R S : Type 0} → Work R → (R → Work S) → Work S
followed_by (done end) next = next end
followed_by (does act go) next = does act (λ journal. followed_by (go journal) next)
followed_by (uses name input go) next = uses name input (λ answer. followed_by (go answer) next)
followed_by (calls key keys go) next = calls key keys
    (λ results journal. followed_by (go results journal) next)

-- one part after another, unless one of them stops
abbrev pub unless_stopped : {X R E : Type 0} → Result X E → (X → Work (Result R E))
    → Work (Result R E)
unless_stopped (Ok x) next = next x
unless_stopped (Err stop) next = done (Err stop)

abbrev pub and_then : {X R E : Type 0} → Work (Result X E) → (X → Work (Result R E))
    → Work (Result R E)
and_then work next = followed_by work (λ end. unless_stopped end next)

abbrev pub each_in_turn : {S X E : Type 0} → (X → S → Work (Result S E)) → List X → S
    → Work (Result S E)
each_in_turn part [] s = done (Ok s)
each_in_turn part (x ∷ xs) s = and_then (part x s) (λ next. each_in_turn part xs next)

-- the whole as the body of a run
abbrev pub body_of : Work Outcome → Body ToolInput ToolAnswer
body_of (done outcome) = walk.makes outcome
body_of (does act go) = walk.does act (λ journal. body_of (go journal))
body_of (uses name input go) = walk.uses name input (λ answer. body_of (go answer))
body_of (calls key keys go) = walk.calls key keys (λ results journal. body_of (go results journal))
