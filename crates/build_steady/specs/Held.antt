-- What a check holds where a walk asks, and before it goes on. (MSBuild task)
use Rattle.std.specs.Prelude.{◌≡◌, ◌≤◌, ◌<◌, ℕ, suc, List, [], ◌∷◌, ◌++◌, length, drop, Some}
use Rattle.result_cache.specs.declared.run.RunId.{RunId}
use Rattle.result_cache.specs.Table.{Records}
use Rattle.build_meaning.specs.Cycle.{held}
use Rattle.build_meaning.specs.Lists.{Paired}
use Rattle.build_meaning.specs.Meaning.{deepest}
use Rattle.build_meaning.specs.World.{World}
use Rattle.build_scheduler.specs.declared.walker.Answer.{Answer}
use Rattle.build_scheduler.specs.Learnt.{AreInOrder, ArePartOf}
use Rattle.build_scheduler.specs.Own.{Seen}
use Rattle.build_scheduler.specs.Position.{Position, answered, IsInTurn}
use Rattle.build_steady.specs.Order.{DemandEvent}
use Rattle.build_steady.specs.Verdicts.{verdict_after, verdict_of}
use Rattle.build_steady.specs.Findings.{Shows}
use Rattle.build_steady.specs.Waiting.{
  Waiting,
  waits_at,
  path_of,
  start_of,
  rest_below,
  rest_from,
  HasReplayedAt,
  HasReplayedCalls,
  HaveReplayed,
}
use Rattle.build_steady.specs.declared.checking.Caller.{Caller}
use Rattle.build_steady.specs.declared.checking.Check.{Check}
use Rattle.build_steady.specs.declared.checking.CheckStep.{CheckStep}
use Rattle.build_steady.specs.declared.checking.CheckStep.TheVariants.{GoesOn, Over}

-- a list with its last entry first
abbrev pub last_first : {X : Type 0} → List X → List X
last_first [] = []
last_first (x ∷ xs) = last_first xs ++ x ∷ []

-- a walk that stands where it asks, and has asked at most so often
pub record IsAsking {P I A : Type 0} (w : World P I A) (table : Records) (asks : ℕ)
    (walk : Seen P I A) : Type 0 where
  pub world : walk.world ≡ w
  pub learnt : ArePartOf walk.learnt table
  pub asked : 0 < walk.asked
  pub few : walk.asked ≤ asks

-- a walk and its next answer, which takes it there
pub record IsAnswered {P I A : Type 0} (w : World P I A) (table : Records) (asks : ℕ)
    (walk : Seen P I A)
    (answer : Answer) (next : Position P I A) : Type 0 where
  pub world : walk.world ≡ w
  pub learnt : ArePartOf walk.learnt table
  pub goes : answered w table walk.position answer ≡ Some next
  pub turn : IsInTurn walk.asked answer
  pub few : walk.asked ≤ asks

-- what is held of a caller, of whose calls so many have begun
pub record IsCaller {W P I A : Type 0} (seen : W → Seen P I A) (w : World P I A) (table : Records)
    (asks : ℕ) (begun : ℕ) (caller : Caller W) (c : Waiting P I A) : Type 0 where
  pub asking : IsAsking w table asks (seen caller.walk)
  pub stands : (seen caller.walk).position ≡ waits_at c
  pub calls : caller.calls ≡ c.key ∷ c.keys
  pub results : caller.results.items ≡ c.results
  pub left : c.left ≡ drop begun (c.key ∷ c.keys)
  pub few : begun ≤ suc (length c.keys)

-- a caller one of whose calls is under way
abbrev pub IsCalling : {W P I A : Type 0} → (W → Seen P I A) → World P I A → Records → ℕ →
    Caller W →
    Waiting P I A → Type 0
IsCalling seen w table asks caller c = IsCaller seen w table asks (suc (length c.results)) caller c

-- the callers and the runs in whose bodies they are, the events so far, and the verdict by what is
-- to come where a request stands
pub record IsHeld {W P I A : Type 0} (seen : W → Seen P I A) (w : World P I A) (check : Check W)
    (p : Position P I A) : Type 0 where
  pub before : List DemandEvent
  pub callers : List (Waiting P I A)
  pub shows : Shows check.findings before
  pub in_order : AreInOrder check.findings.records.finished
  pub each : Paired (IsCalling seen w check.findings.records.finished check.asks)
      (last_first check.callers.items) callers
  pub path : last_first check.path.items ≡ held p.place ++ path_of callers
  pub nested : length callers < deepest
  pub above : HaveReplayed check.findings.records.finished callers
  pub here : HasReplayedAt check.findings.records.finished (start_of callers) p.journal p.runs
      p.place
  pub verdict : verdict_of w ≡ verdict_after before (rest_below w callers p)

-- so it is with a caller that has no call under way
pub record IsReady {W P I A : Type 0} (seen : W → Seen P I A) (w : World P I A) (check : Check W)
    (caller : Caller W) : Type 0 where
  pub before : List DemandEvent
  pub callers : List (Waiting P I A)
  pub mine : Waiting P I A
  pub shows : Shows check.findings before
  pub in_order : AreInOrder check.findings.records.finished
  pub each : Paired (IsCalling seen w check.findings.records.finished check.asks)
      (last_first check.callers.items) callers
  pub path : last_first check.path.items ≡ mine.inside.run ∷ path_of callers
  pub nested : suc (length callers) < deepest
  pub above : HaveReplayed check.findings.records.finished callers
  pub calls : IsCaller seen w check.findings.records.finished check.asks (length mine.results)
      caller mine
  pub here : HasReplayedCalls check.findings.records.finished mine
  pub start : mine.start ≡ start_of callers
  pub verdict : verdict_of w ≡ verdict_after before (rest_from w callers mine)

-- a walk goes on with its answer, or this is the verdict
abbrev pub IsCheckStep : {W P I A : Type 0} → (W → Seen P I A) → World P I A → Check W → CheckStep W
    → Type 0
IsCheckStep {W} {P} {I} {A} seen w check (GoesOn walk answer) =
    (next : Position P I A) × IsHeld seen w check next
    × IsAnswered w check.findings.records.finished
    check.asks (seen walk) answer next
IsCheckStep {W} {P} {I} {A} seen w check (Over verdict) = verdict ≡ verdict_of w
