-- Legal histories: events that lead from the start of a world to a state.
use Rattle.std.specs.Prelude.{ℕ, suc, ◌≡◌, ◌<◌, List, [], ◌∷◌, Some}
use Rattle.result_cache.specs.declared.run.RunId.{RunId}
use Rattle.result_cache.specs.declared.request.RequestResult.{RequestResult}
use Rattle.result_cache.specs.Journal.{Journal}
use Rattle.result_cache.specs.Table.{Records, found}
use Rattle.build_meaning.specs.declared.event.Event.{Event}
use Rattle.build_meaning.specs.declared.event.Event.TheVariants.{Retire}
use Rattle.build_meaning.specs.Lists.{at}
use Rattle.build_meaning.specs.World.{World}
use Rattle.build_meaning.specs.State.{done, RequestState, State, start}
use Rattle.build_meaning.specs.Step.{whose, after_all}

-- the events lead from the start of the world to this state
abbrev pub IsHistory : {P I A : Type 0} → World P I A → List Event → State P I A → Type 0
IsHistory w events s = after_all w (start w) events ≡ Some s

-- how many nodes have retired
abbrev pub retires : List Event → ℕ
retires [] = 0
retires (Retire id node ∷ events) = suc (retires events)
retires (event ∷ events) = retires events

-- so many nodes have these events, and one of them has not retired. Events are added alone, so a
-- node has retired only where another one was active
abbrev pub AreOfNodes : ℕ → List Event → Type 0
AreOfNodes nodes events = retires events < nodes

-- the root is done with this result, and this is its journal then
pub record EndsWith {P I A : Type 0} (s : State P I A) (result : RequestResult)
    (journal : Journal) : Type 0 where
  pub root : RequestState P I A
  pub there : at s.requests 0 ≡ Some root
  pub over : root.status ≡ done result
  pub knows : root.journal ≡ journal

-- two tables have the same runs with the same records
abbrev pub SameRecords : Records → Records → Type 0
SameRecords table other = (run : RunId) → found table run ≡ found other run

-- none of the events is about this request
abbrev pub AreOfOthers : ℕ → List Event → Type 0
AreOfOthers id [] = Unit {0}
AreOfOthers id (event ∷ events) = (whose event ≡ id → ⊥) × AreOfOthers id events
