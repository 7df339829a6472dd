-- Which runs need which, and when a run needs itself: a circle of projects that call each other.
-- (MSBuild task)
use Rattle.std.specs.Prelude.{
  ℕ,
  zero,
  suc,
  Bool,
  true,
  false,
  ◌||◌,
  List,
  [],
  ◌∷◌,
  ◌++◌,
  length,
  Option,
  None,
  Some,
}
use Rattle.result_cache.specs.declared.run.RunId.{RunId}
use Rattle.result_cache.specs.Same.{same_run}
use Rattle.result_cache.specs.Lists.{In}
use Rattle.build_meaning.specs.Lists.{at}
use Rattle.build_meaning.specs.State.{
  Place,
  walking,
  within,
  Status,
  ready,
  assigned,
  waits,
  calling,
  done,
  RequestState,
  State,
}

-- these runs, where the test holds
abbrev pub if_same : Bool → List RunId → List RunId
if_same true runs = runs
if_same false runs = []

-- some run of the list is the last one, or leads there
abbrev pub any_leads : (RunId → Bool) → RunId → List RunId → Bool
any_leads leads last [] = false
any_leads leads last (run ∷ runs) = same_run run last || (leads run || any_leads leads last runs)

-- from a run to the last one, in at most so many steps to a next one
abbrev pub leads_to : (RunId → List RunId) → ℕ → RunId → RunId → Bool
leads_to next zero last run = false
leads_to next (suc steps) last run = any_leads (leads_to next steps last) last (next run)

module _ {P I A : Type 0} where
  -- the run in whose body a request is
  abbrev pub held : Place P I A → List RunId
  held (walking walk) = []
  held (within x stop) = x.run ∷ []

  -- the run that a request has begun and not finished, or waits for
  abbrev pub holds : Status P I A → List RunId
  holds (ready place) = held place
  holds (assigned node place) = held place
  holds (waits run b go) = run ∷ []
  holds (calling keys ids x go) = x.run ∷ []
  holds (done result) = []

  -- that of a request that may not be there
  abbrev pub held_at : Option (RequestState P I A) → List RunId
  held_at None = []
  held_at (Some q) = holds q.status

  -- those of several requests, by their numbers
  abbrev pub held_by : List (RequestState P I A) → List ℕ → List RunId
  held_by requests [] = []
  held_by requests (id ∷ ids) = held_at (at requests id) ++ held_by requests ids

  -- what a request needs for a run: where it has open calls in the run's body, what its children
  -- hold
  abbrev pub needed_at : List (RequestState P I A) → RunId → Status P I A → List RunId
  needed_at all run (calling keys ids x go) = if_same (same_run x.run run) (held_by all ids)
  needed_at all run status = []

  -- the runs that a run needs: its body has open calls, and a child of these has begun such a run
  -- or waits for it
  abbrev pub needed : List (RequestState P I A) → RunId → List (RequestState P I A) → List RunId
  needed all run [] = []
  needed all run (q ∷ requests) = needed_at all run q.status ++ needed all run requests

  -- one run needs another
  abbrev pub Needs : State P I A → RunId → RunId → Type 0
  Needs s run other = In other (needed s.requests run s.requests)

  -- from a run over others to the last one, where each needs the next
  abbrev pub IsChain : State P I A → RunId → List RunId → RunId → Type 0
  IsChain s run [] last = Needs s run last
  IsChain s run (next ∷ runs) last = Needs s run next × IsChain s next runs last

  -- a cycle that can be shown: the run needs itself, over some others or over none
  abbrev pub ShowsCycle : State P I A → RunId → Type 0
  ShowsCycle s run = (runs : List RunId) × IsChain s run runs run

  -- the run needs itself, as a test: a way that repeats no run has no more steps than runs are
  -- begun
  abbrev pub is_in_cycle : State P I A → RunId → Bool
  is_in_cycle s run = leads_to (λ other. needed s.requests other s.requests) (length s.begun) run
      run
