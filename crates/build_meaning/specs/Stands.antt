-- Where a request of a history stands in the meaning: what is left of it gives what the meaning
-- gives at its place. D holds of all that the meaning contains.
use Rattle.std.specs.Prelude.{ℕ, ◌≡◌, List, [], ◌∷◌, ◌++◌, Some}
use Rattle.result_cache.specs.declared.run.RunId.{RunId}
use Rattle.result_cache.specs.declared.request.RequestKey.{RequestKey}
use Rattle.result_cache.specs.declared.request.RequestResult.{RequestResult}
use Rattle.result_cache.specs.declared.record.Record.{Record}
use Rattle.result_cache.specs.Lists.{In}
use Rattle.build_meaning.specs.Lists.{at, Paired}
use Rattle.result_cache.specs.Journal.{Journal, ended, add}
use Rattle.build_meaning.specs.World.{World}
use Rattle.build_meaning.specs.Walk.{Walk, wants, Body, makes, calls}
use Rattle.build_meaning.specs.SoFar.{ToolUse, SoFar, with_calls}
use Rattle.build_meaning.specs.Meaning.{Demanded, requested, built, Given}
use Rattle.build_meaning.specs.Stop.{Stop, ends, asks}
use Rattle.build_meaning.specs.State.{
  Within,
  Place,
  walking,
  within,
  Status,
  ready,
  assigned,
  waits,
  calling,
  done,
  RequestState,
  State,
}
use Rattle.build_meaning.specs.Derived.{OfWalk, OfBody, OfCalls}

-- what a request will give in the end: its result and its journal
pub record Goal : Type 0 where
  pub res : RequestResult
  pub journal : Journal

-- the requests of these numbers will give these results
abbrev pub Match : List Goal → List ℕ → List RequestResult → Type 0
Match goals [] [] = Unit {0}
Match goals (id ∷ ids) (res ∷ results) = ((g : Goal) × (at goals id ≡ Some g) × (g.res ≡ res))
    × Match goals ids results
Match goals _ _ = ⊥

-- the body that is left where it has stopped
abbrev pub body_of : {I A : Type 0} → Stop I A → Body I A
body_of (ends outcome) = makes outcome
body_of (asks key keys go) = calls key keys go

module _ {P I A : Type 0} (w : World P I A) (D : Demanded P I → Type 0) where
  -- the body that is left makes the record m with these uses of tools and leaves the journal i,
  -- after which the request will give the goal
  pub record InBody (path : List RunId) (j : Journal) (runs : List RunId) (r : RunId)
      (so_far : SoFar I) (b : Body I A) (go : Record → Journal → Walk P I A) (g : Goal) (m : Record)
      (tools : List (ToolUse I)) (i : Journal) : Type 0 where
    pub body : OfBody w D (r ∷ path) r j so_far b m tools i
    pub known : (site : P) × (from : Journal) × D (built site r from m tools)
    pub next : OfWalk w D path (add i (ended r m)) (runs ++ r ∷ []) (go m (add i (ended r m))) g.res
        g.journal

  -- there is such a record, with such uses of tools and such a journal
  abbrev pub InSome : List RunId → Journal → List RunId → RunId → SoFar I → Body I A →
      (Record → Journal → Walk P I A) → Goal → Type 0
  InSome path j runs r so_far b go g = (m : Record) × (tools : List (ToolUse I)) × (i : Journal)
      × InBody path j runs r so_far b go g m tools i

  -- what is left at a place gives the goal
  abbrev pub PlaceAt : List RunId → Journal → List RunId → Place P I A → Goal → Type 0
  PlaceAt path j runs (walking x) g = OfWalk w D path j runs x g.res g.journal
  PlaceAt path j runs (within x stop) g = InSome path j runs x.run x.so_far (body_of stop) x.go g

  -- of a caller: what its calls will give, and the body after them
  pub record Calling (goals : List Goal) (path : List RunId) (j : Journal) (runs : List RunId)
      (keys : List RequestKey) (ids : List ℕ) (x : Within P I A) (go : List RequestResult →
      Journal → Body I A) (g : Goal) (results : List RequestResult) (i : Journal) : Type 0 where
    pub asked : OfCalls w D (x.run ∷ path) j j keys results i
    pub matched : Match goals ids results
    pub then_in : InSome path i runs x.run (with_calls x.so_far keys results) (go results i) x.go g

  -- what is left of a request, as it stands, gives the goal
  abbrev pub StandsAt : List Goal → List RunId → Journal → List RunId → Status P I A → Goal → Type 0
  StandsAt goals path j runs (ready p) g = PlaceAt path j runs p g
  StandsAt goals path j runs (assigned node p) g = PlaceAt path j runs p g
  StandsAt goals path j runs (waits r b go) g =
      (site : P) × OfWalk w D path j runs (wants site r b go) g.res g.journal
  StandsAt goals path j runs (calling keys ids x go) g = (results : List RequestResult)
      × (i : Journal) × Calling goals path j runs keys ids x go g results i
  StandsAt goals path j runs (done res) g = (g.res ≡ res) × (g.journal ≡ j)

  -- a request stands at a place of the meaning: the meaning contains it, and what is left of it
  -- gives the goal
  pub record Stands (goals : List Goal) (q : RequestState P I A) (g : Goal) : Type 0 where
    pub asked : D (requested q.origin.key)
    pub stands : StandsAt goals q.origin.path q.journal q.runs q.status g

-- what the meaning contains
abbrev pub Contained : {P I : Type 0} → Given P I RequestResult → Demanded P I → Type 0
Contained out e = In e out.demand

-- every request stands at a place of the meaning, and the root will give the meaning's result and
-- journal
pub record StandsInMeaning {P I A : Type 0} (w : World P I A) (out : Given P I RequestResult)
    (s : State P I A) (goals : List Goal) : Type 0 where
  pub each : Paired (Stands w (Contained out) goals) s.requests goals
  pub root : at goals 0 ≡ Some (record { res = out.value; journal = out.journal })
