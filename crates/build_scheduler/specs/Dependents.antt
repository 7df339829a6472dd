-- The requests whose runs need the run that a request would wait for, as they are found: the one
-- that calls the request, and on from there those that call one of them, or a request that waits
-- for the run of one of them. (MSBuild task: circular dependencies of targets)
use Rattle.std.specs.Prelude.{
  ◌≡◌,
  ◌<◌,
  ◌⊎◌,
  ℕ,
  true,
  false,
  List,
  [],
  ◌∷◌,
  ◌++◌,
  length,
  map,
  Option,
  None,
  Some,
}
use Rattle.msb_laws.specs.Asking.{and_then}
use Rattle.result_cache.specs.declared.run.RunId.{RunId}
use Rattle.result_cache.specs.Lists.{In}
use Rattle.build_meaning.specs.Lists.{at}
use Rattle.build_scheduler.specs.declared.slot.Origin.{Origin}
use Rattle.build_scheduler.specs.declared.dependents.Dependent.{Dependent}
use Rattle.build_scheduler.specs.Numbers.{among, Numbered}
use Rattle.build_scheduler.specs.Shown.{numbers_of}

-- the request that calls this one
abbrev pub caller_at : List Origin → ℕ → Option ℕ
caller_at origins id = and_then (at origins id) (λ o. o.parent)

module _ (origins : List Origin) (waiting : List Numbered) where
  -- the run of one request needs that of another: it calls that one, or one that waits for its run
  pub record CallsOver (caller request : ℕ) : Type 0 where
    pub child : ℕ
    pub called : caller_at origins child ≡ Some caller
    pub holds : (child ≡ request) ⊎ (among child (numbers_of (at waiting request)) ≡ true)

  -- found by one that was found before it
  pub record IsFoundBy (requests over : List ℕ) (i request : ℕ) : Type 0 where
    pub place : ℕ
    pub next : ℕ
    pub over_is : at over i ≡ Some place
    pub before : place < i
    pub next_is : at requests place ≡ Some next
    pub needs : CallsOver request next

  -- requests that are found from a first one on: each has the place of one before it whose run its
  -- own needs
  pub record AreFound (first : ℕ) (requests over : List ℕ) : Type 0 where
    pub starts : at requests 0 ≡ Some first
    pub lengths : length over ≡ length requests
    pub there : (i request : ℕ) → at requests i ≡ Some request → request < length origins
    pub each : (i request : ℕ) → at requests i ≡ Some request → 0 < i
        → IsFoundBy requests over i request

  -- as many of them as were looked at have brought in all that need them
  abbrev pub AreLooked : List ℕ → ℕ → Type 0
  AreLooked requests looked = (i request caller : ℕ) → i < looked → at requests i ≡ Some request
      → CallsOver caller request → among caller requests ≡ true

  -- all are found that need the run of one of them, and this one is not among them
  pub record AreApart (by : ℕ) (requests : List ℕ) : Type 0 where
    pub closed : (request caller : ℕ) → among request requests ≡ true → CallsOver caller request
        → among caller requests ≡ true
    pub apart : among by requests ≡ false

  -- this one is found at a place, or it is not among those that need the run of a request that the
  -- first one calls
  abbrev pub TellsDependentFrom : ℕ → ℕ → Option Dependent → Type 0
  TellsDependentFrom first by None = (requests : List ℕ) × (among first requests ≡ true)
      × AreApart by requests
  TellsDependentFrom first by (Some found) = AreFound first found.dependents.requests.keys
      found.dependents.needs.items × (at found.dependents.requests.keys found.place ≡ Some by)

  abbrev pub TellsDependent : ℕ → ℕ → Option Dependent → Type 0
  TellsDependent id by None = (requests : List ℕ)
      × ((caller : ℕ) → caller_at origins id ≡ Some caller → among caller requests ≡ true)
      × AreApart by requests
  TellsDependent id by (Some found) = (first : ℕ) × (caller_at origins id ≡ Some first)
      × AreFound first found.dependents.requests.keys found.dependents.needs.items
      × (at found.dependents.requests.keys found.place ≡ Some by)

-- one more request, unless it is there
abbrev pub IsAddedTo : List ℕ → List ℕ → ℕ → ℕ → List ℕ → List ℕ → Type 0
IsAddedTo requests over request place next after =
    ((among request requests ≡ true) × (next ≡ requests) × (after ≡ over))
    ⊎ ((among request requests ≡ false) × (next ≡ requests ++ request ∷ [])
    × (after ≡ over ++ place ∷ []))

-- the callers of some requests are brought in, each found by the request at a place
pub record AreBroughtIn (origins : List Origin) (children : List ℕ) (place : ℕ)
    (requests over next after : List ℕ) : Type 0 where
  pub more : List ℕ
  pub next_is : next ≡ requests ++ more
  pub after_is : after ≡ over ++ map (λ (caller : ℕ). place) more
  pub callers : (i caller : ℕ) → at more i ≡ Some caller
      → (child : ℕ) × In child children × (caller_at origins child ≡ Some caller)
  pub all_there : (child caller : ℕ) → In child children → caller_at origins child ≡ Some caller
      → among caller next ≡ true

-- those that need the run of the request at a place are brought in
abbrev pub IsLookedAt : List Origin → List Numbered → ℕ → List ℕ → List ℕ → List ℕ → List ℕ → Type 0
IsLookedAt origins waiting place requests over next after =
    (request : ℕ) × (at requests place ≡ Some request)
    × AreBroughtIn origins (request ∷ numbers_of (at waiting request)) place requests over next
    after

-- each place but the first has one before it
abbrev pub AreBackward : List ℕ → List ℕ → Type 0
AreBackward requests over = (i : ℕ) → 0 < i → i < length requests
    → (place : ℕ) × (at over i ≡ Some place) × (place < i)

-- the runs of those that a request was found by, one after the other
abbrev pub AreOver : List ℕ → List ℕ → List (Option RunId) → ℕ → List RunId → Type 0
AreOver requests over making i [] = i ≡ 0
AreOver requests over making i (run ∷ runs) =
    (place : ℕ) × (request : ℕ) × (at over i ≡ Some place) × (0 < i)
    × (at requests place ≡ Some request) × (at making request ≡ Some (Some run))
    × AreOver requests over making place runs

-- a request that is in a body
abbrev pub IsMaking : Option (Option RunId) → Type 0
IsMaking (Some (Some run)) = Unit {0}
IsMaking making = ⊥

abbrev pub IsRunAdded : Option (Option RunId) → List RunId → List RunId → Type 0
IsRunAdded (Some (Some run)) old new = new ≡ old ++ run ∷ []
IsRunAdded making old new = ⊥

abbrev pub AreOverAdded : List ℕ → List ℕ → List (Option RunId) → ℕ → List RunId → List RunId
    → Type 0
AreOverAdded requests over making place old new = (between : List RunId) × (new ≡ old ++ between)
    × AreOver requests over making place between

-- a run, those between, and the run again
abbrev pub IsCycleOver : List ℕ → List ℕ → List (Option RunId) → ℕ → RunId → List RunId → Type 0
IsCycleOver requests over making place run runs = (between : List RunId)
    × (runs ≡ run ∷ between ++ run ∷ []) × AreOver requests over making place between

-- every request that calls is there, and so is every one that waits
abbrev pub AreCallersThere : List Origin → Type 0
AreCallersThere origins = (id caller : ℕ) → caller_at origins id ≡ Some caller
    → caller < length origins

pub record AreBounded (waiting : List Numbered) (count : ℕ) : Type 0 where
  pub lists : length waiting ≡ count
  pub bounded : (by id : ℕ) → among id (numbers_of (at waiting by)) ≡ true → id < count
