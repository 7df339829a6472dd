-- The requests that call each other down to one. (MSBuild task)
use Rattle.std.specs.Prelude.{
  ◌≡◌,
  ◌≤◌,
  ◌<◌,
  ◌⊎◌,
  ℕ,
  List,
  [],
  ◌∷◌,
  ◌++◌,
  length,
  reverse,
  take,
  Option,
  None,
  Some,
}
use Rattle.result_cache.specs.declared.request.RequestKey.{RequestKey}
use Rattle.build_meaning.specs.Lists.{at}
use Rattle.build_meaning.specs.Meaning.{deepest}
use Rattle.build_scheduler.specs.declared.slot.Origin.{Origin}
use Rattle.build_scheduler.specs.declared.request.RequestFault.{RequestFault}
use Rattle.build_scheduler.specs.declared.request.RequestFault.TheVariants.{
  TooDeep,
  TooMany,
  Memory,
}

-- the keys from one request up to those that another one calls
abbrev pub LeadsUp : List Origin → Option ℕ → List RequestKey → Option ℕ → Type 0
LeadsUp origins from [] next = from ≡ next
LeadsUp origins None (key ∷ keys) next = ⊥
LeadsUp origins (Some id) (key ∷ keys) next = (origin : Origin) × (at origins id ≡ Some origin)
    × (origin.key ≡ key) × LeadsUp origins origin.parent keys next

-- one key further up, unless the root is reached
abbrev pub IsFurther : List Origin → List RequestKey → List RequestKey → Option ℕ → Option ℕ
    → Type 0
IsFurther origins old new None next = (new ≡ old) × (next ≡ None)
IsFurther origins old new (Some id) next = (origin : Origin) × (at origins id ≡ Some origin)
    × (new ≡ old ++ origin.key ∷ []) × (next ≡ origin.parent)

-- it is the number of a request, if it is one
abbrev pub IsThere : List Origin → Option ℕ → Type 0
IsThere origins None = Unit {0}
IsThere origins (Some id) = id < length origins

-- the keys from a request up to the root, or as many as may be nested
pub record AreUpward (origins : List Origin) (id : ℕ) (up : List RequestKey) : Type 0 where
  pub next : Option ℕ
  pub above : LeadsUp origins (Some id) up next
  pub whole : (next ≡ None) ⊎ (deepest ≤ length up)

-- they, the other way round, and the first call behind them
pub record AreKeysDown (origins : List Origin) (id : ℕ) (calls keys : List RequestKey) : Type 0
  where
    pub up : List RequestKey
    pub next : Option ℕ
    pub above : LeadsUp origins (Some id) up next
    pub whole : (next ≡ None) ⊎ (deepest ≤ length up)
    pub keys_are : keys ≡ reverse up ++ take 1 calls

-- calls that are nested too deep, or want of memory
abbrev pub IsDeepFault : List Origin → ℕ → List RequestKey → RequestFault → Type 0
IsDeepFault origins id calls (TooDeep keys) = AreKeysDown origins id calls keys
IsDeepFault origins id calls (TooMany instance) = ⊥
IsDeepFault origins id calls Memory = Unit {0}
