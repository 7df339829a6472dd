-- Whole, steady and single worlds: whose meaning exists within the limits, has one record for each
-- run, or makes no calls at once.
use Rattle.std.specs.Prelude.{◌≡◌, ◌≤◌, Bool, true, false, ◌||◌, List, [], ◌∷◌, length, Some}
use Rattle.msb_values.specs.declared.key.InstanceKey.{InstanceKey}
use Rattle.result_cache.specs.declared.run.RunId.{RunId}
use Rattle.result_cache.specs.declared.request.RequestKey.{RequestKey}
use Rattle.result_cache.specs.declared.request.RequestResult.{RequestResult}
use Rattle.result_cache.specs.declared.record.Record.{Record}
use Rattle.result_cache.specs.Same.{same_instance}
use Rattle.result_cache.specs.Lists.{In}
use Rattle.build_meaning.specs.World.{World}
use Rattle.build_meaning.specs.Sound.{IsMade}
use Rattle.build_meaning.specs.Meaning.{
  Demanded,
  requested,
  together,
  joined,
  built,
  Given,
  meaning,
  most_instances,
}

-- the instances that requests ask for
abbrev pub instances : {P I : Type 0} → List (Demanded P I) → List InstanceKey
instances [] = []
instances (requested key ∷ demand) = key.instance ∷ instances demand
instances (together keys ∷ demand) = instances demand
instances (joined caller so_far next ∷ demand) = instances demand
instances (built site run from made tools ∷ demand) = instances demand

-- the instance is one of these
abbrev pub is_among : InstanceKey → List InstanceKey → Bool
is_among instance [] = false
is_among instance (other ∷ others) = same_instance other instance || is_among instance others

-- the instance in front of others, unless the test holds
abbrev pub with_unless : Bool → InstanceKey → List InstanceKey → List InstanceKey
with_unless true instance others = others
with_unless false instance others = instance ∷ others

-- each instance once
abbrev pub distinct : List InstanceKey → List InstanceKey
distinct [] = []
distinct (instance ∷ others) = with_unless (is_among instance others) instance (distinct others)

-- a whole world, which means this: its meaning exists, and asks for no more instances than may be
pub record IsWhole {P I A : Type 0} (w : World P I A) (out : Given P I RequestResult) : Type 0 where
  pub means : meaning w ≡ Some out
  pub few : length (distinct (instances out.demand)) ≤ most_instances

-- the runs whose bodies are made, as often as they are
abbrev pub built_runs : {P I : Type 0} → List (Demanded P I) → List RunId
built_runs [] = []
built_runs (requested key ∷ demand) = built_runs demand
built_runs (together keys ∷ demand) = built_runs demand
built_runs (joined caller so_far next ∷ demand) = built_runs demand
built_runs (built site run from made tools ∷ demand) = run ∷ built_runs demand

-- a steady world: wherever in its meaning a run is made, it makes one record
abbrev pub IsSteady : {P I : Type 0} → List (Demanded P I) → Type 0
IsSteady demand = (run : RunId) (first second : Record) →
    IsMade demand run first → IsMade demand run second → first ≡ second

-- a single world: no two calls are made at once
abbrev pub IsSingle : {P I : Type 0} → List (Demanded P I) → Type 0
IsSingle demand = (keys : List RequestKey) → In (together keys) demand → length keys ≤ 1
