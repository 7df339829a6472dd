-- The instances that requests ask for, each once. (MSBuild task: project instances)
use Rattle.std.specs.Prelude.{
  ◌≡◌,
  ◌≤◌,
  ◌<◌,
  ℕ,
  Bool,
  true,
  false,
  List,
  [],
  ◌∷◌,
  ◌++◌,
  length,
  Result,
  Ok,
  Err,
}
use Rattle.msb_values.specs.declared.key.InstanceKey.{InstanceKey}
use Rattle.result_cache.specs.declared.request.RequestKey.{RequestKey}
use Rattle.build_meaning.specs.Demand.{is_among}
use Rattle.build_meaning.specs.Meaning.{most_instances}
use Rattle.build_scheduler.specs.declared.slot.Origin.{Origin}
use Rattle.build_scheduler.specs.declared.instances.InstanceFault.{InstanceFault}
use Rattle.build_scheduler.specs.declared.instances.InstanceFault.TheVariants.{TooMany, Memory}

-- no instance is there twice
abbrev pub AreOnce : List InstanceKey → Type 0
AreOnce [] = Unit {0}
AreOnce (instance ∷ others) = (is_among instance others ≡ false) × AreOnce others

-- these instances, each once, are the instances of that list
pub record AreCounted (instances asked : List InstanceKey) : Type 0 where
  pub once : AreOnce instances
  pub same : (instance : InstanceKey) → is_among instance instances ≡ is_among instance asked

-- the instance that a request asks for
abbrev pub instance_asked : Origin → InstanceKey
instance_asked origin = origin.key.instance

-- the instances with another one behind them, unless it is there
abbrev pub behind_unless : Bool → List InstanceKey → InstanceKey → List InstanceKey
behind_unless true instances instance = instances
behind_unless false instances instance = instances ++ instance ∷ []

abbrev pub with_instance : List InstanceKey → InstanceKey → List InstanceKey
with_instance instances instance = behind_unless (is_among instance instances) instances instance

abbrev pub with_all : List InstanceKey → List RequestKey → List InstanceKey
with_all instances [] = instances
with_all instances (call ∷ calls) = with_all (with_instance instances call.instance) calls

-- with the instance of one of some calls, and not before it, there are too many
pub record IsOver (old : List InstanceKey) (calls : List RequestKey) (instance : InstanceKey) : Type
    0 where
  pub before : List RequestKey
  pub call : RequestKey
  pub behind : List RequestKey
  pub calls_are : calls ≡ before ++ call ∷ behind
  pub instance_is : call.instance ≡ instance
  pub not_before : length (with_all old before) ≤ most_instances
  pub too_many : most_instances < length (with_all old (before ++ call ∷ []))

-- the instances of some calls are added; where there would be too many, nothing changes
abbrev pub IsAdded : List InstanceKey → List InstanceKey → List RequestKey
    → Result (Unit {0}) InstanceFault
    → Type 0
IsAdded old new calls (Ok done) = (new ≡ with_all old calls) × (length new ≤ most_instances)
IsAdded old new calls (Err (TooMany instance)) = (new ≡ old) × IsOver old calls instance
IsAdded old new calls (Err Memory) = new ≡ old

-- with some of the calls the instances have grown
abbrev pub IsGrown : List InstanceKey → List InstanceKey → List RequestKey
    → Result (Unit {0}) InstanceFault
    → Type 0
IsGrown old new calls (Ok done) = (new ≡ with_all old calls) × (length new ≤ most_instances)
IsGrown old new calls (Err (TooMany instance)) = ((more : List InstanceKey) × (new ≡ old ++ more))
    × IsOver old calls instance
IsGrown old new calls (Err Memory) = (more : List InstanceKey) × (new ≡ old ++ more)

abbrev pub IsGrownBy : List InstanceKey → List InstanceKey → InstanceKey
    → Result (Unit {0}) InstanceFault
    → Type 0
IsGrownBy old new instance (Ok done) = (new ≡ with_instance old instance)
    × (length new ≤ most_instances)
IsGrownBy old new instance (Err (TooMany other)) = (new ≡ with_instance old instance)
    × (most_instances < length new) × (other ≡ instance)
IsGrownBy old new instance (Err Memory) = (more : List InstanceKey) × (new ≡ old ++ more)

abbrev pub IsBelowMost : ℕ → InstanceKey → Result (Unit {0}) InstanceFault → Type 0
IsBelowMost count instance (Ok done) = count ≤ most_instances
IsBelowMost count instance (Err (TooMany other)) = (most_instances < count) × (other ≡ instance)
IsBelowMost count instance (Err Memory) = Unit {0}
