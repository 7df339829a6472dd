-- What a check says of a world: the first event in the order of demand that speaks against it, or
-- else that it is steady. (MSBuild task; Building projects in parallel)
use Rattle.std.specs.Prelude.{
  ℕ,
  suc,
  Bool,
  true,
  false,
  List,
  [],
  ◌∷◌,
  ◌++◌,
  length,
  Option,
  None,
  Some,
  nat_le,
  nat_lt,
}
use Rattle.msb_values.specs.declared.key.InstanceKey.{InstanceKey}
use Rattle.result_cache.specs.declared.run.RunId.{RunId}
use Rattle.result_cache.specs.declared.record.Record.{Record}
use Rattle.result_cache.specs.Lists.{this_or}
use Rattle.result_cache.specs.Same.{same_run}
use Rattle.result_cache.specs.SameRecords.{same_record}
use Rattle.build_meaning.specs.World.{World}
use Rattle.build_meaning.specs.Meaning.{most_instances}
use Rattle.build_meaning.specs.Demand.{distinct}
use Rattle.build_steady.specs.Order.{
  DemandEvent,
  is_reached,
  is_too_deep,
  body_begins,
  body_ends,
  is_circular,
  order_of_demand,
}
use Rattle.build_steady.specs.declared.verdict.Verdict.{Verdict}
use Rattle.build_steady.specs.declared.verdict.Verdict.TheVariants.{
  Steady,
  Differs,
  Circular,
  TooDeep,
  TooMany,
  Spent,
}

-- so many bodies are made in a check
unfoldable pub most_bodies : ℕ
most_bodies = 100000

-- how many bodies have begun
abbrev pub bodies_begun : List DemandEvent → ℕ
bodies_begun [] = 0
bodies_begun (is_reached instance ∷ events) = bodies_begun events
bodies_begun (is_too_deep instance ∷ events) = bodies_begun events
bodies_begun (body_begins run ∷ events) = suc (bodies_begun events)
bodies_begun (body_ends run made ∷ events) = bodies_begun events
bodies_begun (is_circular run ∷ events) = bodies_begun events

-- the instances that were reached
abbrev pub reached : List DemandEvent → List InstanceKey
reached [] = []
reached (is_reached instance ∷ events) = instance ∷ reached events
reached (is_too_deep instance ∷ events) = reached events
reached (body_begins run ∷ events) = reached events
reached (body_ends run made ∷ events) = reached events
reached (is_circular run ∷ events) = reached events

-- the record with which the first body of a run has ended
abbrev pub first_record : List DemandEvent → RunId → Option Record
first_record [] run = None
first_record (is_reached instance ∷ events) run = first_record events run
first_record (is_too_deep instance ∷ events) run = first_record events run
first_record (body_begins other ∷ events) run = first_record events run
first_record (body_ends other made ∷ events) run =
    this_or (same_run other run) (first_record events run) made
first_record (is_circular other ∷ events) run = first_record events run

-- this verdict, unless the test holds
abbrev pub unless_so : Bool → Verdict → Option Verdict
unless_so true verdict = None
unless_so false verdict = Some verdict

-- of a body that ends with a record, by that of the first body of its run
abbrev pub if_differs : Option Record → RunId → Record → Option Verdict
if_differs None run made = None
if_differs (Some first) run made = unless_so (same_record first made) (Differs run first made)

-- what an event says against a world, by those before it: a run is wanted in its own body; a
-- request is nested too deep; with this instance there are more than may be; one body more than may
-- be made would begin; a body ends with another record than the first body of its run
abbrev pub said_by : List DemandEvent → DemandEvent → Option Verdict
said_by before (is_reached instance) =
    unless_so (nat_le (length (distinct (reached before ++ instance ∷ []))) most_instances)
    (TooMany instance)
said_by before (is_too_deep instance) = Some (TooDeep instance)
said_by before (body_begins run) =
    unless_so (nat_lt (bodies_begun before) most_bodies) (Spent most_bodies)
said_by before (body_ends run made) = if_differs (first_record before run) run made
said_by before (is_circular run) = Some (Circular run)

-- this one, or else the later one
abbrev pub first_said : Option Verdict → Verdict → Verdict
first_said None later = later
first_said (Some verdict) later = verdict

-- the verdict of the events that come after these
abbrev pub verdict_after : List DemandEvent → List DemandEvent → Verdict
verdict_after before [] = Steady (bodies_begun before)
verdict_after before (event ∷ events) =
    first_said (said_by before event) (verdict_after (before ++ event ∷ []) events)

-- the verdict of a world
unfoldable pub verdict_of : {P I A : Type 0} → World P I A → Verdict
verdict_of w = verdict_after [] (order_of_demand w)
