-- One event of a scheduler, and the state after it where it is possible.
use Rattle.std.specs.Prelude.{
  ℕ,
  Bool,
  true,
  false,
  ◌&&◌,
  ◌==◌,
  nat_le,
  nat_lt,
  List,
  [],
  ◌∷◌,
  ◌++◌,
  length,
  map,
  Option,
  None,
  Some,
}
use Rattle.msb_laws.specs.Asking.{and_then}
use Rattle.msb_laws.specs.Traverse.{traverse}
use Rattle.msb_values.specs.declared.key.InstanceKey.{InstanceKey}
use Rattle.result_cache.specs.declared.run.RunId.{RunId}
use Rattle.result_cache.specs.declared.request.RequestKey.{RequestKey}
use Rattle.result_cache.specs.declared.request.RequestResult.{RequestResult}
use Rattle.result_cache.specs.declared.record.Record.{Record}
use Rattle.result_cache.specs.Same.{same_run, same_keys}
use Rattle.build_meaning.specs.declared.event.Event.{Event}
use Rattle.build_meaning.specs.declared.event.Event.TheVariants.{
  Assign,
  Claim,
  Request,
  Result,
  Done,
  Retire,
}
use Rattle.build_meaning.specs.declared.event.ClaimKind.{ClaimKind}
use Rattle.build_meaning.specs.declared.event.ClaimKind.TheVariants.{Go, Use, Wait}
use Rattle.build_meaning.specs.Lists.{at, put, numbered_from}
use Rattle.result_cache.specs.Journal.{Journal, ended, add}
use Rattle.result_cache.specs.Table.{Records, found, is_begun}
use Rattle.result_cache.specs.Replay.{replay, replay_all}
use Rattle.build_meaning.specs.World.{World}
use Rattle.build_meaning.specs.Walk.{Walk, gives, wants, Body}
use Rattle.build_meaning.specs.SoFar.{nothing_yet, with_calls, runs_of, recorded, result_of}
use Rattle.build_meaning.specs.Meaning.{deepest, most_instances}
use Rattle.build_meaning.specs.Demand.{distinct}
use Rattle.build_meaning.specs.Stop.{ends, asks, Stopped, run_on}
use Rattle.build_meaning.specs.State.{
  Within,
  Place,
  walking,
  within,
  Status,
  ready,
  assigned,
  waits,
  calling,
  done,
  RequestState,
  State,
  with_request,
  with_status,
  new_request,
}
use Rattle.build_meaning.specs.Cycle.{is_in_cycle}

-- this where the test holds
abbrev pub only_if : {X : Type 0} → Bool → X → Option X
only_if true x = Some x
only_if false x = None

-- this unless the test holds
abbrev pub unless : {X : Type 0} → Bool → X → Option X
unless true x = None
unless false x = Some x

-- the request that an event is about
abbrev pub whose : Event → ℕ
whose (Assign id node) = id
whose (Claim id run kind) = id
whose (Request id keys) = id
whose (Result id run) = id
whose (Done id) = id
whose (Retire id node) = id

module _ {P I A : Type 0} (w : World P I A) where
  -- Assign: a request that is ready goes to a node
  abbrev pub assign_at : State P I A → ℕ → ℕ → RequestState P I A → Status P I A →
      Option (State P I A)
  assign_at s id node q (ready place) =
      Some (with_request s id (with_status q (assigned node place)))
  assign_at s id node q status = None

  -- Retire: a request goes back from the node that has it, and is ready as it was
  abbrev pub retire_at : State P I A → ℕ → ℕ → RequestState P I A → Status P I A →
      Option (State P I A)
  retire_at s id node q (assigned by place) =
      only_if (by == node) (with_request s id (with_status q (ready place)))
  retire_at s id node q status = None

  -- the request whose body has stopped
  abbrev pub in_body : (Place P I A → Status P I A) → RequestState P I A → RunId →
      (Record → Journal → Walk P I A) → Stopped I A → RequestState P I A
  in_body status q run go x = record {
    origin = q.origin;
    journal = x.journal;
    runs = q.runs;
    status = status (within (record { run = run; so_far = x.so_far; go = go }) x.stop);
  }

  -- the request that goes on by the record of a run
  abbrev pub goes_on : (Place P I A → Status P I A) → RequestState P I A → RunId →
      (Record → Journal → Walk P I A) → Record → Journal → RequestState P I A
  goes_on status q run go made journal = record {
    origin = q.origin;
    journal = journal;
    runs = q.runs ++ run ∷ [];
    status = status (walking (go made journal));
  }

  -- the state in which a request waits for a run
  abbrev pub waiting : State P I A → ℕ → RequestState P I A → RunId → Body I A →
      (Record → Journal → Walk P I A) → State P I A
  waiting s id q run b go = with_request s id (with_status q (waits run b go))

  -- a run may be waited for: it is begun, it has no record, and it does not need itself
  abbrev pub may_wait : Bool → Option Record → Bool → Bool
  may_wait true None false = true
  may_wait true None true = false
  may_wait true (Some made) in_cycle = false
  may_wait false record_of_it in_cycle = false

  -- Claim: Go where the run is not begun, and its body runs on until it stops; Use where the run is
  -- finished, and its record is replayed; Wait where it is begun and not finished, unless it needed
  -- itself then
  abbrev pub claimed : State P I A → ℕ → ℕ → RequestState P I A → RunId → Body I A →
      (Record → Journal → Walk P I A) → ClaimKind → Option (State P I A)
  claimed s id node q run b go Go = unless (is_begun run s.begun) (record {
    requests = put s.requests id
        (in_body (assigned node) q run go (run_on w.tools run b q.journal nothing_yet));
    begun = record { run = run; by = id } ∷ s.begun;
    table = s.table;
    tools_used = s.tools_used;
  })
  claimed s id node q run b go Use =
      and_then (found s.table run) (λ made. and_then (replay s.table run q.journal) (λ next.
      Some (with_request s id (goes_on (assigned node) q run go made next))))
  claimed s id node q run b go Wait =
      let next : State P I A = waiting s id q run b go in
      only_if (may_wait (is_begun run s.begun) (found s.table run) (is_in_cycle next run)) next

  -- the claim of the run that a request with a node wants
  abbrev pub claim_at : State P I A → ℕ → RunId → ClaimKind → RequestState P I A → Status P I A →
      Option (State P I A)
  claim_at s id run kind q (assigned node (walking (wants site wanted b go))) =
      and_then (only_if (same_run wanted run) wanted)
      (λ run. claimed s id node q run b go kind)
  claim_at s id run kind q status = None

  -- the calls are made: each has a new request, which is ready and begins with its caller's journal
  abbrev pub with_children : State P I A → ℕ → RequestState P I A → List RequestKey → Within P I A →
      (List RequestResult → Journal → Body I A) → State P I A
  with_children s id q keys x go = record {
    requests = put s.requests id
        (with_status q (calling keys (numbered_from (length s.requests) keys) x go))
        ++ map (new_request w (Some id) (x.run ∷ q.origin.path) q.journal) keys;
    begun = s.begun;
    table = s.table;
    tools_used = s.tools_used;
  }

  -- the instance that a request asks for
  abbrev pub instance_of : RequestState P I A → InstanceKey
  instance_of q = q.origin.key.instance

  -- the calls are not nested too deep, and there are not too many instances with them
  abbrev pub is_within_limits : State P I A → List RunId → List RequestKey → Bool
  is_within_limits s path keys =
      nat_lt (length path) deepest
      && nat_le
      (length (distinct (map instance_of s.requests ++ map (λ key. key.instance) keys)))
      most_instances

  -- Request: the calls that the body of a request with a node asks for, within the limits
  abbrev pub request_at : State P I A → ℕ → List RequestKey → RequestState P I A → Status P I A →
      Option (State P I A)
  request_at s id keys q (assigned node (within x (asks key more go))) =
      only_if
      (same_keys (key ∷ more) keys && is_within_limits s (x.run ∷ q.origin.path) (key ∷ more))
      (with_children s id q (key ∷ more) x go)
  request_at s id keys q status = None

  -- a waiting request, by whether it waits for that run
  abbrev pub woken_if : Bool → Records → RequestState P I A → Record → RunId →
      (Record → Journal → Walk P I A) → Option (RequestState P I A)
  woken_if true table q made run go = and_then (replay table run q.journal)
      (λ next. Some (goes_on ready q run go made next))
  woken_if false table q made run go = Some q

  -- a request that waits for the run is ready, with its record replayed
  abbrev pub woken_at : Records → RunId → Record → RequestState P I A → Status P I A →
      Option (RequestState P I A)
  woken_at table run made q (waits wanted b go) = woken_if (same_run wanted run) table q made wanted
      go
  woken_at table run made q status = Some q

  -- a request as it stands, after the run is finished
  abbrev pub woken : Records → RunId → Record → RequestState P I A → Option (RequestState P I A)
  woken table run made q = woken_at table run made q q.status

  -- the run is finished: its request goes on with the record, and so do all that wait for it
  abbrev pub finished : State P I A → ℕ → ℕ → RequestState P I A → Within P I A → Record →
      Option (State P I A)
  finished s id node q x made =
      let table : Records = record { run = x.run; made = made } ∷ s.table in
      and_then
      (traverse (woken table x.run made)
      (put s.requests id
      (goes_on (assigned node) q x.run x.go made (add q.journal (ended x.run made)))))
      (λ requests.
      Some
      (record {
        requests = requests;
        begun = s.begun;
        table = table;
        tools_used = record
            { run = x.run; tools = x.so_far.tools } ∷ s.tools_used;
      }))

  -- Result: the record of the run whose body has come to its end in a request with a node
  abbrev pub result_at : State P I A → ℕ → RunId → RequestState P I A → Status P I A →
      Option (State P I A)
  result_at s id run q (assigned node (within x (ends outcome))) =
      and_then (only_if (same_run x.run run) x)
      (λ x. finished s id node q x (recorded outcome x.so_far.segments))
  result_at s id run q status = None

  -- the result of a request that is done
  abbrev pub result_in : Status P I A → Option RequestResult
  result_in (done result) = Some result
  result_in status = None

  -- the results of some requests, where all of them are done
  abbrev pub results_of : List (RequestState P I A) → List ℕ → Option (List RequestResult)
  results_of requests = traverse (λ id. and_then (at requests id) (λ q. result_in q.status))

  -- a caller goes on with the results of its calls, once all are there; its journal is that of
  -- before with their runs replayed in call order
  abbrev pub answered : State P I A → ℕ → RequestState P I A → List RequestKey → Within P I A →
      (List RequestResult → Journal → Body I A) → Option (List RequestResult) →
      Option (State P I A)
  answered s id q keys x go None = Some s
  answered s id q keys x go (Some results) =
      and_then (replay_all s.table (runs_of results) q.journal) (λ next.
      Some
      (with_request s id
      (in_body ready q x.run x.go
      (run_on w.tools x.run (go results next) next (with_calls x.so_far keys results)))))

  -- a caller as it stands, after one of its calls is done
  abbrev pub resume_at : State P I A → ℕ → RequestState P I A → Status P I A → Option (State P I A)
  resume_at s id q (calling keys ids x go) = answered s id q keys x go
      (results_of s.requests ids)
  resume_at s id q status = None

  -- the caller, if there is one, is ready once its last open call is done
  abbrev pub resume_caller : State P I A → Option ℕ → Option (State P I A)
  resume_caller s None = Some s
  resume_caller s (Some id) = and_then (at s.requests id) (λ q. resume_at s id q q.status)

  -- Done: a request with a node is over
  abbrev pub done_at : State P I A → ℕ → RequestState P I A → Status P I A → Option (State P I A)
  done_at s id q (assigned node (walking (gives reply))) =
      resume_caller (with_request s id (with_status q (done (result_of reply q.runs))))
      q.origin.parent
  done_at s id q status = None

  -- an event of this request, as it stands
  abbrev pub step_of : State P I A → Event → RequestState P I A → Option (State P I A)
  step_of s (Assign id node) q = assign_at s id node q q.status
  step_of s (Claim id run kind) q = claim_at s id run kind q q.status
  step_of s (Request id keys) q = request_at s id keys q q.status
  step_of s (Result id run) q = result_at s id run q q.status
  step_of s (Done id) q = done_at s id q q.status
  step_of s (Retire id node) q = retire_at s id node q q.status

  -- the state after an event, where it is possible
  abbrev pub step : State P I A → Event → Option (State P I A)
  step s event = and_then (at s.requests (whose event)) (step_of s event)

  -- the state after some events, where each of them is possible in its turn
  abbrev pub after_all : State P I A → List Event → Option (State P I A)
  after_all s [] = Some s
  after_all s (event ∷ events) = and_then (step s event) (λ next. after_all next events)
