-- Which node a request is with, through the events of a turn.
use Rattle.std.proofs.Common.{
  ◌≡◌,
  ℕ,
  List,
  [],
  ◌∷◌,
  ◌++◌,
  Option,
  None,
  Some,
  refl,
  ap,
  sym,
  ◌∙◌,
  subst,
}
use Rattle.std.proofs.Math.Logic.{∥∥₁_map, ∥∥₁_map₂}
use Rattle.msb_laws.specs.Asking.{and_then}
use Rattle.msb_laws.specs.Traverse.{traverse}
use Rattle.result_cache.specs.declared.run.RunId.{RunId}
use Rattle.result_cache.specs.declared.record.Record.{Record}
use Rattle.result_cache.specs.Same.{same_run}
use Rattle.result_cache.specs.Journal.{add, ended}
use Rattle.result_cache.specs.Replay.{replay}
use Rattle.result_cache.specs.Table.{found, is_begun, FinishedRun, TableRuns}
use Rattle.result_cache.proofs.RunTests.{and_then-some}
use Rattle.build_meaning.specs.declared.event.Event.{Event}
use Rattle.build_meaning.specs.declared.event.Event.TheVariants.{Assign, Claim, Result}
use Rattle.build_meaning.specs.declared.event.ClaimKind.TheVariants.{Go, Use}
use Rattle.build_meaning.specs.Lists.{at, put}
use Rattle.build_meaning.specs.SoFar.{nothing_yet, recorded}
use Rattle.build_meaning.specs.Stop.{ends, asks, run_on}
use Rattle.build_meaning.specs.Walk.{gives, wants}
use Rattle.build_meaning.specs.World.{World}
use Rattle.build_meaning.specs.State.{
  with_status,
  Place,
  walking,
  within,
  Status,
  ready,
  assigned,
  waits,
  calling,
  done,
  RequestState,
  State,
  with_request,
  start,
}
use Rattle.build_meaning.specs.Step.{
  whose,
  only_if,
  in_body,
  goes_on,
  claimed,
  woken,
  finished,
  step_of,
  after_all,
}
use Rattle.build_meaning.specs.History.{IsHistory, AreOfOthers}
use Rattle.build_meaning.proofs.AssignedRequests.{stays}
use Rattle.build_meaning.proofs.EventsKeepLawful.{some-is, unless-some}
use Rattle.build_meaning.proofs.ListPlaces.{at-put_same, traverse-at}
use Rattle.build_scheduler.specs.declared.slot.End.{End}
use Rattle.build_scheduler.specs.declared.slot.Origin.{Origin as Kept}
use Rattle.build_scheduler.specs.declared.slot.Slot.{Slot}
use Rattle.build_scheduler.specs.declared.walker.Answer.{Answer}
use Rattle.build_scheduler.specs.declared.walker.Answer.TheVariants.{Go as Goes, Use as Uses}
use Rattle.build_scheduler.specs.declared.walker.Ask.{Ask}
use Rattle.build_scheduler.specs.declared.walker.Ask.TheVariants.{Want, Call, Finished, Done}
use Rattle.build_scheduler.specs.History.{History}
use Rattle.build_scheduler.specs.Own.{Seen}
use Rattle.build_scheduler.specs.Ready.{IsAssignedTo}
use Rattle.build_scheduler.specs.Replies.{IsClaim, IsResult}
use Rattle.build_scheduler.specs.Shown.{Shown}
use Rattle.build_scheduler.proofs.HistoryFacts.{one_state}
use Rattle.build_nodes.proofs.HistoryParts.{goes-on, last-of}

module _ {P I A : Type 0} (w : World P I A) where
  -- the state has the request with this node
  pub record HasIt (s : State P I A) (id node : ℕ) : Type 0 where
    pub request : RequestState P I A
    pub place : Place P I A
    pub there : at s.requests id ≡ Some request
    pub is : request.status ≡ assigned node place

  put-it : (s t : State P I A) (id node : ℕ) (q z : RequestState P I A) (p : Place P I A)
      → at s.requests id ≡ Some q → z.status ≡ assigned node p → with_request s id z ≡ t
      → HasIt t id node
  put-it s t id node q z p e st h = subst (λ (u : State P I A). HasIt u id node) h
      (record { request = z; place = p; there = at-put_same s.requests id q z e; is = st })

  assign-it : (s t : State P I A) (id node : ℕ) (q : RequestState P I A)
      (u : Status P I A) → at s.requests id ≡ Some (with_status q u)
      → step_of w s (Assign id node) (with_status q u) ≡ Some t → HasIt t id node
  assign-it s t id node q (ready p) e h =
      put-it s t id node (with_status q (ready p)) (with_status q (assigned node p)) p e
      refl (some-is (with_request s id (with_status q (assigned node p))) t h)
  assign-it s t id node q (assigned m p) e h = absurd (cc)
  assign-it s t id node q (waits a b c) e h = absurd (cc)
  assign-it s t id node q (calling a b c d) e h = absurd (cc)
  assign-it s t id node q (done a) e h = absurd (cc)

  go-it : (s t : State P I A) (id node : ℕ) (q : RequestState P I A)
      (p : Place P I A) (run : RunId) → at s.requests id
      ≡ Some (with_status q (assigned node p)) →
      step_of w s (Claim id run Go) (with_status q (assigned node p)) ≡ Some t
      → HasIt t id node
  go-it s t id node q (walking (wants site r b go)) run e h =
      let x = and_then-some (only_if (same_run r run) r)
      (λ run. claimed w s id node q run b go Go) t h in
      let stopped = run_on w.tools x.0 b q.journal nothing_yet in
      let z : RequestState P I A = in_body w (assigned node) q x.0 go stopped in
      let y = unless-some (is_begun x.0 s.begun)
      (record {
        requests = put s.requests id z;
        begun = record { run = x.0; by = id }
            ∷ s.begun;
        table = s.table;
        tools_used = s.tools_used;
      }) t x.2 in
      subst (λ (u : State P I A). HasIt u id node) y.1 (record {
        request = z;
        place = within (record { run = x.0; so_far = stopped.so_far; go = go }) stopped.stop;
        there = at-put_same s.requests id
            (with_status q (assigned node (walking (wants site r b go)))) z e;
        is = refl;
      })
  go-it s t id node q (walking (gives reply)) run e h = absurd (cc)
  go-it s t id node q (within x stop) run e h = absurd (cc)

  use-it : (s t : State P I A) (id node : ℕ) (q : RequestState P I A)
      (p : Place P I A) (run : RunId) → at s.requests id
      ≡ Some (with_status q (assigned node p)) →
      step_of w s (Claim id run Use) (with_status q (assigned node p)) ≡ Some t
      → HasIt t id node
  use-it s t id node q (walking (wants site r b go)) run e h =
      let x = and_then-some (only_if (same_run r run) r)
      (λ run. claimed w s id node q run b go Use) t h in
      let m = and_then-some (found s.table x.0)
      (λ made. and_then (replay s.table x.0 q.journal)
      (λ next. Some (with_request s id (goes_on w (assigned node) q x.0 go made next)))) t
      x.2 in
      let n = and_then-some (replay s.table x.0 q.journal)
      (λ next. Some (with_request s id (goes_on w (assigned node) q x.0 go m.0 next))) t
      m.2 in
      let z : RequestState P I A = goes_on w (assigned node) q x.0 go m.0 n.0 in
      put-it s t id node (with_status q (assigned node (walking (wants site r b go)))) z
      (walking (go m.0 n.0)) e refl (some-is (with_request s id z) t n.2)
  use-it s t id node q (walking (gives reply)) run e h = absurd (cc)
  use-it s t id node q (within x stop) run e h = absurd (cc)

  result-it : (s t : State P I A) (id node : ℕ) (q : RequestState P I A)
      (p : Place P I A) (run : RunId) → at s.requests id
      ≡ Some (with_status q (assigned node p)) →
      step_of w s (Result id run) (with_status q (assigned node p)) ≡ Some t → HasIt t id node
  result-it s t id node q (within x (ends outcome)) run e h =
      let y = and_then-some (only_if (same_run x.run run) x)
      (λ x. finished w s id node q x (recorded outcome x.so_far.segments)) t h in
      let made : Record = recorded outcome y.0.so_far.segments in
      let f : FinishedRun = record { run = y.0.run; made = made } in
      let z : RequestState P I A = goes_on w (assigned node) q y.0.run y.0.go made
      (add q.journal (ended y.0.run made)) in
      let with_requests : List (RequestState P I A) → State P I A = λ requests. record {
        requests = requests;
        begun = s.begun;
        table = f ∷ s.table;
        tools_used = record { run = y.0.run; tools = y.0.so_far.tools } ∷ s.tools_used;
      } in
      let u = and_then-some (traverse (woken w (f ∷ s.table) y.0.run made) (put s.requests id z))
      (λ requests. Some (with_requests requests)) t y.2 in
      let k = traverse-at (woken w (f ∷ s.table) y.0.run made) (put s.requests id z) u.0 u.1 id z
      (at-put_same s.requests id (with_status q (assigned node (within x (ends outcome))))
      z e) in
      subst (λ (v : State P I A). HasIt v id node) (some-is (with_requests u.0) t u.2)
      (record {
        request = z;
        place = walking (y.0.go made (add q.journal (ended y.0.run made)));
        there = k.1
            ∙ ap Some (sym (some-is z k.0 k.2));
        is = refl;
      })
  result-it s t id node q (within x (asks key more go)) run e h = absurd (cc)
  result-it s t id node q (walking tree) run e h = absurd (cc)

  -- the state before the last event of a history, and the request of the event then
  pub record Before (events : List Event) (event : Event) (t : State P I A) : Type 0 where
    pub state : State P I A
    pub request : RequestState P I A
    pub history : IsHistory w events state
    pub there : at state.requests (whose event) ≡ Some request
    pub goes : step_of w state event request ≡ Some t

  before-last : (events : List Event) (event : Event) (t : State P I A)
      → IsHistory w (events ++ event ∷ []) t → Before events event t
  before-last events event t h =
      let x = last-of w events event (start w) t h in
      let y = and_then-some (at x.0.requests (whose event)) (step_of w x.0 event) t x.2 in
      record { state = x.0; request = y.0; history = x.1; there = y.1; goes = y.2 }

  has-here : (events : List Event) (t : State P I A) (id node : ℕ) → IsHistory w events t
      → HasIt t id node → IsAssignedTo w events id node
  has-here events t id node h x = record
      { state = t; request = x.request; place = x.place; history = h; there = x.there; is = x.is }

  -- an assigned request is with the node that has it
  pub assigned-here : (events after : List Event) (t : State P I A) (id node : ℕ)
      → after ≡ events ++ Assign id node ∷ [] → IsHistory w after t → IsAssignedTo w after id node
  assigned-here events after t id node e h =
      let b = before-last events (Assign id node) t (subst (λ es. IsHistory w es t) e h) in
      has-here after t id node h
      (assign-it b.state t id node b.request
      b.request.status b.there b.goes)

  module _ (events after : List Event) (t : State P I A) (id node : ℕ)
      (here : IsAssignedTo w events id node) where
    own-before : (event : Event) → whose event ≡ id → (b : Before events event t)
        → at b.state.requests id
        ≡ Some
        (with_status here.request
        (assigned node here.place))
    own-before event is b =
        let same : here.state ≡ b.state = one_state w events here.state b.state here.history
        b.history in
        ap (λ (s : State P I A). at s.requests id) (sym same)
        ∙ (here.there
        ∙ ap
        (λ u. Some (with_status here.request u))
        here.is)

    stepped : (event : Event) → whose event ≡ id → (b : Before events event t)
        → step_of w b.state event
        (with_status here.request
        (assigned node here.place)) ≡ Some t
    stepped event is b =
        let there : at b.state.requests id ≡ Some b.request = ap (at b.state.requests) (sym is)
        ∙ b.there in
        ap (step_of w b.state event) (some-is _ b.request (sym (own-before event is b) ∙ there))
        ∙ b.goes

    at-event : (event : Event) → whose event ≡ id
        → ((s : State P I A) → at s.requests id
        ≡ Some (with_status here.request (assigned node here.place))
        → step_of w s event (with_status here.request (assigned node here.place)) ≡ Some t
        → HasIt t id node)
        → after ≡ events ++ event ∷ [] → IsHistory w after t → IsAssignedTo w after id node
    at-event event is has e h =
        let b = before-last events event t (subst (λ es. IsHistory w es t) e h) in
        has-here after t id node h (has b.state (own-before event is b) (stepped event is b))

    -- a request stays with its node where its run is begun, used or finished
    pub going-here : (run : RunId) → after ≡ events ++ Claim id run Go ∷ [] → IsHistory w after t
        → IsAssignedTo w after id node
    going-here run = at-event (Claim id run Go) refl
        (λ s there goes. go-it s t id node here.request here.place run there goes)

    pub using-here : (run : RunId) → after ≡ events ++ Claim id run Use ∷ [] → IsHistory w after t
        → IsAssignedTo w after id node
    using-here run = at-event (Claim id run Use) refl
        (λ s there goes. use-it s t id node here.request here.place run there goes)

    pub finished-here : (run : RunId) → after ≡ events ++ Result id run ∷ [] → IsHistory w after t
        → IsAssignedTo w after id node
    finished-here run = at-event (Result id run) refl
        (λ s there goes. result-it s t id node here.request here.place run there goes)

  -- and through the events of others
  pub still-here : (before more events : List Event) (id node : ℕ) (t : State P I A)
      → IsAssignedTo w before id node → events ≡ before ++ more → AreOfOthers id more
      → IsHistory w events t → IsAssignedTo w events id node
  still-here before more events id node t here e others h =
      let g : after_all w here.state more ≡ Some t = goes-on w before more (start w) here.state t
      here.history (subst (λ es. IsHistory w es t) e h) in
      record {
        state = t;
        request = here.request;
        place = here.place;
        history = h;
        there = stays w
            here.state t more id node here.request here.place here.there here.is others g;
        is =
            here.is;
      }

  -- the node to which a request is assigned
  abbrev assigned-of : Status P I A → Option ℕ
  assigned-of (assigned node p) = Some node
  assigned-of (ready p) = None
  assigned-of (waits a b c) = None
  assigned-of (calling a b c d) = None
  assigned-of (done a) = None

  -- a request is with one node
  pub one-node : (events : List Event) (id node other : ℕ) → IsAssignedTo w events id node
      → IsAssignedTo w events id other → node ≡ other
  one-node events id node other x y =
      let same : x.state ≡ y.state = one_state w events x.state y.state x.history y.history in
      let q : x.request ≡ y.request = some-is x.request y.request
      (sym x.there ∙ (ap (λ (s : State P I A). at s.requests id) same ∙ y.there)) in
      some-is node other (sym (ap assigned-of x.is)
      ∙ (ap (λ (r : RequestState P I A). assigned-of r.status) q ∙ ap assigned-of y.is))

module _ {W P I A : Type 0} (seen : W → Seen P I A) (w : World P I A) {history : History}
    {origins : List Kept} {slots : List (Slot W)} {making : List (Option RunId)} {table : TableRuns}
    {end : Option End} where
  pub assign-shown : (events : List Event) (id node : ℕ)
      → history.events ≡ events ++ Assign id node ∷ []
      → ∥ Shown seen w history origins slots making table end ∥₁
      → ∥ IsAssignedTo w history.events id node ∥₁
  assign-shown events id node e x = ∥∥₁_map x
      (λ x. assigned-here w events history.events x.state id node e x.history)

  module _ (events : List Event) (id node : ℕ) (v : World P I A) (same : w ≡ v)
      (here : ∥ IsAssignedTo v events id node ∥₁)
      (x : ∥ Shown seen w history origins slots making table end ∥₁) where
    was : ∥ IsAssignedTo w events id node ∥₁
    was = subst (λ (u : World P I A). ∥ IsAssignedTo u events id node ∥₁) (sym same) here

    -- the request goes on
    pub claim-shown : (ask : Ask) (answer : Answer) → IsClaim events history.events id ask answer
        → ∥ IsAssignedTo w history.events id node ∥₁
    claim-shown (Want run) Goes e = ∥∥₁_map₂ was x
        (λ here x. going-here w events history.events x.state id node here run e x.history)
    claim-shown (Want run) Uses e = ∥∥₁_map₂ was x
        (λ here x. using-here w events history.events x.state id node here run e x.history)
    claim-shown (Want run) _ e = absurd e
    claim-shown (Call calls) answer e = absurd e
    claim-shown (Finished run made) answer e = absurd e
    claim-shown (Done told) answer e = absurd e

    pub result-shown : (ask : Ask) → IsResult events history.events id ask
        → ∥ IsAssignedTo w history.events id node ∥₁
    result-shown (Finished run made) e = ∥∥₁_map₂ was x
        (λ here x. finished-here w events history.events x.state id node here run e x.history)
    result-shown (Want run) e = absurd e
    result-shown (Call calls) e = absurd e
    result-shown (Done told) e = absurd e

    -- nothing has changed
    pub kept-shown : history.events ≡ events → ∥ IsAssignedTo w history.events id node ∥₁
    kept-shown e = subst (λ es. ∥ IsAssignedTo w es id node ∥₁) (sym e) was
