-- In every legal history the runs of a call, replayed, take the journal that its caller has to its
-- own: the caller keeps its journal until all of its calls are done.
use Rattle.std.proofs.Common.{
  ◌≡◌,
  ◌+◌,
  ◌<◌,
  ◌==◌,
  ℕ,
  zero,
  suc,
  ◌&&◌,
  inl,
  inr,
  List,
  [],
  ◌∷◌,
  ◌++◌,
  length,
  map,
  Option,
  None,
  Some,
  refl,
  ap,
  sym,
  ◌∙◌,
  subst,
  arith,
}
use Rattle.msb_laws.specs.Asking.{and_then}
use Rattle.msb_laws.specs.Traverse.{traverse}
use Rattle.result_cache.specs.declared.run.RunId.{RunId}
use Rattle.result_cache.specs.declared.request.RequestKey.{RequestKey}
use Rattle.result_cache.specs.declared.request.RequestResult.{RequestResult}
use Rattle.result_cache.specs.declared.record.Record.{Record}
use Rattle.result_cache.specs.Same.{same_run, same_keys}
use Rattle.result_cache.specs.Lists.{In}
use Rattle.result_cache.specs.Journal.{Journal, ended, add}
use Rattle.result_cache.specs.Replay.{replay, replay_all}
use Rattle.result_cache.specs.Table.{FinishedRun, found, is_begun}
use Rattle.result_cache.proofs.RunTests.{and_then-some}
use Rattle.result_cache.proofs.ReplayRelation.{none}
use Rattle.build_meaning.specs.declared.event.Event.{Event}
use Rattle.build_meaning.specs.declared.event.Event.TheVariants.{
  Assign,
  Claim,
  Request,
  Result,
  Done,
  Retire,
}
use Rattle.build_meaning.specs.declared.event.ClaimKind.{ClaimKind}
use Rattle.build_meaning.specs.declared.event.ClaimKind.TheVariants.{Go, Use, Wait}
use Rattle.build_meaning.specs.Lists.{at, put, numbered_from}
use Rattle.build_meaning.specs.World.{World}
use Rattle.build_meaning.specs.Walk.{Walk, gives, wants, Body}
use Rattle.build_meaning.specs.SoFar.{nothing_yet, with_calls, runs_of, recorded, result_of}
use Rattle.build_meaning.specs.Stop.{ends, asks, run_on}
use Rattle.build_meaning.specs.State.{
  with_status,
  Within,
  Place,
  walking,
  within,
  Status,
  ready,
  assigned,
  waits,
  calling,
  done,
  Origin,
  RequestState,
  State,
  with_request,
  new_request,
  start,
}
use Rattle.build_meaning.specs.Cycle.{is_in_cycle}
use Rattle.build_meaning.specs.Step.{
  only_if,
  whose,
  in_body,
  goes_on,
  waiting,
  may_wait,
  claimed,
  with_children,
  is_within_limits,
  woken,
  finished,
  results_of,
  answered,
  resume_at,
  resume_caller,
  step_of,
  step,
  after_all,
}
use Rattle.build_meaning.specs.History.{IsHistory}
use Rattle.build_meaning.proofs.EventsKeepLawful.{
  only_if-some,
  unless-some,
  some-is,
  step-lawful,
  start-lawful,
  all-lawful,
}
use Rattle.build_meaning.proofs.LawfulStates.{Lawful}
use Rattle.build_meaning.proofs.ListPlaces.{
  at-put,
  at-put_same,
  at-front,
  at-less,
  in-numbered,
  traverse-at,
}
use Rattle.build_meaning.proofs.OpenRequests.{
  ids_in,
  kin_of,
  kins-at,
  start-kindred,
  all-kindred,
}
use Rattle.build_meaning.proofs.ParentsAndChildren.{Kin, same_some, same_or_not}
use Rattle.build_history.specs.Began.{AwaitsCall, GivesJournal, IsInNoBody}
use Rattle.build_history.specs.Uses.{body_at}
use Rattle.build_history.proofs.BodiesMove.{Resumed, step-moved}
use Rattle.build_history.proofs.RunsReplayed.{EachRan, RanFrom, SaysNew, step_of-ran}
use Rattle.build_history.proofs.JournalsReplayed.{place-ran, ran-replayed}

module _ {P I A : Type 0} where
  -- calls that are made now have the numbers from this one on
  abbrev CallsFrom : ℕ → Status P I A → Type 0
  CallsFrom n (calling keys ids x go) = ids ≡ numbered_from n keys
  CallsFrom n status = Unit {0}

  -- so none of them was there before
  calls-new : (n : ℕ) (st : Status P I A) (id : ℕ) → CallsFrom n st → AwaitsCall id st → id < n → ⊥
  calls-new n (calling keys ids x go) id c i less =
      let y = in-numbered n keys id (subst (λ (ms : List ℕ). In id ms) c i) in
      let e : id ≡ n + y.0 = y.2 in omega arith
  calls-new n (ready place) id c i less = i
  calls-new n (assigned node place) id c i less = i
  calls-new n (waits run b go) id c i less = i
  calls-new n (done result) id c i less = i

  -- who waits for calls is in a body
  awaits-in_body : (st : Status P I A) (id : ℕ) → AwaitsCall id st → body_at st ≡ None → ⊥
  awaits-in_body (calling keys ids x go) id i e = absurd (cc)
  awaits-in_body (ready place) id i e = i
  awaits-in_body (assigned node place) id i e = i
  awaits-in_body (waits run b go) id i e = i
  awaits-in_body (done result) id i e = i

  awaited : (st : Status P I A) (id : ℕ) → AwaitsCall id st →
      (ids : List ℕ) × (ids_in st ≡ Some ids) × In id ids
  awaited (calling keys ids x go) id i = (ids, refl, i)
  awaited (ready place) id i = absurd i
  awaited (assigned node place) id i = absurd i
  awaited (waits run b go) id i = absurd i
  awaited (done result) id i = absurd i

  -- one request is put
  put-calls : (s t : State P I A) (id : ℕ) (q z b : RequestState P I A) → at s.requests id ≡ Some q
      →
      t.requests ≡ put s.requests id z → CallsFrom (length s.requests) z.status →
      at t.requests id ≡ Some b → CallsFrom (length s.requests) b.status
  put-calls s t id q z b e m c h =
      let there : at t.requests id ≡ Some z =
      ap (λ rs. at rs id) m ∙ at-put_same s.requests id q z e in
      subst (λ (a : RequestState P I A). CallsFrom (length s.requests) a.status)
      (same_some (at t.requests id) z b there h) c

module _ {P I A : Type 0} (w : World P I A) where
  abbrev CallsSo : State P I A → RequestState P I A → Type 0
  CallsSo s b = CallsFrom (length s.requests) b.status

  same-requests : (u t : State P I A) → Some u ≡ Some t → t.requests ≡ u.requests
  same-requests u t h = ap (λ (v : State P I A). v.requests) (sym (some-is u t h))

  claimed-calls : (s t : State P I A) (id m : ℕ) (old : RequestState P I A)
      (r : RunId) (body : Body I A) (go : Record → Journal → Walk P I A) (kind : ClaimKind)
      (q b : RequestState P I A) → at s.requests id ≡ Some q →
      claimed w s id m old r body go kind ≡ Some t → at t.requests id ≡ Some b → CallsSo s b
  claimed-calls s t id m old r body go Go q b e h at_b =
      let z : RequestState P I A =
      in_body w (assigned m) old r go (run_on w.tools r body old.journal nothing_yet) in
      let next : State P I A = record {
        requests = put s.requests id z;
        begun = record { run = r; by = id } ∷ s.begun;
        table = s.table;
        tools_used = s.tools_used;
      } in
      let x = unless-some (is_begun r s.begun) next t h in
      put-calls s t id q z b e (ap (λ (v : State P I A). v.requests) (sym x.1)) tt at_b
  claimed-calls s t id m old r body go Use q b e h at_b =
      let x = and_then-some (found s.table r)
      (λ made. and_then (replay s.table r old.journal) (λ next.
      Some (with_request s id (goes_on w (assigned m) old r go made next)))) t h in
      let y = and_then-some (replay s.table r old.journal) (λ next.
      Some (with_request s id (goes_on w (assigned m) old r go x.0 next))) t x.2 in
      let z : RequestState P I A = goes_on w (assigned m) old r go x.0 y.0 in
      put-calls s t id q z b e (same-requests (with_request s id z) t y.2) tt at_b
  claimed-calls s t id m old r body go Wait q b e h at_b =
      let next : State P I A = waiting w s id old r body go in
      let x = only_if-some (may_wait w (is_begun r s.begun) (found s.table r)
      (is_in_cycle next r)) next t h in
      put-calls s t id q (with_status old (waits r body go)) b e
      (ap (λ (v : State P I A). v.requests) (sym x.1)) tt at_b

  finished-calls : (s t : State P I A) (id m : ℕ) (old : RequestState P I A)
      (x : Within P I A) (made : Record) (q b : RequestState P I A) → at s.requests id ≡ Some q →
      finished w s id m old x made ≡ Some t → at t.requests id ≡ Some b → CallsSo s b
  finished-calls s t id m old x made q b e h at_b =
      let f : FinishedRun = record { run = x.run; made = made } in
      let z : RequestState P I A =
      goes_on w (assigned m) old x.run x.go made (add old.journal (ended x.run made)) in
      let wakes = woken w (f ∷ s.table) x.run made in
      let after : List (RequestState P I A) → Option (State P I A) = λ requests. Some (record {
        requests = requests;
        begun = s.begun;
        table = f ∷ s.table;
        tools_used = record { run = x.run; tools = x.so_far.tools } ∷ s.tools_used;
      }) in
      let u = and_then-some (traverse wakes (put s.requests id z)) after t h in
      let here =
      traverse-at wakes (put s.requests id z) u.0 u.1 id z (at-put_same s.requests id q z e) in
      let same : z ≡ here.0 = some-is z here.0 here.2 in
      let there : at t.requests id ≡ Some z =
      ap (λ (o : Option (State P I A)). and_then o (λ v. at v.requests id)) (sym u.2)
      ∙ (here.1 ∙ ap Some (sym same)) in
      subst (λ (a : RequestState P I A). CallsSo s a) (same_some (at t.requests id) z b there at_b)
      tt

  -- a request that is over, after its caller may have gone on
  over-calls : (s t : State P I A) (id : ℕ) (q z b : RequestState P I A) (result : RequestResult)
      (parent : Option ℕ) → at s.requests id ≡ Some q → z.status ≡ done result →
      resume_caller w (with_request s id z) parent ≡ Some t → at t.requests id ≡ Some b →
      CallsSo s b
  over-calls s t id q z b result parent e over h at_b = by parent h
    where
      mid : State P I A
      mid = with_request s id z

      none_called : CallsSo s z
      none_called = subst (λ (st : Status P I A). CallsFrom (length s.requests) st) (sym over) tt

      stays : mid.requests ≡ t.requests → CallsSo s b
      stays same = put-calls s t id q z b e (sym same) none_called at_b

      resumes : (a : ℕ) (c : RequestState P I A) (keys : List RequestKey) (x : Within P I A)
          (go : List RequestResult → Journal → Body I A) (o : Option (List RequestResult)) →
          answered w mid a c keys x go o ≡ Some t → CallsSo s b
      resumes a c keys x go None g = stays (sym (same-requests mid t g))
      resumes a c keys x go (Some results) g =
          let y = and_then-some (replay_all s.table (runs_of results) c.journal) (λ next.
          Some (with_request mid a (in_body w ready c x.run x.go
          (run_on w.tools x.run (go results next) next (with_calls x.so_far keys results))))) t g in
          let n : RequestState P I A = in_body w ready c x.run x.go
          (run_on w.tools x.run (go results y.0) y.0 (with_calls x.so_far keys results)) in
          let there : at (put mid.requests a n) id ≡ Some b =
          sym (ap (λ rs. at rs id) (same-requests (with_request mid a n) t y.2)) ∙ at_b in
          elim (at-put mid.requests a n id b there) [
            | inl here ↦ subst (λ (p : RequestState P I A). CallsSo s p) here.1 tt
            | inr else ↦ put-calls s mid id q z b e refl none_called else.1
          ]

      by_status : (a : ℕ) (c : RequestState P I A) (st : Status P I A) →
          resume_at w mid a c st ≡ Some t → CallsSo s b
      by_status a c (calling keys ids x go) g =
          resumes a c keys x go (results_of w mid.requests ids) g
      by_status a c (ready place) g = absurd (cc)
      by_status a c (assigned node place) g = absurd (cc)
      by_status a c (waits run body go) g = absurd (cc)
      by_status a c (done told) g = absurd (cc)

      by : (parent : Option ℕ) → resume_caller w mid parent ≡ Some t → CallsSo s b
      by None g = stays (sym (same-requests mid t g))
      by (Some a) g =
          let y = and_then-some (at mid.requests a) (λ c. resume_at w mid a c c.status) t g in
          by_status a y.0 y.0.status y.2

  -- the request of an event calls none that was there before
  own-calls : (s t : State P I A) (event : Event) (old : RequestState P I A)
      (st : Status P I A) (b : RequestState P I A) →
      at s.requests (whose event) ≡ Some (with_status old st) →
      step_of w s event (with_status old st) ≡ Some t →
      at t.requests (whose event) ≡ Some b → CallsSo s b
  own-calls s t (Assign id m) old (ready a) b e h at_b =
      let z : RequestState P I A = with_status old (assigned m a) in
      put-calls s t id (with_status old (ready a)) z b e
      (same-requests (with_request s id z) t h) tt at_b
  own-calls s t (Assign id m) old _ b e h at_b = absurd (cc)
  own-calls s t (Claim id run kind) old (assigned m (walking (wants site r body go))) b e h
      at_b =
      let x = and_then-some (only_if (same_run r run) r)
      (λ run. claimed w s id m old run body go kind) t h in
      claimed-calls s t id m old x.0 body go kind
      (with_status old (assigned m (walking (wants site r body go)))) b e x.2 at_b
  own-calls s t (Claim id run kind) old _ b e h at_b = absurd (cc)
  own-calls s t (Request id keys) old (assigned m (within x (asks key more go))) b e h at_b =
      let all : List RequestKey = key ∷ more in
      let q : RequestState P I A = with_status old (assigned m (within x (asks key more go))) in
      let z : RequestState P I A =
      with_status old (calling all (numbered_from (length s.requests) all) x go) in
      let y = only_if-some (same_keys all keys
      && is_within_limits w s (x.run ∷ old.origin.path) all)
      (with_children w s id old all x go) t h in
      let there : at t.requests id ≡ Some z =
      ap (λ (v : State P I A). at v.requests id) (sym y.1)
      ∙ at-front (put s.requests id z)
      (map (new_request w (Some id) (x.run ∷ old.origin.path) old.journal) all) id z
      (at-put_same s.requests id q z e) in
      subst (λ (a : RequestState P I A). CallsSo s a) (same_some (at t.requests id) z b there at_b)
      refl
  own-calls s t (Request id keys) old _ b e h at_b = absurd (cc)
  own-calls s t (Result id run) old (assigned m (within x (ends outcome))) b e h at_b =
      let y = and_then-some (only_if (same_run x.run run) x)
      (λ x. finished w s id m old x (recorded outcome x.so_far.segments)) t h in
      finished-calls s t id m old y.0 (recorded outcome y.0.so_far.segments)
      (with_status old (assigned m (within x (ends outcome)))) b e y.2 at_b
  own-calls s t (Result id run) old _ b e h at_b = absurd (cc)
  own-calls s t (Done id) old (assigned m (walking (gives reply))) b e h at_b =
      over-calls s t id (with_status old (assigned m (walking (gives reply))))
      (with_status old (done (result_of reply old.runs))) b (result_of reply old.runs)
      old.origin.parent e refl
      h at_b
  own-calls s t (Done id) old _ b e h at_b = absurd (cc)
  own-calls s t (Retire id node) old (assigned m a) b e h at_b =
      let z : RequestState P I A = with_status old (ready a) in
      let x = only_if-some (m == node) (with_request s id z) t h in
      put-calls s t id (with_status old (assigned m a)) z b e
      (ap (λ (v : State P I A). v.requests) (sym x.1)) tt at_b
  own-calls s t (Retire id node) old _ b e h at_b = absurd (cc)

  -- who waits for a call that was there before an event stood so before it
  awaited-before : (s t : State P I A) (event : Event) → step w s event ≡ Some t →
      (n : ℕ) (b : RequestState P I A) → at t.requests n ≡ Some b → (id : ℕ) →
      AwaitsCall id b.status → id < length s.requests → at s.requests n ≡ Some b
  awaited-before s t event h n b at_b id i less =
      let z = and_then-some (at s.requests (whose event)) (step_of w s event) t h in
      let moved = step-moved w s t event h in
      elim (same_or_not n (whose event)) [
        | inl same ↦ absurd (calls-new (length s.requests) b.status id
            (own-calls s t event z.0 z.0.status b z.1 z.2
            (ap (at t.requests) (sym same) ∙ at_b)) i less)
        | inr other ↦ elim (moved.others n b other at_b) [
          | inl before ↦ before
          | inr else ↦ elim else [
            | inl outside ↦ absurd (awaits-in_body b.status id i outside)
            | inr resumed ↦ absurd (subst (λ (st : Status P I A). AwaitsCall id st) resumed.is i)
          ]
        ]
      ]

  -- the caller, where it waits for this call, has this journal
  abbrev CallerHas : State P I A → ℕ → Option ℕ → Journal → Type 0
  CallerHas s id None base = Unit {0}
  CallerHas s id (Some caller) base =
      (q : RequestState P I A) → at s.requests caller ≡ Some q → AwaitsCall id q.status →
      q.journal ≡ base

  abbrev FromCaller : State P I A → ℕ → Origin → Journal → Type 0
  FromCaller s id origin base = CallerHas s id origin.parent base

  -- each request began with the journal that its caller has
  abbrev AllFrom : State P I A → Type 0
  AllFrom s = EachRan (FromCaller s) s.table s.requests

  keeps : (s t : State P I A) (event : Event) → step w s event ≡ Some t → AllFrom s →
      EachRan (FromCaller t) s.table s.requests
  keeps s t event h v id q e =
      let x = v id q e in
      record { base = x.base; began = still q.origin.parent x.base x.began; ran = x.ran }
    where
      still : (parent : Option ℕ) (base : Journal) → CallerHas s id parent base →
          CallerHas t id parent base
      still None base c = tt
      still (Some n) base c =
          λ b at_b i. c b (awaited-before s t event h n b at_b id i (at-less s.requests id q e)) i

  says-new : (t : State P I A) → SaysNew w (FromCaller t) t
  says-new t id origin base n there given = by origin.parent given
    where
      by : (parent : Option ℕ) → GivesJournal t parent base → CallerHas t id parent base
      by None g = tt
      by (Some caller) g =
          λ q at_q i. ap (λ (a : RequestState P I A). a.journal)
          (same_some (at t.requests caller) q g.0 at_q g.1) ∙ g.2

  start-from : AllFrom (start w)
  start-from zero q h =
      let z : RequestState P I A = new_request w None [] [] w.root in
      let here : RanFrom (FromCaller (start w)) [] 0 z =
      record { base = []; began = tt; ran = none } in
      subst (λ (u : RequestState P I A). RanFrom (FromCaller (start w)) [] 0 u) (some-is z q h) here
  start-from (suc id) q h = absurd (cc)

  all-from : (events : List Event) (s t : State P I A) → Lawful s → AllFrom s →
      after_all w s events ≡ Some t → AllFrom t
  all-from [] s t l v h = subst (λ (u : State P I A). AllFrom u) (some-is s t h) v
  all-from (event ∷ events) s t l v h =
      let y = and_then-some (step w s event) (λ next. after_all w next events) t h in
      let z = and_then-some (at s.requests (whose event)) (step_of w s event) y.0 y.1 in
      let n = step_of-ran w (FromCaller y.0) s event z.0 y.0 l (keeps s y.0 event y.1 v)
      (says-new y.0) z.1 z.2 in
      all-from events y.0 t (step-lawful w s event y.0 l y.1) n y.2

pub calls_are_replayed : {P I A : Type 0} (w : World P I A) (events : List Event) (s : State P I A)
    →
    IsHistory w events s → (caller id : ℕ) (q call : RequestState P I A) →
    at s.requests caller ≡ Some q → AwaitsCall id q.status → at s.requests id ≡ Some call →
    IsInNoBody call.status → replay_all s.table call.runs q.journal ≡ Some call.journal
calls_are_replayed {P} {I} {A} w events s h caller id q call at_q i at_call free =
    let l = all-lawful w events (start w) s (start-lawful w) h in
    let family = (all-kindred w events (start w) s (start-lawful w) (start-kindred w) h).family in
    let x = all-from w events (start w) s (start-lawful w) (start-from w) h id call at_call in
    let y = awaited q.status id i in
    let k = family.down caller (kin_of q) y.0 (kins-at s.requests caller q at_q) y.1 id y.2 in
    let same : k.0 ≡ kin_of call = same_some _ k.0 (kin_of call) k.1
    (kins-at s.requests id call at_call) in
    let parent : call.origin.parent ≡ Some caller =
    ap (λ (a : Kin). a.parent) (sym same) ∙ k.2 in
    let journal : q.journal ≡ x.base =
    subst (λ (o : Option ℕ). CallerHas w s id o x.base) parent x.began q at_q i in
    ap (replay_all s.table call.runs) journal
    ∙ ran-replayed w s l id call at_call x.base
    (place-ran w s x.base call.runs call.journal call.status free x.ran)
