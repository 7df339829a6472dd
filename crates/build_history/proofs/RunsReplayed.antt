-- Each event keeps that the journal of a request is its first one with its runs replayed by the
-- table.
use Rattle.std.proofs.Common.{
  ◌≡◌,
  ℕ,
  ◌+◌,
  ◌<◌,
  ◌==◌,
  Bool,
  true,
  false,
  ◌&&◌,
  inl,
  inr,
  List,
  ◌∷◌,
  ◌++◌,
  length,
  map,
  Option,
  None,
  Some,
  refl,
  ap,
  sym,
  ◌∙◌,
  subst,
  arith,
}
use Rattle.msb_laws.specs.Asking.{and_then}
use Rattle.msb_laws.specs.Traverse.{traverse}
use Rattle.result_cache.specs.declared.run.RunId.{RunId}
use Rattle.result_cache.specs.declared.request.RequestKey.{RequestKey}
use Rattle.result_cache.specs.declared.request.RequestResult.{RequestResult}
use Rattle.result_cache.specs.declared.record.Record.{Record}
use Rattle.result_cache.specs.Same.{same_run, same_keys}
use Rattle.build_meaning.specs.declared.event.Event.{Event}
use Rattle.build_meaning.specs.declared.event.Event.TheVariants.{
  Assign,
  Claim,
  Request,
  Result,
  Done,
  Retire,
}
use Rattle.build_meaning.specs.declared.event.ClaimKind.{ClaimKind}
use Rattle.build_meaning.specs.declared.event.ClaimKind.TheVariants.{Go, Use, Wait}
use Rattle.build_meaning.specs.Lists.{at, put, numbered_from}
use Rattle.result_cache.specs.Journal.{Journal, end_of, ended, has, add}
use Rattle.result_cache.specs.Replay.{Effect, replays_run, effects_from, replay, replay_all}
use Rattle.result_cache.specs.Table.{FinishedRun, Records, found, is_begun}
use Rattle.build_meaning.specs.World.{World}
use Rattle.build_meaning.specs.Walk.{Walk, gives, wants, Body, Outcome}
use Rattle.build_meaning.specs.SoFar.{nothing_yet, with_calls, recorded, result_of, runs_of}
use Rattle.build_meaning.specs.Stop.{ends, asks, run_on}
use Rattle.build_meaning.specs.State.{
  with_status,
  Within,
  Place,
  walking,
  within,
  Status,
  ready,
  assigned,
  waits,
  calling,
  done,
  Origin,
  RequestState,
  State,
  with_request,
  new_request,
}
use Rattle.build_meaning.specs.Cycle.{is_in_cycle}
use Rattle.build_meaning.specs.Step.{
  only_if,
  assign_at,
  in_body,
  goes_on,
  waiting,
  may_wait,
  claimed,
  claim_at,
  with_children,
  is_within_limits,
  request_at,
  woken_if,
  woken_at,
  woken,
  finished,
  result_at,
  result_in,
  results_of,
  answered,
  resume_at,
  resume_caller,
  done_at,
  retire_at,
  whose,
  step_of,
}
use Rattle.result_cache.proofs.RunTests.{and_then-some}
use Rattle.result_cache.proofs.ReplayRelation.{new, Reps, none, reps-map, Recorded}
use Rattle.build_meaning.proofs.BuildingReplays.{reps-run, reps-calls}
use Rattle.build_meaning.proofs.ListPlaces.{
  at-put,
  at-put_same,
  at-append,
  at-front,
  at-map,
  at-traverse,
  traverse-length,
  put-length,
  at-less,
}
use Rattle.build_meaning.proofs.LawfulStates.{
  IsOnce,
  found-newest,
  found-grows,
  replay-rep,
  replay_all-reps,
  Lawful,
}
use Rattle.build_meaning.proofs.EventsKeepLawful.{
  only_if-some,
  unless-some,
  some-is,
  run_on-reps,
  unbegun-unfinished,
  unfinished-fresh,
  put-lawful,
}
use Rattle.build_history.specs.Began.{GivesJournal}

-- the runs, replayed from the first journal, give this one
abbrev pub Ran : Records → Journal → List RunId → Journal → Type 0
Ran table base runs j = Reps (Recorded table) (map replays_run runs) base j

reps-more : (table : Records) (f : FinishedRun) → found table f.run ≡ None
    → (items : List Effect) (j k : Journal) → Reps (Recorded table) items j k
    → Reps (Recorded (f ∷ table)) items j k
reps-more table f n items j k d = reps-map (Recorded table) (Recorded (f ∷ table))
    (found-grows table f n) d

module _ {P I A : Type 0} where
  -- a body was begun with the journal of the runs before it, and its journal is that one with what
  -- it has done so far
  pub record RanInto (table : Records) (base : Journal) (runs : List RunId) (j : Journal)
      (x : Within P I A) : Type 0 where
    pub from : Journal
    pub ran : Ran table base runs from
    pub fresh : has (end_of x.run) from ≡ false
    pub so_far : Reps (Recorded table) (effects_from x.run 0 x.so_far.segments) from j

  abbrev pub PlaceRan : Records → Journal → List RunId → Journal → Place P I A → Type 0
  PlaceRan table base runs j (walking walk) = Ran table base runs j
  PlaceRan table base runs j (within x stop) = RanInto table base runs j x

  abbrev pub StatusRan : Records → Journal → List RunId → Journal → Status P I A → Type 0
  StatusRan table base runs j (ready p) = PlaceRan table base runs j p
  StatusRan table base runs j (assigned node p) = PlaceRan table base runs j p
  StatusRan table base runs j (waits r b go) = Ran table base runs j
  StatusRan table base runs j (calling keys ids x go) = RanInto table base runs j x
  StatusRan table base runs j (done result) = (result.runs ≡ runs) × Ran table base runs j

  abbrev pub RequestRan : Records → Journal → RequestState P I A → Type 0
  RequestRan table base q = StatusRan table base q.runs q.journal q.status

  -- one more run is finished
  module _ (table : Records) (f : FinishedRun) (n : found table f.run ≡ None) (base : Journal) where
    into-more : (runs : List RunId) (j : Journal) (x : Within P I A) → RanInto table base runs j x →
        RanInto (f ∷ table) base runs j x
    into-more runs j x v = record {
      from = v.from;
      ran = reps-more table f n (map replays_run runs) base v.from v.ran;
      fresh = v.fresh;
      so_far = reps-more table f n (effects_from x.run 0 x.so_far.segments) v.from j v.so_far;
    }

    place-more : (runs : List RunId) (j : Journal) (p : Place P I A) →
        PlaceRan table base runs j p → PlaceRan (f ∷ table) base runs j p
    place-more runs j (walking walk) v = reps-more table f n (map replays_run runs) base j v
    place-more runs j (within x stop) v = into-more runs j x v

    status-more : (runs : List RunId) (j : Journal) (st : Status P I A) →
        StatusRan table base runs j st → StatusRan (f ∷ table) base runs j st
    status-more runs j (ready p) v = place-more runs j p v
    status-more runs j (assigned node p) v = place-more runs j p v
    status-more runs j (waits r b go) v = reps-more table f n (map replays_run runs) base j v
    status-more runs j (calling keys ids x go) v = into-more runs j x v
    status-more runs j (done result) v =
        (v.0, reps-more table f n (map replays_run runs) base j v.1)

module _ {P I A : Type 0} (B : ℕ → Origin → Journal → Type 0) where
  -- a request began with a journal, as B says, and has its runs from there
  pub record RanFrom (table : Records) (id : ℕ) (q : RequestState P I A) : Type 0 where
    pub base : Journal
    pub began : B id q.origin base
    pub ran : RequestRan table base q

  abbrev pub EachRan : Records → List (RequestState P I A) → Type 0
  EachRan table requests =
      (id : ℕ) (q : RequestState P I A) → at requests id ≡ Some q → RanFrom table id q

  each-more : (table : Records) (f : FinishedRun) → found table f.run ≡ None →
      (requests : List (RequestState P I A)) → EachRan table requests → EachRan (f ∷ table) requests
  each-more table f n requests v id q e =
      let x = v id q e in record {
        base = x.base;
        began = x.began;
        ran = status-more table f n x.base q.runs q.journal
            q.status x.ran;
      }

  -- one request changes
  put-ran : (table : Records) (requests : List (RequestState P I A)) (id : ℕ)
      (q z : RequestState P I A) → at requests id ≡ Some q → z.origin ≡ q.origin →
      ((base : Journal) → RequestRan table base q → RequestRan table base z)
      → EachRan table requests → EachRan table (put requests id z)
  put-ran table requests id q z e o f v k y h = elim (at-put requests id z k y h) [
    | inl p ↦
        let x = v id q e in
        let here : RanFrom table id z = record {
          base = x.base;
          began = subst (λ (a : Origin). B id a x.base) (sym o) x.began;
          ran = f
              x.base x.ran;
        } in
        subst (λ (a : RequestState P I A). RanFrom table k a) p.1
        (subst (λ (n : ℕ). RanFrom table n z) (sym p.0) here)
    | inr p ↦ v k y p.1
  ]

behind : (k n i id : ℕ) → k ≡ n + i → id < n → k ≡ 0 → ⊥
behind k n i id e h g = omega arith

module _ {P I A : Type 0} (w : World P I A) (B : ℕ → Origin → Journal → Type 0) where
  abbrev pub AllRan : State P I A → Type 0
  AllRan s = EachRan B s.table s.requests

  -- B says so of the requests that are made now
  abbrev pub SaysNew : State P I A → Type 0
  SaysNew t = (id : ℕ) (origin : Origin) (base : Journal) → (id ≡ 0 → ⊥)
      → at t.requests id ≡ Some (new_request w origin.parent origin.path base origin.key) →
      GivesJournal t origin.parent base → B id origin base

  assign-ran : (s : State P I A) (id node : ℕ) (q : RequestState P I A)
      (st : Status P I A) (t : State P I A) → AllRan s →
      at s.requests id ≡ Some (with_status q st) → assign_at w s id node q st ≡ Some t
      → AllRan t
  assign-ran s id node q (ready p) t v e h =
      let z : RequestState P I A = with_status q (assigned node p) in
      subst (λ (u : State P I A). AllRan u) (some-is (with_request s id z) t h)
      (put-ran B s.table s.requests id (with_status q (ready p)) z e refl (λ base x. x) v)
  assign-ran s id node q _ t v e h = absurd (cc)

  retire-ran : (s : State P I A) (id node : ℕ) (q : RequestState P I A)
      (st : Status P I A) (t : State P I A) → AllRan s →
      at s.requests id ≡ Some (with_status q st) → retire_at w s id node q st ≡ Some t
      → AllRan t
  retire-ran s id node q (assigned by p) t v e h =
      let z : RequestState P I A = with_status q (ready p) in
      subst (λ (u : State P I A). AllRan u) (only_if-some (by == node) (with_request s id z) t h).1
      (put-ran B s.table s.requests id (with_status q (assigned by p)) z e refl
      (λ base x. x) v)
  retire-ran s id node q _ t v e h = absurd (cc)

  claimed-ran : (s : State P I A) (id node : ℕ) (old : RequestState P I A)
      (site : P) (r : RunId) (b : Body I A) (go : Record → Journal → Walk P I A) (kind : ClaimKind)
      (t : State P I A) → Lawful s → AllRan s →
      at s.requests id ≡ Some (with_status old (assigned node (walking (wants site r b go)))) →
      claimed w s id node old r b go kind ≡ Some t → AllRan t
  claimed-ran s id node old site r b go Go t l v e h =
      let q : RequestState P I A =
      with_status old (assigned node (walking (wants site r b go))) in
      let z : RequestState P I A =
      in_body w (assigned node) old r go (run_on w.tools r b old.journal nothing_yet) in
      let x = unless-some (is_begun r s.begun)
      (record {
        requests = put s.requests id z;
        begun = record { run = r; by = id }
            ∷ s.begun;
        table = s.table;
        tools_used = s.tools_used;
      }) t h in
      let fresh = unfinished-fresh w s.table old.journal old.runs r (l.each id q e).journal
      (unbegun-unfinished w s l r x.0) in
      subst (λ (u : State P I A). AllRan u) x.1 (put-ran B s.table s.requests id q z e refl
      (λ base d.
      record {
        from = old.journal;
        ran = d;
        fresh = fresh;
        so_far = run_on-reps (Recorded s.table) w.tools r b old.journal
            old.journal nothing_yet none;
      }) v)
  claimed-ran s id node old site r b go Use t l v e h =
      let x = and_then-some (found s.table r)
      (λ made. and_then (replay s.table r old.journal)
      (λ next. Some (with_request s id (goes_on w (assigned node) old r go made next)))) t h
      in
      let y = and_then-some (replay s.table r old.journal)
      (λ next. Some (with_request s id (goes_on w (assigned node) old r go x.0 next))) t x.2
      in
      let z : RequestState P I A = goes_on w (assigned node) old r go x.0 y.0 in
      subst (λ (u : State P I A). AllRan u) (some-is (with_request s id z) t y.2)
      (put-ran B s.table s.requests id (with_status old
      (assigned node (walking (wants site r b go)))) z e refl (λ base d. reps-run old.runs r d
      (replay-rep s.table l.once r old.journal y.0 y.1)) v)
  claimed-ran s id node old site r b go Wait t l v e h =
      let next : State P I A = waiting w s id old r b go in
      let x = only_if-some (may_wait w (is_begun r s.begun) (found s.table r) (is_in_cycle next r))
      next t h in
      subst (λ (u : State P I A). AllRan u) x.1
      (put-ran B s.table s.requests id (with_status old
      (assigned node (walking (wants site r b go)))) (with_status old (waits r b go)) e refl
      (λ base d. d) v)

  claim-ran : (s : State P I A) (id : ℕ) (run : RunId) (kind : ClaimKind) (q : RequestState P I A)
      (st : Status P I A) (t : State P I A) → Lawful s → AllRan s →
      at s.requests id ≡ Some (with_status q st)
      → claim_at w s id run kind q st ≡ Some t → AllRan t
  claim-ran s id run kind q (assigned node (walking (wants site r b go))) t l v e h =
      let x = and_then-some (only_if (same_run r run) r)
      (λ run. claimed w s id node q run b go kind) t h in
      let y : r ≡ x.0 = (only_if-some (same_run r run) r x.0 x.1).1 in
      claimed-ran s id node q site r b go kind t l v e
      (subst (λ n. claimed w s id node q n b go kind ≡ Some t) (sym y) x.2)
  claim-ran s id run kind q _ t l v e h = absurd (cc)

  -- calls are made
  children-ran : (s : State P I A) (id : ℕ) (q : RequestState P I A) (old : RequestState P I A)
      (keys : List RequestKey) (x : Within P I A) (go : List RequestResult →
      Journal → Body I A) →
      at s.requests id ≡ Some q
      → AllRan
      (with_request s id
      (with_status old (calling keys (numbered_from (length s.requests) keys) x go))) →
      SaysNew (with_children w s id old keys x go)
      → AllRan (with_children w s id old keys x go)
  children-ran s id q old keys x go e v new_so k y h =
      let z : RequestState P I A =
      with_status old (calling keys (numbered_from (length s.requests) keys) x go) in
      let path : List RunId = x.run ∷ old.origin.path in
      let kids : List (RequestState P I A) = map (new_request w (Some id) path old.journal) keys in
      elim (at-append (put s.requests id z) kids k y h) [
        | inl a ↦ v k y a
        | inr a ↦
            let c = at-map (new_request w (Some id) path old.journal) keys a.0 y a.1 in
            let origin : Origin = record { key = c.0; parent = Some id; path = path } in
            let late : k ≡ 0
            → ⊥ = behind k (length (put s.requests id z)) a.0 id a.2
            (subst (λ n. id < n) (sym (put-length s.requests id z)) (at-less s.requests id q e))
            in
            let here : at (put s.requests id z ++ kids) k
            ≡ Some (new_request w (Some id) path old.journal c.0) = h ∙ ap Some (sym c.2) in
            let made : RanFrom B s.table k (new_request w (Some id) path old.journal c.0) = record {
              base = old.journal;
              began = new_so k origin old.journal late here (
                z,
                at-front (put s.requests id z) kids id z (at-put_same s.requests id q z e),
                refl,
              );
              ran = none;
            } in
            subst (λ (u : RequestState P I A). RanFrom B s.table k u) c.2 made
      ]

  request-ran : (s : State P I A) (id : ℕ) (keys : List RequestKey) (old : RequestState P I A)
      (st : Status P I A) (t : State P I A) → AllRan s → SaysNew t →
      at s.requests id ≡ Some (with_status old st) → request_at w s id keys old st ≡ Some t
      → AllRan t
  request-ran s id keys old (assigned node (within x (asks key more go))) t v new_so e h =
      let y = only_if-some (same_keys (key ∷ more) keys
      && is_within_limits w s (x.run ∷ old.origin.path) (key ∷ more))
      (with_children w s id old (key ∷ more) x go) t h in
      let q : RequestState P I A =
      with_status old (assigned node (within x (asks key more go))) in
      let z : RequestState P I A = with_status old (calling (key ∷ more)
      (numbered_from (length s.requests) (key ∷ more)) x go) in
      subst (λ (u : State P I A). AllRan u) y.1 (children-ran s id q old (key ∷ more) x go e
      (put-ran B s.table s.requests id q z e refl (λ base d. d) v)
      (subst (λ (u : State P I A). SaysNew u) (sym y.1) new_so))
  request-ran s id keys old _ t v new_so e h = absurd (cc)

  -- a run is finished
  woken-ran : (table : Records) → IsOnce table →
      (r : RunId) (m : Record) (id : ℕ) (q t : RequestState P I A) → RanFrom B table id q →
      (st : Status P I A) → q.status ≡ st →
      woken_at w table r m q st ≡ Some t → RanFrom B table id t
  woken-ran table once r m id q t v (waits wanted b go) e h = by_test (same_run wanted r) h
    where
      before : Ran table v.base q.runs q.journal
      before = subst (λ (u : Status P I A). StatusRan table v.base q.runs q.journal u) e v.ran

      by_test : (y : Bool) → woken_if w y table q m wanted go ≡ Some t → RanFrom B table id t
      by_test false h = subst (λ (u : RequestState P I A). RanFrom B table id u) (some-is q t h) v
      by_test true h =
          let x = and_then-some (replay table wanted q.journal)
          (λ next. Some (goes_on w ready q wanted go m next)) t h in
          let z : RequestState P I A = goes_on w ready q wanted go m x.0 in
          let here : RanFrom B table id z = record {
            base = v.base;
            began = v.began;
            ran = reps-run q.runs wanted before
                (replay-rep table once wanted q.journal x.0 x.1);
          } in
          subst (λ (u : RequestState P I A). RanFrom B table id u) (some-is z t x.2) here
  woken-ran table once r m id q t v _ e h =
      subst (λ (u : RequestState P I A). RanFrom B table id u) (some-is q t h) v

  finished-ran : (s : State P I A) (id node : ℕ) (old : RequestState P I A)
      (x : Within P I A) (outcome : Outcome) (t : State P I A) → Lawful s → AllRan s →
      at s.requests id ≡ Some (with_status old (assigned node (within x (ends outcome))))
      → finished w s id node old x (recorded outcome x.so_far.segments) ≡ Some t → AllRan t
  finished-ran s id node old x outcome t l v e h =
      let m : Record = recorded outcome x.so_far.segments in
      let f : FinishedRun = record { run = x.run; made = m } in
      let q : RequestState P I A = with_status old (assigned node (within x (ends outcome))) in
      let z : RequestState P I A =
      goes_on w (assigned node) old x.run x.go m (add old.journal (ended x.run m)) in
      let body = (l.each id q e).status in
      let n : found s.table x.run ≡ None = body.1.unfinished in
      let u = and_then-some (traverse (woken w (f ∷ s.table) x.run m) (put s.requests id z))
      (λ requests.
      Some
      (record {
        requests = requests;
        begun = s.begun;
        table = f
            ∷ s.table;
        tools_used = record { run = x.run; tools = x.so_far.tools } ∷ s.tools_used;
      }))
      t h in
      let last : State P I A = record {
        requests = u.0;
        begun = s.begun;
        table = f ∷ s.table;
        tools_used = record { run = x.run; tools = x.so_far.tools } ∷ s.tools_used;
      } in
      let p : EachRan B (f ∷ s.table) (put s.requests id z) = put-ran B (f ∷ s.table) s.requests id
      q z e refl
      (λ base d. reps-run old.runs x.run d.ran (new d.fresh (found-newest s.table f) d.so_far))
      (each-more B s.table f n s.requests v) in
      subst (λ (u : State P I A). AllRan u) (some-is last t u.2) (λ k y a.
      let g = at-traverse (woken w (f ∷ s.table) x.run m) (put s.requests id z) u.0 u.1 k y a in
      woken-ran (f ∷ s.table) (n, l.once) x.run m k g.0 y (p k g.0 g.1) g.0.status refl g.2)

  finish-ran : (s : State P I A) (id : ℕ) (run : RunId) (q : RequestState P I A) (st : Status P I A)
      (t : State P I A) → Lawful s → AllRan s →
      at s.requests id ≡ Some (with_status q st) → result_at w s id run q st ≡ Some t
      → AllRan t
  finish-ran s id run q (assigned node (within x (ends outcome))) t l v e h =
      let y = and_then-some (only_if (same_run x.run run) x)
      (λ x. finished w s id node q x (recorded outcome x.so_far.segments)) t h in
      let p : x ≡ y.0 = (only_if-some (same_run x.run run) x y.0 y.1).1 in
      finished-ran s id node q x outcome t l v e
      (subst (λ (a : Within P I A). finished w s id node q a
      (recorded outcome a.so_far.segments) ≡ Some t) (sym p) y.2)
  finish-ran s id run q _ t l v e h = absurd (cc)

  -- a request is over, and then its caller may go on
  answered-ran : (s : State P I A) (id : ℕ) (old : RequestState P I A)
      (keys : List RequestKey) (ids : List ℕ) (x : Within P I A) (go : List RequestResult →
      Journal → Body I A) (t : State P I A) → Lawful s → AllRan s →
      at s.requests id ≡ Some (with_status old (calling keys ids x go))
      → (replies : Option (List RequestResult)) → results_of w s.requests ids ≡ replies
      → answered w s id old keys x go replies ≡ Some t → AllRan t
  answered-ran s id old keys ids x go t l v e None g h =
      subst (λ (u : State P I A). AllRan u) (some-is s t h) v
  answered-ran s id old keys ids x go t l v e (Some results) g h =
      let q : RequestState P I A = with_status old (calling keys ids x go) in
      let lq = (l.each id q e).status in
      let y = and_then-some (replay_all s.table (runs_of results) old.journal)
      (λ next.
      Some
      (with_request s id
      (in_body w ready old x.run x.go
      (run_on w.tools x.run (go results next) next (with_calls x.so_far keys results))))) t h in
      let d = replay_all-reps s.table l.once (runs_of results) old.journal y.0 y.1 in
      let z : RequestState P I A = in_body w ready old x.run x.go (run_on w.tools x.run
      (go results y.0) y.0 (with_calls x.so_far keys results)) in
      let many : length keys ≡ length results = lq.1
      ∙ traverse-length (λ id. and_then (at s.requests id) (λ q. result_in w q.status)) ids
      results g in
      subst (λ (u : State P I A). AllRan u) (some-is (with_request s id z) t y.2)
      (put-ran B s.table s.requests id q z e refl
      (λ base c. record {
        from = c.from;
        ran = c.ran;
        fresh = c.fresh;
        so_far = run_on-reps (Recorded s.table) w.tools x.run (go results y.0) c.from y.0
            (with_calls x.so_far keys results)
            (reps-calls x.run x.so_far keys results many c.so_far d);
      }) v)

  back_at-ran : (s : State P I A) (id : ℕ) (q : RequestState P I A) (st : Status P I A)
      (t : State P I A) → Lawful s → AllRan s → at s.requests id ≡ Some q → q.status ≡ st →
      resume_at w s id q st ≡ Some t → AllRan t
  back_at-ran s id q (calling keys ids x go) t l v e p h =
      answered-ran s id q keys ids x go t l v
      (e ∙ ap (λ (a : Status P I A). Some (with_status q a)) p)
      (results_of w s.requests ids) refl h
  back_at-ran s id q _ t l v e p h = absurd (cc)

  back_to-ran : (s : State P I A) (parent : Option ℕ) (t : State P I A) → Lawful s → AllRan s →
      resume_caller w s parent ≡ Some t → AllRan t
  back_to-ran s None t l v h = subst (λ (u : State P I A). AllRan u) (some-is s t h) v
  back_to-ran s (Some id) t l v h =
      let y = and_then-some (at s.requests id) (λ q. resume_at w s id q q.status) t h in
      back_at-ran s id y.0 y.0.status t l v y.1 refl y.2

  done-ran : (s : State P I A) (id : ℕ) (old : RequestState P I A)
      (st : Status P I A) (t : State P I A) → Lawful s → AllRan s →
      at s.requests id ≡ Some (with_status old st) → done_at w s id old st ≡ Some t
      → AllRan t
  done-ran s id old (assigned node (walking (gives reply))) t l v e h =
      let q : RequestState P I A = with_status old (assigned node (walking (gives reply))) in
      let z : RequestState P I A = with_status old (done (result_of reply old.runs)) in
      let lq = l.each id q e in
      let zl : Lawful (with_request s id z) = put-lawful s id z l
      (record { journal = lq.journal; status = lq.journal.runs_in }) in
      back_to-ran (with_request s id z) old.origin.parent t zl
      (put-ran B s.table s.requests id q z e refl (λ base d. (refl, d)) v) h
  done-ran s id old _ t l v e h = absurd (cc)

  pub step_of-ran : (s : State P I A) (event : Event) (q : RequestState P I A) (t : State P I A) →
      Lawful s → AllRan s → SaysNew t → at s.requests (whose event) ≡ Some q →
      step_of w s event q ≡ Some t → AllRan t
  step_of-ran s (Assign id node) q t l v n e h = assign-ran s id node q
      q.status t v e h
  step_of-ran s (Claim id run kind) q t l v n e h = claim-ran s id run kind q q.status t l v e h
  step_of-ran s (Request id keys) q t l v n e h = request-ran s id keys q
      q.status t v n e h
  step_of-ran s (Result id run) q t l v n e h = finish-ran s id run q
      q.status t l v e h
  step_of-ran s (Done id) q t l v n e h = done-ran s id q q.status t l v e h
  step_of-ran s (Retire id node) q t l v n e h = retire-ran s id node q
      q.status t v e h
