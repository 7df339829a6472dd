-- Which requests are with a node after an event: those of before, and that of the event, unless it
-- leaves its node.
use Rattle.std.proofs.Common.{
  ◌≡◌,
  ◌≤◌,
  ◌⊎◌,
  inl,
  inr,
  ℕ,
  ◌&&◌,
  ◌==◌,
  Bool,
  true,
  false,
  List,
  ◌∷◌,
  length,
  map,
  Option,
  None,
  Some,
  refl,
  ap,
  sym,
  ◌∙◌,
  subst,
  arith,
}
use Rattle.std.proofs.lemmas.List.{length-append}
use Rattle.msb_laws.specs.Asking.{and_then}
use Rattle.msb_laws.specs.Traverse.{traverse}
use Rattle.result_cache.specs.declared.run.RunId.{RunId}
use Rattle.result_cache.specs.declared.request.RequestKey.{RequestKey}
use Rattle.result_cache.specs.declared.request.RequestResult.{RequestResult}
use Rattle.result_cache.specs.declared.record.Record.{Record}
use Rattle.result_cache.specs.Same.{same_run, same_keys}
use Rattle.result_cache.specs.Journal.{Journal, ended, add}
use Rattle.result_cache.specs.Table.{FinishedRun, Records, found, is_begun}
use Rattle.result_cache.specs.Replay.{replay, replay_all}
use Rattle.result_cache.proofs.RunTests.{and_then-some}
use Rattle.build_meaning.specs.declared.event.Event.{Event}
use Rattle.build_meaning.specs.declared.event.Event.TheVariants.{
  Assign,
  Claim,
  Request,
  Result,
  Done,
  Retire,
}
use Rattle.build_meaning.specs.declared.event.ClaimKind.{ClaimKind}
use Rattle.build_meaning.specs.declared.event.ClaimKind.TheVariants.{Go, Use, Wait}
use Rattle.build_meaning.specs.Lists.{at, put, numbered_from}
use Rattle.build_meaning.specs.World.{World}
use Rattle.build_meaning.specs.Walk.{Walk, gives, wants, Body}
use Rattle.build_meaning.specs.SoFar.{nothing_yet, with_calls, runs_of, recorded, result_of}
use Rattle.build_meaning.specs.Stop.{ends, asks, run_on}
use Rattle.build_meaning.specs.State.{
  with_status,
  Within,
  walking,
  within,
  Status,
  ready,
  assigned,
  waits,
  calling,
  done,
  RequestState,
  State,
  with_request,
  new_request,
}
use Rattle.build_meaning.specs.Cycle.{is_in_cycle}
use Rattle.build_meaning.specs.Step.{
  only_if,
  whose,
  in_body,
  goes_on,
  waiting,
  may_wait,
  claimed,
  with_children,
  is_within_limits,
  woken_if,
  woken_at,
  woken,
  finished,
  results_of,
  answered,
  resume_at,
  resume_caller,
  step_of,
  step,
}
use Rattle.build_meaning.proofs.ListPlaces.{
  at-put,
  at-append,
  at-map,
  at-traverse,
  traverse-length,
  put-length,
}
use Rattle.build_meaning.proofs.EventsKeepLawful.{only_if-some, unless-some, some-is}

-- the request of the event is not with a node after it
abbrev pub Leaves : Event → Type 0
Leaves (Claim id run Wait) = Unit {0}
Leaves (Request id keys) = Unit {0}
Leaves (Done id) = Unit {0}
Leaves (Retire id node) = Unit {0}
Leaves event = ⊥

module _ {P I A : Type 0} where
  abbrev pub HasNode : Status P I A → Type 0
  HasNode (assigned node place) = Unit {0}
  HasNode status = ⊥

  -- a request with a node after the event is that of the event, or was with the node before
  pub record Moves (s t : State P I A) (event : Event) : Type 0 where
    pub grows : length s.requests ≤ length t.requests
    pub after : (n : ℕ) (b : RequestState P I A) → at t.requests n ≡ Some b → HasNode b.status →
        ((n ≡ whose event) × (Leaves event → ⊥))
        ⊎ ((n ≡ whose event → ⊥) × (at s.requests n ≡ Some b))

  put-moves : (s t : State P I A) (event : Event) (z : RequestState P I A)
      → t.requests ≡ put s.requests (whose event) z → (Leaves event → HasNode z.status → ⊥)
      → Moves s t event
  put-moves s t event z m f = record {
    grows = let e : length t.requests ≡ length (put s.requests (whose event) z) = ap length m
        in let g = put-length s.requests (whose event) z in omega arith;
    after = λ n b e h.
        elim (at-put s.requests (whose event) z n b (sym (ap (λ rs. at rs n) m) ∙ e)) [
          | inl x ↦ inl
              (x.0, λ l. f l (subst (λ (q : RequestState P I A). HasNode q.status) (sym x.1) h))
          | inr y ↦ inr y
        ];
  }

  -- and then a request that has no node is put somewhere
  then-put : (s m t : State P I A) (event : Event) (a : ℕ) (z : RequestState P I A)
      → Moves s m event → t.requests ≡ put m.requests a z → (HasNode z.status → ⊥) → Moves s t event
  then-put s m t event a z v e f = record {
    grows = let g = v.grows in let c : length t.requests
        ≡ length (put m.requests a z) = ap length e in let d = put-length m.requests a z in omega
        arith;
    after = λ n b at_n h. elim (at-put m.requests a z n b (sym (ap (λ rs. at rs n) e) ∙ at_n)) [
      | inl x ↦ absurd (f (subst (λ (q : RequestState P I A). HasNode q.status) (sym x.1) h))
      | inr y ↦ v.after n b y.1 h
    ];
  }

  then-same : (s m t : State P I A) (event : Event) → Moves s m event → m ≡ t → Moves s t event
  then-same s m t event v e = subst (λ (u : State P I A). Moves s u event) e v

module _ {P I A : Type 0} (w : World P I A) where
  claimed-moves : (s t : State P I A) (id m : ℕ) (q : RequestState P I A)
      (claims r : RunId) (b : Body I A) (go : Record → Journal → Walk P I A) (kind : ClaimKind)
      → claimed w s id m q r b go kind ≡ Some t →
      Moves s t (Claim id claims kind)
  claimed-moves s t id m q claims r b go Go h =
      let z : RequestState P I A = in_body w (assigned m) q r go
      (run_on w.tools r b q.journal nothing_yet) in
      let x = unless-some (is_begun r s.begun)
      (record {
        requests = put s.requests id z;
        begun = record { run = r; by = id }
            ∷ s.begun;
        table = s.table;
        tools_used = s.tools_used;
      }) t h in
      put-moves s t (Claim id claims Go) z (ap (λ (u : State P I A). u.requests) (sym x.1))
      (λ l. absurd l)
  claimed-moves s t id m q claims r b go Use h =
      let x = and_then-some (found s.table r)
      (λ made. and_then (replay s.table r q.journal)
      (λ next. Some (with_request s id (goes_on w (assigned m) q r go made next)))) t h in
      let y = and_then-some (replay s.table r q.journal)
      (λ next. Some (with_request s id (goes_on w (assigned m) q r go x.0 next))) t x.2 in
      let z : RequestState P I A = goes_on w (assigned m) q r go x.0 y.0 in
      put-moves s t (Claim id claims Use) z
      (ap (λ (u : State P I A). u.requests) (sym (some-is (with_request s id z) t y.2)))
      (λ l. absurd l)
  claimed-moves s t id m q claims r b go Wait h =
      let next : State P I A = waiting w s id q r b go in
      let x = only_if-some (may_wait w (is_begun r s.begun) (found s.table r) (is_in_cycle next r))
      next t h in
      put-moves s t (Claim id claims Wait) (with_status q (waits r b go))
      (ap (λ (u : State P I A). u.requests) (sym x.1)) (λ l n. n)

  called-moves : (s t : State P I A) (id : ℕ) (calls : List RequestKey) (old : RequestState P I A)
      (keys : List RequestKey) (x : Within P I A)
      (go : List RequestResult → Journal → Body I A) → with_children w s id old keys x go ≡ t →
      Moves s t (Request id calls)
  called-moves s t id calls old keys x go e =
      let z : RequestState P I A = with_status old
      (calling keys (numbered_from (length s.requests) keys) x go) in
      let more : List (RequestState P I A) = map
      (new_request w (Some id) (x.run ∷ old.origin.path) old.journal) keys
      in
      then-same s (with_children w s id old keys x go) t (Request id calls) (record {
        grows = let a = length-append (put s.requests id z) more in let b = put-length s.requests id
            z in omega arith;
        after = λ n b at_n h. elim (at-append (put s.requests id z) more n b at_n) [
          | inl y ↦ (put-moves s (with_request s id z) (Request id calls) z refl (λ l a. a)).after n
              b y h
          | inr y ↦
              (let c = at-map (new_request w (Some id) (x.run ∷ old.origin.path) old.journal) keys
              y.0 b y.1 in absurd
              (subst (λ (q : RequestState P I A). HasNode q.status) (sym c.2) h))
        ];
      }) e

  woken-stays : (table : Records) (r : RunId) (m : Record) (q z : RequestState P I A)
      (u : Status P I A) → q.status ≡ u → woken_at w table r m q u ≡ Some z → HasNode z.status
      → q ≡ z
  woken-stays table r m q z (waits wanted b go) e h n = by_test (same_run wanted r) h
    where
      by_test : (t : Bool) → woken_if w t table q m wanted go ≡ Some z → q ≡ z
      by_test true h =
          let y = and_then-some (replay table wanted q.journal)
          (λ next. Some (goes_on w ready q wanted go m next)) z h in
          absurd
          (subst (λ (p : RequestState P I A). HasNode p.status)
          (sym (some-is (goes_on w ready q wanted go m y.0) z y.2)) n)
      by_test false h = some-is q z h
  woken-stays table r m q z (ready a) e h n = some-is q z h
  woken-stays table r m q z (assigned k a) e h n = some-is q z h
  woken-stays table r m q z (calling a b c d) e h n = some-is q z h
  woken-stays table r m q z (done a) e h n = some-is q z h

  finished-moves : (s t : State P I A) (id m : ℕ) (run : RunId) (q : RequestState P I A)
      (x : Within P I A) (made : Record)
      → finished w s id m q x made ≡ Some t → Moves s t (Result id run)
  finished-moves s t id m run q x made h =
      let f : FinishedRun = record { run = x.run; made = made } in
      let z : RequestState P I A = goes_on w (assigned m) q x.run x.go made
      (add q.journal (ended x.run made)) in
      let wakes = woken w (f ∷ s.table) x.run made in
      let u = and_then-some (traverse wakes (put s.requests id z))
      (λ requests.
      Some
      (record {
        requests = requests;
        begun = s.begun;
        table = f
            ∷ s.table;
        tools_used = record { run = x.run; tools = x.so_far.tools } ∷ s.tools_used;
      }))
      t h in
      let last : State P I A = record {
        requests = u.0;
        begun = s.begun;
        table = f
            ∷ s.table;
        tools_used = record { run = x.run; tools = x.so_far.tools } ∷ s.tools_used;
      } in
      then-same s last t (Result id run) (record {
        grows = let a : length (put s.requests id z)
            ≡ length u.0 = traverse-length wakes (put s.requests id z) u.0 u.1 in let b = put-length
            s.requests id z in omega arith;
        after = λ n b at_n h.
            let y = at-traverse wakes (put s.requests id z) u.0 u.1 n b at_n in
            let same : y.0 ≡ b = woken-stays (f ∷ s.table) x.run made y.0 b y.0.status refl y.2 h in
            (put-moves s (with_request s id z) (Result id run) z refl (λ l. absurd l)).after n b
            (y.1 ∙ ap Some same) h;
      }) (some-is last t u.2)

  resumed-moves : (s m t : State P I A) (event : Event) (a : ℕ) (c : RequestState P I A)
      (u : Status P I A) → Moves s m event → resume_at w m a c u ≡ Some t → Moves s t event
  resumed-moves s m t event a c (calling keys ids x go) v h = by_results
      (results_of w m.requests ids) h
    where
      by_results : (o : Option (List RequestResult))
          → answered w m a c keys x go o ≡ Some t → Moves s t event
      by_results None h = then-same s m t event v (some-is m t h)
      by_results (Some results) h =
          let y = and_then-some (replay_all m.table (runs_of results) c.journal)
          (λ next.
          Some
          (with_request m a
          (in_body w ready c x.run x.go
          (run_on w.tools x.run (go results next) next (with_calls x.so_far keys results))))) t
          h in
          let z : RequestState P I A = in_body w ready c x.run x.go
          (run_on w.tools x.run (go results y.0) y.0 (with_calls x.so_far keys results)) in
          then-put s m t event a z v
          (ap (λ (u : State P I A). u.requests) (sym (some-is (with_request m a z) t y.2)))
          (λ n. n)
  resumed-moves s m t event a c _ v h = absurd (cc)

  caller-moves : (s m t : State P I A) (event : Event) (parent : Option ℕ) → Moves s m event
      → resume_caller w m parent ≡ Some t → Moves s t event
  caller-moves s m t event None v h = then-same s m t event v (some-is m t h)
  caller-moves s m t event (Some a) v h =
      let y = and_then-some (at m.requests a) (λ q. resume_at w m a q q.status) t h in
      resumed-moves s m t event a y.0 y.0.status v y.2

  step_of-moves : (s t : State P I A) (event : Event) (q : RequestState P I A)
      (u : Status P I A) → step_of w s event (with_status q u) ≡ Some t → Moves s t event
  step_of-moves s t (Assign id m) q (ready a) h =
      let z : RequestState P I A = with_status q (assigned m a) in
      put-moves s t (Assign id m) z
      (ap (λ (u : State P I A). u.requests) (sym (some-is (with_request s id z) t h)))
      (λ l. absurd l)
  step_of-moves s t (Assign id m) q _ h = absurd (cc)
  step_of-moves s t (Claim id run kind) q (assigned m (walking (wants site r b go))) h =
      let x = and_then-some (only_if (same_run r run) r)
      (λ run. claimed w s id m q run b go kind) t h in
      claimed-moves s t id m q run x.0 b go kind x.2
  step_of-moves s t (Claim id run kind) q _ h = absurd (cc)
  step_of-moves s t (Request id keys) q (assigned m (within x (asks key more go))) h =
      let y = only_if-some (same_keys (key ∷ more) keys
      && is_within_limits w s (x.run ∷ q.origin.path) (key ∷ more))
      (with_children w s id q (key ∷ more) x go) t h in
      called-moves s t id keys q (key ∷ more) x go y.1
  step_of-moves s t (Request id keys) q _ h = absurd (cc)
  step_of-moves s t (Result id run) q (assigned m (within x (ends outcome))) h =
      let y = and_then-some (only_if (same_run x.run run) x)
      (λ x. finished w s id m q x (recorded outcome x.so_far.segments)) t h in
      finished-moves s t id m run q y.0 (recorded outcome y.0.so_far.segments) y.2
  step_of-moves s t (Result id run) q _ h = absurd (cc)
  step_of-moves s t (Done id) q (assigned m (walking (gives reply))) h =
      let z : RequestState P I A = with_status q (done (result_of reply q.runs)) in
      caller-moves s (with_request s id z) t (Done id) q.origin.parent
      (put-moves s (with_request s id z) (Done id) z refl (λ l n. n)) h
  step_of-moves s t (Done id) q _ h = absurd (cc)
  step_of-moves s t (Retire id m) q (assigned by a) h =
      let z : RequestState P I A = with_status q (ready a) in
      put-moves s t (Retire id m) z
      (ap (λ (u : State P I A). u.requests)
      (sym (only_if-some (by == m) (with_request s id z) t h).1)) (λ l n. n)
  step_of-moves s t (Retire id m) q _ h = absurd (cc)

  pub step-moves : (s t : State P I A) (event : Event) → step w s event ≡ Some t → Moves s t event
  step-moves s t event h =
      let z = and_then-some (at s.requests (whose event)) (step_of w s event) t h in
      step_of-moves s t event z.0 z.0.status z.2
