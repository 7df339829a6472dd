-- A request that is with a node stays as it is through the events of others.
use Rattle.std.proofs.Common.{
  ◌≡◌,
  ℕ,
  ◌&&◌,
  ◌==◌,
  List,
  [],
  ◌∷◌,
  length,
  map,
  Option,
  None,
  Some,
  refl,
  ap,
  sym,
  ◌∙◌,
  subst,
}
use Rattle.msb_laws.specs.Asking.{and_then}
use Rattle.msb_laws.specs.Traverse.{traverse}
use Rattle.result_cache.specs.declared.run.RunId.{RunId}
use Rattle.result_cache.specs.declared.request.RequestResult.{RequestResult}
use Rattle.result_cache.specs.declared.record.Record.{Record}
use Rattle.result_cache.specs.Same.{same_run, same_keys}
use Rattle.build_meaning.specs.declared.event.Event.{Event}
use Rattle.build_meaning.specs.declared.event.Event.TheVariants.{
  Assign,
  Claim,
  Request,
  Result,
  Done,
  Retire,
}
use Rattle.build_meaning.specs.declared.event.ClaimKind.{ClaimKind}
use Rattle.build_meaning.specs.declared.event.ClaimKind.TheVariants.{Go, Use, Wait}
use Rattle.build_meaning.specs.Lists.{at, put, numbered_from}
use Rattle.result_cache.specs.Journal.{Journal, ended, add}
use Rattle.result_cache.specs.Table.{FinishedRun, Records, found, is_begun}
use Rattle.result_cache.specs.Replay.{replay, replay_all}
use Rattle.build_meaning.specs.World.{World}
use Rattle.build_meaning.specs.Walk.{Walk, gives, wants, Body}
use Rattle.build_meaning.specs.SoFar.{nothing_yet, with_calls, runs_of, recorded, result_of}
use Rattle.build_meaning.specs.Stop.{ends, asks, run_on}
use Rattle.build_meaning.specs.State.{
  with_status,
  Within,
  Place,
  walking,
  within,
  Status,
  ready,
  assigned,
  waits,
  calling,
  done,
  RequestState,
  State,
  with_request,
  new_request,
}
use Rattle.build_meaning.specs.Cycle.{is_in_cycle}
use Rattle.build_meaning.specs.Step.{
  only_if,
  whose,
  in_body,
  goes_on,
  waiting,
  may_wait,
  claimed,
  with_children,
  is_within_limits,
  woken_at,
  woken,
  finished,
  results_of,
  answered,
  resume_at,
  resume_caller,
  step_of,
  step,
  after_all,
}
use Rattle.build_meaning.specs.History.{AreOfOthers}
use Rattle.result_cache.proofs.RunTests.{and_then-some}
use Rattle.build_meaning.proofs.ListPlaces.{at-put_other, at-front, traverse-at}
use Rattle.build_meaning.proofs.EventsKeepLawful.{only_if-some, unless-some, some-is}
use Rattle.build_meaning.proofs.ParentsAndChildren.{same_some}

module _ {P I A : Type 0} (w : World P I A) (id node : ℕ) (q : RequestState P I A) (p : Place P I A)
    (st : q.status ≡ assigned node p) where
  abbrev pub There : State P I A → Type 0
  There s = at s.requests id ≡ Some q

  put-there : (s t : State P I A) (other : ℕ) (z : RequestState P I A) → (other ≡ id → ⊥) →
      There s → with_request s other z ≡ t → There t
  put-there s t other z n e h =
      subst (λ (u : State P I A). There u) h (at-put_other s.requests other z id q
      (λ d. n (sym d)) e)

  claimed-there : (s t : State P I A) (other m : ℕ) (old : RequestState P I A)
      (r : RunId) (b : Body I A) (go : Record → Journal → Walk P I A) (kind : ClaimKind) →
      (other ≡ id → ⊥) → There s → claimed w s other m old r b go kind ≡ Some t → There t
  claimed-there s t other m old r b go Go n e h =
      let z : RequestState P I A =
      in_body w (assigned m) old r go (run_on w.tools r b old.journal nothing_yet) in
      let x = unless-some (is_begun r s.begun)
      (record {
        requests = put s.requests other z;
        begun = record { run = r; by = other }
            ∷ s.begun;
        table = s.table;
        tools_used = s.tools_used;
      }) t h in
      subst (λ (u : State P I A). There u) x.1 (at-put_other s.requests other z id q
      (λ d. n (sym d)) e)
  claimed-there s t other m old r b go Use n e h =
      let x = and_then-some (found s.table r)
      (λ made. and_then (replay s.table r old.journal)
      (λ next. Some (with_request s other (goes_on w (assigned m) old r go made next)))) t h
      in
      let y = and_then-some (replay s.table r old.journal)
      (λ next. Some (with_request s other (goes_on w (assigned m) old r go x.0 next))) t x.2
      in
      let z : RequestState P I A = goes_on w (assigned m) old r go x.0 y.0 in
      put-there s t other z n e (some-is (with_request s other z) t y.2)
  claimed-there s t other m old r b go Wait n e h =
      let next : State P I A = waiting w s other old r b go in
      put-there s t other (with_status old (waits r b go)) n e
      (only_if-some (may_wait w (is_begun r s.begun) (found s.table r) (is_in_cycle next r))
      next t h).1

  woken-there : (table : Records) (r : RunId) (m : Record) (z : RequestState P I A)
      (u : Status P I A) → q.status ≡ u → u ≡ assigned node p → woken_at w table r m q u ≡ Some z →
      z ≡ q
  woken-there table r m z (assigned k a) e f h = sym (some-is q z h)
  woken-there table r m z (ready a) e f h = absurd (cc)
  woken-there table r m z (waits a b go) e f h = absurd (cc)
  woken-there table r m z (calling a b c d) e f h = absurd (cc)
  woken-there table r m z (done a) e f h = absurd (cc)

  back_at-there : (s t : State P I A) (a : ℕ) (c : RequestState P I A) (u : Status P I A) →
      at s.requests a ≡ Some c → c.status ≡ u → There s → resume_at w s a c u ≡ Some t → There t
  back_at-there s t a c (calling keys ids x go) f g e h = by_results (results_of w s.requests ids) h
    where
      not_it : a ≡ id → ⊥
      not_it d =
          let same : c ≡ q = same_some (at s.requests a) c q f
          (subst (λ k. at s.requests k ≡ Some q) (sym d) e) in
          let clash : calling keys ids x go ≡ assigned node p =
          sym g ∙ (ap (λ (y : RequestState P I A). y.status) same ∙ st) in cc

      by_results : (o : Option (List RequestResult))
          → answered w s a c keys x go o ≡ Some t → There t
      by_results None h = subst (λ (v : State P I A). There v) (some-is s t h) e
      by_results (Some results) h =
          let y = and_then-some (replay_all s.table (runs_of results) c.journal)
          (λ next.
          Some
          (with_request s a
          (in_body w ready c x.run x.go
          (run_on w.tools x.run (go results next) next (with_calls x.so_far keys results))))) t
          h in
          let z : RequestState P I A = in_body w ready c x.run x.go
          (run_on w.tools x.run (go results y.0) y.0 (with_calls x.so_far keys results)) in
          put-there s t a z not_it e (some-is (with_request s a z) t y.2)
  back_at-there s t a c _ f g e h = absurd (cc)

  back_to-there : (s t : State P I A) (parent : Option ℕ) → There s →
      resume_caller w s parent ≡ Some t → There t
  back_to-there s t None e h = subst (λ (v : State P I A). There v) (some-is s t h) e
  back_to-there s t (Some a) e h =
      let y = and_then-some (at s.requests a) (λ q. resume_at w s a q q.status) t h in
      back_at-there s t a y.0 y.0.status y.1 refl e y.2

  finished-there : (s t : State P I A) (other m : ℕ) (old : RequestState P I A)
      (x : Within P I A) (made : Record) → (other ≡ id → ⊥) → There s →
      finished w s other m old x made ≡ Some t → There t
  finished-there s t other m old x made n e h =
      let f : FinishedRun = record { run = x.run; made = made } in
      let z : RequestState P I A =
      goes_on w (assigned m) old x.run x.go made (add old.journal (ended x.run made)) in
      let u = and_then-some (traverse (woken w (f ∷ s.table) x.run made) (put s.requests other z))
      (λ requests.
      Some
      (record {
        requests = requests;
        begun = s.begun;
        table = f
            ∷ s.table;
        tools_used = record { run = x.run; tools = x.so_far.tools } ∷ s.tools_used;
      }))
      t h in
      let last : State P I A = record {
        requests = u.0;
        begun = s.begun;
        table = f ∷ s.table;
        tools_used = record { run = x.run; tools = x.so_far.tools } ∷ s.tools_used;
      } in
      let y = traverse-at (woken w (f ∷ s.table) x.run made) (put s.requests other z) u.0 u.1 id q
      (at-put_other s.requests other z id q (λ d. n (sym d)) e) in
      subst (λ (v : State P I A). There v) (some-is last t u.2)
      (y.1 ∙ ap Some (woken-there (f ∷ s.table) x.run made y.0 q.status refl st y.2))

  step_of-there : (s t : State P I A) (event : Event) (old : RequestState P I A)
      (u : Status P I A) → (whose event ≡ id → ⊥) → There s →
      step_of w s event (with_status old u) ≡ Some t → There t
  step_of-there s t (Assign other m) old (ready a) n e h = put-there s t other
      (with_status old (assigned m a)) n e
      (some-is (with_request s other (with_status old (assigned m a))) t h)
  step_of-there s t (Assign other m) old (assigned k a) n e h = absurd (cc)
  step_of-there s t (Assign other m) old (waits a b c) n e h = absurd (cc)
  step_of-there s t (Assign other m) old (calling a b c d) n e h = absurd (cc)
  step_of-there s t (Assign other m) old (done a) n e h = absurd (cc)
  step_of-there s t (Claim other run kind) old (assigned m (walking (wants site r b go))) n e
      h =
      let x = and_then-some (only_if (same_run r run) r)
      (λ run. claimed w s other m old run b go kind) t h in
      claimed-there s t other m old x.0 b go kind n e x.2
  step_of-there s t (Claim other run kind) old _ n e h = absurd (cc)
  step_of-there s t (Request other keys) old (assigned m (within x (asks key more go))) n e h =
      let y = only_if-some (same_keys (key ∷ more) keys
      && is_within_limits w s (x.run ∷ old.origin.path) (key ∷ more))
      (with_children w s other old (key ∷ more) x go) t h in
      let z : RequestState P I A = with_status old (calling (key ∷ more)
      (numbered_from (length s.requests) (key ∷ more)) x go) in
      subst (λ (v : State P I A). There v) y.1 (at-front (put s.requests other z)
      (map (new_request w (Some other) (x.run ∷ old.origin.path) old.journal) (key ∷ more)) id q
      (at-put_other s.requests other z id q (λ d. n (sym d)) e))
  step_of-there s t (Request other keys) old _ n e h = absurd (cc)
  step_of-there s t (Result other run) old (assigned m (within x (ends outcome))) n e h =
      let y = and_then-some (only_if (same_run x.run run) x)
      (λ x. finished w s other m old x (recorded outcome x.so_far.segments)) t h in
      finished-there s t other m old y.0 (recorded outcome y.0.so_far.segments) n e y.2
  step_of-there s t (Result other run) old _ n e h = absurd (cc)
  step_of-there s t (Done other) old (assigned m (walking (gives reply))) n e h =
      let z : RequestState P I A = with_status old (done (result_of reply old.runs)) in
      back_to-there (with_request s other z) t old.origin.parent
      (put-there s (with_request s other z) other z n e refl) h
  step_of-there s t (Done other) old _ n e h = absurd (cc)
  step_of-there s t (Retire other m) old (assigned k a) n e h =
      let z : RequestState P I A = with_status old (ready a) in put-there s t other z n e
      (only_if-some (k == m) (with_request s other z) t h).1
  step_of-there s t (Retire other m) old _ n e h = absurd (cc)

  all-there : (events : List Event) (s t : State P I A) → AreOfOthers id events → There s →
      after_all w s events ≡ Some t → There t
  all-there [] s t n e h = subst (λ (v : State P I A). There v) (some-is s t h) e
  all-there (event ∷ events) s t n e h =
      let y = and_then-some (step w s event) (λ next. after_all w next events) t h in
      let z = and_then-some (at s.requests (whose event)) (step_of w s event) y.0 y.1 in
      all-there events y.0 t n.1
      (step_of-there s y.0 event z.0 z.0.status n.0 e z.2) y.2

pub stays : {P I A : Type 0} (w : World P I A) (s t : State P I A) (events : List Event)
    (id node : ℕ) (q : RequestState P I A) (p : Place P I A) → at s.requests id ≡ Some q →
    q.status ≡ assigned node p → AreOfOthers id events → after_all w s events ≡ Some t →
    at t.requests id ≡ Some q
stays w s t events id node q p e st n h = all-there w id node q p st events s t n e h
