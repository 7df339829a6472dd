-- What is asked for is possible or refused, and no legal history is stuck.
use Rattle.std.proofs.Common.{
  ◌≡◌,
  ℕ,
  zero,
  suc,
  ◌+◌,
  ◌<◌,
  ◌≤◌,
  Bool,
  true,
  false,
  ◌&&◌,
  ◌⊎◌,
  inl,
  inr,
  List,
  [],
  ◌∷◌,
  length,
  map,
  Option,
  None,
  Some,
  refl,
  ap,
  sym,
  ◌∙◌,
  subst,
  arith,
}
use Rattle.msb_laws.specs.Asking.{and_then}
use Rattle.result_cache.specs.declared.run.RunId.{RunId}
use Rattle.result_cache.specs.declared.request.RequestKey.{RequestKey}
use Rattle.result_cache.specs.declared.request.RequestResult.{RequestResult}
use Rattle.result_cache.specs.declared.record.Record.{Record}
use Rattle.result_cache.specs.Same.{same_run}
use Rattle.result_cache.specs.Exact.{keys-exact}
use Rattle.build_meaning.specs.declared.event.Event.{Event}
use Rattle.build_meaning.specs.declared.event.Event.TheVariants.{Claim, Request, Result, Done}
use Rattle.build_meaning.specs.declared.event.ClaimKind.{ClaimKind}
use Rattle.build_meaning.specs.declared.event.ClaimKind.TheVariants.{Go, Use, Wait}
use Rattle.result_cache.specs.Lists.{In, this_or}
use Rattle.build_meaning.specs.Lists.{at, put}
use Rattle.result_cache.specs.Journal.{Journal, end_of, ended, acted, has, add}
use Rattle.result_cache.specs.Replay.{
  Effect,
  puts_act,
  replays_run,
  effects_of,
  HasAll,
  replays,
  replay_by,
  replay,
  replay_all,
}
use Rattle.result_cache.specs.Table.{FinishedRun, Records, found, is_begun}
use Rattle.build_meaning.specs.World.{World}
use Rattle.build_meaning.specs.Walk.{Walk, gives, wants, Body, Outcome, Reply}
use Rattle.build_meaning.specs.SoFar.{nothing_yet, with_calls, runs_of, recorded, result_of}
use Rattle.build_meaning.specs.Stop.{ends, asks, run_on}
use Rattle.build_meaning.specs.State.{
  with_status,
  Within,
  Place,
  walking,
  within,
  Status,
  ready,
  assigned,
  waits,
  calling,
  done,
  RequestState,
  State,
  with_request,
  start,
}
use Rattle.build_meaning.specs.Cycle.{is_in_cycle}
use Rattle.build_meaning.specs.Step.{
  only_if,
  unless,
  in_body,
  goes_on,
  waiting,
  may_wait,
  claimed,
  with_children,
  is_within_limits,
  woken_if,
  woken_at,
  woken,
  finished,
  result_in,
  results_of,
  answered,
  resume_at,
  resume_caller,
  step_of,
  step,
}
use Rattle.build_meaning.specs.History.{IsHistory}
use Rattle.build_meaning.specs.Progress.{
  IsPossible,
  CanGoOn,
  IsRefused,
  IsGoing,
  IsOver,
  GoesOn,
  IsNeverStuck,
}
use Rattle.result_cache.proofs.RunTests.{same_run-refl, same_run-true, and_then-some}
use Rattle.result_cache.proofs.JournalEntries.{HasAll-in}
use Rattle.result_cache.proofs.ReplayRelation.{Recorded, reps-closed}
use Rattle.build_meaning.proofs.ListPlaces.{at-put_other, at-less, traverse-each, traverse-total}
use Rattle.build_meaning.proofs.ReplayCircles.{in-map}
use Rattle.build_meaning.proofs.NeedsOfRuns.{in-append}
use Rattle.build_meaning.proofs.RunPaths.{no_open}
use Rattle.build_meaning.proofs.LawfulStates.{
  one_record,
  IsFinished,
  IsOrdered,
  found-newest,
  LawfulStatus,
  Lawful,
}
use Rattle.build_meaning.proofs.EventsKeepLawful.{
  ended-finished,
  some-is,
  put-lawful,
  start-lawful,
  all-lawful,
}
use Rattle.build_meaning.proofs.OrderlyHistories.{begun_runs, begun-named}
use Rattle.build_meaning.proofs.ParentsAndChildren.{
  Kin,
  NeedOf,
  same_some,
  none_some,
  idle-below,
  open-needs,
}
use Rattle.build_meaning.proofs.OpenRequests.{
  ids_in,
  told_in,
  inside_of,
  waits_of,
  kin_of,
  kins_of,
  kins-at,
  at-kins,
  calling-so,
  Open,
  inside-open,
  waits-open,
  Kindred,
  start-kindred,
  all-kindred,
}

-- runs of the table can be replayed
replays-total : (one : RunId → Journal → Option Journal) (table : Records)
    → ((r : RunId) (j : Journal) → IsFinished table r → (k : Journal) × (one r j ≡ Some k)) →
    (items : List Effect) (j : Journal)
    → ((r : RunId) → In (replays_run r) items → IsFinished table r)
    → (k : Journal) × (replays one items j ≡ Some k)
replays-total one table f [] j h = (j, refl)
replays-total one table f (puts_act r n p ∷ items) j h = replays-total one table f items
    (add j (acted r n p)) (λ s i. h s (inr i))
replays-total one table f (replays_run r ∷ items) j h =
    let x = f r j (h r (inl refl)) in
    let y = replays-total one table f items x.0 (λ s i. h s (inr i)) in
    (y.0, ap (λ o. and_then o (replays one items)) x.1 ∙ y.1)

pub replay-total : (table : Records) → IsOrdered table → (r : RunId) (j : Journal)
    → IsFinished table r → (k : Journal) × (replay table r j ≡ Some k)
replay-total [] o r j h = let e : None ≡ Some h.0 = h.1 in absurd (cc)
replay-total (f ∷ table) o r j h =
    go (has (end_of r) j) (same_run f.run r) refl (replay-total table o.1 r j)
    (replays-total (replay table) table (replay-total table o.1) (effects_of f.run f.made) j
    o.0)
  where
    go : (a b : Bool) → same_run f.run r ≡ b
        → (IsFinished table r → (k : Journal) × (replay table r j ≡ Some k))
        → (k : Journal) × (replays (replay table) (effects_of f.run f.made) j ≡ Some k) →
        (k : Journal) × (replay_by a b (replay table) f r j ≡ Some k)
    go true b e ih x = (j, refl)
    go false true e ih x = (
      add x.0 (ended f.run f.made),
      ap
          (λ o. and_then o (λ after. Some (add after (ended f.run f.made)))) x.1,
    )
    go false false e ih x = ih (h.0, sym (ap (λ b. this_or b (found table r) f.made) e) ∙ h.1)

again-in : (r : RunId) (runs : List RunId) → In (replays_run r) (map replays_run runs) → In r runs
again-in r [] i = absurd i
again-in r (x ∷ runs) (inl p) = inl (let e : x ≡ r = cc in e)
again-in r (x ∷ runs) (inr i) = inr (again-in r runs i)

pub replay_all-total : (table : Records) → IsOrdered table → (runs : List RunId) (j : Journal)
    → ((r : RunId) → In r runs → IsFinished table r)
    → (k : Journal) × (replay_all table runs j ≡ Some k)
replay_all-total table o runs j h = replays-total (replay table) table (replay-total table o)
    (map replays_run runs) j (λ r i. h r (again-in r runs i))

of-results : (r : RunId) (results : List RequestResult) → In r (runs_of results)
    → (res : RequestResult) × In res results × In r res.runs
of-results r [] i = absurd i
of-results r (x ∷ results) i = elim (in-append r x.runs (runs_of results) i) [
  | inl a ↦ (x, inl refl, a)
  | inr a ↦ let y = of-results r results a in (y.0, inr y.1, y.2)
]

module _ {P I A : Type 0} (w : World P I A) where
  -- the runs of results of requests that are done are finished
  done-runs : (s : State P I A) → Lawful s → (ids : List ℕ) (results : List RequestResult) →
      results_of w s.requests ids ≡ Some results → (r : RunId) → In r (runs_of results) →
      IsFinished s.table r
  done-runs s v ids results h r i =
      let x = of-results r results i in
      let y = traverse-each (λ n. and_then (at s.requests n) (λ q. result_in w q.status)) ids
      results h x.0 x.1 in
      let z = and_then-some (at s.requests y.0) (λ q. result_in w q.status) x.0 y.2 in
      let l = v.each y.0 z.0 z.1 in
      reply y.0 z.0.journal x.0 z.0.status l.status z.2
      (λ g. ended-finished s.table z.0.journal z.0.runs l.journal r
      (HasAll-in (map replays_run x.0.runs) z.0.journal (replays_run r) g
      (in-map replays_run r x.0.runs x.2)))
    where
      reply : (id : ℕ) (j : Journal) (res : RequestResult) (st : Status P I A) →
          LawfulStatus s.begun s.table id j st → result_in w st ≡ Some res →
          (HasAll (map replays_run res.runs) j → IsFinished s.table r) → IsFinished s.table r
      reply id j res (done a) l e f = f
          (subst (λ (b : RequestResult). HasAll (map replays_run b.runs) j) (some-is a res e) l)
      reply id j res _ l e f = absurd (cc)

  answered-total : (s : State P I A) → Lawful s
      → (id : ℕ) (q : RequestState P I A) (keys : List RequestKey) (ids : List ℕ) (x : Within P I A)
      (go : List RequestResult → Journal → Body I A) →
      (found : Option (List RequestResult)) → results_of w s.requests ids ≡ found →
      (t : State P I A) × (answered w s id q keys x go found ≡ Some t)
  answered-total s v id q keys ids x go None h = (s, refl)
  answered-total s v id q keys ids x go (Some results) h =
      let y = replay_all-total s.table v.ordered (runs_of results) q.journal
      (done-runs s v ids results h)
      in (
        with_request s id
            (in_body w ready q x.run x.go
            (run_on w.tools x.run (go results y.0) y.0 (with_calls x.so_far keys results))),
        ap
            (λ p.
            and_then p
            (λ next.
            Some
            (with_request s id
            (in_body w ready q x.run x.go
            (run_on w.tools x.run (go results next) next (with_calls x.so_far keys results))))))
            y.1,
      )

  back-total : (s : State P I A) → Lawful s → (parent : Option ℕ) →
      ((a : ℕ) → parent ≡ Some a → (q : RequestState P I A) × (keys : List RequestKey)
      × (ids : List ℕ) × (x : Within P I A) × (go : List RequestResult → Journal → Body I A)
      × (at s.requests a ≡ Some q) × (q.status ≡ calling keys ids x go)) →
      (t : State P I A) × (resume_caller w s parent ≡ Some t)
  back-total s v None h = (s, refl)
  back-total s v (Some a) h =
      let y = h a refl in
      let q : RequestState P I A = y.0 in
      let z = answered-total s v a q y.1 y.2 y.3 y.4
      (results_of w s.requests y.2) refl in (
        z.0,
        ap (λ o. and_then o (λ q. resume_at w s a q q.status)) y.5
            ∙ (ap (resume_at w s a q) y.6 ∙ z.1),
      )

  abbrev pub At : State P I A → ℕ → RequestState P I A → Status P I A → Type 0
  At s id q st = at s.requests id ≡ Some (with_status q st)

  done-possible : (s : State P I A) (id node : ℕ) (old : RequestState P I A)
      (reply : Reply) → Lawful s → Kindred s →
      At s id old (assigned node (walking (gives reply))) → IsPossible w s (Done id)
  done-possible s id node old reply v k e =
      let z : RequestState P I A = with_status old (done (result_of reply old.runs)) in
      let q : RequestState P I A = with_status old (assigned node (walking (gives reply))) in
      let l = v.each id q e in
      let b = back-total (with_request s id z)
      (put-lawful s id z v (record { journal = l.journal; status = l.journal.runs_in }))
      old.origin.parent (λ a p. caller a p) in
      (b.0, ap (λ o. and_then o (step_of w s (Done id))) e ∙ b.1)
    where
      caller : (a : ℕ) → old.origin.parent ≡ Some a
          → (q : RequestState P I A) × (keys : List RequestKey)
          × (ids : List ℕ) × (x : Within P I A) × (go : List RequestResult → Journal → Body I A) ×
          (at (put s.requests id (with_status old (done (result_of reply old.runs)))) a ≡ Some q)
          × (q.status ≡ calling keys ids x go)
      caller a p =
          let q : RequestState P I A =
          with_status old (assigned node (walking (gives reply))) in
          let y = k.family.up id (kin_of q) (kins-at s.requests id q e) refl a p in
          let c = at-kins s.requests a y.0 y.2 in
          let cs = calling-so c.0.status y.1 (ap (λ (b : Kin). b.calls) c.2 ∙ y.3) in
          let n : a ≡ id → ⊥ = λ d. none_some y.0.calls y.1 y.3 (ap (λ (b : Kin). b.calls) (sym c.2)
          ∙ ap (λ (b : RequestState P I A). ids_in b.status) (same_some (at s.requests a) c.0 q c.1
          (subst (λ m. at s.requests m ≡ Some q) (sym d) e))) in (
            c.0,
            cs.0,
            y.1,
            cs.1,
            cs.2,
            at-put_other s.requests id
                (with_status old (done (result_of reply old.runs))) a c.0 n c.1,
            cs.3,
          )

  woken-total : (table : Records) → IsOrdered table → (f : RunId) (m : Record) →
      IsFinished table f → (q : RequestState P I A) (st : Status P I A) →
      (t : RequestState P I A) × (woken_at w table f m q st ≡ Some t)
  woken-total table o f m fin q (waits r b go) = go_on (same_run r f) refl
    where
      go_on : (y : Bool) → same_run r f ≡ y →
          (t : RequestState P I A) × (woken_if w y table q m r go ≡ Some t)
      go_on false e = (q, refl)
      go_on true e =
          let x = replay-total table o r q.journal
          (subst (λ a. IsFinished table a) (sym (same_run-true r f e)) fin) in (
            goes_on w ready q r go m x.0,
            ap
                (λ p. and_then p (λ next. Some (goes_on w ready q r go m next))) x.1,
          )
  woken-total table o f m fin q _ = (q, refl)

  result-possible : (s : State P I A) (id node : ℕ) (old : RequestState P I A)
      (x : Within P I A) (outcome : Outcome) → Lawful s →
      At s id old (assigned node (within x (ends outcome))) → IsPossible w s (Result id x.run)
  result-possible s id node old x outcome v e =
      let m : Record = recorded outcome x.so_far.segments in
      let f : FinishedRun = record { run = x.run; made = m } in
      let z : RequestState P I A =
      goes_on w (assigned node) old x.run x.go m (add old.journal (ended x.run m)) in
      let l = v.each id (with_status old (assigned node (within x (ends outcome)))) e in
      let b = l.status.1 in
      let c = reps-closed (Recorded s.table) (one_record s.table) b.so_far b.from_closed in
      let ordered : IsOrdered (f ∷ s.table) = (
        (λ r i. ended-finished s.table old.journal old.runs l.journal r
            (HasAll-in (effects_of x.run m) old.journal (replays_run r) c.0 i)),
        v.ordered,
      ) in
      let u = traverse-total (woken w (f ∷ s.table) x.run m) (put s.requests id z)
      (λ i q h. woken-total (f ∷ s.table) ordered x.run m (m, found-newest s.table f) q
      q.status) in
      let last : State P I A =
      record {
        requests = u.0;
        begun = s.begun;
        table = f ∷ s.table;
        tools_used = record { run = x.run; tools = x.so_far.tools } ∷ s.tools_used;
      } in (
        last,
        ap (λ o. and_then o (step_of w s (Result id x.run))) e
            ∙ (ap
            (λ y.
            and_then (only_if y x)
            (λ x. finished w s id node old x (recorded outcome x.so_far.segments)))
            (same_run-refl x.run)
            ∙ ap
            (λ p.
            and_then p
            (λ requests.
            Some
            (record {
              requests = requests;
              begun = s.begun;
              table = f
                  ∷ s.table;
              tools_used = record { run = x.run; tools = x.so_far.tools }
                  ∷ s.tools_used;
            }))) u.1),
      )

  claim-is : (s : State P I A) (id node : ℕ) (q : RequestState P I A)
      (site : P) (r : RunId) (b : Body I A) (go : Record → Journal → Walk P I A)
      (kind : ClaimKind) → At s id q (assigned node (walking (wants site r b go))) →
      (t : State P I A) → claimed w s id node q r b go kind ≡ Some t →
      step w s (Claim id r kind) ≡ Some t
  claim-is s id node q site r b go kind e t h =
      ap (λ p. and_then p (step_of w s (Claim id r kind))) e
      ∙ (ap (λ y. and_then (only_if y r) (λ run. claimed w s id node q run b go kind))
      (same_run-refl r) ∙ h)

  claim-possible : (s : State P I A) (id node : ℕ) (q : RequestState P I A)
      (site : P) (r : RunId) (b : Body I A) (go : Record → Journal → Walk P I A) → Lawful s →
      At s id q (assigned node (walking (wants site r b go))) →
      CanGoOn w s id (walking (wants site r b go)) ⊎ ((is_begun r s.begun ≡ true)
      × (found s.table r ≡ None) × (is_in_cycle (waiting w s id q r b go) r ≡ true))
  claim-possible s id node q site r b go v e = by_record (found s.table r) refl
    where
      next : State P I A
      next = waiting w s id q r b go

      by_test : found s.table r ≡ None → is_begun r s.begun ≡ true →
          (y : Bool) → is_in_cycle (waiting w s id q r b go) r ≡ y →
          CanGoOn w s id (walking (wants site r b go)) ⊎ ((is_begun r s.begun ≡ true)
          × (found s.table r ≡ None) × (is_in_cycle (waiting w s id q r b go) r ≡ true))
      by_test n h true c = inr (h, n, c)
      by_test n h false c =
          let t : State P I A = waiting w s id q r b go in
          inl (inr (inr (
            t,
            claim-is s id node q site r b go Wait e t
                (ap (λ y. only_if y t) (ap (λ a. may_wait w a (found s.table r) (is_in_cycle t r)) h
                ∙ (ap (λ a. may_wait w true a (is_in_cycle t r)) n
                ∙ ap (λ a. may_wait w true None a) c))),
          )))

      by_begun : found s.table r ≡ None → (y : Bool) → is_begun r s.begun ≡ y →
          CanGoOn w s id (walking (wants site r b go)) ⊎ ((is_begun r s.begun ≡ true)
          × (found s.table r ≡ None) × (is_in_cycle (waiting w s id q r b go) r ≡ true))
      by_begun n true h = by_test n h (is_in_cycle (waiting w s id q r b go) r) refl
      by_begun n false h =
          let t : State P I A =
          record {
            requests = put s.requests id (in_body w (assigned node) q r go
                (run_on w.tools r b q.journal nothing_yet));
            begun = record { run = r; by = id } ∷ s.begun;
            table = s.table;
            tools_used = s.tools_used;
          } in
          inl (inl (t, claim-is s id node q site r b go Go e t (ap (λ y. unless y t) h)))

      by_record : (p : Option Record) → found s.table r ≡ p →
          CanGoOn w s id (walking (wants site r b go)) ⊎ ((is_begun r s.begun ≡ true)
          × (found s.table r ≡ None) × (is_in_cycle (waiting w s id q r b go) r ≡ true))
      by_record None h = by_begun h (is_begun r s.begun) refl
      by_record (Some m) h =
          let y = replay-total s.table v.ordered r q.journal (m, h) in
          let t : State P I A = with_request s id (goes_on w (assigned node) q r go m y.0) in
          inl (inr (inl (
            t,
            claim-is s id node q site r b go Use e t
                (ap
                (λ p.
                and_then p
                (λ made. and_then (replay s.table r q.journal)
                (λ next.
                Some (with_request s id (goes_on w (assigned node) q r go made next))))) h
                ∙ ap
                (λ p.
                and_then p
                (λ next.
                Some (with_request s id (goes_on w (assigned node) q r go m next)))) y.1),
          )))

  request-possible : (s : State P I A) (id node : ℕ) (q : RequestState P I A)
      (x : Within P I A) (key : RequestKey) (more : List RequestKey) (go : List RequestResult →
      Journal → Body I A) → At s id q (assigned node (within x (asks key more go))) →
      (y : Bool) → is_within_limits w s (x.run ∷ q.origin.path) (key ∷ more) ≡ y
      → IsPossible w s (Request id (key ∷ more))
      ⊎ (is_within_limits w s (x.run ∷ q.origin.path) (key ∷ more) ≡ false)
  request-possible s id node q x key more go e false h = inr h
  request-possible s id node q x key more go e true h =
      let t : State P I A = with_children w s id q (key ∷ more) x go in
      inl (
        t,
        ap (λ p. and_then p (step_of w s (Request id (key ∷ more)))) e
            ∙ (ap (λ y. only_if (y && is_within_limits w s (x.run ∷ q.origin.path) (key ∷ more)) t)
            ((keys-exact (key ∷ more) (key ∷ more)).1 refl) ∙ ap (λ y. only_if y t) h),
      )

  place-goes : (s : State P I A) (id node : ℕ) (q : RequestState P I A)
      (place : Place P I A) → Lawful s → Kindred s → At s id q (assigned node place) →
      CanGoOn w s id place ⊎ IsRefused w s id (with_status q (assigned node place)) place
  place-goes s id node q (walking (gives reply)) v k e = inl
      (done-possible s id node q reply v k e)
  place-goes s id node q (walking (wants site r b go)) v k e =
      claim-possible s id node q site r b go v e
  place-goes s id node q (within x (ends outcome)) v k e = inl
      (result-possible s id node q x outcome v e)
  place-goes s id node q (within x (asks key more go)) v k e = request-possible s id node q x key
      more go e (is_within_limits w s (x.run ∷ q.origin.path) (key ∷ more)) refl

  pub goes : (events : List Event) (s : State P I A) → IsHistory w events s → GoesOn w s
  goes events s h id node q place e st =
      let v = all-lawful w events (start w) s (start-lawful w) h in
      let k = all-kindred w events (start w) s (start-lawful w) (start-kindred w) h in
      let d : q ≡ with_status q (assigned node place) =
      ap (λ (a : Status P I A). with_status q a) st in
      subst (λ (a : RequestState P I A). CanGoOn w s id place ⊎ IsRefused w s id a place) (sym d)
      (place-goes s id node q place v k (e ∙ ap Some d))

  -- some request may go on, or none
  going_or_not : (rs : List (RequestState P I A)) →
      ((id : ℕ) × (q : RequestState P I A) × (at rs id ≡ Some q) × IsGoing q.status)
      ⊎ ((id : ℕ) (q : RequestState P I A) → at rs id ≡ Some q → IsGoing q.status → ⊥)
  going_or_not [] = inr (λ id q h g. absurd (cc))
  going_or_not (x ∷ rs) = go x.status refl (going_or_not rs)
    where
      behind : (IsGoing x.status → ⊥) →
          ((id : ℕ) × (q : RequestState P I A) × (at rs id ≡ Some q) × IsGoing q.status)
          ⊎ ((id : ℕ) (q : RequestState P I A) → at rs id ≡ Some q → IsGoing q.status → ⊥) →
          ((id : ℕ) × (q : RequestState P I A) × (at (x ∷ rs) id ≡ Some q) × IsGoing q.status)
          ⊎ ((id : ℕ) (q : RequestState P I A) → at (x ∷ rs) id ≡ Some q → IsGoing q.status → ⊥)
      behind n (inl y) = inl (suc y.0, y.1, y.2, y.3)
      behind n (inr f) = inr none
        where
          none : (id : ℕ) (q : RequestState P I A) → at (x ∷ rs) id ≡ Some q → IsGoing q.status → ⊥
          none zero q h g =
              n (subst (λ (a : RequestState P I A). IsGoing a.status) (sym (some-is x q h)) g)
          none (suc id) q h g = f id q h g

      go : (st : Status P I A) → x.status ≡ st →
          ((id : ℕ) × (q : RequestState P I A) × (at rs id ≡ Some q) × IsGoing q.status)
          ⊎ ((id : ℕ) (q : RequestState P I A) → at rs id ≡ Some q → IsGoing q.status → ⊥) →
          ((id : ℕ) × (q : RequestState P I A) × (at (x ∷ rs) id ≡ Some q) × IsGoing q.status)
          ⊎ ((id : ℕ) (q : RequestState P I A) → at (x ∷ rs) id ≡ Some q → IsGoing q.status → ⊥)
      go (ready p) e ih = inl (0, x, refl, subst (λ (a : Status P I A). IsGoing a) (sym e) tt)
      go (assigned n p) e ih = inl (0, x, refl, subst (λ (a : Status P I A). IsGoing a) (sym e) tt)
      go (waits r b k) e ih = behind (λ g. subst (λ (a : Status P I A). IsGoing a) e g) ih
      go (calling keys ids y k) e ih = behind (λ g. subst (λ (a : Status P I A). IsGoing a) e g) ih
      go (done res) e ih = behind (λ g. subst (λ (a : Status P I A). IsGoing a) e g) ih

  open-status : (st : Status P I A) → (IsGoing st → ⊥) → told_in st ≡ None → ids_in st ≡ None →
      (t : RunId) × (waits_of st ≡ Some t)
  open-status (ready p) n t c = absurd (n tt)
  open-status (assigned m p) n t c = absurd (n tt)
  open-status (waits r b k) n t c = (r, refl)
  open-status (calling keys ids y k) n t c = absurd (cc)
  open-status (done res) n t c = absurd (cc)

  held-open : (st : Status P I A) (t : RunId) → (inside_of st ≡ Some t) ⊎ (waits_of st ≡ Some t) →
      told_in st ≡ None
  held-open (ready p) t h = refl
  held-open (assigned m p) t h = refl
  held-open (waits r b k) t h = refl
  held-open (calling keys ids y k) t h = refl
  held-open (done res) t (inl h) = absurd (cc)
  held-open (done res) t (inr h) = absurd (cc)

  not-both : (st : Status P I A) (r t : RunId) → inside_of st ≡ Some r → waits_of st ≡ Some t → ⊥
  not-both (ready p) r t h g = cc
  not-both (assigned m p) r t h g = cc
  not-both (waits a b k) r t h g = cc
  not-both (calling keys ids y k) r t h g = cc
  not-both (done res) r t h g = cc

  not-over : (st : Status P I A) → (IsOver st → ⊥) → told_in st ≡ None
  not-over (ready p) n = refl
  not-over (assigned m p) n = refl
  not-over (waits a b k) n = refl
  not-over (calling keys ids y k) n = refl
  not-over (done res) n = absurd (n tt)

  module _ (s : State P I A) (v : Lawful s) (none : (id : ℕ) (q : RequestState P I A) →
      at s.requests id ≡ Some q → IsGoing q.status → ⊥) where
    less : (m : ℕ) (a : Kin) → kins_of s.requests m ≡ Some a → m < length s.requests
    less m a g = let y = at-kins s.requests m a g in at-less s.requests m y.0 y.1

    held : (m : ℕ) (a : Kin) (t : RunId) → kins_of s.requests m ≡ Some a
        → (a.inside ≡ Some t) ⊎ (a.waits ≡ Some t) → Open s t × (a.reply ≡ None)
    held m a t g c =
        let y = at-kins s.requests m a g in (
          (elim c [ inl d ↦ (inside-open s v m a t g d).0 | inr d ↦ waits-open s v m a t g d ]),
          sym (ap (λ (b : Kin). b.reply) y.2)
              ∙ held-open y.0.status t
              (subst (λ (b : Kin). (b.inside ≡ Some t) ⊎ (b.waits ≡ Some t)) (sym y.2) c),
        )

    stuck : (m : ℕ) (a : Kin) → kins_of s.requests m ≡ Some a → a.reply ≡ None → a.calls ≡ None
        → (t : RunId) × (a.waits ≡ Some t)
    stuck m a g t c =
        let y = at-kins s.requests m a g in
        let z = open-status y.0.status (none m y.0 y.1) (ap (λ (b : Kin). b.reply) y.2 ∙ t)
        (ap (λ (b : Kin). b.calls) y.2 ∙ c) in
        (z.0, sym (ap (λ (b : Kin). b.waits) y.2) ∙ z.1)

    apart : (m : ℕ) (a : Kin) (r t : RunId) → kins_of s.requests m ≡ Some a → a.inside ≡ Some r
        → a.waits ≡ Some t → ⊥
    apart m a r t g i c = let y = at-kins s.requests m a g in not-both y.0.status r t
        (ap (λ (b : Kin). b.inside) y.2 ∙ i) (ap (λ (b : Kin). b.waits) y.2 ∙ c)

    all-wait : Kindred s → (root : RequestState P I A) → at s.requests 0 ≡ Some root →
        (IsOver root.status → ⊥) → ⊥
    all-wait k root e n =
        let f : ℕ → Option Kin = kins_of s.requests in
        let below = idle-below f (length s.requests) less k.family (length s.requests) 0
        (zero_plus (length s.requests)) (kin_of root) (kins-at s.requests 0 root e)
        (not-over root.status n) in
        let waiter = stuck below.0 below.1 below.2 below.3 below.4 in
        no_open (NeedOf f) k.free.acyclic (Open s)
        (open-needs f (length s.requests) less k.family (Open s) k.free stuck held apart)
        (begun_runs s.begun) (λ r o. begun-named s.begun r o.0)
        waiter.0 (waits-open s v below.0 below.1 waiter.0 below.2 waiter.1)
      where
        zero_plus : (n : ℕ) → n ≤ 0 + n
        zero_plus n = omega arith

  pub never_stuck : (events : List Event) (s : State P I A) → IsHistory w events s → IsNeverStuck s
  never_stuck events s h root e n = elim (going_or_not s.requests) [
    | inl y ↦ y
    | inr none ↦ absurd
        (all-wait s (all-lawful w events (start w) s (start-lawful w) h) none
        (all-kindred w events (start w) s (start-lawful w) (start-kindred w) h) root e n)
  ]
