-- The table of every legal history is consistent.
use Rattle.std.proofs.Common.{
  ◌≡◌,
  ℕ,
  suc,
  Bool,
  true,
  false,
  ◌&&◌,
  ◌==◌,
  ◌⊎◌,
  inl,
  inr,
  List,
  [],
  ◌∷◌,
  ◌++◌,
  length,
  map,
  Option,
  None,
  Some,
  refl,
  ap,
  sym,
  ◌∙◌,
  subst,
  append_assoc,
}
use Rattle.msb_laws.specs.Asking.{and_then}
use Rattle.msb_laws.specs.Traverse.{traverse}
use Rattle.result_cache.specs.declared.run.RunId.{RunId}
use Rattle.result_cache.specs.declared.request.RequestKey.{RequestKey}
use Rattle.result_cache.specs.declared.request.RequestResult.{RequestResult}
use Rattle.result_cache.specs.declared.record.Record.{Record}
use Rattle.result_cache.specs.Same.{same_run, same_keys}
use Rattle.build_meaning.specs.declared.event.Event.{Event}
use Rattle.build_meaning.specs.declared.event.Event.TheVariants.{
  Assign,
  Claim,
  Request,
  Result,
  Done,
  Retire,
}
use Rattle.build_meaning.specs.declared.event.ClaimKind.{ClaimKind}
use Rattle.build_meaning.specs.declared.event.ClaimKind.TheVariants.{Go, Use, Wait}
use Rattle.build_meaning.specs.Lists.{at, put, numbered_from, Paired}
use Rattle.result_cache.specs.Journal.{Journal, Mark, end_of, acted, ended, has, add, merge}
use Rattle.result_cache.specs.Replay.{
  Effect,
  replays_run,
  effects_from,
  effects_of,
  replay,
  replay_all,
}
use Rattle.result_cache.specs.Table.{FinishedRun, Records, found, is_begun}
use Rattle.build_meaning.specs.World.{World}
use Rattle.build_meaning.specs.Walk.{Walk, gives, wants, Body, makes, does, uses, calls, Outcome}
use Rattle.build_meaning.specs.SoFar.{
  SoFar,
  nothing_yet,
  with_act,
  with_tool,
  with_calls,
  recorded,
  result_of,
  runs_of,
}
use Rattle.build_meaning.specs.Stop.{ends, asks, run_on}
use Rattle.build_meaning.specs.State.{
  with_status,
  Within,
  Place,
  walking,
  within,
  Status,
  ready,
  assigned,
  waits,
  calling,
  done,
  RequestState,
  State,
  with_request,
  new_request,
  start,
}
use Rattle.build_meaning.specs.Cycle.{is_in_cycle}
use Rattle.build_meaning.specs.Step.{
  only_if,
  assign_at,
  in_body,
  goes_on,
  waiting,
  may_wait,
  claimed,
  claim_at,
  with_children,
  is_within_limits,
  request_at,
  woken_if,
  woken_at,
  woken,
  finished,
  result_at,
  result_in,
  results_of,
  answered,
  resume_at,
  resume_caller,
  done_at,
  retire_at,
  whose,
  step_of,
  step,
  after_all,
}
use Rattle.build_meaning.specs.History.{IsHistory}
use Rattle.build_meaning.specs.ByTable.{
  walk_by,
  request_by,
  calls_by,
  body_by,
  BegunIn,
  IsConsistent,
}
use Rattle.result_cache.proofs.RunTests.{same_run-true, and_then-some}
use Rattle.result_cache.proofs.JournalEntries.{Has, has-merge_left, HasAll-in}
use Rattle.result_cache.proofs.ReplayRelation.{
  Rep,
  new,
  Reps,
  none,
  reps-append,
  reps-map,
  rep-one,
  reps-one,
  reps-keep,
  reps-grow,
  reps-closed,
  Recorded,
}
use Rattle.build_meaning.proofs.BuildingReplays.{map-append, reps-run, reps-calls}
use Rattle.build_meaning.proofs.ListPlaces.{at-put, at-front, at-length, traverse-some}
use Rattle.build_meaning.proofs.PairedLists.{
  Paired-put,
  Paired-put_at,
  Paired-traverse,
  Paired-append,
  Paired-length,
  Paired-at,
  Paired-some,
}
use Rattle.build_meaning.proofs.LawfulStates.{
  one_record,
  ClosedBy,
  IsOnce,
  IsOrdered,
  found-newest,
  found-grows,
  replay-rep,
  replay_all-reps,
  LawfulJournal,
  Lawful,
}
use Rattle.build_meaning.proofs.EventsKeepLawful.{
  only_if-some,
  unless-some,
  some-is,
  closed-grows,
  ended-finished,
  run_on-reps,
  unbegun-unfinished,
  unfinished-fresh,
  put-lawful,
  step-lawful,
  start-lawful,
}
use Rattle.build_meaning.proofs.GrowingTables.{
  Newer,
  same_table,
  one_newer,
  newer-trans,
  newer-found,
  newer-replay,
}
use Rattle.build_meaning.specs.Stands.{body_of}
use Rattle.build_meaning.proofs.HistoriesGoOn.{replay-total}

-- where a request begins
pub record Start : Type 0 where
  pub key : RequestKey
  pub journal : Journal

-- these requests are for these keys, and begin with this journal
abbrev pub Kids : List Start → List ℕ → List RequestKey → Journal → Type 0
Kids starts [] [] j = Unit {0}
Kids starts (id ∷ ids) (key ∷ keys) j = (at starts id ≡ Some (record { key = key; journal = j }))
    × Kids starts ids keys j
Kids starts _ _ j = ⊥

kids-mono : (starts more : List Start)
    → ((i : ℕ) (s : Start) → at starts i ≡ Some s → at more i ≡ Some s)
    → (ids : List ℕ) (keys : List RequestKey) (j : Journal) → Kids starts ids keys j
    → Kids more ids keys j
kids-mono starts more f [] [] j h = tt
kids-mono starts more f (id ∷ ids) (key ∷ keys) j h =
    (f id (record { key = key; journal = j }) h.0, kids-mono starts more f ids keys j h.1)
kids-mono starts more f [] (key ∷ keys) j h = absurd h
kids-mono starts more f (id ∷ ids) [] j h = absurd h

-- the beginnings of children
abbrev pub starts_of : Journal → List RequestKey → List Start
starts_of j [] = []
starts_of j (key ∷ keys) = record { key = key; journal = j } ∷ starts_of j keys

-- the first events
begun-more : {P I A : Type 0} (w : World P I A) (events : List Event) (event : Event) (r : RunId)
    (b : Body I A) (from : Journal) → BegunIn w events r b from →
    BegunIn w (events ++ event ∷ []) r b from
begun-more w events event r b from x = record {
  before = x.before;
  later = x.later ++ event ∷ [];
  state = x.state;
  id = x.id;
  node = x.node;
  request = x.request;
  site = x.site;
  go = x.go;
  events_so = sym (append_assoc x.before (Claim x.id r Go ∷ x.later) (event ∷ []))
      ∙ ap (λ es. es ++ event ∷ []) x.events_so;
  history = x.history;
  there = x.there;
  wants_so = x.wants_so;
  journal_so = x.journal_so;
}

consistent-more : {P I A : Type 0} (w : World P I A) (events : List Event) (event : Event)
    (table : Records) → IsConsistent w events table → IsConsistent w (events ++ event ∷ []) table
consistent-more w events event [] c = tt
consistent-more w events event (f ∷ table) c = (
  (c.0.0, c.0.1, c.0.2, begun-more w events event f.run c.0.0 c.0.1 c.0.3, c.0.4),
  consistent-more w events event table c.1,
)

append-nil : {X : Type 0} (xs : List X) → xs ++ [] ≡ xs
append-nil [] = refl
append-nil (x ∷ xs) = ap (λ ys. x ∷ ys) (append-nil xs)

module _ {P I A : Type 0} (w : World P I A) where
  abbrev pub Equal : Records → {X : Type 0} → (Records → Option X) → (Records → Option X) → Type 0
  Equal T f g = (U : Records) → Newer T U → f U ≡ g U

  -- a body that was begun from a journal, and what is left of it
  pub record TracedBody (T : Records) (events : List Event) (key : RequestKey) (first j : Journal)
      (runs : List RunId) (x : Within P I A) (rest : Records → Option (Record × Journal))
      (b : Body I A) (from : Journal) : Type 0 where
    pub from_closed : ClosedBy T from
    pub fresh : has (end_of x.run) from ≡ false
    pub so_far : Reps (Recorded T) (effects_from x.run 0 x.so_far.segments) from j
    pub ran : Reps (Recorded T) (map replays_run runs) first from
    pub site : P
    pub wanted : Equal T (λ U. request_by w U first key)
        (λ U. walk_by w U (wants site x.run b x.go) from runs)
    pub left : Equal T (λ U. body_by w U x.run b from nothing_yet) rest
    pub begun : BegunIn w events x.run b from

  abbrev pub InTrace : Records → List Event → RequestKey → Journal → Journal → List RunId →
      Within P I A → (Records → Option (Record × Journal)) → Type 0
  InTrace T events key first j runs x rest = (b : Body I A) × (from : Journal)
      × TracedBody T events key first j runs x rest b from

  -- a walk that has come so far
  abbrev pub WalkTrace : Records → RequestKey → Journal → Journal → List RunId → Walk P I A → Type 0
  WalkTrace T key first j runs x = Reps (Recorded T) (map replays_run runs) first j
      × Equal T (λ U. request_by w U first key) (λ U. walk_by w U x j runs)

  abbrev pub after_calls : RunId → SoFar I → List RequestKey
      → (List RequestResult → Journal → Body I A) → Journal → Records → Option (Record × Journal)
  after_calls run so_far keys go j U = and_then (calls_by w U j j keys)
      (λ y. body_by w U run (go y.0 y.1) y.1 (with_calls so_far keys y.0))

  abbrev pub PlaceTrace : Records → List Event → RequestKey → Journal → Journal → List RunId →
      Place P I A → Type 0
  PlaceTrace T events key first j runs (walking x) = WalkTrace T key first j runs x
  PlaceTrace T events key first j runs (within x stop) = InTrace T events key first j runs x
      (λ U. body_by w U x.run (body_of stop) j x.so_far)

  abbrev pub StatusTrace : Records → List Event → List Start → RequestKey → Journal → Journal →
      List RunId → Status P I A → Type 0
  StatusTrace T events starts key first j runs (ready p) = PlaceTrace T events key first j runs p
  StatusTrace T events starts key first j runs (assigned node p) = PlaceTrace T events key first j
      runs p
  StatusTrace T events starts key first j runs (waits r b go) =
      (site : P) × WalkTrace T key first j runs (wants site r b go)
  StatusTrace T events starts key first j runs (calling keys ids x go) = InTrace T events key first
      j runs x (after_calls x.run x.so_far keys go j) × Kids starts ids keys j
  StatusTrace T events starts key first j runs (done res) = Reps (Recorded T)
      (map replays_run res.runs) first j
      × Equal T (λ U. request_by w U first key) (λ U. Some (res, j))

  pub record Trace (T : Records) (events : List Event) (starts : List Start)
      (q : RequestState P I A) (s : Start) : Type 0 where
    pub key : q.origin.key ≡ s.key
    pub status : StatusTrace T events starts s.key s.journal q.journal q.runs q.status

  pub record Traced (events : List Event) (s : State P I A) (starts : List Start) : Type 0 where
    pub each : Paired (Trace s.table events starts) s.requests starts
    pub consistent : IsConsistent w events s.table

  -- more starts, and one more event
  module _ (T : Records) (events : List Event) (event : Event) (starts more : List Start)
      (f : (i : ℕ) (s : Start) → at starts i ≡ Some s → at more i ≡ Some s) where
    in-later : (key : RequestKey) (first j : Journal) (runs : List RunId) (x : Within P I A)
        (rest : Records → Option (Record × Journal)) → InTrace T events key first j runs x rest →
        InTrace T (events ++ event ∷ []) key first j runs x rest
    in-later key first j runs x rest (b, from, v) = (
      b,
      from,
      record {
        from_closed = v.from_closed;
        fresh = v.fresh;
        so_far = v.so_far;
        ran = v.ran;
        site = v.site;
        wanted = v.wanted;
        left = v.left;
        begun = begun-more w events event x.run b from v.begun;
      },
    )

    place-later : (key : RequestKey) (first j : Journal) (runs : List RunId) (p : Place P I A) →
        PlaceTrace T events key first j runs p →
        PlaceTrace T (events ++ event ∷ []) key first j runs p
    place-later key first j runs (walking x) v = v
    place-later key first j runs (within x stop) v = in-later key first j runs x
        (λ U. body_by w U x.run (body_of stop) j x.so_far) v

    status-later : (key : RequestKey) (first j : Journal) (runs : List RunId) (st : Status P I A) →
        StatusTrace T events starts key first j runs st →
        StatusTrace T (events ++ event ∷ []) more key first j runs st
    status-later key first j runs (ready p) v = place-later key first j runs p v
    status-later key first j runs (assigned node p) v = place-later key first j runs p v
    status-later key first j runs (waits r b go) v = v
    status-later key first j runs (calling keys ids x go) v = (
      in-later key first j runs x (after_calls x.run x.so_far keys go j) v.0,
      kids-mono starts
          more f ids keys j v.1,
    )
    status-later key first j runs (done res) v = v

    trace-later : (q : RequestState P I A) (s : Start) → Trace T events starts q s →
        Trace T (events ++ event ∷ []) more q s
    trace-later q s v = record
        { key = v.key; status = status-later s.key s.journal q.journal q.runs q.status v.status }

  -- one more record
  module _ (T : Records) (fin : FinishedRun) (n : found T fin.run ≡ None) (events : List Event)
      (starts : List Start) where
    step_newer : (U : Records) → Newer (fin ∷ T) U → Newer T U
    step_newer U m = newer-trans (one_newer same_table n) m

    reps-newer : (items : List Effect) (j k : Journal) → Reps (Recorded T) items j k
        → Reps (Recorded (fin ∷ T)) items j k
    reps-newer items j k d = reps-map (Recorded T) (Recorded (fin ∷ T)) (found-grows T fin n) d

    in-newer : (key : RequestKey) (first j : Journal) (runs : List RunId) (x : Within P I A)
        (rest : Records → Option (Record × Journal)) → LawfulJournal T j runs →
        InTrace T events key first j runs x rest → InTrace (fin ∷ T) events key first j runs x rest
    in-newer key first j runs x rest l (b, from, v) = (
      b,
      from,
      record {
        from_closed = closed-grows T fin n from v.from_closed
            (λ r h. ended-finished T j runs l r (reps-keep (Recorded T) v.so_far (end_of r) h));
        fresh = v.fresh;
        so_far = reps-newer (effects_from x.run 0 x.so_far.segments) from j v.so_far;
        ran = reps-newer (map replays_run runs) first from v.ran;
        site = v.site;
        wanted = λ U m. v.wanted U (step_newer U m);
        left = λ U m. v.left U (step_newer U m);
        begun = v.begun;
      },
    )

    walk-newer : (key : RequestKey) (first j : Journal) (runs : List RunId) (x : Walk P I A) →
        WalkTrace T key first j runs x → WalkTrace (fin ∷ T) key first j runs x
    walk-newer key first j runs x v =
        (reps-newer (map replays_run runs) first j v.0, λ U m. v.1 U (step_newer U m))

    place-newer : (key : RequestKey) (first j : Journal) (runs : List RunId) (p : Place P I A) →
        LawfulJournal T j runs → PlaceTrace T events key first j runs p →
        PlaceTrace (fin ∷ T) events key first j runs p
    place-newer key first j runs (walking x) l v = walk-newer key first j runs x v
    place-newer key first j runs (within x stop) l v = in-newer key first j runs x
        (λ U. body_by w U x.run (body_of stop) j x.so_far) l v

    status-newer : (key : RequestKey) (first j : Journal) (runs : List RunId) (st : Status P I A) →
        LawfulJournal T j runs → StatusTrace T events starts key first j runs st →
        StatusTrace (fin ∷ T) events starts key first j runs st
    status-newer key first j runs (ready p) l v = place-newer key first j runs p l v
    status-newer key first j runs (assigned node p) l v = place-newer key first j runs p l v
    status-newer key first j runs (waits r b go) l v =
        (v.0, walk-newer key first j runs (wants v.0 r b go) v.1)
    status-newer key first j runs (calling keys ids x go) l v =
        (in-newer key first j runs x (after_calls x.run x.so_far keys go j) l v.0, v.1)
    status-newer key first j runs (done res) l v =
        (reps-newer (map replays_run res.runs) first j v.0, λ U m. v.1 U (step_newer U m))

  -- a body that runs on comes to the same
  runs_by : (U : Records) (r : RunId) (b : Body I A) (j : Journal) (so_far : SoFar I) →
      body_by w U r b j so_far ≡ body_by w U r (body_of (run_on w.tools r b j so_far).stop)
      (run_on w.tools r b j so_far).journal (run_on w.tools r b j so_far).so_far
  runs_by U r (makes outcome) j so_far = refl
  runs_by U r (does p go) j so_far = let k : Journal = add j (acted r (length so_far.segments) p)
      in runs_by U r (go k) k (with_act so_far p)
  runs_by U r (uses name input go) j so_far = runs_by U r (go (w.tools name input)) j
      (with_tool so_far name input)
  runs_by U r (calls key keys go) j so_far = refl

  -- a walk that uses a record
  walk-uses : (T : Records) → IsOnce T → (key : RequestKey) (first j : Journal) (runs : List RunId)
      (site : P) (r : RunId) (b : Body I A) (go : Record → Journal → Walk P I A) (m : Record)
      (k : Journal) → Recorded T r m → replay T r j ≡ Some k →
      WalkTrace T key first j runs (wants site r b go) → WalkTrace T key first k (runs ++ r ∷ [])
      (go m k)
  walk-uses T once key first j runs site r b go m k f h v = (
    reps-run runs r v.0 (replay-rep T once r j k h),
    λ U n. v.1 U n
        ∙ (ap
        (λ o.
        and_then o
        (λ made.
        and_then (replay U r j) (λ next. walk_by w U (go made next) next (runs ++ r ∷ []))))
        (newer-found n r m f)
        ∙ ap (λ o. and_then o (λ next. walk_by w U (go m next) next (runs ++ r ∷ [])))
        (newer-replay n r j (m, f) ∙ h)),
  )

  put-traced : (events : List Event) (event : Event) (s : State P I A) (starts : List Start)
      (id : ℕ) (q z : RequestState P I A) → Traced events s starts → at s.requests id ≡ Some q →
      ((a : Start) → Trace s.table events starts q a
      → Trace s.table (events ++ event ∷ []) starts z a)
      → Traced (events ++ event ∷ []) (with_request s id z) starts
  put-traced events event s starts id q z v e f = record {
    each = Paired-put (Trace s.table events starts) (Trace s.table (events ++ event ∷ []) starts)
        (trace-later s.table events event starts starts (λ i g h. h)) q z f s.requests id starts
        v.each e;
    consistent = consistent-more w events event s.table v.consistent;
  }

  module _ (events : List Event) (event : Event) where
    abbrev pub Next : State P I A → List Start → Type 0
    Next t starts = Traced (events ++ event ∷ []) t starts

    assign-traced : (s : State P I A) (starts : List Start) (id node : ℕ) (q : RequestState P I A)
        (st : Status P I A) (t : State P I A) → Traced events s starts →
        at s.requests id ≡ Some (with_status q st)
        → assign_at w s id node q st ≡ Some t → Next t starts
    assign-traced s starts id node q (ready p) t v e h =
        let z : RequestState P I A = with_status q (assigned node p) in
        subst (λ (u : State P I A). Next u starts) (some-is (with_request s id z) t h)
        (put-traced events event s starts id (with_status q (ready p)) z v e
        (λ a x.
        record {
          key = x.key;
          status = place-later s.table events event starts starts (λ i g h. h)
              a.key a.journal q.journal q.runs p x.status;
        }))
    assign-traced s starts id node q _ t v e h = absurd (cc)

    retire-traced : (s : State P I A) (starts : List Start) (id node : ℕ) (q : RequestState P I A)
        (st : Status P I A) (t : State P I A) → Traced events s starts →
        at s.requests id ≡ Some (with_status q st)
        → retire_at w s id node q st ≡ Some t → Next t starts
    retire-traced s starts id node q (assigned by p) t v e h =
        let z : RequestState P I A = with_status q (ready p) in
        subst (λ (u : State P I A). Next u starts) (only_if-some (by == node)
        (with_request s id z) t h).1 (put-traced events event s starts id (with_status q
        (assigned by p)) z v e
        (λ a x.
        record {
          key = x.key;
          status = place-later s.table events event starts starts (λ i g h. h)
              a.key a.journal q.journal q.runs p x.status;
        }))
    retire-traced s starts id node q _ t v e h = absurd (cc)

    claimed-traced : (s : State P I A) (starts : List Start) (id node : ℕ)
        (old : RequestState P I A) (site : P) (r : RunId) (b : Body I A)
        (go : Record → Journal → Walk P I A) (kind : ClaimKind) (t : State P I A) →
        event ≡ Claim id r kind → IsHistory w events s →
        Lawful s → Traced events s starts → at s.requests id ≡ Some (with_status old
        (assigned node (walking (wants site r b go)))) → claimed w s id node old r b go
        kind ≡ Some t → Next t starts
    claimed-traced s starts id node old site r b go Go t ev hist l v e h =
        let q : RequestState P I A =
        with_status old (assigned node (walking (wants site r b go))) in
        let z : RequestState P I A =
        in_body w (assigned node) old r go (run_on w.tools r b old.journal nothing_yet) in
        let x = unless-some (is_begun r s.begun)
        (record {
          requests = put s.requests id z;
          begun = record { run = r; by = id }
              ∷ s.begun;
          table = s.table;
          tools_used = s.tools_used;
        }) t h in
        let lq = (l.each id q e).journal in
        subst (λ (u : State P I A). Next u starts) x.1 (record {
          each = Paired-put (Trace s.table events starts)
              (Trace s.table (events ++ event ∷ []) starts)
              (trace-later s.table events event starts starts (λ i g h. h)) q z
              (λ a y. record {
                key = y.key;
                status = (
                  b,
                  old.journal,
                  record {
                    from_closed = lq.closed;
                    fresh = unfinished-fresh w s.table old.journal old.runs r lq
                        (unbegun-unfinished w s l r x.0);
                    so_far = run_on-reps (Recorded s.table) w.tools r b old.journal old.journal
                        nothing_yet none;
                    ran = y.status.0;
                    site = site;
                    wanted = y.status.1;
                    left = λ U n. runs_by U r b old.journal nothing_yet;
                    begun = record {
                      before = events;
                      later = [];
                      state = s;
                      id = id;
                      node = node;
                      request = q;
                      site = site;
                      go = go;
                      events_so = ap (λ a. events ++ a ∷ []) (sym ev);
                      history = hist;
                      there = e;
                      wants_so = refl;
                      journal_so = refl;
                    };
                  },
                );
              }) s.requests id starts v.each e;
          consistent = consistent-more w events event s.table v.consistent;
        })
    claimed-traced s starts id node old site r b go Use t ev hist l v e h =
        let x = and_then-some (found s.table r)
        (λ made. and_then (replay s.table r old.journal)
        (λ next. Some (with_request s id (goes_on w (assigned node) old r go made next)))) t
        h in
        let y = and_then-some (replay s.table r old.journal)
        (λ next. Some (with_request s id (goes_on w (assigned node) old r go x.0 next))) t
        x.2 in
        let z : RequestState P I A = goes_on w (assigned node) old r go x.0 y.0 in
        subst (λ (u : State P I A). Next u starts) (some-is (with_request s id z) t y.2)
        (put-traced events event s starts id (with_status old
        (assigned node (walking (wants site r b go)))) z v e
        (λ a c. record {
          key = c.key;
          status = walk-uses s.table l.once a.key a.journal old.journal old.runs site r b go x.0
              y.0 x.1 y.1 c.status;
        }))
    claimed-traced s starts id node old site r b go Wait t ev hist l v e h =
        let next : State P I A = waiting w s id old r b go in
        let x = only_if-some
        (may_wait w (is_begun r s.begun) (found s.table r) (is_in_cycle next r)) next t h in
        subst (λ (u : State P I A). Next u starts) x.1 (put-traced events event s starts id
        (with_status old (assigned node (walking (wants site r b go)))) (with_status old
        (waits r b go)) v e
        (λ a c. record { key = c.key; status = (site, c.status) }))

    claim-traced : (s : State P I A) (starts : List Start) (id : ℕ) (run : RunId) (kind : ClaimKind)
        (q : RequestState P I A) (st : Status P I A) (t : State P I A) →
        event ≡ Claim id run kind → IsHistory w events s →
        Lawful s → Traced events s starts → at s.requests id ≡ Some (with_status q st)
        → claim_at w s id run kind q st ≡ Some t → Next t starts
    claim-traced s starts id run kind q (assigned node (walking (wants site r b go))) t ev
        hist l v e h =
        let x = and_then-some (only_if (same_run r run) r)
        (λ run. claimed w s id node q run b go kind) t h in
        let y = only_if-some (same_run r run) r x.0 x.1 in
        claimed-traced s starts id node q site r b go kind t (ev ∙ ap (λ n. Claim id n kind)
        (sym (same_run-true r run y.0))) hist l v e
        (subst (λ n. claimed w s id node q n b go kind ≡ Some t) (sym y.1) x.2)
    claim-traced s starts id run kind q _ t ev hist l v e h = absurd (cc)

    length-more : {X : Type 0} (xs : List X) (x : X) → length (xs ++ x ∷ []) ≡ suc (length xs)
    length-more [] x = refl
    length-more (y ∷ xs) x = ap suc (length-more xs x)

    -- the children of calls
    kids-each : (T : Records) (all : List Start) (parent : Option ℕ) (path : List RunId)
        (j : Journal) (keys : List RequestKey) →
        Paired (Trace T (events ++ event ∷ []) all) (map (new_request w parent path j) keys)
        (starts_of j keys)
    kids-each T all parent path j [] = tt
    kids-each T all parent path j (key ∷ keys) =
        (record { key = refl; status = (none, λ U n. refl) }, kids-each T all parent path j keys)

    kids-match : (goals : List Start) (j : Journal) (keys : List RequestKey) (more : List Start)
        → more ≡ goals ++ starts_of j keys → Kids more (numbered_from (length goals) keys) keys j
    kids-match goals j [] more h = tt
    kids-match goals j (key ∷ keys) more h =
        let g : Start = record { key = key; journal = j } in (
          subst (λ (y : List Start). at y (length goals) ≡ Some g) (sym h)
              (at-length goals (starts_of j keys) g),
          subst (λ (n : ℕ). Kids more (numbered_from n keys) keys j) (length-more goals g)
              (kids-match (goals ++ g ∷ []) j keys more
              (h ∙ sym (append_assoc goals (g ∷ []) (starts_of j keys)))),
        )

    children-traced : (s : State P I A) (starts : List Start) (id node : ℕ)
        (old : RequestState P I A) (x : Within P I A) (key : RequestKey)
        (more : List RequestKey) (go : List RequestResult → Journal → Body I A) →
        Traced events s starts →
        at s.requests id ≡ Some (with_status old (assigned node (within x (asks key more go))))
        → Next (with_children w s id old (key ∷ more) x go)
        (starts ++ starts_of old.journal (key ∷ more))
    children-traced s starts id node old x key more go v e =
        let keys : List RequestKey = key ∷ more in
        let q : RequestState P I A =
        with_status old (assigned node (within x (asks key more go))) in
        let ids : List ℕ = numbered_from (length s.requests) keys in
        let z : RequestState P I A = with_status old (calling keys ids x go) in
        let all : List Start = starts ++ starts_of old.journal keys in
        let here = Paired-some (Trace s.table events starts) s.requests starts id q v.each e in
        let kids : Kids all ids keys old.journal = subst
        (λ (n : ℕ). Kids all (numbered_from n keys) keys old.journal)
        (sym (Paired-length (Trace s.table events starts) s.requests starts v.each))
        (kids-match starts old.journal keys all refl) in
        let mine : InTrace s.table (events ++ event ∷ []) here.0.key here.0.journal old.journal
        old.runs x
        (after_calls x.run x.so_far keys go old.journal) =
        in-later s.table events event starts all
        (λ i g p. at-front starts (starts_of old.journal keys) i g p)
        here.0.key here.0.journal old.journal old.runs x
        (after_calls x.run x.so_far keys go old.journal) here.1.status
        in
        let front : Paired (Trace s.table (events ++ event ∷ []) all) (put s.requests id z) starts =
        Paired-put_at (Trace s.table events starts) (Trace s.table (events ++ event ∷ []) all)
        (trace-later s.table events event starts all
        (λ i g p. at-front starts (starts_of old.journal keys) i g p)) z here.0
        (record { key = here.1.key; status = (mine, kids) }) s.requests id starts v.each here.2 in
        record {
          each = Paired-append (Trace s.table (events ++ event ∷ []) all) (put s.requests id z)
              starts (map (new_request w (Some id) (x.run ∷ old.origin.path) old.journal) keys)
              (starts_of old.journal keys)
              front (kids-each s.table all (Some id) (x.run ∷ old.origin.path) old.journal keys);
          consistent = consistent-more w events event s.table v.consistent;
        }

    request-traced : (s : State P I A) (starts : List Start) (id : ℕ) (keys : List RequestKey)
        (q : RequestState P I A) (st : Status P I A) (t : State P I A) →
        Traced events s starts →
        at s.requests id ≡ Some (with_status q st)
        → request_at w s id keys q st ≡ Some t
        → (starts2 : List Start) × Next t (starts ++ starts2)
    request-traced s starts id keys q (assigned node (within x (asks key more go))) t v e h =
        let y = only_if-some (same_keys (key ∷ more) keys
        && is_within_limits w s (x.run ∷ q.origin.path) (key ∷ more))
        (with_children w s id q (key ∷ more) x go) t h in (
          starts_of q.journal (key ∷ more),
          subst (λ (u : State P I A). Next u (starts ++ starts_of q.journal
              (key ∷ more))) y.1 (children-traced s starts id node q x key more go v e),
        )
    request-traced s starts id keys q _ t v e h = absurd (cc)

    -- a run is finished
    woken-traced : (T : Records) (fin : FinishedRun) → found T fin.run ≡ None → IsOnce (fin ∷ T) →
        (starts : List Start) (q t : RequestState P I A) (a : Start) → q.origin.key ≡ a.key →
        LawfulJournal T q.journal q.runs → (st : Status P I A) →
        StatusTrace T (events ++ event ∷ []) starts a.key a.journal q.journal q.runs st
        → StatusTrace T (events ++ event ∷ []) starts a.key a.journal q.journal q.runs q.status
        →
        woken_at w (fin ∷ T) fin.run fin.made q st ≡ Some t
        → Trace (fin ∷ T) (events ++ event ∷ []) starts t a
    woken-traced T fin n once starts q t a p l (waits r b go) v same h = f (same_run r fin.run) refl
        h
      where
        f : (y : Bool) → same_run r fin.run ≡ y → woken_if w y (fin ∷ T) q fin.made r go ≡ Some t
            → Trace (fin ∷ T) (events ++ event ∷ []) starts t a
        f false e h =
            subst (λ (u : RequestState P I A). Trace (fin ∷ T) (events ++ event ∷ []) starts u a)
            (some-is q t h)
            (record {
              key = p;
              status = status-newer T fin n (events ++ event ∷ []) starts a.key
                  a.journal q.journal q.runs q.status l same;
            })
        f true e h =
            let y = and_then-some (replay (fin ∷ T) r q.journal)
            (λ next. Some (goes_on w ready q r go fin.made next)) t h in
            let rec : Recorded (fin ∷ T) r fin.made = subst (λ x. Recorded (fin ∷ T) x fin.made)
            (sym (same_run-true r fin.run e)) (found-newest T fin) in
            subst (λ (u : RequestState P I A). Trace (fin ∷ T) (events ++ event ∷ []) starts u a)
            (some-is (goes_on w ready q r go fin.made y.0) t y.2)
            (record {
              key = p;
              status = walk-uses (fin ∷ T) once a.key a.journal q.journal q.runs v.0 r b go fin.made
                  y.0 rec y.1 (walk-newer T fin n (events ++ event ∷ []) starts a.key a.journal
                  q.journal q.runs (wants v.0 r b go) v.1);
            })
    woken-traced T fin n once starts q t a p l _ v same h =
        subst (λ (u : RequestState P I A). Trace (fin ∷ T) (events ++ event ∷ []) starts u a)
        (some-is q t h)
        (record {
          key = p;
          status = status-newer T fin n (events ++ event ∷ []) starts a.key a.journal
              q.journal q.runs q.status l same;
        })

    -- the record that a body has made, at the end of its walk's replay
    ends-walk : (T : Records) (x : Within P I A) (outcome : Outcome) (key : RequestKey)
        (first j : Journal) (runs : List RunId) (n : found T x.run ≡ None) →
        IsOrdered (record { run = x.run; made = recorded outcome x.so_far.segments } ∷ T) →
        IsOnce (record { run = x.run; made = recorded outcome x.so_far.segments } ∷ T)
        → InTrace T events key first j runs x
        (λ U. body_by w U x.run (makes outcome) j x.so_far) →
        WalkTrace (record { run = x.run; made = recorded outcome x.so_far.segments } ∷ T) key first
        (add j (ended x.run (recorded outcome x.so_far.segments))) (runs ++ x.run ∷ [])
        (x.go (recorded outcome x.so_far.segments)
        (add j (ended x.run (recorded outcome x.so_far.segments))))
    ends-walk T x outcome key first j runs n ordered once (b, from, v) =
        let m : Record = recorded outcome x.so_far.segments in
        let fin : FinishedRun = record { run = x.run; made = m } in
        let mine : Recorded (fin ∷ T) x.run m = found-newest T fin in
        let y = replay-total (fin ∷ T) ordered x.run from (m, mine) in
        let d : Rep (Recorded (fin ∷ T)) (replays_run x.run) from (add j (ended x.run m)) = new
        v.fresh mine
        (reps-newer T fin n events [] (effects_from x.run 0 x.so_far.segments) from j v.so_far)
        in
        let k : y.0 ≡ add j (ended x.run m) = rep-one (Recorded (fin ∷ T)) (one_record (fin ∷ T))
        (replay-rep (fin ∷ T) once x.run from y.0 y.1) (add j (ended x.run m)) d in
        walk-uses (fin ∷ T) once key first from runs v.site x.run b x.go m
        (add j (ended x.run m)) mine (y.1 ∙ ap Some k) (
          reps-newer T fin n events [] (map replays_run runs) first from v.ran,
          λ U u.
              v.wanted U (step_newer T fin n events [] U u),
        )

    finished-traced : (s : State P I A) (starts : List Start) (id node : ℕ)
        (old : RequestState P I A) (x : Within P I A) (outcome : Outcome) (t : State P I A) →
        Lawful s → Traced events s starts →
        at s.requests id ≡ Some (with_status old (assigned node (within x (ends outcome))))
        → finished w s id node old x (recorded outcome x.so_far.segments) ≡ Some t
        → Next t starts
    finished-traced s starts id node old x outcome t l v e h =
        let m : Record = recorded outcome x.so_far.segments in
        let fin : FinishedRun = record { run = x.run; made = m } in
        let q : RequestState P I A =
        with_status old (assigned node (within x (ends outcome))) in
        let z : RequestState P I A =
        goes_on w (assigned node) old x.run x.go m (add old.journal (ended x.run m)) in
        let lq = l.each id q e in
        let b = lq.status.1 in
        let n : found s.table x.run ≡ None = b.unfinished in
        let c = reps-closed (Recorded s.table) (one_record s.table) b.so_far b.from_closed in
        let ordered : IsOrdered (fin ∷ s.table) = (
          (λ r i. ended-finished s.table old.journal old.runs lq.journal r
              (HasAll-in (effects_of x.run m) old.journal (replays_run r) c.0 i)),
          l.ordered,
        ) in
        let u = and_then-some (traverse (woken w (fin ∷ s.table) x.run m) (put s.requests id z))
        (λ requests.
        Some
        (record {
          requests = requests;
          begun = s.begun;
          table = fin
              ∷ s.table;
          tools_used = record { run = x.run; tools = x.so_far.tools }
              ∷ s.tools_used;
        })) t h in
        let last : State P I A = record {
          requests = u.0;
          begun = s.begun;
          table = fin ∷ s.table;
          tools_used = record { run = x.run; tools = x.so_far.tools } ∷ s.tools_used;
        } in
        let here = Paired-some (Trace s.table events starts) s.requests starts id q v.each e in
        let mine = here.1.status in
        let later : List Event = events ++ event ∷ [] in
        subst (λ (u : State P I A). Next u starts) (some-is last t u.2) (record {
          each = Paired-traverse (λ y a. ((y ≡ z) × Trace (fin ∷ s.table) later starts z a)
              ⊎ Trace s.table later starts y a) (Trace (fin ∷ s.table) later starts)
              (woken w (fin ∷ s.table) x.run m) (put s.requests id z) u.0 starts
              (Paired-put (Trace s.table events starts)
              (λ y a. ((y ≡ z) × Trace (fin ∷ s.table) later starts z a)
              ⊎ Trace s.table later starts y a)
              (λ y a c. inr (trace-later s.table events event starts starts (λ i g h. h) y a c)) q z
              (λ a c.
              inl (
                refl,
                record {
                  key = c.key;
                  status = ends-walk s.table x outcome a.key a.journal old.journal old.runs n
                      ordered (n, l.once) c.status;
                },
              )) s.requests id starts v.each e)
              u.1
              (λ i y k a at_i c woke. elim c [
                | inl d ↦
                    let zk : Some z ≡ Some k = subst (λ (g : RequestState P I A). woken w
                    (fin ∷ s.table) x.run m g ≡ Some k) d.0 woke in
                    subst (λ (g : RequestState P I A). Trace (fin ∷ s.table) later starts g a)
                    (some-is z k zk) d.1
                | inr d ↦ elim (at-put s.requests id z i y at_i) [
                  | inl r ↦
                      let zk : Some z ≡ Some k = subst (λ (g : RequestState P I A). woken w
                      (fin ∷ s.table) x.run m g ≡ Some k) (sym r.1) woke in
                      let tz : Trace s.table later starts z a =
                      subst (λ (g : RequestState P I A). Trace s.table later starts g a)
                      (sym r.1) d in
                      subst (λ (g : RequestState P I A). Trace (fin ∷ s.table) later starts g a)
                      (some-is z k zk)
                      (record {
                        key = tz.key;
                        status = walk-newer s.table fin n later starts a.key
                            a.journal z.journal z.runs (x.go m (add old.journal (ended x.run m)))
                            tz.status;
                      })
                  | inr r ↦ woken-traced s.table fin n (n, l.once) starts y k a d.key
                      (l.each i y r.1).journal y.status d.status d.status woke
                ]
              ]);
          consistent = (
            (
              mine.0,
              mine.1,
              old.journal,
              begun-more w events event x.run mine.0 mine.1 mine.2.begun,
              mine.2.left s.table same_table,
            ),
            consistent-more w events event s.table v.consistent,
          );
        })

    result-traced : (s : State P I A) (starts : List Start) (id : ℕ) (run : RunId)
        (q : RequestState P I A) (st : Status P I A) (t : State P I A) → Lawful s →
        Traced events s starts →
        at s.requests id ≡ Some (with_status q st) → result_at w s id run q st ≡ Some t
        → Next t starts
    result-traced s starts id run q (assigned node (within x (ends outcome))) t l v e h =
        let y = and_then-some (only_if (same_run x.run run) x)
        (λ x. finished w s id node q x (recorded outcome x.so_far.segments)) t h in
        let p : x ≡ y.0 = (only_if-some (same_run x.run run) x y.0 y.1).1 in
        finished-traced s starts id node q x outcome t l v e
        (subst (λ (a : Within P I A). finished w s id node q a
        (recorded outcome a.so_far.segments) ≡ Some t) (sym p) y.2)
    result-traced s starts id run q _ t l v e h = absurd (cc)

    -- what children have told is what their requests give
    told-by : (T : Records) (starts : List Start) (key : RequestKey) (first j : Journal)
        (runs : List RunId) (st : Status P I A) (res : RequestResult) →
        StatusTrace T (events ++ event ∷ []) starts key first j runs st →
        result_in w st ≡ Some res →
        Reps (Recorded T) (map replays_run res.runs) first j
        × Equal T (λ U. request_by w U first key) (λ U. Some (res, j))
    told-by T starts key first j runs (done r) res v h =
        subst (λ (x : RequestResult). Reps (Recorded T) (map replays_run x.runs) first j
        × Equal T (λ U. request_by w U first key) (λ U. Some (x, j))) (some-is r res h) v
    told-by T starts key first j runs _ res v h = absurd (cc)

    kids-by : (T : Records) (all : List Start) (rs : List (RequestState P I A))
        (starts : List Start) → Paired (Trace T (events ++ event ∷ []) all) rs starts →
        (j : Journal) → ClosedBy T j → (a : Journal) → ClosedBy T a →
        ((m : Mark) → Has m j → Has m a) →
        (ids : List ℕ) (keys : List RequestKey) (results : List RequestResult)
        → Kids starts ids keys j → results_of w rs ids ≡ Some results →
        (k : Journal) × Reps (Recorded T) (map replays_run (runs_of results)) a k
        × Equal T (λ U. calls_by w U j a keys) (λ U. Some (results, k))
        × (length keys ≡ length results)
    kids-by T all rs starts v j cj a ca f [] [] results m h =
        let e : [] ≡ results = some-is [] results h in
        subst (λ (x : List RequestResult). (k : Journal)
        × Reps (Recorded T) (map replays_run (runs_of x)) a k
        × Equal T (λ U. calls_by w U j a []) (λ U. Some (x, k)) × (0 ≡ length x)) e
        (a, none, (λ U n. refl), refl)
    kids-by T all rs starts v j cj a ca f (id ∷ ids) (key ∷ keys) results m h =
        let u = traverse-some (λ id. and_then (at rs id) (λ q. result_in w q.status)) id ids results
        h in
        let x = and_then-some (at rs id) (λ q. result_in w q.status) u.0 u.2 in
        let c : Trace T (events ++ event ∷ []) all x.0 (record { key = key; journal = j }) =
        Paired-at (Trace T (events ++ event ∷ []) all) rs starts id x.0
        (record { key = key; journal = j }) v x.1 m.0 in
        let y = told-by T all key j x.0.journal x.0.runs x.0.status u.0 c.status x.2 in
        let i : Journal = x.0.journal in
        let z : Reps (Recorded T) (map replays_run u.0.runs) a (merge a i) = reps-grow (Recorded T)
        (one_record T) y.0 a ca f in
        let ih = kids-by T all rs starts v j cj (merge a i)
        (reps-closed (Recorded T) (one_record T) z ca).1 (λ s h. has-merge_left s a i (f s h))
        ids keys u.1 m.1 u.3 in
        subst (λ (x : List RequestResult). (k : Journal)
        × Reps (Recorded T) (map replays_run (runs_of x)) a k
        × Equal T (λ U. calls_by w U j a (key ∷ keys)) (λ U. Some (x, k))
        × (suc (length keys) ≡ length x)) (sym u.4) (
          ih.0,
          subst (λ xs. Reps (Recorded T) xs a ih.0)
              (sym (map-append replays_run u.0.runs (runs_of u.1))) (reps-append z ih.1),
          (λ U n.
              ap
              (λ p.
              and_then p
              (λ x. and_then (calls_by w U j (merge a x.1) keys) (λ y. Some (x.0 ∷ y.0, y.1))))
              (y.1 U n)
              ∙ ap (λ p. and_then p (λ y. Some (u.0 ∷ y.0, y.1))) (ih.2 U n)),
          ap suc ih.3,
        )
    kids-by T all rs starts v j cj a ca f [] (key ∷ keys) results m h = absurd m
    kids-by T all rs starts v j cj a ca f (id ∷ ids) [] results m h = absurd m

    -- a request is over, and then its caller may go on
    answered-traced : (s : State P I A) (starts : List Start) (id : ℕ) (old : RequestState P I A)
        (keys : List RequestKey) (ids : List ℕ) (x : Within P I A)
        (go : List RequestResult → Journal → Body I A) (t : State P I A) → Lawful s →
        Next s starts →
        at s.requests id ≡ Some (with_status old (calling keys ids x go))
        → (reply : Option (List RequestResult)) → results_of w s.requests ids ≡ reply
        → answered w s id old keys x go reply ≡ Some t → Next t starts
    answered-traced s starts id old keys ids x go t l v e None g h =
        subst (λ (u : State P I A). Next u starts) (some-is s t h) v
    answered-traced s starts id old keys ids x go t l v e (Some results) g h =
        let q : RequestState P I A = with_status old (calling keys ids x go) in
        let lq = (l.each id q e).journal in
        let y = and_then-some (replay_all s.table (runs_of results) old.journal)
        (λ next.
        Some
        (with_request s id
        (in_body w ready old x.run x.go
        (run_on w.tools x.run (go results next) next (with_calls x.so_far keys results))))) t h
        in
        let d : Reps (Recorded s.table) (map replays_run (runs_of results)) old.journal y.0 =
        replay_all-reps
        s.table l.once (runs_of results) old.journal y.0 y.1 in
        let z : RequestState P I A = in_body w ready old x.run x.go (run_on w.tools x.run
        (go results y.0) y.0 (with_calls x.so_far keys results)) in
        subst (λ (u : State P I A). Next u starts) (some-is (with_request s id z) t y.2) (record {
          each = Paired-put (Trace s.table (events ++ event ∷ []) starts)
              (Trace s.table (events ++ event ∷ []) starts) (λ a b c. c) q z
              (λ a c.
              record {
                key = c.key;
                status = back a c.status
                    (kids-by s.table starts s.requests starts v.each old.journal lq.closed
                    old.journal lq.closed
                    (λ m h. h) ids keys results c.status.1 g) d;
              }) s.requests id starts v.each e;
          consistent = v.consistent;
        })
      where
        back : {k : Journal} (a : Start)
            → InTrace s.table (events ++ event ∷ []) a.key a.journal old.journal old.runs x
            (after_calls x.run x.so_far keys go old.journal) × Kids starts ids keys old.journal →
            (i : Journal)
            × Reps (Recorded s.table) (map replays_run (runs_of results)) old.journal i
            × Equal s.table (λ U. calls_by w U old.journal old.journal keys)
            (λ U. Some (results, i))
            × (length keys ≡ length results)
            → Reps (Recorded s.table) (map replays_run (runs_of results)) old.journal k →
            InTrace s.table (events ++ event ∷ []) a.key a.journal
            (run_on w.tools x.run (go results k) k (with_calls x.so_far keys results)).journal
            old.runs
            (record {
              run = x.run;
              so_far =
                  (run_on w.tools x.run (go results k) k (with_calls x.so_far keys results)).so_far;
              go = x.go;
            })
            (λ U.
            body_by w U x.run
            (body_of
            (run_on w.tools x.run (go results k) k (with_calls x.so_far keys results)).stop)
            (run_on w.tools x.run (go results k) k (with_calls x.so_far keys results)).journal
            (run_on w.tools x.run (go results k) k (with_calls x.so_far keys results)).so_far)
        back {k} a ((b, from, c), kids) (i, r, eq, many) d =
            let p : i ≡ k = reps-one (Recorded s.table) (one_record s.table) r k d in (
              b,
              from,
              record {
                from_closed = c.from_closed;
                fresh = c.fresh;
                so_far = run_on-reps (Recorded s.table) w.tools x.run (go results k) from k
                    (with_calls x.so_far keys results)
                    (reps-calls x.run x.so_far keys results many c.so_far d);
                ran = c.ran;
                site = c.site;
                wanted = c.wanted;
                left = λ U n. c.left U n
                    ∙ (ap
                    (λ o.
                    and_then o
                    (λ y. body_by w U x.run (go y.0 y.1) y.1 (with_calls x.so_far keys y.0)))
                    (eq U n ∙ ap (λ i. Some (results, i)) p)
                    ∙ runs_by U x.run (go results k) k (with_calls x.so_far keys results));
                begun = c.begun;
              },
            )

    back_at-traced : (s : State P I A) (starts : List Start) (id : ℕ) (q : RequestState P I A)
        (st : Status P I A) (t : State P I A) → Lawful s → Next s starts →
        at s.requests id ≡ Some q → q.status ≡ st → resume_at w s id q st ≡ Some t → Next t starts
    back_at-traced s starts id q (calling keys ids x go) t l v e p h =
        answered-traced s starts id q keys ids x go t l v
        (e ∙ ap (λ (a : Status P I A). Some (with_status q a)) p)
        (results_of w s.requests ids) refl h
    back_at-traced s starts id q _ t l v e p h = absurd (cc)

    back_to-traced : (s : State P I A) (starts : List Start) (parent : Option ℕ) (t : State P I A) →
        Lawful s → Next s starts → resume_caller w s parent ≡ Some t → Next t starts
    back_to-traced s starts None t l v h =
        subst (λ (u : State P I A). Next u starts) (some-is s t h) v
    back_to-traced s starts (Some id) t l v h =
        let y = and_then-some (at s.requests id) (λ q. resume_at w s id q q.status) t h in
        back_at-traced s starts id y.0 y.0.status t l v y.1 refl y.2

    done-traced : (s : State P I A) (starts : List Start) (id : ℕ) (q : RequestState P I A)
        (st : Status P I A) (t : State P I A) → Lawful s →
        Traced events s starts →
        at s.requests id ≡ Some (with_status q st) → done_at w s id q st ≡ Some t
        → Next t starts
    done-traced s starts id q (assigned node (walking (gives reply))) t l v e h =
        let z : RequestState P I A = with_status q (done (result_of reply q.runs)) in
        let lq = l.each id (with_status q (assigned node (walking (gives reply)))) e in
        let zl = put-lawful s id z l (record { journal = lq.journal; status = lq.journal.runs_in })
        in
        back_to-traced (with_request s id z) starts q.origin.parent t zl
        (put-traced events event s starts id
        (with_status q (assigned node (walking (gives reply)))) z v e
        (λ a c. record { key = c.key; status = c.status })) h
    done-traced s starts id q _ t l v e h = absurd (cc)

  step_of-traced : (events : List Event) (s : State P I A) (starts : List Start) (event : Event)
      (q : RequestState P I A) (t : State P I A) → IsHistory w events s → Lawful s →
      Traced events s starts → at s.requests (whose event) ≡ Some q → step_of w s event q ≡ Some t →
      (starts2 : List Start) × Traced (events ++ event ∷ []) t starts2
  step_of-traced events s starts (Assign id node) q t hist l v e h = (
    starts,
    assign-traced events (Assign id node) s starts id node q
        q.status t v e h,
  )
  step_of-traced events s starts (Claim id run kind) q t hist l v e h = (
    starts,
    claim-traced events (Claim id run kind) s starts id run kind q q.status t refl hist l v e h,
  )
  step_of-traced events s starts (Request id keys) q t hist l v e h = let y = request-traced events
      (Request id keys) s starts id keys q q.status t v e h
      in (starts ++ y.0, y.1)
  step_of-traced events s starts (Result id run) q t hist l v e h = (
    starts,
    result-traced events (Result id run) s starts id run q
        q.status t l v e h,
  )
  step_of-traced events s starts (Done id) q t hist l v e h = (
    starts,
    done-traced events (Done id) s starts id q q.status t l v e
        h,
  )
  step_of-traced events s starts (Retire id node) q t hist l v e h = (
    starts,
    retire-traced events (Retire id node) s starts id node q
        q.status t v e h,
  )

  pub after-more : (events : List Event) (event : Event) (s t u : State P I A) →
      after_all w s events ≡ Some t → step w t event ≡ Some u →
      after_all w s (events ++ event ∷ []) ≡ Some u
  after-more [] event s t u h g =
      ap (λ o. and_then o (λ next. after_all w next []))
      (subst (λ (x : State P I A). step w x event ≡ Some u) (sym (some-is s t h)) g)
  after-more (first ∷ events) event s t u h g =
      let y = and_then-some (step w s first) (λ next. after_all w next events) t h in
      ap (λ o. and_then o (λ next. after_all w next (events ++ event ∷ []))) y.1
      ∙ after-more events event y.0 t u y.2 g

  all-traced : (past events : List Event) (s t : State P I A) (starts : List Start) →
      IsHistory w past s → Lawful s → Traced past s starts → after_all w s events ≡ Some t →
      (last : List Start) × Traced (past ++ events) t last
  all-traced past [] s t starts hist l v h = (
    starts,
    subst (λ es. Traced es t starts) (sym (append-nil past))
        (subst (λ (u : State P I A). Traced past u starts) (some-is s t h) v),
  )
  all-traced past (event ∷ events) s t starts hist l v h =
      let y = and_then-some (step w s event) (λ next. after_all w next events) t h in
      let z = and_then-some (at s.requests (whose event)) (step_of w s event) y.0 y.1 in
      let n = step_of-traced past s starts event z.0 y.0 hist l v z.1 z.2 in
      let rest = all-traced (past ++ event ∷ []) events y.0 t n.0
      (after-more past event (start w) s y.0 hist y.1) (step-lawful w s event y.0 l y.1) n.1 y.2 in
      (rest.0, subst (λ es. Traced es t rest.0) (append_assoc past (event ∷ []) events) rest.1)

  -- the requests of every legal history, and its table
  pub traced : (events : List Event) (s : State P I A) → IsHistory w events s →
      (starts : List Start) × Traced events s starts
  traced events s h =
      all-traced [] events (start w) s (record { key = w.root; journal = [] } ∷ []) refl
      (start-lawful w)
      (record {
        each = (record { key = refl; status = (none, λ U n. refl) }, tt);
        consistent = tt;
      }) h

  -- the table of every legal history is consistent
  pub consistent : (events : List Event) (s : State P I A) → IsHistory w events s →
      IsConsistent w events s.table
  consistent events s h = (traced events s h).1.consistent
