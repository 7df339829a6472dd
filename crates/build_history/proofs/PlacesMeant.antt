-- Each request of a history of a whole and steady world stands where its meaning passes.
use Rattle.std.proofs.Common.{
  ◌≡◌,
  ℕ,
  zero,
  suc,
  ◌+◌,
  ◌<◌,
  Bool,
  true,
  false,
  ◌&&◌,
  ◌==◌,
  inl,
  inr,
  List,
  [],
  ◌∷◌,
  ◌++◌,
  length,
  map,
  Option,
  None,
  Some,
  refl,
  ap,
  sym,
  ◌∙◌,
  subst,
  append-nil,
  append_assoc,
  arith,
}
use Rattle.std.proofs.lemmas.Bool.{ltb-true}
use Rattle.msb_laws.specs.Asking.{and_then}
use Rattle.msb_laws.specs.Traverse.{traverse}
use Rattle.result_cache.specs.declared.run.RunId.{RunId}
use Rattle.result_cache.specs.declared.request.RequestKey.{RequestKey}
use Rattle.result_cache.specs.declared.request.RequestResult.{RequestResult}
use Rattle.result_cache.specs.declared.record.Record.{Record}
use Rattle.result_cache.specs.Same.{same_run, same_keys, is_in}
use Rattle.result_cache.specs.Lists.{In}
use Rattle.result_cache.specs.Journal.{Journal, end_of, ended, has, add}
use Rattle.result_cache.specs.Replay.{replays_run, replay, replay_all}
use Rattle.result_cache.specs.Table.{FinishedRun, Records, found, is_begun}
use Rattle.build_meaning.specs.declared.event.Event.{Event}
use Rattle.build_meaning.specs.declared.event.Event.TheVariants.{
  Assign,
  Claim,
  Request,
  Result,
  Done,
  Retire,
}
use Rattle.build_meaning.specs.declared.event.ClaimKind.{ClaimKind}
use Rattle.build_meaning.specs.declared.event.ClaimKind.TheVariants.{Go, Use, Wait}
use Rattle.build_meaning.specs.Lists.{at, put, numbered_from}
use Rattle.build_meaning.specs.World.{World}
use Rattle.build_meaning.specs.Walk.{Walk, gives, wants, Body, Outcome}
use Rattle.build_meaning.specs.SoFar.{
  ToolUse,
  SoFar,
  nothing_yet,
  with_calls,
  recorded,
  result_of,
  runs_of,
}
use Rattle.build_meaning.specs.Meaning.{Demanded, Given, deepest}
use Rattle.build_meaning.specs.Demand.{IsWhole, IsSteady}
use Rattle.build_meaning.specs.Derived.{
  OfWalk,
  used,
  made,
  OfBody,
  ended_so,
  acted_one,
  used_tool,
  called_all,
  OfCalls,
  one_call,
  Made,
}
use Rattle.build_meaning.specs.Stands.{Goal, Contained, Calling, StandsAt, Stands}
use Rattle.build_meaning.specs.Stop.{ends, asks, run_on}
use Rattle.build_meaning.specs.State.{
  with_status,
  Within,
  walking,
  within,
  Status,
  ready,
  assigned,
  waits,
  calling,
  done,
  Origin,
  RequestState,
  State,
  with_request,
  new_request,
  start,
}
use Rattle.build_meaning.specs.Cycle.{is_in_cycle}
use Rattle.build_meaning.specs.Step.{
  only_if,
  assign_at,
  in_body,
  goes_on,
  waiting,
  may_wait,
  claimed,
  claim_at,
  with_children,
  is_within_limits,
  request_at,
  woken_if,
  woken_at,
  woken,
  finished,
  result_at,
  results_of,
  answered,
  resume_at,
  resume_caller,
  done_at,
  retire_at,
  whose,
  step_of,
  step,
  after_all,
}
use Rattle.build_meaning.specs.History.{IsHistory}
use Rattle.result_cache.proofs.RunTests.{clash, same_run-true, and_then-some}
use Rattle.result_cache.proofs.JournalEntries.{had-in, in-has, none-had}
use Rattle.result_cache.proofs.ReplayRelation.{
  Rep,
  old,
  new,
  Reps,
  none,
  rep-map,
  reps-map,
  rep-one,
  reps-one,
  Closed,
  Recorded,
}
use Rattle.build_meaning.proofs.BuildingReplays.{agree_body, agree_calls}
use Rattle.build_meaning.proofs.ListPlaces.{
  at-put,
  at-put_same,
  at-append,
  at-front,
  at-map,
  at-in,
  at-traverse,
}
use Rattle.build_meaning.proofs.PairedLists.{Paired-some}
use Rattle.build_meaning.proofs.LawfulStates.{
  IsOnce,
  found-newest,
  replay-rep,
  replay_all-reps,
  LawfulJournal,
  Lawful,
}
use Rattle.build_meaning.proofs.EventsKeepLawful.{
  only_if-some,
  unless-some,
  some-is,
  journal-grows,
  unbegun-unfinished,
  unfinished-fresh,
  put-lawful,
}
use Rattle.build_meaning.proofs.DerivedMeaning.{not-in, calls-come}
use Rattle.build_meaning.proofs.ConsistentTables.{after-more}
use Rattle.build_meaning.proofs.MeaningAgreed.{one_made, stands}
use Rattle.build_meaning.proofs.RequestsStand.{
  Standing,
  closed-made,
  put-stands,
  gives_so,
  results_of-match,
}
use Rattle.build_history.specs.Began.{GivesJournal, BeganWith}
use Rattle.build_history.specs.Places.{
  Called,
  Passes,
  root,
  call,
  known,
  enters,
  resumes,
  ends_so,
  stopped_in,
  after_calls,
  PassesAt,
}

-- what is nested less deep than may be has a depth left
depth_of : (n m : ℕ) → n < m → (d : ℕ) × (d + n ≡ m)
depth_of n zero h = absurd (omega arith)
depth_of zero (suc m) h = (suc m, omega arith)
depth_of (suc n) (suc m) h = let y = depth_of n m (omega arith)
    in (y.0, let e : y.0 + n ≡ m = y.1 in omega arith)

module _ {P I A : Type 0} (w : World P I A) (D : Demanded P I → Type 0)
    (one : (r : RunId) (m n : Record) → Made D r m → Made D r n → m ≡ n) where
  nested : {path : List RunId} {j a : Journal} {key : RequestKey} {keys : List RequestKey}
      {results : List RequestResult} {i : Journal} → OfCalls w D path j a (key ∷ keys) results i
      → length path < deepest
  nested (one_call {path = path} d less x so rest) = ltb-true (length path) deepest less

  -- the calls of a body give what the meaning gives for them
  resumed : {q : Called} {runs : List RunId} {j : Journal} (x : Within P I A) {first : RequestKey}
      {more : List RequestKey} (go : List RequestResult → Journal →
      Body I A) {results : List RequestResult} {i : Journal} →
      Passes w q runs j (within x (asks first more go))
      → OfCalls w D (x.run ∷ q.path) j j (first ∷ more) results i →
      Passes w q runs (after_calls w x (first ∷ more) go results i).journal
      (stopped_in x.run x.go (after_calls w x (first ∷ more) go results i))
  resumed {q} {runs} {j} x {first} {more} go {results} {i} p asked =
      let d = depth_of (suc (length q.path)) deepest (nested asked) in
      let y = calls-come w D asked d.0 d.1 in
      subst
      (λ a. Passes w q runs (after_calls w x (first ∷ more) go results a).journal
      (stopped_in x.run x.go (after_calls w x (first ∷ more) go results a))) y.3
      (subst
      (λ rs. Passes w q runs (after_calls w x (first ∷ more) go rs y.0.journal).journal
      (stopped_in x.run x.go (after_calls w x (first ∷ more) go rs y.0.journal))) y.2
      (resumes d.0 y.0 p d.1 y.1))

  -- a body that the meaning makes is passed to its end
  through : {q : Called} {runs : List RunId} {path : List RunId} {r : RunId} {j : Journal}
      {so_far : SoFar I} {b : Body I A} {m : Record} {tools : List (ToolUse I)} {i : Journal}
      (go : Record → Journal → Walk P I A) →
      OfBody w D path r j so_far b m tools i → path ≡ r ∷ q.path
      → Passes w q runs (run_on w.tools r b j so_far).journal
      (stopped_in r go (run_on w.tools r b j so_far)) →
      Passes w q (runs ++ r ∷ []) (add i (ended r m)) (walking (go m (add i (ended r m))))
  through go ended_so e p = ends_so p
  through go (acted_one d) e p = through go d e p
  through go (used_tool d) e p = through go d e p
  through {q} go (called_all {path = path} {r = r} {j = j} {i = i} {so_far = so_far} {key = key}
      {keys = keys} {go = then} {results = results} all asked rest) e p =
      through go rest e
      (resumed (record { run = r; so_far = so_far; go = go }) then p
      (subst (λ (ps : List RunId). OfCalls w D ps j j (key ∷ keys) results i) e asked))

  -- where a walk wants a run, the meaning goes on with its record
  wants_passes : {q : Called} {runs : List RunId} {j : Journal} {site other : P} {r : RunId}
      {b : Body I A} {go : Record → Journal → Walk P I A} {path : List RunId} {res : RequestResult}
      {k : Journal} → Closed (Made D) one j →
      ((r : RunId) (m : Record) → In (ended r m) j → Made D r m) → OfWalk w D path j runs
      (wants site r b go) res k → path ≡ q.path → Passes w q runs j (walking (wants other r b go)) →
      (m : Record) × (i : Journal) × Made D r m × Rep (Made D) (replays_run r) j i
      × Passes w q (runs ++ r ∷ []) i (walking (go m i))
  wants_passes {j = j} {r = r} c e (used m h rest) f p = let i = had-in j r m h
      in (m, j, e r m i, old (in-has r m j i), known m p h)
  wants_passes {q} {j = j} {site = site} {r = r} {b = b} {go = go} {path = path} c e
      (made {i = i} {m = m} {tools = tools} n h d t rest) f p = (
        m,
        add i (ended r m),
        (site, j, (tools, t)),
        new h (site, j, (tools, t)) (agree_body w D one d j c none),
        through go d (ap (λ ps. r ∷ ps) f)
            (enters p (none-had j r h) (not-in r q.path (subst (λ ps. In r ps → ⊥) f n))),
      )

  -- by a record of a table that has the meaning's
  uses_passes : (table : Records) → IsOnce table →
      ((r : RunId) (m : Record) → Recorded table r m → Made D r m) →
      (q : Called) (runs : List RunId) (j : Journal) (site other : P) (r : RunId) (b : Body I A)
      (go : Record → Journal → Walk P I A) (g : Goal) (m : Record) (k : Journal) →
      LawfulJournal table j runs → OfWalk w D q.path j runs (wants site r b go) g.res g.journal →
      Made D r m → replay table r j ≡ Some k → Passes w q runs j (walking (wants other r b go)) →
      Passes w q (runs ++ r ∷ []) k (walking (go m k))
  uses_passes table once recorded q runs j site other r b go g m k v x p h at_it =
      let c = closed-made w D one table recorded j runs v in
      let d : Rep (Made D) (replays_run r) j k = rep-map (Recorded table) (Made D) recorded
      (replay-rep table once r j k h) in
      let y = wants_passes c (λ s n i. recorded s n (v.entries s n i)) x refl at_it in
      let mm : y.0 ≡ m = one r y.0 m y.2 p in
      let ik : y.1 ≡ k = rep-one (Made D) one y.3 k d in
      subst (λ n. Passes w q (runs ++ r ∷ []) k (walking (go n k))) mm
      (subst (λ i. Passes w q (runs ++ r ∷ []) i (walking (go y.0 i))) ik y.4)

  -- a run that is made in no journal is made by no caller
  wants_new : (path : List RunId) (j : Journal) (runs : List RunId) (site : P) (r : RunId)
      (b : Body I A) (go : Record → Journal → Walk P I A) (res : RequestResult) (k : Journal) →
      has (end_of r) j ≡ false → OfWalk w D path j runs (wants site r b go) res k →
      is_in r path ≡ false
  wants_new path j runs site r b go res k n (used m h rest) =
      absurd (clash (has (end_of r) j) (in-has r m j (had-in j r m h)) n)
  wants_new path j runs site r b go res k n (made f h d p rest) = not-in r path f

  module _ (B : ℕ → Origin → Journal → Type 0) where
    abbrev called_so : Origin → Journal → Called
    called_so o base = record { key = o.key; path = o.path; base = base }

    -- a request began with a journal, as B says, and the meaning passes where it stands
    pub record PassesFrom (id : ℕ) (q : RequestState P I A) : Type 0 where
      pub base : Journal
      pub began : B id q.origin base
      pub passes : PassesAt w (record { key = q.origin.key; path = q.origin.path; base = base })
          q.runs q.journal q.status

    abbrev pub EachPasses : List (RequestState P I A) → Type 0
    EachPasses requests =
        (id : ℕ) (q : RequestState P I A) → at requests id ≡ Some q → PassesFrom id q

    abbrev pub AllPass : State P I A → Type 0
    AllPass s = EachPasses s.requests

    -- B says so of the requests that are made now
    abbrev pub SaysNew : State P I A → Type 0
    SaysNew t = (id : ℕ) (origin : Origin) (base : Journal)
        → at t.requests id ≡ Some (new_request w origin.parent origin.path base origin.key)
        → GivesJournal t origin.parent base → B id origin base

    put-passes : (requests : List (RequestState P I A)) (id : ℕ) (q z : RequestState P I A) →
        at requests id ≡ Some q → z.origin ≡ q.origin →
        ((base : Journal) → PassesAt w (called_so q.origin base) q.runs q.journal q.status
        → PassesAt w (called_so q.origin base) z.runs z.journal z.status) → EachPasses requests
        → EachPasses (put requests id z)
    put-passes requests id q z e o f v k y h = elim (at-put requests id z k y h) [
      | inl p ↦
          let x = v id q e in
          let here : PassesFrom id z = record {
            base = x.base;
            began = subst (λ (a : Origin). B id a x.base) (sym o) x.began;
            passes = subst
                (λ (a : Origin). PassesAt w (called_so a x.base) z.runs z.journal z.status) (sym o)
                (f x.base x.passes);
          } in
          subst (λ (a : RequestState P I A). PassesFrom k a) p.1 (subst (λ (n : ℕ). PassesFrom n z)
          (sym p.0) here)
      | inr p ↦ v k y p.1
    ]

    assign-passes : (s : State P I A) (id node : ℕ) (q : RequestState P I A)
        (st : Status P I A) (t : State P I A) → AllPass s →
        at s.requests id ≡ Some (with_status q st)
        → assign_at w s id node q st ≡ Some t → AllPass t
    assign-passes s id node q (ready p) t v e h =
        let z : RequestState P I A = with_status q (assigned node p) in
        subst (λ (u : State P I A). AllPass u) (some-is (with_request s id z) t h)
        (put-passes s.requests id (with_status q (ready p)) z e refl (λ base x. x) v)
    assign-passes s id node q _ t v e h = absurd (cc)

    retire-passes : (s : State P I A) (id node : ℕ) (q : RequestState P I A)
        (st : Status P I A) (t : State P I A) → AllPass s →
        at s.requests id ≡ Some (with_status q st)
        → retire_at w s id node q st ≡ Some t → AllPass t
    retire-passes s id node q (assigned by p) t v e h =
        let z : RequestState P I A = with_status q (ready p) in
        subst (λ (u : State P I A). AllPass u) (only_if-some (by == node)
        (with_request s id z) t h).1 (put-passes s.requests id (with_status q
        (assigned by p)) z e refl (λ base x. x) v)
    retire-passes s id node q _ t v e h = absurd (cc)

    claimed-passes : (s : State P I A) (goals : List Goal) (id node : ℕ)
        (earlier : RequestState P I A)
        (site : P) (r : RunId) (b : Body I A) (go : Record → Journal →
        Walk P I A) (kind : ClaimKind) (t : State P I A) → Standing w D one s goals → AllPass s →
        at s.requests id ≡
        Some (with_status earlier (assigned node (walking (wants site r b go)))) →
        claimed w s id node earlier r b go kind ≡ Some t → AllPass t
    claimed-passes s goals id node earlier site r b go Go t k v e h =
        let q : RequestState P I A =
        with_status earlier (assigned node (walking (wants site r b go))) in
        let z : RequestState P I A =
        in_body w (assigned node) earlier r go (run_on w.tools r b earlier.journal nothing_yet) in
        let x = unless-some (is_begun r s.begun)
        (record {
          requests = put s.requests id z;
          begun = record { run = r; by = id }
              ∷ s.begun;
          table = s.table;
          tools_used = s.tools_used;
        }) t h in
        let fresh = unfinished-fresh w s.table earlier.journal earlier.runs r
        (k.lawful.each id q e).journal
        (unbegun-unfinished w s k.lawful r x.0) in
        let g = Paired-some (Stands w D goals) s.requests goals id q k.each e in
        let not_nested : is_in r earlier.origin.path ≡ false =
        wants_new earlier.origin.path earlier.journal earlier.runs site r b go g.0.res g.0.journal
        fresh
        g.1.stands in
        subst (λ (u : State P I A). AllPass u) x.1 (put-passes s.requests id q z e refl
        (λ base p. enters p (none-had earlier.journal r fresh) not_nested) v)
    claimed-passes s goals id node earlier site r b go Use t k v e h =
        let q : RequestState P I A =
        with_status earlier (assigned node (walking (wants site r b go))) in
        let x = and_then-some (found s.table r)
        (λ made. and_then (replay s.table r earlier.journal)
        (λ next. Some (with_request s id (goes_on w (assigned node) earlier r go made next)))) t
        h in
        let y = and_then-some (replay s.table r earlier.journal)
        (λ next. Some (with_request s id (goes_on w (assigned node) earlier r go x.0 next))) t
        x.2 in
        let z : RequestState P I A = goes_on w (assigned node) earlier r go x.0 y.0 in
        let g = Paired-some (Stands w D goals) s.requests goals id q k.each e in
        subst (λ (u : State P I A). AllPass u) (some-is (with_request s id z) t y.2)
        (put-passes s.requests id q z e refl
        (λ base p. uses_passes s.table k.lawful.once k.known (called_so earlier.origin base)
        earlier.runs
        earlier.journal site site r b
        go g.0 x.0 y.0 (k.lawful.each id q e).journal g.1.stands (k.known r x.0 x.1) y.1 p) v)
    claimed-passes s goals id node earlier site r b go Wait t k v e h =
        let next : State P I A = waiting w s id earlier r b go in
        let x = only_if-some
        (may_wait w (is_begun r s.begun) (found s.table r) (is_in_cycle next r)) next t h in
        subst (λ (u : State P I A). AllPass u) x.1
        (put-passes s.requests id (with_status earlier
        (assigned node (walking (wants site r b go)))) (with_status earlier (waits r b go)) e refl
        (λ base p. (site, p)) v)

    claim-passes : (s : State P I A) (goals : List Goal) (id : ℕ) (run : RunId) (kind : ClaimKind)
        (q : RequestState P I A) (st : Status P I A) (t : State P I A) →
        Standing w D one s goals → AllPass s →
        at s.requests id ≡ Some (with_status q st)
        → claim_at w s id run kind q st ≡ Some t → AllPass t
    claim-passes s goals id run kind q (assigned node (walking (wants site r b go))) t k v e
        h =
        let x = and_then-some (only_if (same_run r run) r)
        (λ run. claimed w s id node q run b go kind) t h in
        let y : r ≡ x.0 = (only_if-some (same_run r run) r x.0 x.1).1 in
        claimed-passes s goals id node q site r b go kind t k v e
        (subst (λ n. claimed w s id node q n b go kind ≡ Some t) (sym y) x.2)
    claim-passes s goals id run kind q _ t k v e h = absurd (cc)

    -- calls are made
    request-passes : (s : State P I A) (id : ℕ) (keys : List RequestKey) (q : RequestState P I A)
        (st : Status P I A) (t : State P I A) → AllPass s → SaysNew t →
        at s.requests id ≡ Some (with_status q st)
        → request_at w s id keys q st ≡ Some t → AllPass t
    request-passes s id keys q (assigned node (within x (asks key more go))) t v new_so e h =
        let y = only_if-some (same_keys (key ∷ more) keys
        && is_within_limits w s (x.run ∷ q.origin.path) (key ∷ more))
        (with_children w s id q (key ∷ more) x go) t h in
        subst (λ (u : State P I A). AllPass u) y.1 (each (subst (λ (u : State P I A). SaysNew u)
        (sym y.1) new_so))
      where
        caller : RequestState P I A
        caller = with_status q (assigned node (within x (asks key more go)))

        z : RequestState P I A
        z = with_status q
            (calling (key ∷ more) (numbered_from (length s.requests) (key ∷ more)) x go)

        kids : List (RequestState P I A)
        kids = map (new_request w (Some id) (x.run ∷ q.origin.path) q.journal) (key ∷ more)

        each : SaysNew (with_children w s id q (key ∷ more) x go)
            → AllPass (with_children w s id q (key ∷ more) x go)
        each says k y h = elim (at-append (put s.requests id z) kids k y h) [
          | inl a ↦ put-passes s.requests id caller z e refl (λ base p. (key, more, refl, p)) v k y
              a
          | inr a ↦
              let c = at-map (new_request w (Some id) (x.run ∷ q.origin.path) q.journal)
              (key ∷ more) a.0 y a.1 in
              let origin : Origin = record
              { key = c.0; parent = Some id; path = x.run ∷ q.origin.path } in
              let here : at (put s.requests id z ++ kids) k
              ≡ Some (new_request w (Some id) (x.run ∷ q.origin.path) q.journal c.0) = h
              ∙ ap Some (sym c.2) in
              let from = v id caller e in
              let child : PassesFrom k
              (new_request w (Some id) (x.run ∷ q.origin.path) q.journal c.0) = record {
                base = q.journal;
                began = says k origin q.journal here (
                  z,
                  at-front (put s.requests id z) kids id z
                      (at-put_same s.requests id caller z e),
                  refl,
                );
                passes = call c.0 from.passes (at-in (key ∷ more) a.0 c.0 c.1);
              } in
              subst (λ (u : RequestState P I A). PassesFrom k u) c.2 child
        ]
    request-passes s id keys q _ t v new_so e h = absurd (cc)

    -- a request that waits goes on with the record
    woken-passes : (table : Records) → IsOnce table →
        ((r : RunId) (m : Record) → Recorded table r m → Made D r m) → (run : RunId) (m : Record) →
        Made D run m → (id : ℕ) (q t : RequestState P I A) → LawfulJournal table q.journal q.runs →
        PassesFrom id q → (st : Status P I A) → q.status ≡ st →
        ((r : RunId) (b : Body I A) (go : Record → Journal → Walk P I A) → st ≡ waits r b go →
        (g : Goal) × (site : P)
        × OfWalk w D q.origin.path q.journal q.runs (wants site r b go) g.res g.journal) →
        woken_at w table run m q st ≡ Some t → PassesFrom id t
    woken-passes table once recorded run m p id q t l v (waits r b go) e of h = by_test
        (same_run r run) refl h
      where
        by_test : (y : Bool) → same_run r run ≡ y → woken_if w y table q m r go ≡ Some t
            → PassesFrom id t
        by_test false f h = subst (λ (u : RequestState P I A). PassesFrom id u) (some-is q t h) v
        by_test true f h =
            let y = and_then-some (replay table r q.journal)
            (λ next. Some (goes_on w ready q r go m next)) t h in
            let z : RequestState P I A = goes_on w ready q r go m y.0 in
            let g = of r b go refl in
            let mine : Made D r m = subst (λ n. Made D n m) (sym (same_run-true r run f)) p in
            let there : (site : P) × Passes w (called_so q.origin v.base) q.runs q.journal
            (walking (wants site r b go)) =
            subst (λ (u : Status P I A). PassesAt w (called_so q.origin v.base) q.runs q.journal u)
            e v.passes in
            let woke : PassesFrom id z = record {
              base = v.base;
              began = v.began;
              passes = uses_passes table once recorded (called_so q.origin v.base) q.runs q.journal
                  g.1 there.0 r b go g.0 m y.0 l g.2 mine y.1 there.1;
            } in
            subst (λ (u : RequestState P I A). PassesFrom id u) (some-is z t y.2) woke
    woken-passes table once recorded run m p id q t l v _ e of h =
        subst (λ (u : RequestState P I A). PassesFrom id u) (some-is q t h) v

    -- a run is finished
    finished-passes : (s : State P I A) (goals : List Goal) (id node : ℕ)
        (earlier : RequestState P I A)
        (x : Within P I A) (outcome : Outcome) (t : State P I A)
        (more : List Goal) → Standing w D one s goals → Standing w D one t more → AllPass s →
        at s.requests id ≡ Some (with_status earlier (assigned node (within x (ends outcome))))
        → finished w s id node earlier x (recorded outcome x.so_far.segments) ≡ Some t
        → AllPass t
    finished-passes s goals id node earlier x outcome t more k kt v e h =
        let m : Record = recorded outcome x.so_far.segments in
        let f : FinishedRun = record { run = x.run; made = m } in
        let q : RequestState P I A =
        with_status earlier (assigned node (within x (ends outcome))) in
        let z : RequestState P I A =
        goes_on w (assigned node) earlier x.run x.go m (add earlier.journal (ended x.run m)) in
        let n : found s.table x.run ≡ None = (k.lawful.each id q e).status.1.unfinished in
        let u = and_then-some (traverse (woken w (f ∷ s.table) x.run m) (put s.requests id z))
        (λ requests.
        Some
        (record {
          requests = requests;
          begun = s.begun;
          table = f
              ∷ s.table;
          tools_used = record { run = x.run; tools = x.so_far.tools }
              ∷ s.tools_used;
        })) t h in
        let last : State P I A = record {
          requests = u.0;
          begun = s.begun;
          table = f ∷ s.table;
          tools_used = record { run = x.run; tools = x.so_far.tools } ∷ s.tools_used;
        } in
        let is : last ≡ t = some-is last t u.2 in
        let recorded_so : (r : RunId) (m : Record) → Recorded (f ∷ s.table) r m → Made D r m =
        subst (λ (a : State P I A). (r : RunId) (m : Record) → Recorded a.table r m → Made D r m)
        (sym is) kt.known in
        let mine : Made D x.run m = recorded_so x.run m (found-newest s.table f) in
        let there : EachPasses (put s.requests id z) = put-passes s.requests id q z e refl
        (λ base p. ends_so p) v in
        subst (λ (u : State P I A). AllPass u) is (λ i y a.
        let g = at-traverse (woken w (f ∷ s.table) x.run m) (put s.requests id z) u.0 u.1 i y a in
        elim (at-put s.requests id z i g.0 g.1) [
          | inl b ↦
              let same : Some z ≡ Some y = subst (λ (c : RequestState P I A). woken w
              (f ∷ s.table) x.run m c ≡ Some y) (sym b.1) g.2 in
              subst (λ (c : RequestState P I A). PassesFrom i c) (some-is z y same)
              (subst (λ (c : RequestState P I A). PassesFrom i c) (sym b.1) (there i g.0 g.1))
          | inr b ↦ woken-passes (f ∷ s.table) (n, k.lawful.once) recorded_so x.run m mine i g.0 y
              (journal-grows s.table f n g.0.journal g.0.runs (k.lawful.each i g.0 b.1).journal)
              (v i g.0 b.1) g.0.status refl
              (λ r c go is_so.
              let w_g = Paired-some (Stands w D goals) s.requests goals i g.0 k.each b.1 in
              let left : StandsAt w D goals g.0.origin.path g.0.journal g.0.runs (waits r c go)
              w_g.0 = subst (λ (a : Status P I A). StandsAt w D goals g.0.origin.path g.0.journal
              g.0.runs a w_g.0) is_so w_g.1.stands in
              (w_g.0, left.0, left.1)) g.2
        ])

    result-passes : (s : State P I A) (goals : List Goal) (id : ℕ) (run : RunId)
        (q : RequestState P I A) (st : Status P I A) (t : State P I A) (more : List Goal) →
        Standing w D one s goals → Standing w D one t more → AllPass s →
        at s.requests id ≡ Some (with_status q st) → result_at w s id run q st ≡ Some t
        → AllPass t
    result-passes s goals id run q (assigned node (within x (ends outcome))) t more k kt v e
        h =
        let y = and_then-some (only_if (same_run x.run run) x)
        (λ x. finished w s id node q x (recorded outcome x.so_far.segments)) t h in
        let p : x ≡ y.0 = (only_if-some (same_run x.run run) x y.0 y.1).1 in
        finished-passes s goals id node q x outcome t more k kt v e
        (subst (λ (a : Within P I A). finished w s id node q a
        (recorded outcome a.so_far.segments) ≡ Some t) (sym p) y.2)
    result-passes s goals id run q _ t more k kt v e h = absurd (cc)

    -- a request is over, and then its caller may go on
    answered-passes : (s : State P I A) (goals : List Goal) (id : ℕ) (earlier : RequestState P I A)
        (keys : List RequestKey) (ids : List ℕ) (x : Within P I A)
        (go : List RequestResult → Journal → Body I A) (t : State P I A) →
        Standing w D one s goals → AllPass s →
        at s.requests id ≡ Some (with_status earlier (calling keys ids x go))
        → (replies : Option (List RequestResult)) → results_of w s.requests ids ≡ replies
        → answered w s id earlier keys x go replies ≡ Some t → AllPass t
    answered-passes s goals id earlier keys ids x go t k v e None g h =
        subst (λ (u : State P I A). AllPass u) (some-is s t h) v
    answered-passes s goals id earlier keys ids x go t k v e (Some reply) g h =
        let q : RequestState P I A = with_status earlier (calling keys ids x go) in
        let lq = (k.lawful.each id q e).journal in
        let y = and_then-some (replay_all s.table (runs_of reply) earlier.journal)
        (λ next.
        Some
        (with_request s id
        (in_body w ready earlier x.run x.go
        (run_on w.tools x.run (go reply next) next (with_calls x.so_far keys reply))))) t h in
        let d : Reps (Made D) (map replays_run (runs_of reply)) earlier.journal y.0 = reps-map
        (Recorded s.table)
        (Made D) k.known
        (replay_all-reps s.table k.lawful.once (runs_of reply) earlier.journal y.0 y.1)
        in
        let c = closed-made w D one s.table k.known earlier.journal earlier.runs lq in
        let z : RequestState P I A = in_body w ready earlier x.run x.go (run_on w.tools x.run
        (go reply y.0) y.0 (with_calls x.so_far keys reply)) in
        let b = Paired-some (Stands w D goals) s.requests goals id q k.each e in
        let same : reply ≡ b.1.stands.0 = results_of-match w D one goals s.requests goals k.each ids
        b.1.stands.0 reply b.1.stands.2.matched g in
        subst (λ (u : State P I A). AllPass u) (some-is (with_request s id z) t y.2)
        (put-passes s.requests id q z e refl (λ base p. back b.0 same c d b.1.stands.2 p) v)
      where
        back : {base : Journal} {results : List RequestResult} {i next : Journal} (a : Goal)
            → reply ≡ results → Closed (Made D) one earlier.journal
            → Reps (Made D) (map replays_run (runs_of reply)) earlier.journal next
            → Calling w D goals earlier.origin.path earlier.journal earlier.runs keys ids x go a
            results i →
            (first : RequestKey) × (more : List RequestKey) × (keys ≡ first ∷ more)
            × Passes w (called_so earlier.origin base) earlier.runs earlier.journal
            (within x (asks first more go)) →
            Passes w (called_so earlier.origin base) earlier.runs
            (after_calls w x keys go reply next).journal
            (stopped_in x.run x.go (after_calls w x keys go reply next))
        back {base} {results} {i} {next} a e c d y (first, more, keys_so, p) =
            let d2 : Reps (Made D) (map replays_run (runs_of reply)) earlier.journal i = subst
            (λ (n : List RequestResult). Reps (Made D) (map replays_run (runs_of n)) earlier.journal
            i)
            (sym e) (agree_calls w D one y.asked (λ s h. h) c c) in
            let same : i ≡ next = reps-one (Made D) one d2 next d in
            let asked : OfCalls w D (x.run ∷ earlier.origin.path) earlier.journal earlier.journal
            (first ∷ more)
            reply next =
            subst
            (λ (n : Journal). OfCalls w D (x.run ∷ earlier.origin.path) earlier.journal
            earlier.journal
            (first ∷ more) reply n) same
            (subst
            (λ (n : List RequestResult). OfCalls w D (x.run ∷ earlier.origin.path) earlier.journal
            earlier.journal (first ∷ more) n i)
            (sym e)
            (subst
            (λ (ks : List RequestKey). OfCalls w D (x.run ∷ earlier.origin.path) earlier.journal
            earlier.journal ks results i) keys_so
            y.asked)) in
            subst
            (λ (ks : List RequestKey). Passes w (called_so earlier.origin base) earlier.runs
            (after_calls w x ks go reply next).journal
            (stopped_in x.run x.go (after_calls w x ks go reply next))) (sym keys_so)
            (resumed x go p asked)

    back_at-passes : (s : State P I A) (goals : List Goal) (id : ℕ) (q : RequestState P I A)
        (st : Status P I A) (t : State P I A) → Standing w D one s goals → AllPass s →
        at s.requests id ≡ Some q → q.status ≡ st → resume_at w s id q st ≡ Some t → AllPass t
    back_at-passes s goals id q (calling keys ids x go) t k v e p h =
        answered-passes s goals id q keys ids x go t k v
        (e ∙ ap (λ (a : Status P I A). Some (with_status q a)) p)
        (results_of w s.requests ids) refl h
    back_at-passes s goals id q _ t k v e p h = absurd (cc)

    back_to-passes : (s : State P I A) (goals : List Goal) (parent : Option ℕ) (t : State P I A) →
        Standing w D one s goals → AllPass s → resume_caller w s parent ≡ Some t → AllPass t
    back_to-passes s goals None t k v h = subst (λ (u : State P I A). AllPass u) (some-is s t h) v
    back_to-passes s goals (Some id) t k v h =
        let y = and_then-some (at s.requests id) (λ q. resume_at w s id q q.status) t h in
        back_at-passes s goals id y.0 y.0.status t k v y.1 refl y.2

    done-passes : (s : State P I A) (goals : List Goal) (id : ℕ) (earlier : RequestState P I A)
        (st : Status P I A) (t : State P I A) → Standing w D one s goals →
        AllPass s →
        at s.requests id ≡ Some (with_status earlier st) → done_at w s id earlier st ≡ Some t
        → AllPass t
    done-passes s goals id earlier (assigned node (walking (gives reply))) t k v e h =
        let q : RequestState P I A = with_status earlier (assigned node (walking (gives reply))) in
        let z : RequestState P I A = with_status earlier (done (result_of reply earlier.runs)) in
        let lq = k.lawful.each id q e in
        let zl : Lawful (with_request s id z) = put-lawful s id z k.lawful
        (record { journal = lq.journal; status = lq.journal.runs_in }) in
        let over : Standing w D one (with_request s id z) goals =
        put-stands w D one s goals id q z k e zl
        (λ g x.
        record {
          asked = x.asked;
          stands = gives_so w D one earlier.origin.path earlier.journal earlier.runs reply g.res
              g.journal
              x.stands;
        }) in
        back_to-passes (with_request s id z) goals earlier.origin.parent t over
        (put-passes s.requests id q z e refl (λ base p. (reply, refl, p)) v) h
    done-passes s goals id earlier _ t k v e h = absurd (cc)

    step_of-passes : (s : State P I A) (goals : List Goal) (event : Event) (q : RequestState P I A)
        (t : State P I A) (more : List Goal) → Standing w D one s goals → Standing w D one t more →
        AllPass s → SaysNew t → at s.requests (whose event) ≡ Some q →
        step_of w s event q ≡ Some t → AllPass t
    step_of-passes s goals (Assign id node) q t more k kt v n e h = assign-passes s id node q
        q.status t v e h
    step_of-passes s goals (Claim id run kind) q t more k kt v n e h = claim-passes s goals id run
        kind q q.status t k v e h
    step_of-passes s goals (Request id keys) q t more k kt v n e h = request-passes s id keys
        q q.status t v n e h
    step_of-passes s goals (Result id run) q t more k kt v n e h = result-passes s goals id run
        q q.status t more k kt v e h
    step_of-passes s goals (Done id) q t more k kt v n e h = done-passes s goals id q q.status t k v
        e h
    step_of-passes s goals (Retire id node) q t more k kt v n e h = retire-passes s id node q
        q.status t v e h

module _ {P I A : Type 0} (w : World P I A) (out : Given P I RequestResult) (whole : IsWhole w out)
    (steady : IsSteady out.demand) where
  abbrev AllMeant : List Event → State P I A → Type 0
  AllMeant events s = AllPass w (Contained out) (one_made out steady) (BeganWith w events) s

  began-more : (events : List Event) (event : Event) (id : ℕ) (origin : Origin) (base : Journal)
      → BeganWith w events id origin base → BeganWith w (events ++ event ∷ []) id origin base
  began-more events event id origin base x = record {
    before = x.before;
    later = x.later ++ event ∷ [];
    state = x.state;
    events_so = sym (append_assoc x.before x.later (event ∷ []))
        ∙ ap (λ es. es ++ event ∷ []) x.events_so;
    history = x.history;
    there = x.there;
    given = x.given;
  }

  all-more : (events : List Event) (event : Event) (s : State P I A) → AllMeant events s →
      AllMeant (events ++ event ∷ []) s
  all-more events event s v id q e =
      let x = v id q e in record {
        base = x.base;
        began = began-more events event id q.origin x.base x.began;
        passes =
            x.passes;
      }

  start-meant : AllMeant [] (start w)
  start-meant zero q h =
      let z : RequestState P I A = new_request w None [] [] w.root in
      let here : PassesFrom w (Contained out) (one_made out steady) (BeganWith w []) 0 z = record {
        base = [];
        began = record {
          before = [];
          later = [];
          state = start w;
          events_so = refl;
          history = refl;
          there =
              refl;
          given = refl;
        };
        passes = root;
      } in
      subst (λ (u : RequestState P I A). PassesFrom w (Contained out) (one_made out steady)
      (BeganWith w []) 0 u) (some-is z q h) here
  start-meant (suc id) q h = absurd (cc)

  all-meant : (past events : List Event) (s t : State P I A) → IsHistory w past s →
      AllMeant past s → after_all w s events ≡ Some t → AllMeant (past ++ events) t
  all-meant past [] s t hist v h =
      subst (λ es. AllMeant es t) (sym (append-nil past))
      (subst (λ (u : State P I A). AllMeant past u) (some-is s t h) v)
  all-meant past (event ∷ events) s t hist v h =
      let y = and_then-some (step w s event) (λ next. after_all w next events) t h in
      let z = and_then-some (at s.requests (whose event)) (step_of w s event) y.0 y.1 in
      let now : List Event = past ++ event ∷ [] in
      let hist2 : IsHistory w now y.0 = after-more w past event (start w) s y.0 hist y.1 in
      let k = stands w out whole steady past s hist in
      let k2 = stands w out whole steady now y.0 hist2 in
      let n = step_of-passes w (Contained out) (one_made out steady) (BeganWith w now) s k.0 event
      z.0 y.0 k2.0 k.1 k2.1 (all-more past event s v)
      (λ id origin base there given.
      record {
        before = now;
        later = [];
        state = y.0;
        events_so = append-nil now;
        history = hist2;
        there = there;
        given = given;
      }) z.1 z.2 in
      subst (λ es. AllMeant es t) (append_assoc past (event ∷ []) events)
      (all-meant now events y.0 t hist2 n y.2)

  pub meant : (events : List Event) (s : State P I A) → IsHistory w events s →
      (id : ℕ) (q : RequestState P I A) → at s.requests id ≡ Some q →
      (base : Journal) × BeganWith w events id q.origin base
      × PassesAt w (record { key = q.origin.key; path = q.origin.path; base = base }) q.runs
      q.journal q.status
  meant events s h id q e = let x = all-meant [] events (start w) s refl start-meant h id q e
      in (x.base, x.began, x.passes)
