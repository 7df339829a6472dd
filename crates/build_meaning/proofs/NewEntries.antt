-- What a body does next, and its end, are new in its journal.
use Rattle.std.proofs.Common.{
  ◌≡◌,
  ℕ,
  zero,
  suc,
  ◌+◌,
  ◌<◌,
  ◌≤◌,
  Bool,
  true,
  false,
  ◌&&◌,
  ◌==◌,
  ◌⊎◌,
  inl,
  inr,
  List,
  [],
  ◌∷◌,
  ◌++◌,
  length,
  map,
  Option,
  None,
  Some,
  refl,
  ap,
  sym,
  ◌∙◌,
  subst,
  arith,
}
use Rattle.msb_laws.specs.Asking.{and_then}
use Rattle.msb_laws.specs.Traverse.{traverse}
use Rattle.result_cache.specs.declared.run.RunId.{RunId}
use Rattle.result_cache.specs.declared.request.RequestKey.{RequestKey}
use Rattle.result_cache.specs.declared.request.RequestResult.{RequestResult}
use Rattle.result_cache.specs.declared.record.Record.{Record}
use Rattle.result_cache.specs.declared.record.Segment.{Segment}
use Rattle.result_cache.specs.declared.record.Segment.TheVariants.{File, Call}
use Rattle.result_cache.specs.Same.{same_run, same_keys}
use Rattle.build_meaning.specs.declared.event.Event.{Event}
use Rattle.build_meaning.specs.declared.event.Event.TheVariants.{
  Assign,
  Claim,
  Request,
  Result,
  Done,
  Retire,
}
use Rattle.build_meaning.specs.declared.event.ClaimKind.{ClaimKind}
use Rattle.build_meaning.specs.declared.event.ClaimKind.TheVariants.{Go, Use, Wait}
use Rattle.result_cache.specs.Lists.{In}
use Rattle.build_meaning.specs.Lists.{at, put, numbered_from}
use Rattle.result_cache.specs.Journal.{Journal, Mark, act_of, end_of, acted, ended, has, add}
use Rattle.result_cache.specs.Replay.{
  Effect,
  puts_act,
  replays_run,
  effects_from,
  replay,
  replay_all,
}
use Rattle.result_cache.specs.Table.{FinishedRun, Records, found, BegunRun, is_begun}
use Rattle.build_meaning.specs.World.{World}
use Rattle.build_meaning.specs.Walk.{Walk, gives, wants, Body, makes, does, uses, calls, Outcome}
use Rattle.build_meaning.specs.SoFar.{
  SoFar,
  nothing_yet,
  with_act,
  with_tool,
  with_calls,
  called,
  recorded,
  result_of,
  runs_of,
}
use Rattle.build_meaning.specs.Stop.{Stop, ends, asks, run_on}
use Rattle.build_meaning.specs.State.{
  with_status,
  Within,
  Place,
  walking,
  within,
  Status,
  ready,
  assigned,
  waits,
  calling,
  done,
  Origin,
  RequestState,
  State,
  with_request,
  new_request,
  start,
}
use Rattle.build_meaning.specs.Cycle.{is_in_cycle}
use Rattle.build_meaning.specs.Step.{
  only_if,
  assign_at,
  in_body,
  goes_on,
  waiting,
  may_wait,
  claimed,
  claim_at,
  with_children,
  is_within_limits,
  request_at,
  woken_if,
  woken_at,
  woken,
  finished,
  result_at,
  results_of,
  answered,
  resume_at,
  resume_caller,
  done_at,
  retire_at,
  whose,
  step_of,
  step,
  after_all,
}
use Rattle.build_meaning.specs.History.{IsHistory}
use Rattle.result_cache.proofs.RunTests.{clash, tells, and_then-some}
use Rattle.result_cache.proofs.JournalEntries.{Has, has-add, has-added, of-add}
use Rattle.result_cache.proofs.ReplayRelation.{
  Rep,
  old,
  new,
  puts,
  Reps,
  none,
  also,
  rep-keeps,
  reps-keep,
  Recorded,
}
use Rattle.build_meaning.proofs.ListPlaces.{
  at-put,
  at-append,
  at-map,
  at-traverse,
  at-less,
  put-length,
}
use Rattle.build_meaning.proofs.LawfulStates.{
  IsOnce,
  replay-rep,
  replay_all-reps,
  beginner,
  beginner-grows,
  LawfulStatus,
  Lawful,
}
use Rattle.build_meaning.proofs.EventsKeepLawful.{
  only_if-some,
  unless-some,
  some-is,
  unfinished-fresh,
  put-lawful,
  step-lawful,
  start-lawful,
  all-lawful,
}

length-append : {X : Type 0} (xs ys : List X) → length (xs ++ ys) ≡ length xs + length ys
length-append [] ys = omega arith
length-append (x ∷ xs) ys = let ih : length (xs ++ ys)
    ≡ length xs + length ys = length-append xs ys in omega arith

-- a replay adds only acts of runs that end in it
module _ (P : RunId → Record → Type 0) where
  abbrev pub Acts : Effect → RunId → Type 0
  Acts (puts_act r n p) s = r ≡ s
  Acts (replays_run r) s = ⊥

  abbrev pub WritesOne : List Effect → RunId → Type 0
  WritesOne [] s = ⊥
  WritesOne (x ∷ xs) s = Acts x s ⊎ WritesOne xs s

  behind-runs : (runs : List RunId) (items : List Effect) (s : RunId)
      → WritesOne (map replays_run runs ++ items) s → WritesOne items s
  behind-runs [] items s h = h
  behind-runs (x ∷ runs) items s (inl e) = absurd e
  behind-runs (x ∷ runs) items s (inr e) = behind-runs runs items s e

  own-items : (r s : RunId) (n : ℕ) (segments : List Segment)
      → WritesOne (effects_from r n segments) s → r ≡ s
  own-items r s n [] h = absurd h
  own-items r s n (File p ∷ segments) (inl h) = h
  own-items r s n (File p ∷ segments) (inr h) = own-items r s (suc n) segments h
  own-items r s n (Call key runs ∷ segments) h = own-items r s (suc n) segments
      (behind-runs runs (effects_from r (suc n) segments) s h)

  mutual
    rep-acts : {x : Effect} {j k : Journal} → Rep P x j k → (s : RunId) (n : ℕ) → Has (act_of s n) k
        → Has (act_of s n) j ⊎ (Has (end_of s) k ⊎ Acts x s)
    rep-acts (old h) s n w = inl w
    rep-acts (new {r} {j} {k} {m} h u d) s n w = elim (of-add (act_of s n) k (ended r m) w) [
      | inl e ↦ absurd (cc)
      | inr v ↦ elim (reps-acts d s n v) [
        | inl a ↦ inl a
        | inr a ↦ elim a [
          | inl b ↦ inr (inl (has-add (end_of s) k (ended r m) b))
          | inr b ↦ inr
              (inl
              (subst (λ t. Has (end_of t) (add k (ended r m))) (own-items r s 0 m.segments b)
              (has-added k (ended r m))))
        ]
      ]
    ]
    rep-acts (puts {r} {n} {p} {j}) s i w = elim (of-add (act_of s i) j (acted r n p) w) [
      | inl e ↦ inr (inr (let q : r ≡ s = cc in q))
      | inr v ↦ inl v
    ]

    pub reps-acts : {xs : List Effect} {j k : Journal} → Reps P xs j k → (s : RunId) (n : ℕ)
        → Has (act_of s n) k → Has (act_of s n) j ⊎ (Has (end_of s) k ⊎ WritesOne xs s)
    reps-acts none s n w = inl w
    reps-acts (also d e) s n w = elim (reps-acts e s n w) [
      | inr a ↦ elim a [ inl b ↦ inr (inl b) | inr b ↦ inr (inr (inr b)) ]
      | inl a ↦ elim (rep-acts d s n a) [
        | inl b ↦ inl b
        | inr b ↦ elim b
            [ inl c ↦ inr (inl (reps-keep P e (end_of s) c)) | inr c ↦ inr (inr (inl c)) ]
      ]
    ]

  no-acts : (runs : List RunId) (s : RunId) → WritesOne (map replays_run runs) s → ⊥
  no-acts [] s h = h
  no-acts (r ∷ runs) s (inl e) = e
  no-acts (r ∷ runs) s (inr e) = no-acts runs s e

  pub run-acts : {r : RunId} {j k : Journal} → Rep P (replays_run r) j k → (s : RunId) (n : ℕ)
      → Has (act_of s n) k → Has (act_of s n) j ⊎ Has (end_of s) k
  run-acts d s n w = elim (rep-acts d s n w)
      [ inl a ↦ inl a | inr a ↦ elim a [ inl b ↦ inr b | inr b ↦ absurd b ] ]

  pub runs-acts : (runs : List RunId) {j k : Journal} → Reps P (map replays_run runs) j k
      → (s : RunId) (n : ℕ) → Has (act_of s n) k → Has (act_of s n) j ⊎ Has (end_of s) k
  runs-acts runs d s n w = elim (reps-acts d s n w)
      [ inl a ↦ inl a | inr a ↦ elim a [ inl b ↦ inr b | inr b ↦ absurd (no-acts runs s b) ] ]

-- a body that runs on has done no less
pub run_on-least : {I A : Type 0} (tools : List ℕ → I → A) (r : RunId) (b : Body I A) (j : Journal)
    (so_far : SoFar I) → length so_far.segments ≤ length (run_on tools r b j so_far).so_far.segments
run_on-least tools r (makes outcome) j so_far = same (length so_far.segments)
  where
    same : (n : ℕ) → n ≤ n
    same n = omega arith
run_on-least tools r (does p go) j so_far =
    let k : Journal = add j (acted r (length so_far.segments) p) in
    more (length so_far.segments) (length (with_act so_far p).segments)
    (length (run_on tools r (go k) k (with_act so_far p)).so_far.segments)
    (length-append so_far.segments (File p ∷ []))
    (run_on-least tools r (go k) k (with_act so_far p))
  where
    more : (a b c : ℕ) → b ≡ a + 1 → b ≤ c → a ≤ c
    more a b c e h = omega arith
run_on-least tools r (uses name input go) j so_far = run_on-least tools r (go (tools name input)) j
    (with_tool so_far name input)
run_on-least tools r (calls key keys go) j so_far = same (length so_far.segments)
  where
    same : (n : ℕ) → n ≤ n
    same n = omega arith

act-is : (r s : RunId) (m n : ℕ) → act_of r m ≡ act_of s n → (r ≡ s) × (m ≡ n)
act-is r s m n e = (let p : r ≡ s = cc in p, let q : m ≡ n = cc in q)

-- and it acts at the places after what it had done
pub run_on-acts : {I A : Type 0} (tools : List ℕ → I → A) (r : RunId) (b : Body I A) (j : Journal)
    (so_far : SoFar I) (s : RunId) (n : ℕ) → Has (act_of s n) (run_on tools r b j so_far).journal →
    Has (act_of s n) j ⊎ ((r ≡ s) × (n < length (run_on tools r b j so_far).so_far.segments))
run_on-acts tools r (makes outcome) j so_far s n w = inl w
run_on-acts tools r (does p go) j so_far s n w =
    let k : Journal = add j (acted r (length so_far.segments) p) in
    elim (run_on-acts tools r (go k) k (with_act so_far p) s n w) [
      | inr x ↦ inr x
      | inl x ↦ elim (of-add (act_of s n) j (acted r (length so_far.segments) p) x) [
        | inr y ↦ inl y
        | inl e ↦
            let q = act-is r s (length so_far.segments) n e in
            inr (
              q.0,
              low (length so_far.segments) (length (with_act so_far p).segments)
                  (length (run_on tools r (go k) k (with_act so_far p)).so_far.segments) n
                  (length-append so_far.segments (File p ∷ []))
                  (run_on-least tools r (go k) k (with_act so_far p)) q.1,
            )
      ]
    ]
  where
    low : (a b c n : ℕ) → b ≡ a + 1 → b ≤ c → a ≡ n → n < c
    low a b c n e h g = omega arith
run_on-acts tools r (uses name input go) j so_far s n w = run_on-acts tools r
    (go (tools name input)) j (with_tool so_far name input) s n w
run_on-acts tools r (calls key keys go) j so_far s n w = inl w

module _ {P I A : Type 0} where
  -- an act of the body that a request is in
  abbrev pub OwnPlace : Place P I A → RunId → ℕ → Type 0
  OwnPlace (walking walk) s n = ⊥
  OwnPlace (within x stop) s n = (x.run ≡ s) × (n < length x.so_far.segments)

  abbrev pub Own : Status P I A → RunId → ℕ → Type 0
  Own (ready p) s n = OwnPlace p s n
  Own (assigned node p) s n = OwnPlace p s n
  Own (waits r b go) s n = ⊥
  Own (calling keys ids x go) s n = (x.run ≡ s) × (n < length x.so_far.segments)
  Own (done result) s n = ⊥

  -- each act is of a run that has ended there, or is in the path, or of the body that the request
  -- is in; and what is in the path was begun by requests before
  pub record Known (begun : List BegunRun) (id : ℕ) (q : RequestState P I A) : Type 0 where
    pub acted_by : (s : RunId) (n : ℕ) → Has (act_of s n) q.journal
        → Has (end_of s) q.journal ⊎ (In s q.origin.path ⊎ Own q.status s n)
    pub before : (r : RunId) → In r q.origin.path → (k : ℕ) × (beginner begun r ≡ Some k) × (k < id)

  abbrev pub AllKnown : State P I A → Type 0
  AllKnown s = (id : ℕ) (q : RequestState P I A) → at s.requests id ≡ Some q → Known s.begun id q

  known-begun : (begun : List BegunRun) (b : BegunRun) → is_begun b.run begun ≡ false →
      (id : ℕ) (q : RequestState P I A) → Known begun id q → Known (b ∷ begun) id q
  known-begun begun b n id q v = record {
    acted_by = v.acted_by;
    before = λ r i.
        let y = v.before r i in (y.0, beginner-grows begun b n r y.0 y.1, y.2);
  }

  put-known : (s : State P I A) (begun : List BegunRun) (id : ℕ) (z : RequestState P I A) →
      ((k : ℕ) (q : RequestState P I A) → at s.requests k ≡ Some q → Known begun k q) →
      Known begun id z → (k : ℕ) (q : RequestState P I A) → at (put s.requests id z) k ≡ Some q →
      Known begun k q
  put-known s begun id z v l k q h = elim (at-put s.requests id z k q h) [
    | inl p ↦
        subst (λ n. Known begun n q) (sym p.0)
        (subst (λ (y : RequestState P I A). Known begun id y) p.1 l)
    | inr p ↦ v k q p.1
  ]

  -- a journal that gains what ends in it
  gained : (begun : List BegunRun) (id : ℕ) (q z : RequestState P I A) → Known begun id q →
      z.origin ≡ q.origin → ((s : RunId) (n : ℕ) → Own q.status s n → Has (end_of s) z.journal
      ⊎ Own z.status s n) → ((m : Mark) → Has m q.journal → Has m z.journal) →
      ((s : RunId) (n : ℕ) → Has (act_of s n) z.journal
      → Has (act_of s n) q.journal ⊎ (Has (end_of s) z.journal ⊎ Own z.status s n))
      → Known begun id z
  gained begun id q z v o own keep gains = record {
    acted_by = λ s n w. elim (gains s n w) [
      | inr a ↦ elim a [ inl b ↦ inl b | inr b ↦ inr (inr b) ]
      | inl a ↦ elim (v.acted_by s n a) [
        | inl b ↦ inl (keep (end_of s) b)
        | inr b ↦ elim b [
          | inl c ↦ inr (inl (subst (λ (x : Origin). In s x.path) (sym o) c))
          | inr c ↦ elim (own s n c) [ inl d ↦ inl d | inr d ↦ inr (inr d) ]
        ]
      ]
    ];
    before = λ r i. v.before r (subst (λ (x : Origin). In r x.path) o i);
  }

module _ {P I A : Type 0} (w : World P I A) where
  assign-known : (s : State P I A) (id node : ℕ) (q : RequestState P I A)
      (st : Status P I A) (t : State P I A) → AllKnown s → at s.requests id ≡ Some
      (with_status q st) → assign_at w s id node q st ≡ Some t → AllKnown t
  assign-known s id node q (ready p) t v e h =
      let z : RequestState P I A = with_status q (assigned node p) in
      let k = v id (with_status q (ready p)) e in
      subst (λ (u : State P I A). AllKnown u) (some-is (with_request s id z) t h)
      (put-known s s.begun id z v (record { acted_by = k.acted_by; before = k.before }))
  assign-known s id node q _ t v e h = absurd (cc)

  retire-known : (s : State P I A) (id node : ℕ) (q : RequestState P I A)
      (st : Status P I A) (t : State P I A) → AllKnown s → at s.requests id ≡ Some
      (with_status q st) → retire_at w s id node q st ≡ Some t → AllKnown t
  retire-known s id node q (assigned by p) t v e h =
      let z : RequestState P I A = with_status q (ready p) in
      let k = v id (with_status q (assigned by p)) e in
      subst (λ (u : State P I A). AllKnown u) (only_if-some (by == node)
      (with_request s id z) t h).1 (put-known s s.begun id z v (record {
        acted_by = k.acted_by;
        before = k.before;
      }))
  retire-known s id node q _ t v e h = absurd (cc)

  run_on-keeps : (r : RunId) (b : Body I A) (j : Journal) (so_far : SoFar I) (m : Mark) → Has m j
      → Has m (run_on w.tools r b j so_far).journal
  run_on-keeps r (makes outcome) j so_far m h = h
  run_on-keeps r (does p go) j so_far m h =
      let k : Journal = add j (acted r (length so_far.segments) p) in run_on-keeps r (go k) k
      (with_act so_far p) m (has-add m j (acted r (length so_far.segments) p) h)
  run_on-keeps r (uses name input go) j so_far m h = run_on-keeps r (go (w.tools name input)) j
      (with_tool so_far name input) m h
  run_on-keeps r (calls key keys go) j so_far m h = h

  claimed-known : (s : State P I A) (id node : ℕ) (earlier : RequestState P I A)
      (site : P) (r : RunId) (b : Body I A) (go : Record → Journal → Walk P I A) (kind : ClaimKind)
      (t : State P I A) → Lawful s → AllKnown s →
      at s.requests id ≡ Some (with_status earlier (assigned node (walking (wants site r b go)))) →
      claimed w s id node earlier r b go kind ≡ Some t → AllKnown t
  claimed-known s id node earlier site r b go Go t l v e h =
      let q : RequestState P I A =
      with_status earlier (assigned node (walking (wants site r b go))) in
      let z : RequestState P I A =
      in_body w (assigned node) earlier r go (run_on w.tools r b earlier.journal nothing_yet) in
      let one : BegunRun = record { run = r; by = id } in
      let x = unless-some (is_begun r s.begun)
      (record {
        requests = put s.requests id z;
        begun = one
            ∷ s.begun;
        table = s.table;
        tools_used = s.tools_used;
      }) t h in
      let grown : (k : ℕ) (q : RequestState P I A) → at s.requests k ≡ Some q →
      Known (one ∷ s.begun) k q = λ k q a. known-begun s.begun one x.0 k q (v k q a) in
      let mine : Known (one ∷ s.begun) id z = gained (one ∷ s.begun) id q z (grown id q e) refl
      (λ s n a. absurd a) (run_on-keeps r b earlier.journal nothing_yet)
      (λ s n a. elim (run_on-acts w.tools r b earlier.journal nothing_yet s n a)
      [ inl c ↦ inl c | inr c ↦ inr (inr c) ]) in
      subst (λ (u : State P I A). AllKnown u) x.1 (put-known s (one ∷ s.begun) id z grown mine)
  claimed-known s id node earlier site r b go Use t l v e h =
      let x = and_then-some (found s.table r)
      (λ made. and_then (replay s.table r earlier.journal)
      (λ next. Some (with_request s id (goes_on w (assigned node) earlier r go made next)))) t h
      in
      let y = and_then-some (replay s.table r earlier.journal)
      (λ next. Some (with_request s id (goes_on w (assigned node) earlier r go x.0 next))) t x.2
      in
      let q : RequestState P I A =
      with_status earlier (assigned node (walking (wants site r b go))) in
      let z : RequestState P I A = goes_on w (assigned node) earlier r go x.0 y.0 in
      let d = replay-rep s.table l.once r earlier.journal y.0 y.1 in
      subst (λ (u : State P I A). AllKnown u) (some-is (with_request s id z) t y.2)
      (put-known s s.begun id z v
      (gained s.begun id q z (v id q e) refl (λ s n a. absurd a) (rep-keeps (Recorded s.table) d)
      (λ a n c. elim (run-acts (Recorded s.table) d a n c)
      [ inl u ↦ inl u | inr u ↦ inr (inl u) ])))
  claimed-known s id node earlier site r b go Wait t l v e h =
      let next : State P I A = waiting w s id earlier r b go in
      let x = only_if-some (may_wait w (is_begun r s.begun) (found s.table r) (is_in_cycle next r))
      next t h in
      let k = v id (with_status earlier (assigned node (walking (wants site r b go)))) e in
      subst (λ (u : State P I A). AllKnown u) x.1 (put-known s s.begun id (with_status earlier
      (waits r b go)) v (record { acted_by = k.acted_by; before = k.before }))

  claim-known : (s : State P I A) (id : ℕ) (run : RunId) (kind : ClaimKind) (q : RequestState P I A)
      (st : Status P I A) (t : State P I A) → Lawful s →
      AllKnown s →
      at s.requests id ≡ Some (with_status q st)
      → claim_at w s id run kind q st ≡ Some t → AllKnown t
  claim-known s id run kind q (assigned node (walking (wants site r b go))) t l v e h =
      let x = and_then-some (only_if (same_run r run) r)
      (λ run. claimed w s id node q run b go kind) t h in
      let y : r ≡ x.0 = (only_if-some (same_run r run) r x.0 x.1).1 in
      claimed-known s id node q site r b go kind t l v e
      (subst (λ n. claimed w s id node q n b go kind ≡ Some t) (sym y) x.2)
  claim-known s id run kind q _ t l v e h = absurd (cc)

  request-known : (s : State P I A) (id : ℕ) (keys : List RequestKey) (earlier : RequestState P I A)
      (st : Status P I A) (t : State P I A) → Lawful s → AllKnown s →
      at s.requests id ≡ Some (with_status earlier st) → request_at w s id keys earlier st ≡ Some t
      → AllKnown t
  request-known s id keys earlier (assigned node (within x (asks key more go))) t l v e h =
      let y = only_if-some (same_keys (key ∷ more) keys
      && is_within_limits w s (x.run ∷ earlier.origin.path) (key ∷ more))
      (with_children w s id earlier (key ∷ more) x go) t h in
      let q : RequestState P I A =
      with_status earlier (assigned node (within x (asks key more go))) in
      let z : RequestState P I A = with_status earlier (calling (key ∷ more)
      (numbered_from (length s.requests) (key ∷ more)) x go) in
      let k = v id q e in
      let mine : beginner s.begun x.run ≡ Some id = (l.each id q e).status.1.mine in
      let front = put-known s s.begun id z v (record { acted_by = k.acted_by; before = k.before })
      in
      subst (λ (u : State P I A). AllKnown u) y.1 (λ n c a. elim (at-append (put s.requests id z)
      (map (new_request w (Some id) (x.run ∷ earlier.origin.path) earlier.journal) (key ∷ more)) n c
      a) [
        | inl b ↦ front n c b
        | inr b ↦
            let d = at-map (new_request w (Some id) (x.run ∷ earlier.origin.path) earlier.journal)
            (key ∷ more) b.0 c b.1 in
            let far : id < n = above id (length s.requests) (length (put s.requests id z)) b.0 n
            (at-less s.requests id q e) (put-length s.requests id z) b.2 in
            subst (λ (u : RequestState P I A). Known s.begun n u) d.2 (record {
              acted_by = λ s m f. elim (k.acted_by s m f) [
                | inl g ↦ inl g
                | inr g ↦ inr (inl (elim g [ inl i ↦ inr i | inr i ↦ inl i.0 ]))
              ];
              before = λ r i. elim i [
                | inl p ↦ (id, subst (λ a. beginner s.begun a ≡ Some id) p mine, far)
                | inr i ↦ let u = k.before r i in (u.0, u.1, through u.0 id n u.2 far)
              ];
            })
      ])
    where
      above : (id m p i n : ℕ) → id < m → p ≡ m → n ≡ p + i → id < n
      above id m p i n h e g = omega arith

      through : (k id n : ℕ) → k < id → id < n → k < n
      through k id n h g = omega arith
  request-known s id keys earlier _ t l v e h = absurd (cc)

  woken-known : (begun : List BegunRun) (table : Records) → IsOnce table →
      (run : RunId) (m : Record) (id : ℕ) (q t : RequestState P I A) (st : Status P I A) →
      q.status ≡ st → Known begun id q → woken_at w table run m q st ≡ Some t → Known begun id t
  woken-known begun table once run m id q t (waits r b go) e v h = f (same_run r run) h
    where
      f : (y : Bool) → woken_if w y table q m r go ≡ Some t → Known begun id t
      f false h = subst (λ (u : RequestState P I A). Known begun id u) (some-is q t h) v
      f true h =
          let y = and_then-some (replay table r q.journal)
          (λ next. Some (goes_on w ready q r go m next)) t h in
          let d = replay-rep table once r q.journal y.0 y.1 in
          let z : RequestState P I A = goes_on w ready q r go m y.0 in
          subst (λ (u : RequestState P I A). Known begun id u) (some-is z t y.2)
          (gained begun id q z v refl
          (λ s n a. absurd (subst (λ (x : Status P I A). Own x s n) e a))
          (rep-keeps (Recorded table) d)
          (λ a n c. elim
          (run-acts (Recorded table) d a n c) [ inl u ↦ inl u | inr u ↦ inr (inl u) ]))
  woken-known begun table once run m id q t _ e v h =
      subst (λ (u : RequestState P I A). Known begun id u) (some-is q t h) v

  finished-known : (s : State P I A) (id node : ℕ) (earlier : RequestState P I A)
      (x : Within P I A) (outcome : Outcome) (t : State P I A) → Lawful s → AllKnown s →
      at s.requests id ≡ Some (with_status earlier (assigned node (within x (ends outcome))))
      → finished w s id node earlier x (recorded outcome x.so_far.segments) ≡ Some t
      → AllKnown t
  finished-known s id node earlier x outcome t l v e h =
      let m : Record = recorded outcome x.so_far.segments in
      let fin : FinishedRun = record { run = x.run; made = m } in
      let q : RequestState P I A = with_status earlier (assigned node (within x (ends outcome))) in
      let z : RequestState P I A =
      goes_on w (assigned node) earlier x.run x.go m (add earlier.journal (ended x.run m)) in
      let n : found s.table x.run ≡ None = (l.each id q e).status.1.unfinished in
      let u = and_then-some (traverse (woken w (fin ∷ s.table) x.run m) (put s.requests id z))
      (λ requests.
      Some
      (record {
        requests = requests;
        begun = s.begun;
        table = fin
            ∷ s.table;
        tools_used = record { run = x.run; tools = x.so_far.tools } ∷ s.tools_used;
      }))
      t h in
      let last : State P I A = record {
        requests = u.0;
        begun = s.begun;
        table = fin ∷ s.table;
        tools_used = record { run = x.run; tools = x.so_far.tools } ∷ s.tools_used;
      } in
      let mine : Known s.begun id z = gained s.begun id q z (v id q e) refl
      (λ s k a.
      inl
      (subst (λ b. Has (end_of b) (add earlier.journal (ended x.run m))) a.0
      (has-added earlier.journal (ended x.run m))))
      (λ a. has-add a earlier.journal (ended x.run m))
      (λ s k a. elim (of-add (act_of s k) earlier.journal (ended x.run m) a)
      [ inl c ↦ absurd (cc) | inr c ↦ inl c ]) in
      let front = put-known s s.begun id z v mine in
      subst (λ (u : State P I A). AllKnown u) (some-is last t u.2) (λ k c a.
      let y = at-traverse (woken w (fin ∷ s.table) x.run m) (put s.requests id z) u.0 u.1 k c a in
      woken-known s.begun (fin ∷ s.table) (n, l.once) x.run m k y.0 c y.0.status refl
      (front k y.0 y.1) y.2)

  result-known : (s : State P I A) (id : ℕ) (run : RunId) (q : RequestState P I A)
      (st : Status P I A) (t : State P I A) → Lawful s → AllKnown s →
      at s.requests id ≡ Some (with_status q st) → result_at w s id run q st ≡ Some t
      → AllKnown t
  result-known s id run q (assigned node (within x (ends outcome))) t l v e h =
      let y = and_then-some (only_if (same_run x.run run) x)
      (λ x. finished w s id node q x (recorded outcome x.so_far.segments)) t h in
      let p : x ≡ y.0 = (only_if-some (same_run x.run run) x y.0 y.1).1 in
      finished-known s id node q x outcome t l v e
      (subst (λ (a : Within P I A). finished w s id node q a
      (recorded outcome a.so_far.segments) ≡ Some t) (sym p) y.2)
  result-known s id run q _ t l v e h = absurd (cc)

  answered-known : (s : State P I A) (id : ℕ) (earlier : RequestState P I A)
      (keys : List RequestKey) (ids : List ℕ) (x : Within P I A) (go : List RequestResult →
      Journal → Body I A) (t : State P I A) → Lawful s → AllKnown s →
      at s.requests id ≡ Some (with_status earlier (calling keys ids x go))
      → (reply : Option (List RequestResult))
      → answered w s id earlier keys x go reply ≡ Some t → AllKnown t
  answered-known s id earlier keys ids x go t l v e None h =
      subst (λ (u : State P I A). AllKnown u) (some-is s t h) v
  answered-known s id earlier keys ids x go t l v e (Some results) h =
      let q : RequestState P I A = with_status earlier (calling keys ids x go) in
      let y = and_then-some (replay_all s.table (runs_of results) earlier.journal)
      (λ next.
      Some
      (with_request s id
      (in_body w ready earlier x.run x.go
      (run_on w.tools x.run (go results next) next (with_calls x.so_far keys results))))) t h in
      let d = replay_all-reps s.table l.once (runs_of results) earlier.journal y.0 y.1 in
      let so_far : SoFar I = with_calls x.so_far keys results in
      let z : RequestState P I A =
      in_body w ready earlier x.run x.go (run_on w.tools x.run (go results y.0) y.0 so_far) in
      let longer = run_on-least w.tools x.run (go results y.0) y.0 so_far in
      subst (λ (u : State P I A). AllKnown u) (some-is (with_request s id z) t y.2)
      (put-known s s.begun id z v (gained s.begun id q z (v id q e) refl
      (λ s n a.
      inr (
        a.0,
        low (length x.so_far.segments) (length (called keys results))
            (length so_far.segments)
            (length (run_on w.tools x.run (go results y.0) y.0 so_far).so_far.segments) n a.1
            (length-append x.so_far.segments (called keys results)) longer,
      ))
      (λ m a. run_on-keeps x.run (go results y.0) y.0 so_far m (reps-keep (Recorded s.table) d m a))
      (λ b n a. elim (run_on-acts w.tools x.run (go results y.0) y.0 so_far b n a) [
        | inr c ↦ inr (inr c)
        | inl c ↦ elim (runs-acts (Recorded s.table) (runs_of results) d b n c) [
          | inl f ↦ inl f
          | inr f ↦ inr
              (inl (run_on-keeps x.run (go results y.0) y.0 so_far (end_of b) f))
        ]
      ])))
    where
      low : (a b c d n : ℕ) → n < a → c ≡ a + b → c ≤ d → n < d
      low a b c d n h e g = omega arith

  back_at-known : (s : State P I A) (id : ℕ) (q : RequestState P I A) (st : Status P I A)
      (t : State P I A) → Lawful s → AllKnown s → at s.requests id ≡ Some q → q.status ≡ st →
      resume_at w s id q st ≡ Some t → AllKnown t
  back_at-known s id q (calling keys ids x go) t l v e p h =
      answered-known s id q keys ids x go t l v
      (e ∙ ap (λ (a : Status P I A). Some (with_status q a)) p)
      (results_of w s.requests ids) h
  back_at-known s id q _ t l v e p h = absurd (cc)

  back_to-known : (s : State P I A) (parent : Option ℕ) (t : State P I A) → Lawful s → AllKnown s →
      resume_caller w s parent ≡ Some t → AllKnown t
  back_to-known s None t l v h = subst (λ (u : State P I A). AllKnown u) (some-is s t h) v
  back_to-known s (Some id) t l v h =
      let y = and_then-some (at s.requests id) (λ q. resume_at w s id q q.status) t h in
      back_at-known s id y.0 y.0.status t l v y.1 refl y.2

  done-known : (s : State P I A) (id : ℕ) (earlier : RequestState P I A)
      (st : Status P I A) (t : State P I A) → Lawful s → AllKnown s →
      at s.requests id ≡ Some (with_status earlier st) → done_at w s id earlier st ≡ Some t
      → AllKnown t
  done-known s id earlier (assigned node (walking (gives reply))) t l v e h =
      let z : RequestState P I A = with_status earlier (done (result_of reply earlier.runs)) in
      let q : RequestState P I A = with_status earlier (assigned node (walking (gives reply))) in
      let lq = l.each id q e in
      let k = v id q e in
      back_to-known (with_request s id z) earlier.origin.parent t
      (put-lawful s id z l (record { journal = lq.journal; status = lq.journal.runs_in }))
      (put-known s s.begun id z v (record { acted_by = k.acted_by; before = k.before })) h
  done-known s id earlier _ t l v e h = absurd (cc)

  step_of-known : (s : State P I A) (event : Event) (q : RequestState P I A) (t : State P I A) →
      Lawful s → AllKnown s → at s.requests (whose event) ≡ Some q → step_of w s event q ≡ Some t →
      AllKnown t
  step_of-known s (Assign id node) q t l v e h = assign-known s id node q
      q.status t v e h
  step_of-known s (Claim id run kind) q t l v e h = claim-known s id run kind q q.status t l v e h
  step_of-known s (Request id keys) q t l v e h = request-known s id keys q
      q.status t l v e h
  step_of-known s (Result id run) q t l v e h = result-known s id run q
      q.status t l v e h
  step_of-known s (Done id) q t l v e h = done-known s id q q.status t l v e
      h
  step_of-known s (Retire id node) q t l v e h = retire-known s id node q
      q.status t v e h

  start-known : AllKnown (start w)
  start-known zero q h =
      subst (λ (u : RequestState P I A). Known [] 0 u)
      (some-is (new_request w None [] [] w.root) q h) (record {
        acted_by = λ s n a. absurd (cc);
        before = λ r i. absurd i;
      })
  start-known (suc id) q h = absurd (cc)

  all-known : (events : List Event) (s t : State P I A) → Lawful s → AllKnown s →
      after_all w s events ≡ Some t → AllKnown t
  all-known [] s t l v h = subst (λ (u : State P I A). AllKnown u) (some-is s t h) v
  all-known (event ∷ events) s t l v h =
      let y = and_then-some (step w s event) (λ next. after_all w next events) t h in
      let z = and_then-some (at s.requests (whose event)) (step_of w s event) y.0 y.1 in
      all-known events y.0 t (step-lawful w s event y.0 l y.1)
      (step_of-known s event z.0 y.0 l v z.1 z.2) y.2

  -- what comes next of a body is new
  pub entries_are_new : (events : List Event) (s : State P I A) → IsHistory w events s →
      (id node : ℕ) (q : RequestState P I A) (x : Within P I A) (stop : Stop I A) →
      at s.requests id ≡ Some q → q.status ≡ assigned node (within x stop) →
      (has (end_of x.run) q.journal ≡ false)
      × ((n : ℕ) → length x.so_far.segments ≤ n → has (act_of x.run n) q.journal ≡ false)
  entries_are_new events s h id node q x stop e st =
      let l = all-lawful w events (start w) s (start-lawful w) h in
      let v = all-known events (start w) s (start-lawful w) start-known h id q e in
      let lq = l.each id q e in
      let b =
      (subst (λ (a : Status P I A). LawfulStatus s.begun s.table id q.journal a) st lq.status).1 in
      let fresh = unfinished-fresh w s.table q.journal q.runs x.run lq.journal b.unfinished in (
        fresh,
        λ n g. elim (tells (has (act_of x.run n) q.journal)) [
          | inr a ↦ a
          | inl a ↦ elim (v.acted_by x.run n a) [
            | inl c ↦ absurd (clash (has (end_of x.run) q.journal) c fresh)
            | inr c ↦ elim c [
              | inl d ↦ let y = v.before x.run d in absurd
                  (not_less y.0 id (some-is y.0 id (sym y.1 ∙ b.mine)) y.2)
              | inr d ↦
                  absurd (too_far n (length x.so_far.segments)
                  (subst (λ (a : Status P I A). Own a x.run n) st d).1 g)
            ]
          ]
        ],
      )
    where
      not_less : (k id : ℕ) → k ≡ id → k < id → ⊥
      not_less k id e h = omega arith

      too_far : (n m : ℕ) → n < m → m ≤ n → ⊥
      too_far n m h g = omega arith
