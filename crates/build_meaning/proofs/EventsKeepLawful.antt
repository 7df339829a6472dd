-- Each event keeps a state lawful.
use Rattle.std.proofs.Common.{
  ◌≡◌,
  ℕ,
  zero,
  suc,
  Bool,
  true,
  false,
  ◌&&◌,
  ◌==◌,
  inl,
  inr,
  List,
  [],
  ◌∷◌,
  ◌++◌,
  length,
  map,
  Option,
  None,
  Some,
  refl,
  ap,
  sym,
  ◌∙◌,
  subst,
}
use Rattle.msb_laws.specs.Asking.{and_then}
use Rattle.msb_laws.specs.Traverse.{traverse}
use Rattle.result_cache.specs.declared.run.RunId.{RunId}
use Rattle.result_cache.specs.declared.request.RequestKey.{RequestKey}
use Rattle.result_cache.specs.declared.request.RequestResult.{RequestResult}
use Rattle.result_cache.specs.declared.record.Record.{Record}
use Rattle.result_cache.specs.Same.{same_run, same_keys, is_in}
use Rattle.build_meaning.specs.declared.event.Event.{Event}
use Rattle.build_meaning.specs.declared.event.Event.TheVariants.{
  Assign,
  Claim,
  Request,
  Result,
  Done,
  Retire,
}
use Rattle.build_meaning.specs.declared.event.ClaimKind.{ClaimKind}
use Rattle.build_meaning.specs.declared.event.ClaimKind.TheVariants.{Go, Use, Wait}
use Rattle.build_meaning.specs.Lists.{at, put, numbered_from}
use Rattle.result_cache.specs.Journal.{Journal, end_of, acted, ended, has, add}
use Rattle.result_cache.specs.Replay.{
  Effect,
  puts_act,
  replays_run,
  effects_from,
  effects_of,
  HasAll,
  replay,
  replay_all,
}
use Rattle.result_cache.specs.Table.{FinishedRun, Records, found, BegunRun, is_begun}
use Rattle.result_cache.specs.Lists.{this_or}
use Rattle.build_meaning.specs.World.{World}
use Rattle.build_meaning.specs.Walk.{Walk, gives, wants, Body, makes, does, uses, calls, Outcome}
use Rattle.build_meaning.specs.SoFar.{
  SoFar,
  nothing_yet,
  with_act,
  with_tool,
  with_calls,
  recorded,
  result_of,
  runs_of,
}
use Rattle.build_meaning.specs.Stop.{ends, asks, run_on}
use Rattle.build_meaning.specs.State.{
  with_status,
  Within,
  Place,
  walking,
  within,
  Status,
  ready,
  assigned,
  waits,
  calling,
  done,
  RequestState,
  State,
  with_request,
  new_request,
  start,
}
use Rattle.build_meaning.specs.Cycle.{is_in_cycle}
use Rattle.build_meaning.specs.Step.{
  only_if,
  unless,
  assign_at,
  in_body,
  goes_on,
  waiting,
  may_wait,
  claimed,
  claim_at,
  with_children,
  is_within_limits,
  request_at,
  woken_if,
  woken_at,
  woken,
  finished,
  result_at,
  result_in,
  results_of,
  answered,
  resume_at,
  resume_caller,
  done_at,
  retire_at,
  whose,
  step_of,
  step,
  after_all,
}
use Rattle.result_cache.proofs.RunTests.{
  clash,
  tells,
  or_right,
  or_neither,
  same_run-true,
  same_run-eq,
  and_then-some,
}
use Rattle.result_cache.proofs.JournalEntries.{
  Has,
  has-in,
  has-add,
  has-added,
  HasAll-mono,
  HasAll-append,
  HasAll-in,
  in-add,
}
use Rattle.result_cache.proofs.ReplayRelation.{
  Rep,
  puts,
  Reps,
  none,
  also,
  reps-map,
  rep_all,
  reps_all,
  rep-keeps,
  reps-keep,
  closed-empty,
  closed-add,
  rep-closed,
  reps-closed,
  Recorded,
}
use Rattle.build_meaning.proofs.BuildingReplays.{map-append, reps-acted, reps-calls}
use Rattle.build_meaning.proofs.ListPlaces.{
  at-put,
  at-append,
  at-map,
  at-traverse,
  traverse-length,
  numbered-length,
}
use Rattle.build_meaning.proofs.LawfulStates.{
  one_record,
  ClosedBy,
  IsOnce,
  IsFinished,
  found-newest,
  found-grows,
  replay-rep,
  replay_all-reps,
  beginner,
  beginner-begun,
  beginner-grows,
  beginner-newest,
  LawfulJournal,
  LawfulBody,
  LawfulPlace,
  LawfulStatus,
  LawfulRequest,
  Lawful,
}

pub only_if-some : {X : Type 0} (b : Bool) (x y : X) → only_if b x ≡ Some y → (b ≡ true) × (x ≡ y)
only_if-some true x y h = (refl, let e : x ≡ y = cc in e)
only_if-some false x y h = absurd (cc)

pub unless-some : {X : Type 0} (b : Bool) (x y : X) → unless b x ≡ Some y → (b ≡ false) × (x ≡ y)
unless-some true x y h = absurd (cc)
unless-some false x y h = (refl, let e : x ≡ y = cc in e)

pub some-is : {X : Type 0} (x y : X) → Some x ≡ Some y → x ≡ y
some-is x y h = cc

-- journals
pub journal-replayed : (table : Records) (items : List Effect) (j k : Journal) (runs : List RunId)
    → Reps (Recorded table) items j k → LawfulJournal table j runs → LawfulJournal table k runs
journal-replayed table items j k runs d v = record {
  closed = (reps-closed (Recorded table) (one_record table) d v.closed).1;
  entries = reps_all (Recorded table) (Recorded table) (λ r m u. u) d v.entries;
  runs_in = HasAll-mono (map replays_run runs) j k (reps-keep (Recorded table) d) v.runs_in;
}

runs-in : (runs : List RunId) (r : RunId) (k : Journal) → HasAll (map replays_run runs) k
    → Has (end_of r) k → HasAll (map replays_run (runs ++ r ∷ [])) k
runs-in runs r k h g = subst (λ xs. HasAll xs k) (sym (map-append replays_run runs (r ∷ [])))
    (HasAll-append (map replays_run runs) (replays_run r ∷ []) k h (g, tt))

pub journal-ran : (table : Records) (r : RunId) (j k : Journal) (runs : List RunId)
    → Rep (Recorded table) (replays_run r) j k → LawfulJournal table j runs
    → LawfulJournal table k (runs ++ r ∷ [])
journal-ran table r j k runs d v =
    let c = rep-closed (Recorded table) (one_record table) d v.closed in
    record {
      closed = c.1;
      entries = rep_all (Recorded table) (Recorded table) (λ r m u. u) d v.entries;
      runs_in = runs-in runs r k
          (HasAll-mono (map replays_run runs) j k (rep-keeps (Recorded table) d) v.runs_in) c.0;
    }

pub closed-grows : (table : Records) (f : FinishedRun) → found table f.run ≡ None → (j : Journal)
    → ClosedBy table j → ((r : RunId) → Has (end_of r) j → IsFinished table r)
    → ClosedBy (f ∷ table) j
closed-grows table f n j c e = record {
  has_items = λ r h m p.
      let x = e r h in
      let q : x.0 ≡ m = one_record (f ∷ table) r x.0 m (found-grows table f n r x.0 x.1) p in
      subst (λ y. HasAll (effects_of r y) j) q (c.has_items r h x.0 x.1);
}

pub ended-finished : (table : Records) (j : Journal) (runs : List RunId)
    → LawfulJournal table j runs → (r : RunId) → Has (end_of r) j → IsFinished table r
ended-finished table j runs v r h = let i = has-in r j h in (i.0, v.entries r i.0 i.1)

pub journal-grows : (table : Records) (f : FinishedRun) → found table f.run ≡ None
    → (j : Journal) (runs : List RunId) → LawfulJournal table j runs
    → LawfulJournal (f ∷ table) j runs
journal-grows table f n j runs v = record {
  closed = closed-grows table f n j v.closed (ended-finished table j runs v);
  entries = λ r m i. found-grows table f n r m (v.entries r m i);
  runs_in = v.runs_in;
}

-- the newest run has ended
pub journal-ended : (table : Records) (f : FinishedRun) → found table f.run ≡ None
    → (j : Journal) (runs : List RunId) → LawfulJournal table j runs
    → HasAll (effects_of f.run f.made) j →
    LawfulJournal (f ∷ table) (add j (ended f.run f.made)) (runs ++ f.run ∷ [])
journal-ended table f n j runs v h =
    let g = journal-grows table f n j runs v in
    record {
      closed = closed-add (Recorded (f ∷ table)) (one_record (f ∷ table)) j f.run f.made g.closed
          (found-newest table f) h;
      entries = λ r m i. elim (in-add (ended r m) j (ended f.run f.made) i) [
        | inl e ↦ let p : f.run ≡ r = cc in let q : f.made
            ≡ m = cc in subst (λ x. Recorded (f ∷ table) r x) q
            (subst (λ x. Recorded (f ∷ table) x f.made) p (found-newest table f))
        | inr e ↦ g.entries r m e
      ];
      runs_in = runs-in runs f.run (add j (ended f.run f.made))
          (HasAll-mono (map replays_run runs) j (add j (ended f.run f.made))
          (λ s. has-add s j (ended f.run f.made)) v.runs_in) (has-added j (ended f.run f.made));
    }

-- a body that runs on
pub run_on-adds : {I A : Type 0} (P : RunId → Record → Type 0) (tools : List ℕ → I → A) (r : RunId)
    (b : Body I A) (j : Journal) (so_far : SoFar I) →
    (items : List Effect) × Reps P items j (run_on tools r b j so_far).journal
run_on-adds P tools r (makes outcome) j so_far = ([], none)
run_on-adds P tools r (does p go) j so_far =
    let k : Journal = add j (acted r (length so_far.segments) p) in
    let x = run_on-adds P tools r (go k) k (with_act so_far p)
    in (puts_act r (length so_far.segments) p ∷ x.0, also puts x.1)
run_on-adds P tools r (uses name input go) j so_far = run_on-adds P tools r (go (tools name input))
    j (with_tool so_far name input)
run_on-adds P tools r (calls key keys go) j so_far = ([], none)

pub run_on-reps : {I A : Type 0} (P : RunId → Record → Type 0) (tools : List ℕ → I → A) (r : RunId)
    (b : Body I A) (from j : Journal) (so_far : SoFar I)
    → Reps P (effects_from r 0 so_far.segments) from j →
    Reps P (effects_from r 0 (run_on tools r b j so_far).so_far.segments) from
    (run_on tools r b j so_far).journal
run_on-reps P tools r (makes outcome) from j so_far d = d
run_on-reps P tools r (does p go) from j so_far d =
    let k : Journal = add j (acted r (length so_far.segments) p) in run_on-reps P tools r (go k)
    from k (with_act so_far p) (reps-acted r so_far p d)
run_on-reps P tools r (uses name input go) from j so_far d = run_on-reps P tools r
    (go (tools name input)) from j (with_tool so_far name input) d
run_on-reps P tools r (calls key keys go) from j so_far d = d

module _ {P I A : Type 0} where
  -- one more run is begun
  body-begun : (begun : List BegunRun) (b : BegunRun) → is_begun b.run begun ≡ false →
      (table : Records) (id : ℕ) (j : Journal) (x : Within P I A) →
      (from : Journal) × LawfulBody begun table id j x from
      → (from : Journal) × LawfulBody (b ∷ begun) table id j x from
  body-begun begun b n table id j x (from, v) = (
    from,
    record {
      from_closed = v.from_closed;
      fresh = v.fresh;
      so_far = v.so_far;
      mine = beginner-grows begun
          b n x.run id v.mine;
      unfinished = v.unfinished;
    },
  )

  place-begun : (begun : List BegunRun) (b : BegunRun) → is_begun b.run begun ≡ false →
      (table : Records) (id : ℕ) (j : Journal) (p : Place P I A) → LawfulPlace begun table id j p →
      LawfulPlace (b ∷ begun) table id j p
  place-begun begun b n table id j (walking walk) v = tt
  place-begun begun b n table id j (within x stop) v = body-begun begun b n table id j x v

  status-begun : (begun : List BegunRun) (b : BegunRun) → is_begun b.run begun ≡ false →
      (table : Records) (id : ℕ) (j : Journal) (st : Status P I A) →
      LawfulStatus begun table id j st → LawfulStatus (b ∷ begun) table id j st
  status-begun begun b n table id j (ready p) v = place-begun begun b n table id j p v
  status-begun begun b n table id j (assigned node p) v = place-begun begun b n table id j p v
  status-begun begun b n table id j (waits r body go) v =
      (or_right (same_run b.run r) (is_begun r begun) v.0, v.1)
  status-begun begun b n table id j (calling keys ids x go) v =
      (body-begun begun b n table id j x v.0, v.1)
  status-begun begun b n table id j (done result) v = v

  request-begun : (begun : List BegunRun) (b : BegunRun) → is_begun b.run begun ≡ false →
      (table : Records) (id : ℕ) (q : RequestState P I A) → LawfulRequest begun table id q →
      LawfulRequest (b ∷ begun) table id q
  request-begun begun b n table id q v = record
      { journal = v.journal; status = status-begun begun b n table id q.journal q.status v.status }

  -- one more run is finished, by another request
  body-finished : (begun : List BegunRun) (table : Records) (f : FinishedRun) (by id : ℕ)
      → found table f.run ≡ None → beginner begun f.run ≡ Some by → (id ≡ by → ⊥) →
      (j : Journal) (runs : List RunId) → LawfulJournal table j runs → (x : Within P I A) →
      (from : Journal) × LawfulBody begun table id j x from → (from : Journal) × LawfulBody begun
      (f ∷ table) id j x from
  body-finished begun table f by id n o d j runs g x (from, v) = (
    from,
    record {
      from_closed = closed-grows table f n from v.from_closed
          (λ r h. ended-finished table j runs g r
          (reps-keep (Recorded table) v.so_far (end_of r) h));
      fresh = v.fresh;
      so_far = reps-map (Recorded table) (Recorded (f ∷ table)) (found-grows table f n) v.so_far;
      mine = v.mine;
      unfinished = elim (tells (same_run f.run x.run)) [
        | inl e ↦ absurd
            (d
            (some-is id by
            (sym v.mine ∙ (ap (beginner begun) (sym (same_run-true f.run x.run e)) ∙ o))))
        | inr e ↦ ap (λ b. this_or b (found table x.run) f.made) e ∙ v.unfinished
      ];
    },
  )

  place-finished : (begun : List BegunRun) (table : Records) (f : FinishedRun) (by id : ℕ)
      → found table f.run ≡ None → beginner begun f.run ≡ Some by → (id ≡ by → ⊥) →
      (j : Journal) (runs : List RunId) → LawfulJournal table j runs → (p : Place P I A) →
      LawfulPlace begun table id j p → LawfulPlace begun (f ∷ table) id j p
  place-finished begun table f by id n o d j runs g (walking walk) v = tt
  place-finished begun table f by id n o d j runs g (within x stop) v = body-finished begun table f
      by id n o d j runs g x v

  -- a request that doesn't wait for the run stays, and one that waits goes on with the record
  woken_if-lawful : (w : World P I A) (begun : List BegunRun) (table : Records) (f : FinishedRun)
      (id : ℕ) → found table f.run ≡ None → IsOnce (f ∷ table) →
      (q t : RequestState P I A) (r : RunId) (b : Body I A) (go : Record → Journal → Walk P I A) →
      LawfulRequest begun table id q → q.status ≡ waits r b go → (y : Bool) → same_run r f.run ≡ y
      → woken_if w y (f ∷ table) q f.made r go ≡ Some t → LawfulRequest begun (f ∷ table) id t
  woken_if-lawful w begun table f id n once q t r b go v e true y h =
      let x = and_then-some (replay (f ∷ table) r q.journal)
      (λ next. Some (goes_on w ready q r go f.made next)) t h in
      let z : RequestState P I A = goes_on w ready q r go f.made x.0 in
      let p : z ≡ t = some-is z t x.2 in
      let zl : LawfulRequest begun (f ∷ table) id z = record {
        journal = journal-ran (f ∷ table) r q.journal x.0 q.runs
            (replay-rep (f ∷ table) once r q.journal x.0 x.1)
            (journal-grows table f n q.journal q.runs v.journal);
        status = tt;
      } in
      subst (λ (u : RequestState P I A). LawfulRequest begun (f ∷ table) id u) p zl
  woken_if-lawful w begun table f id n once q t r b go v e false y h =
      let p : q ≡ t = some-is q t h in
      let s : LawfulStatus begun table id q.journal (waits r b go) =
      subst (λ (u : Status P I A). LawfulStatus begun table id q.journal u) e v.status in
      let no : same_run f.run r ≡ false = flip (same_run f.run r) refl in
      let zl : LawfulRequest begun (f ∷ table) id q = record {
        journal = journal-grows table f n q.journal q.runs v.journal;
        status =
            subst (λ (u : Status P I A). LawfulStatus begun (f ∷ table) id q.journal u) (sym e)
            (s.0, ap (λ b. this_or b (found table r) f.made) no ∙ s.1);
      } in
      subst (λ (u : RequestState P I A). LawfulRequest begun (f ∷ table) id u) p zl
    where
      flip : (c : Bool) → same_run f.run r ≡ c → same_run f.run r ≡ false
      flip true k = absurd
          (clash (same_run r f.run) (same_run-eq r f.run (sym (same_run-true f.run r k))) y)
      flip false k = k

  stays-lawful : (begun : List BegunRun) (table : Records) (f : FinishedRun) (id : ℕ) →
      found table f.run ≡ None → (q t : RequestState P I A) → LawfulRequest begun table id q →
      LawfulStatus begun (f ∷ table) id q.journal q.status → Some q ≡ Some t
      → LawfulRequest begun (f ∷ table) id t
  stays-lawful begun table f id n q t v s h =
      subst (λ (u : RequestState P I A). LawfulRequest begun (f ∷ table) id u) (some-is q t h)
      (record { journal = journal-grows table f n q.journal q.runs v.journal; status = s })

  woken_at-lawful : (begun : List BegunRun) (table : Records) (f : FinishedRun) (by id : ℕ) →
      found table f.run ≡ None → IsOnce (f ∷ table) → beginner begun f.run ≡ Some by →
      (id ≡ by → ⊥) → (q t : RequestState P I A) →
      LawfulRequest begun table id q → (w : World P I A) (st : Status P I A) → q.status ≡ st →
      woken_at w (f ∷ table) f.run f.made q st ≡ Some t → LawfulRequest begun (f ∷ table) id t
  woken_at-lawful begun table f by id n once o d q t v w (waits r b go) e h =
      woken_if-lawful w begun table f id n once q t r b go v e (same_run r f.run) refl h
  woken_at-lawful begun table f by id n once o d q t v w (ready p) e h =
      let s : LawfulStatus begun table id q.journal (ready p) =
      subst (λ (u : Status P I A). LawfulStatus begun table id q.journal u) e v.status in
      stays-lawful begun table f id n q t v (subst (λ (u : Status P I A). LawfulStatus begun
      (f ∷ table) id q.journal u) (sym e) (place-finished begun table f by id n o d q.journal q.runs
      v.journal p s)) h
  woken_at-lawful begun table f by id n once o d q t v w (assigned node p) e h =
      let s : LawfulStatus begun table id q.journal (assigned node p) =
      subst (λ (u : Status P I A). LawfulStatus begun table id q.journal u) e v.status in
      stays-lawful begun table f id n q t v (subst (λ (u : Status P I A). LawfulStatus begun
      (f ∷ table) id q.journal u) (sym e) (place-finished begun table f by id n o d q.journal q.runs
      v.journal p s)) h
  woken_at-lawful begun table f by id n once o d q t v w (calling keys ids x go) e h =
      let s : LawfulStatus begun table id q.journal (calling keys ids x go) =
      subst (λ (u : Status P I A). LawfulStatus begun table id q.journal u) e v.status in
      stays-lawful begun table f id n q t v (subst (λ (u : Status P I A). LawfulStatus begun
      (f ∷ table) id q.journal u) (sym e) (
        body-finished begun table f by id n o d q.journal q.runs
            v.journal x s.0,
        s.1,
      )) h
  woken_at-lawful begun table f by id n once o d q t v w (done result) e h =
      let s : HasAll (map replays_run result.runs) q.journal =
      subst (λ (u : Status P I A). LawfulStatus begun table id q.journal u) e v.status in
      stays-lawful begun table f id n q t v (subst (λ (u : Status P I A). LawfulStatus begun
      (f ∷ table) id q.journal u) (sym e) s) h

  -- one request changes
  pub put-lawful : (s : State P I A) (id : ℕ) (z : RequestState P I A) → Lawful s →
      LawfulRequest s.begun s.table id z → Lawful (with_request s id z)
  put-lawful s id z v l = record {
    each = λ k q h. elim (at-put s.requests id z k q h) [
      | inl p ↦
          subst (λ n. LawfulRequest s.begun s.table n q) (sym p.0)
          (subst (λ (y : RequestState P I A). LawfulRequest s.begun s.table id y) p.1 l)
      | inr p ↦ v.each k q p.1
    ];
    ordered = v.ordered;
    once = v.once;
    begun_once = v.begun_once;
    table_begun = v.table_begun;
  }

module _ {P I A : Type 0} (w : World P I A) where
  abbrev pub Moves : (State P I A → Status P I A → Option (State P I A)) → RequestState P I A → ℕ →
      Type 0
  Moves event q id =
      (s t : State P I A) (st : Status P I A) → Lawful s → at s.requests id ≡ Some
      (with_status q st) → event s st ≡ Some t → Lawful t

  assign-lawful : (s : State P I A) (id node : ℕ) (q : RequestState P I A)
      (st : Status P I A) (t : State P I A) → Lawful s →
      at s.requests id ≡ Some (with_status q st) → assign_at w s id node q st ≡ Some t
      → Lawful t
  assign-lawful s id node q (ready p) t v e h =
      let z : RequestState P I A = with_status q (assigned node p) in
      let l = v.each id (with_status q (ready p)) e in
      subst (λ (u : State P I A). Lawful u) (some-is (with_request s id z) t h) (put-lawful s id z v
      (record { journal = l.journal; status = l.status }))
  assign-lawful s id node q _ t v e h = absurd (cc)

  retire-lawful : (s : State P I A) (id node : ℕ) (q : RequestState P I A)
      (st : Status P I A) (t : State P I A) → Lawful s →
      at s.requests id ≡ Some (with_status q st) → retire_at w s id node q st ≡ Some t
      → Lawful t
  retire-lawful s id node q (assigned by p) t v e h =
      let z : RequestState P I A = with_status q (ready p) in
      let l = v.each id (with_status q (assigned by p)) e in
      subst (λ (u : State P I A). Lawful u) (only_if-some (by == node) (with_request s id z) t h).1
      (put-lawful s id z v (record { journal = l.journal; status = l.status }))
  retire-lawful s id node q _ t v e h = absurd (cc)

  -- a run is begun
  pub unbegun-unfinished : (s : State P I A) → Lawful s → (r : RunId) → is_begun r s.begun ≡ false →
      found s.table r ≡ None
  unbegun-unfinished s v r n = go (found s.table r) refl
    where
      go : (o : Option Record) → found s.table r ≡ o → found s.table r ≡ None
      go None h = h
      go (Some m) h = absurd (clash (is_begun r s.begun) (v.table_begun r m h) n)

  pub unfinished-fresh : (table : Records) (j : Journal) (runs : List RunId) (r : RunId)
      → LawfulJournal table j runs → found table r ≡ None → has (end_of r) j ≡ false
  unfinished-fresh table j runs r v n = elim (tells (has (end_of r) j)) [
    | inl h ↦ let x = ended-finished table j runs v r h in absurd
        (let e : Some x.0 ≡ None = sym x.1 ∙ n in cc)
    | inr h ↦ h
  ]

  distinct-begun : (begun : List BegunRun) (r : RunId) → is_begun r begun ≡ false
      → is_in r (map (λ (b : BegunRun). b.run) begun) ≡ false
  distinct-begun [] r h = refl
  distinct-begun (b ∷ begun) r h = let x = or_neither (same_run b.run r) (is_begun r begun) h in rw
      (x.0, distinct-begun begun r x.1)

  begin-lawful : (s : State P I A) (id node : ℕ) (old : RequestState P I A)
      (site : P) (r : RunId) (b : Body I A) (go : Record → Journal → Walk P I A) → Lawful s →
      at s.requests id ≡ Some (with_status old (assigned node (walking (wants site r b go)))) →
      is_begun r s.begun ≡ false →
      Lawful
      (record {
        requests = put s.requests id
            (in_body w (assigned node) old r go (run_on w.tools r b old.journal nothing_yet));
        begun = record
            { run = r; by = id } ∷ s.begun;
        table = s.table;
        tools_used = s.tools_used;
      })
  begin-lawful s id node old site r b go v e n =
      let new_one : BegunRun = record { run = r; by = id } in
      let l = v.each id (with_status old (assigned node (walking (wants site r b go)))) e in
      let none_yet = unbegun-unfinished s v r n in
      let added = run_on-adds (Recorded s.table) w.tools r b old.journal nothing_yet in
      record {
        each = λ k q h.
            elim
            (at-put s.requests id
            (in_body w (assigned node) old r go
            (run_on w.tools r b old.journal nothing_yet)) k q h) [
              | inl p ↦
                  subst (λ n. LawfulRequest (new_one ∷ s.begun) s.table n q) (sym p.0)
                  (subst
                  (λ (y : RequestState P I A). LawfulRequest (new_one ∷ s.begun) s.table id y)
                  p.1 (record {
                    journal = journal-replayed s.table added.0 old.journal
                        (run_on w.tools r b old.journal nothing_yet).journal old.runs added.1
                        l.journal;
                    status = (
                      old.journal,
                      record {
                        from_closed = l.journal.closed;
                        fresh = unfinished-fresh s.table old.journal old.runs r l.journal none_yet;
                        so_far = run_on-reps (Recorded s.table) w.tools r b old.journal old.journal
                            nothing_yet none;
                        mine = beginner-newest s.begun new_one;
                        unfinished = none_yet;
                      },
                    );
                  }))
              | inr p ↦ request-begun s.begun new_one n s.table k q (v.each k q p.1)
            ];
        ordered = v.ordered;
        once = v.once;
        begun_once = (distinct-begun s.begun r n, v.begun_once);
        table_begun = λ x m h. or_right (same_run r x) (is_begun x s.begun) (v.table_begun x m h);
      }

  pub may_wait-so : (a : Bool) (o : Option Record) (c : Bool) → may_wait w a o c ≡ true
      → (a ≡ true) × (o ≡ None) × (c ≡ false)
  may_wait-so true None false h = (refl, refl, refl)
  may_wait-so true None true h = absurd (cc)
  may_wait-so true (Some m) c h = absurd (cc)
  may_wait-so false o c h = absurd (cc)

  claimed-lawful : (s : State P I A) (id node : ℕ) (q : RequestState P I A)
      (site : P) (r : RunId) (b : Body I A) (go : Record → Journal → Walk P I A) (kind : ClaimKind)
      (t : State P I A) → Lawful s →
      at s.requests id ≡ Some (with_status q (assigned node (walking (wants site r b go)))) →
      claimed w s id node q r b go kind ≡ Some t → Lawful t
  claimed-lawful s id node q site r b go Go t v e h =
      let x = unless-some (is_begun r s.begun)
      (record {
        requests = put s.requests id
            (in_body w (assigned node) q r go (run_on w.tools r b q.journal nothing_yet));
        begun = record
            { run = r; by = id } ∷ s.begun;
        table = s.table;
        tools_used = s.tools_used;
      }) t h in
      subst (λ (u : State P I A). Lawful u) x.1
      (begin-lawful s id node q site r b go v e x.0)
  claimed-lawful s id node q site r b go Use t v e h =
      let x = and_then-some (found s.table r)
      (λ made. and_then (replay s.table r q.journal)
      (λ next. Some (with_request s id (goes_on w (assigned node) q r go made next)))) t h
      in
      let y = and_then-some (replay s.table r q.journal)
      (λ next. Some (with_request s id (goes_on w (assigned node) q r go x.0 next))) t x.2
      in
      let z : RequestState P I A = goes_on w (assigned node) q r go x.0 y.0 in
      let l = v.each id (with_status q (assigned node (walking (wants site r b go)))) e in
      subst (λ (u : State P I A). Lawful u) (some-is (with_request s id z) t y.2)
      (put-lawful s id z v
      (record {
        journal = journal-ran s.table r q.journal y.0 q.runs
            (replay-rep s.table v.once r q.journal y.0 y.1)
            l.journal;
        status = tt;
      }))
  claimed-lawful s id node q site r b go Wait t v e h =
      let next : State P I A = waiting w s id q r b go in
      let x = only_if-some (may_wait w (is_begun r s.begun) (found s.table r) (is_in_cycle next r))
      next t h in
      let y = may_wait-so (is_begun r s.begun) (found s.table r) (is_in_cycle next r) x.0 in
      let l = v.each id (with_status q (assigned node (walking (wants site r b go)))) e in
      subst (λ (u : State P I A). Lawful u) x.1
      (put-lawful s id (with_status q (waits r b go)) v (record {
        journal = l.journal;
        status = (y.0, y.1);
      }))

  claim-lawful : (s : State P I A) (id : ℕ) (run : RunId) (kind : ClaimKind)
      (q : RequestState P I A) (st : Status P I A) (t : State P I A) → Lawful s →
      at s.requests id ≡ Some (with_status q st)
      → claim_at w s id run kind q st ≡ Some t → Lawful t
  claim-lawful s id run kind q (assigned node (walking (wants site r b go))) t v e h =
      let x = and_then-some (only_if (same_run r run) r)
      (λ run. claimed w s id node q run b go kind) t h in
      let y : r ≡ x.0 = (only_if-some (same_run r run) r x.0 x.1).1 in
      claimed-lawful s id node q site r b go kind t v e
      (subst (λ n. claimed w s id node q n b go kind ≡ Some t) (sym y) x.2)
  claim-lawful s id run kind q _ t v e h = absurd (cc)

  -- calls are made
  children-lawful : (s : State P I A) (id : ℕ) (old : RequestState P I A)
      (keys : List RequestKey) (x : Within P I A) (go : List RequestResult → Journal → Body I A) →
      Lawful s →
      LawfulJournal s.table old.journal old.runs
      → (from : Journal) × LawfulBody s.begun s.table id old.journal x from
      → Lawful (with_children w s id old keys x go)
  children-lawful s id old keys x go v l b =
      let z : RequestState P I A =
      with_status old (calling keys (numbered_from (length s.requests) keys) x go) in
      let p = put-lawful s id z v
      (record { journal = l; status = (b, sym (numbered-length (length s.requests) keys)) }) in
      record {
        each = λ k q h.
            elim
            (at-append (put s.requests id z)
            (map (new_request w (Some id) (x.run ∷ old.origin.path) old.journal) keys)
            k q h) [
              | inl a ↦ p.each k q a
              | inr a ↦
                  let c = at-map (new_request w (Some id) (x.run ∷ old.origin.path) old.journal)
                  keys a.0 q a.1 in
                  subst (λ (y : RequestState P I A). LawfulRequest s.begun s.table k y) c.2
                  (record {
                    journal = record { closed = l.closed; entries = l.entries; runs_in = tt };
                    status = tt;
                  })
            ];
        ordered = v.ordered;
        once = v.once;
        begun_once = v.begun_once;
        table_begun = v.table_begun;
      }

  request-lawful : (s : State P I A) (id : ℕ) (keys : List RequestKey) (q : RequestState P I A)
      (st : Status P I A) (t : State P I A) → Lawful s →
      at s.requests id ≡ Some (with_status q st) → request_at w s id keys q st ≡ Some t
      → Lawful t
  request-lawful s id keys q (assigned node (within x (asks key more go))) t v e h =
      let y = only_if-some (same_keys (key ∷ more) keys
      && is_within_limits w s (x.run ∷ q.origin.path) (key ∷ more))
      (with_children w s id q (key ∷ more) x go) t h in
      let l = v.each id (with_status q (assigned node (within x (asks key more go)))) e in
      subst (λ (u : State P I A). Lawful u) y.1 (children-lawful s id q
      (key ∷ more) x go v l.journal l.status)
  request-lawful s id keys q _ t v e h = absurd (cc)

  -- a run is finished
  finished-lawful : (s : State P I A) (id node : ℕ) (old : RequestState P I A)
      (x : Within P I A) (outcome : Outcome) (t : State P I A) → Lawful s →
      at s.requests id ≡ Some (with_status old (assigned node (within x (ends outcome))))
      → finished w s id node old x (recorded outcome x.so_far.segments) ≡ Some t → Lawful t
  finished-lawful s id node old x outcome t v e h =
      let m : Record = recorded outcome x.so_far.segments in
      let f : FinishedRun = record { run = x.run; made = m } in
      let z : RequestState P I A =
      goes_on w (assigned node) old x.run x.go m (add old.journal (ended x.run m)) in
      let l = v.each id (with_status old (assigned node (within x (ends outcome)))) e in
      let b = l.status.1 in
      let n : found s.table x.run ≡ None = b.unfinished in
      let c = reps-closed (Recorded s.table) (one_record s.table) b.so_far b.from_closed in
      let u = and_then-some (traverse (woken w (f ∷ s.table) x.run m) (put s.requests id z))
      (λ requests.
      Some
      (record {
        requests = requests;
        begun = s.begun;
        table = f
            ∷ s.table;
        tools_used = record { run = x.run; tools = x.so_far.tools } ∷ s.tools_used;
      }))
      t h in
      let last : State P I A = record {
        requests = u.0;
        begun = s.begun;
        table = f ∷ s.table;
        tools_used = record { run = x.run; tools = x.so_far.tools } ∷ s.tools_used;
      } in
      subst (λ (u : State P I A). Lawful u) (some-is last t u.2) (record {
        each = λ k q a.
            let y = at-traverse (woken w (f ∷ s.table) x.run m) (put s.requests id z) u.0 u.1 k q a
            in
            elim (at-put s.requests id z k y.0 y.1) [
              | inl p ↦
                  let zy : Some z ≡ Some q = subst (λ (g : RequestState P I A). woken w
                  (f ∷ s.table) x.run m g ≡ Some q) (sym p.1) y.2 in
                  subst (λ n. LawfulRequest s.begun (f ∷ s.table) n q) (sym p.0)
                  (subst (λ (g : RequestState P I A). LawfulRequest s.begun (f ∷ s.table) id g)
                  (some-is z q zy)
                  (record {
                    journal = journal-ended s.table f n old.journal old.runs l.journal c.0;
                    status =
                        tt;
                  }))
              | inr p ↦ woken_at-lawful s.begun s.table f id k n (n, v.once) b.mine p.0 y.0 q
                  (v.each k y.0 p.1) w y.0.status refl y.2
            ];
        ordered = (
          (λ r i. ended-finished s.table old.journal old.runs l.journal r
              (HasAll-in (effects_of x.run m) old.journal (replays_run r) c.0 i)),
          v.ordered,
        );
        once = (n, v.once);
        begun_once = v.begun_once;
        table_begun = λ r m2 g. elim (tells (same_run x.run r)) [
          | inl p ↦ beginner-begun s.begun r id
              (subst (λ a. beginner s.begun a ≡ Some id) (same_run-true x.run r p) b.mine)
          | inr p ↦ v.table_begun r m2 (sym (ap (λ b. this_or b (found s.table r) m) p) ∙ g)
        ];
      })

  result-lawful : (s : State P I A) (id : ℕ) (run : RunId) (q : RequestState P I A)
      (st : Status P I A) (t : State P I A) → Lawful s →
      at s.requests id ≡ Some (with_status q st) → result_at w s id run q st ≡ Some t
      → Lawful t
  result-lawful s id run q (assigned node (within x (ends outcome))) t v e h =
      let y = and_then-some (only_if (same_run x.run run) x)
      (λ x. finished w s id node q x (recorded outcome x.so_far.segments)) t h in
      let p : x ≡ y.0 = (only_if-some (same_run x.run run) x y.0 y.1).1 in
      finished-lawful s id node q x outcome t v e
      (subst (λ (a : Within P I A). finished w s id node q a
      (recorded outcome a.so_far.segments) ≡ Some t) (sym p) y.2)
  result-lawful s id run q _ t v e h = absurd (cc)

  -- a request is over
  answered-lawful : (s : State P I A) (id : ℕ) (old : RequestState P I A)
      (keys : List RequestKey) (ids : List ℕ) (x : Within P I A) (go : List RequestResult →
      Journal → Body I A) (t : State P I A) → Lawful s →
      at s.requests id ≡ Some (with_status old (calling keys ids x go))
      → (found : Option (List RequestResult)) → results_of w s.requests ids ≡ found
      → answered w s id old keys x go found ≡ Some t → Lawful t
  answered-lawful s id old keys ids x go t v e None g h =
      subst (λ (u : State P I A). Lawful u) (some-is s t h) v
  answered-lawful s id old keys ids x go t v e (Some results) g h =
      let l = v.each id (with_status old (calling keys ids x go)) e in
      let b = l.status.0.1 in
      let y = and_then-some (replay_all s.table (runs_of results) old.journal)
      (λ next.
      Some
      (with_request s id
      (in_body w ready old x.run x.go
      (run_on w.tools x.run (go results next) next (with_calls x.so_far keys results))))) t h in
      let d = replay_all-reps s.table v.once (runs_of results) old.journal y.0 y.1 in
      let k = run_on w.tools x.run (go results y.0) y.0 (with_calls x.so_far keys results) in
      let added = run_on-adds (Recorded s.table) w.tools x.run (go results y.0) y.0
      (with_calls x.so_far keys results) in
      let z : RequestState P I A = in_body w ready old x.run x.go k in
      let many : length keys ≡ length results = l.status.1
      ∙ traverse-length (λ id. and_then (at s.requests id) (λ q. result_in w q.status)) ids
      results g in
      subst (λ (u : State P I A). Lawful u) (some-is (with_request s id z) t y.2)
      (put-lawful s id z v (record {
        journal = journal-replayed s.table added.0 y.0 k.journal old.runs added.1
            (journal-replayed s.table (map replays_run (runs_of results)) old.journal y.0 old.runs d
            l.journal);
        status = (
          l.status.0.0,
          record {
            from_closed = b.from_closed;
            fresh = b.fresh;
            so_far = run_on-reps (Recorded s.table) w.tools x.run (go results y.0) l.status.0.0 y.0
                (with_calls x.so_far keys results)
                (reps-calls x.run x.so_far keys results many b.so_far d);
            mine = b.mine;
            unfinished = b.unfinished;
          },
        );
      }))

  back_at-lawful : (s : State P I A) (id : ℕ) (q : RequestState P I A) (st : Status P I A)
      (t : State P I A) → Lawful s → at s.requests id ≡ Some q → q.status ≡ st →
      resume_at w s id q st ≡ Some t → Lawful t
  back_at-lawful s id q (calling keys ids x go) t v e p h =
      answered-lawful s id q keys ids x go t v
      (e ∙ ap (λ (a : Status P I A). Some (with_status q a)) p)
      (results_of w s.requests ids) refl h
  back_at-lawful s id q _ t v e p h = absurd (cc)

  back_to-lawful : (s : State P I A) (parent : Option ℕ) (t : State P I A) → Lawful s →
      resume_caller w s parent ≡ Some t → Lawful t
  back_to-lawful s None t v h = subst (λ (u : State P I A). Lawful u) (some-is s t h) v
  back_to-lawful s (Some id) t v h =
      let y = and_then-some (at s.requests id) (λ q. resume_at w s id q q.status) t h in
      back_at-lawful s id y.0 y.0.status t v y.1 refl y.2

  done-lawful : (s : State P I A) (id : ℕ) (q : RequestState P I A)
      (st : Status P I A) (t : State P I A) → Lawful s →
      at s.requests id ≡ Some (with_status q st) → done_at w s id q st ≡ Some t
      → Lawful t
  done-lawful s id q (assigned node (walking (gives reply))) t v e h =
      let z : RequestState P I A = with_status q (done (result_of reply q.runs)) in
      let l = v.each id (with_status q (assigned node (walking (gives reply)))) e in
      back_to-lawful (with_request s id z) q.origin.parent t
      (put-lawful s id z v (record { journal = l.journal; status = l.journal.runs_in })) h
  done-lawful s id q _ t v e h = absurd (cc)

  pub step_of-lawful : (s : State P I A) (event : Event) (q : RequestState P I A)
      (t : State P I A) → Lawful s → at s.requests (whose event) ≡ Some q →
      step_of w s event q ≡ Some t → Lawful t
  step_of-lawful s (Assign id node) q t v e h = assign-lawful s id node q
      q.status t v e h
  step_of-lawful s (Claim id run kind) q t v e h = claim-lawful s id run kind q q.status t v e h
  step_of-lawful s (Request id keys) q t v e h = request-lawful s id keys q
      q.status t v e h
  step_of-lawful s (Result id run) q t v e h = result-lawful s id run q
      q.status t v e h
  step_of-lawful s (Done id) q t v e h = done-lawful s id q q.status t v e h
  step_of-lawful s (Retire id node) q t v e h = retire-lawful s id node q
      q.status t v e h

  pub step-lawful : (s : State P I A) (event : Event) (t : State P I A) → Lawful s →
      step w s event ≡ Some t → Lawful t
  step-lawful s event t v h =
      let y = and_then-some (at s.requests (whose event)) (step_of w s event) t h in
      step_of-lawful s event y.0 t v y.1 y.2

  pub start-lawful : Lawful (start w)
  start-lawful = record {
    each = λ id q h. first id q h;
    ordered = tt;
    once = tt;
    begun_once = tt;
    table_begun = λ r m h. absurd (cc);
  }
    where
      first : (id : ℕ) (q : RequestState P I A) →
          at (new_request w None [] [] w.root ∷ []) id ≡ Some q → LawfulRequest [] [] id q
      first zero q h =
          subst (λ (y : RequestState P I A). LawfulRequest [] [] 0 y)
          (some-is (new_request w None [] [] w.root) q h)
          (record {
            journal = record {
              closed = closed-empty (Recorded []) (one_record []);
              entries = λ r m i.
                  absurd i;
              runs_in = tt;
            };
            status = tt;
          })
      first (suc id) q h = absurd (cc)

  pub all-lawful : (events : List Event) (s t : State P I A) → Lawful s →
      after_all w s events ≡ Some t → Lawful t
  all-lawful [] s t v h = subst (λ (u : State P I A). Lawful u) (some-is s t h) v
  all-lawful (event ∷ events) s t v h =
      let y = and_then-some (step w s event) (λ next. after_all w next events) t h in
      all-lawful events y.0 t (step-lawful s event y.0 v y.1) y.2
