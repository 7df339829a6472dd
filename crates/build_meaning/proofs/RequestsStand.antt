-- Where each request of a history of a steady world stands: what is left of it gives what the
-- meaning gives at its place.
use Rattle.std.proofs.Common.{
  ◌≡◌,
  ℕ,
  suc,
  Bool,
  true,
  false,
  ◌&&◌,
  ◌==◌,
  inl,
  inr,
  List,
  [],
  ◌∷◌,
  ◌++◌,
  length,
  map,
  Option,
  None,
  Some,
  refl,
  ap,
  sym,
  ◌∙◌,
  subst,
  append_assoc,
}
use Rattle.msb_laws.specs.Asking.{and_then}
use Rattle.msb_laws.specs.Traverse.{traverse}
use Rattle.msb_values.specs.declared.act.Act.{Act}
use Rattle.result_cache.specs.declared.run.RunId.{RunId}
use Rattle.result_cache.specs.declared.request.RequestKey.{RequestKey}
use Rattle.result_cache.specs.declared.request.RequestResult.{RequestResult}
use Rattle.result_cache.specs.declared.record.Record.{Record}
use Rattle.result_cache.specs.Same.{same_run, same_keys}
use Rattle.build_meaning.specs.declared.event.Event.{Event}
use Rattle.build_meaning.specs.declared.event.Event.TheVariants.{
  Assign,
  Claim,
  Request,
  Result,
  Done,
  Retire,
}
use Rattle.build_meaning.specs.declared.event.ClaimKind.{ClaimKind}
use Rattle.build_meaning.specs.declared.event.ClaimKind.TheVariants.{Go, Use, Wait}
use Rattle.result_cache.specs.Lists.{In, this_or}
use Rattle.build_meaning.specs.Lists.{at, put, numbered_from, Paired}
use Rattle.result_cache.specs.Journal.{Journal, end_of, acted, ended, has, add}
use Rattle.result_cache.specs.Replay.{replays_run, effects_of, HasAll, replay, replay_all}
use Rattle.result_cache.specs.Table.{FinishedRun, Records, found, is_begun}
use Rattle.build_meaning.specs.World.{World}
use Rattle.build_meaning.specs.Walk.{
  Walk,
  gives,
  wants,
  Body,
  makes,
  does,
  uses,
  calls,
  Outcome,
  Reply,
}
use Rattle.build_meaning.specs.SoFar.{
  ToolUse,
  SoFar,
  nothing_yet,
  with_act,
  with_tool,
  with_calls,
  recorded,
  result_of,
  runs_of,
}
use Rattle.build_meaning.specs.Meaning.{Demanded, requested, built}
use Rattle.build_meaning.specs.Stop.{ends, asks, run_on}
use Rattle.build_meaning.specs.State.{
  with_status,
  Within,
  walking,
  within,
  Status,
  ready,
  assigned,
  waits,
  calling,
  done,
  RequestState,
  ToolsUsed,
  State,
  with_request,
  new_request,
  start,
}
use Rattle.build_meaning.specs.Cycle.{is_in_cycle}
use Rattle.build_meaning.specs.Step.{
  only_if,
  assign_at,
  in_body,
  goes_on,
  waiting,
  may_wait,
  claimed,
  claim_at,
  with_children,
  is_within_limits,
  request_at,
  woken_if,
  woken_at,
  woken,
  finished,
  result_at,
  result_in,
  results_of,
  answered,
  resume_at,
  resume_caller,
  done_at,
  retire_at,
  whose,
  step_of,
  step,
  after_all,
}
use Rattle.result_cache.proofs.RunTests.{clash, same_run-true, and_then-some}
use Rattle.result_cache.proofs.JournalEntries.{had-in, in-has, has-in}
use Rattle.result_cache.proofs.ReplayRelation.{
  Rep,
  old,
  new,
  Reps,
  none,
  rep-map,
  reps-map,
  rep-one,
  reps-one,
  Closed,
  reps-closed,
  Recorded,
}
use Rattle.build_meaning.specs.Derived.{
  OfWalk,
  over,
  used,
  made,
  OfBody,
  ended_so,
  acted_one,
  used_tool,
  called_all,
  OfCalls,
  no_calls,
  one_call,
  Made,
}
use Rattle.build_meaning.proofs.BuildingReplays.{agree_body, agree_calls}
use Rattle.build_meaning.proofs.ListPlaces.{at-put, at-front, at-length, traverse-some}
use Rattle.build_meaning.specs.Stands.{Goal, Match, body_of, InSome, Calling, StandsAt, Stands}
use Rattle.build_meaning.proofs.PairedLists.{
  Paired-mono,
  Paired-put,
  Paired-put_at,
  Paired-traverse,
  Paired-append,
  Paired-length,
  Paired-at,
  Paired-some,
}
use Rattle.build_meaning.proofs.LawfulStates.{
  one_record,
  IsOnce,
  replay-rep,
  replay_all-reps,
  LawfulJournal,
  Lawful,
}
use Rattle.build_meaning.proofs.EventsKeepLawful.{
  only_if-some,
  unless-some,
  some-is,
  journal-grows,
  journal-ended,
  unbegun-unfinished,
  unfinished-fresh,
  put-lawful,
  step_of-lawful,
  start-lawful,
}

pub match-mono : (gs hs : List Goal) → ((i : ℕ) (g : Goal) → at gs i ≡ Some g → at hs i ≡ Some g)
    → (ids : List ℕ) (results : List RequestResult) → Match gs ids results → Match hs ids results
match-mono gs hs f [] [] h = tt
match-mono gs hs f (id ∷ ids) (res ∷ results) h =
    ((h.0.0, f id h.0.0 h.0.1, h.0.2), match-mono gs hs f ids results h.1)
match-mono gs hs f [] (res ∷ results) h = absurd h
match-mono gs hs f (id ∷ ids) [] h = absurd h

module _ {P I A : Type 0} (w : World P I A) (D : Demanded P I → Type 0)
    (one : (r : RunId) (m n : Record) → Made D r m → Made D r n → m ≡ n) where
  pub record Standing (s : State P I A) (goals : List Goal) : Type 0 where
    pub lawful : Lawful s
    pub each : Paired (Stands w D goals) s.requests goals
    pub known : (r : RunId) (m : Record) → Recorded s.table r m → Made D r m
    pub tools_used : (t : ToolsUsed I) → In t s.tools_used →
        (site : P) × (from : Journal) × (m : Record) × D (built site t.run from m t.tools)

  -- more goals
  module _ (goals more : List Goal) (f : (i : ℕ) (g : Goal) → at goals i ≡ Some g
      → at more i ≡ Some g) where
    stands_at-mono : (path : List RunId) (j : Journal) (runs : List RunId) (st : Status P I A)
        (g : Goal) → StandsAt w D goals path j runs st g → StandsAt w D more path j runs st g
    stands_at-mono path j runs (ready p) g x = x
    stands_at-mono path j runs (assigned node p) g x = x
    stands_at-mono path j runs (waits r b go) g x = x
    stands_at-mono path j runs (calling keys ids y go) g (results, i, x) = (
      results,
      i,
      record {
        asked = x.asked;
        matched = match-mono goals more f ids results x.matched;
        then_in =
            x.then_in;
      },
    )
    stands_at-mono path j runs (done res) g x = x

    pub stands-mono : (q : RequestState P I A) (g : Goal) → Stands w D goals q g →
        Stands w D more q g
    stands-mono q g x = record {
      asked = x.asked;
      stands = stands_at-mono q.origin.path q.journal q.runs q.status g
          x.stands;
    }

  -- a lawful journal is closed by the records of the meaning
  pub closed-made : (table : Records) → ((r : RunId) (m : Record) → Recorded table r m → Made D r m)
      → (j : Journal) (runs : List RunId) → LawfulJournal table j runs → Closed (Made D) one j
  closed-made table known j runs v = record {
    has_items = λ r h m p.
        let x = has-in r j h in
        let e : Recorded table r x.0 = v.entries r x.0 x.1 in
        subst (λ y. HasAll (effects_of r y) j) (one r x.0 m (known r x.0 e) p)
        (v.closed.has_items r h x.0 e);
  }

  -- where a walk wants a run the meaning has a record of it, and goes on with it and the journal
  -- with its replay
  wants_gives : (path : List RunId) (j : Journal) (runs : List RunId) (site : P) (r : RunId)
      (b : Body I A) (go : Record → Journal → Walk P I A) (res : RequestResult) (k : Journal) →
      Closed (Made D) one j →
      ((r : RunId) (m : Record) → In (ended r m) j → Made D r m) → OfWalk w D path j runs
      (wants site r b go) res k →
      (m : Record) × (i : Journal) × Made D r m × Rep (Made D) (replays_run r) j i
      × OfWalk w D path i (runs ++ r ∷ []) (go m i) res k
  wants_gives path j runs site r b go res k c e (used m h rest) =
      let i = had-in j r m h in (m, j, e r m i, old (in-has r m j i), rest)
  wants_gives path j runs site r b go res k c e
      (made {i = i} {m = m} {tools = tools} n h d p rest) =
      let known : Made D r m = (site, j, (tools, p)) in
      (m, add i (ended r m), known, new h known (agree_body w D one d j c none), rest)

  -- where the run has not ended in the journal, the meaning builds it
  wants_builds : (path : List RunId) (j : Journal) (runs : List RunId) (site : P) (r : RunId)
      (b : Body I A) (go : Record → Journal → Walk P I A) (g : Goal) → has (end_of r) j ≡ false →
      OfWalk w D path j runs (wants site r b go) g.res g.journal →
      InSome w D path j runs r nothing_yet b go g
  wants_builds path j runs site r b go g n (used m h rest) =
      absurd (clash (has (end_of r) j) (in-has r m j (had-in j r m h)) n)
  wants_builds path j runs site r b go g n (made {i = i} {m = m} {tools = tools} f h d p rest) =
      (m, tools, i, record { body = d; known = (site, j, p); next = rest })

  -- a record of the table is that of the meaning
  uses_table : (table : Records) → IsOnce table →
      ((r : RunId) (m : Record) → Recorded table r m → Made D r m) →
      (path : List RunId) (j : Journal) (runs : List RunId) (site : P) (r : RunId) (b : Body I A)
      (go : Record → Journal → Walk P I A) (g : Goal) (m : Record) (k : Journal) →
      LawfulJournal table j runs → OfWalk w D path j runs (wants site r b go) g.res g.journal →
      Made D r m → replay table r j ≡ Some k → OfWalk w D path k (runs ++ r ∷ [])
      (go m k) g.res g.journal
  uses_table table once known path j runs site r b go g m k v x p h =
      let c = closed-made table known j runs v in
      let d : Rep (Made D) (replays_run r) j k = rep-map (Recorded table) (Made D) known
      (replay-rep table once r j k h) in
      let y = wants_gives path j runs site r b go g.res g.journal c
      (λ s n i. known s n (v.entries s n i)) x in
      let mm : y.0 ≡ m = one r y.0 m y.2 p in
      let ik : y.1 ≡ k = rep-one (Made D) one y.3 k d in
      subst (λ n. OfWalk w D path k (runs ++ r ∷ []) (go n k) g.res g.journal) mm
      (subst (λ i. OfWalk w D path i (runs ++ r ∷ []) (go y.0 i) g.res g.journal) ik y.4)

  -- a body that runs on
  acted_so : (path : List RunId) (r : RunId) (j : Journal) (so_far : SoFar I) (p : Act)
      (go : Journal → Body I A) (m : Record) (tools : List (ToolUse I)) (i : Journal)
      → OfBody w D path r j so_far (does p go) m tools i →
      OfBody w D path r (add j (acted r (length so_far.segments) p)) (with_act so_far p)
      (go (add j (acted r (length so_far.segments) p))) m tools i
  acted_so path r j so_far p go m tools i (acted_one d) = d

  used_so : (path : List RunId) (r : RunId) (j : Journal) (so_far : SoFar I) (name : List ℕ)
      (input : I) (go : A → Body I A) (m : Record) (tools : List (ToolUse I)) (i : Journal)
      → OfBody w D path r j so_far (uses name input go) m tools i →
      OfBody w D path r j (with_tool so_far name input) (go (w.tools name input)) m tools i
  used_so path r j so_far name input go m tools i (used_tool d) = d

  runs_so : (path : List RunId) (r : RunId) (b : Body I A) (j : Journal) (so_far : SoFar I)
      (m : Record) (tools : List (ToolUse I)) (i : Journal) → OfBody w D path r j so_far b m tools i
      →
      OfBody w D path r (run_on w.tools r b j so_far).journal (run_on w.tools r b j so_far).so_far
      (body_of (run_on w.tools r b j so_far).stop) m tools i
  runs_so path r (makes outcome) j so_far m tools i d = d
  runs_so path r (does p go) j so_far m tools i d =
      let k : Journal = add j (acted r (length so_far.segments) p) in runs_so path r (go k) k
      (with_act so_far p) m tools i (acted_so path r j so_far p go m tools i d)
  runs_so path r (uses name input go) j so_far m tools i d = runs_so path r
      (go (w.tools name input)) j (with_tool so_far name input) m tools i
      (used_so path r j so_far name input go m tools i d)
  runs_so path r (calls key keys go) j so_far m tools i d = d

  runs_in : (path : List RunId) (j : Journal) (runs : List RunId) (r : RunId) (so_far : SoFar I)
      (b : Body I A) (go : Record → Journal → Walk P I A) (g : Goal) →
      InSome w D path j runs r so_far b go g →
      InSome w D path (run_on w.tools r b j so_far).journal runs r
      (run_on w.tools r b j so_far).so_far (body_of (run_on w.tools r b j so_far).stop) go g
  runs_in path j runs r so_far b go g (m, tools, i, x) = (
    m,
    tools,
    i,
    record
        { body = runs_so (r ∷ path) r b j so_far m tools i x.body; known = x.known; next = x.next },
  )

  -- one request changes, and keeps what it stands for
  pub put-stands : (s : State P I A) (goals : List Goal) (id : ℕ) (q z : RequestState P I A) →
      Standing s goals → at s.requests id ≡ Some q → Lawful (with_request s id z) →
      ((g : Goal) → Stands w D goals q g → Stands w D goals z g)
      → Standing (with_request s id z) goals
  put-stands s goals id q z v e l f = record {
    lawful = l;
    each = Paired-put (Stands w D goals) (Stands w D goals) (λ x y h. h) q z f s.requests id goals
        v.each e;
    known = v.known;
    tools_used = v.tools_used;
  }

  assign-stands : (s : State P I A) (goals : List Goal) (id node : ℕ) (earlier : RequestState P I A)
      (st : Status P I A) (t : State P I A) → Standing s goals → Lawful t →
      at s.requests id ≡ Some (with_status earlier st) → assign_at w s id node earlier st ≡ Some t
      → Standing t goals
  assign-stands s goals id node earlier (ready p) t v l e h =
      let z : RequestState P I A = with_status earlier (assigned node p) in
      let q : with_request s id z ≡ t = some-is (with_request s id z) t h in
      subst (λ (u : State P I A). Standing u goals) q (put-stands s goals id (with_status earlier
      (ready p)) z v e (subst (λ (u : State P I A). Lawful u) (sym q) l)
      (λ g x. record { asked = x.asked; stands = x.stands }))
  assign-stands s goals id node earlier _ t v l e h = absurd (cc)

  retire-stands : (s : State P I A) (goals : List Goal) (id node : ℕ) (earlier : RequestState P I A)
      (st : Status P I A) (t : State P I A) → Standing s goals → Lawful t →
      at s.requests id ≡ Some (with_status earlier st) → retire_at w s id node earlier st ≡ Some t
      → Standing t goals
  retire-stands s goals id node earlier (assigned by p) t v l e h =
      let z : RequestState P I A = with_status earlier (ready p) in
      let q : with_request s id z ≡ t = (only_if-some (by == node) (with_request s id z) t h).1 in
      subst (λ (u : State P I A). Standing u goals) q (put-stands s goals id (with_status earlier
      (assigned by p)) z v e (subst (λ (u : State P I A). Lawful u) (sym q) l)
      (λ g x. record { asked = x.asked; stands = x.stands }))
  retire-stands s goals id node earlier _ t v l e h = absurd (cc)

  claimed-stands : (s : State P I A) (goals : List Goal) (id node : ℕ)
      (earlier : RequestState P I A)
      (site : P) (r : RunId) (b : Body I A) (go : Record → Journal → Walk P I A)
      (kind : ClaimKind) (t : State P I A) → Standing s goals → Lawful t →
      at s.requests id ≡ Some (with_status earlier (assigned node (walking (wants site r b go)))) →
      claimed w s id node earlier r b go kind ≡ Some t → Standing t goals
  claimed-stands s goals id node earlier site r b go Go t v l e h =
      let z : RequestState P I A =
      in_body w (assigned node) earlier r go (run_on w.tools r b earlier.journal nothing_yet) in
      let u : State P I A = record {
        requests = put s.requests id z;
        begun = record {
          run = r;
          by = id;
        } ∷ s.begun;
        table = s.table;
        tools_used = s.tools_used;
      } in
      let x = unless-some (is_begun r s.begun) u t h in
      let lq =
      v.lawful.each id (with_status earlier (assigned node (walking (wants site r b go)))) e in
      let fresh = unfinished-fresh w s.table earlier.journal earlier.runs r lq.journal
      (unbegun-unfinished w s v.lawful r x.0) in
      subst (λ (u : State P I A). Standing u goals) x.1 (record {
        lawful = subst (λ (u : State P I A). Lawful u) (sym x.1) l;
        each =
            Paired-put (Stands w D goals) (Stands w D goals) (λ x y h. h) (with_status earlier
            (assigned node (walking (wants site r b go)))) z
            (λ g y. record {
              asked = y.asked;
              stands = runs_in earlier.origin.path earlier.journal earlier.runs r nothing_yet b go g
                  (wants_builds earlier.origin.path earlier.journal earlier.runs site r b go g fresh
                  y.stands);
            })
            s.requests id goals v.each e;
        known = v.known;
        tools_used = v.tools_used;
      })
  claimed-stands s goals id node earlier site r b go Use t v l e h =
      let x = and_then-some (found s.table r)
      (λ made. and_then (replay s.table r earlier.journal)
      (λ next. Some (with_request s id (goes_on w (assigned node) earlier r go made next)))) t h
      in
      let y = and_then-some (replay s.table r earlier.journal)
      (λ next. Some (with_request s id (goes_on w (assigned node) earlier r go x.0 next))) t x.2
      in
      let z : RequestState P I A = goes_on w (assigned node) earlier r go x.0 y.0 in
      let q : with_request s id z ≡ t = some-is (with_request s id z) t y.2 in
      let lq =
      v.lawful.each id (with_status earlier (assigned node (walking (wants site r b go)))) e in
      subst (λ (u : State P I A). Standing u goals) q (put-stands s goals id (with_status earlier
      (assigned node (walking (wants site r b go)))) z v e (subst (λ (u : State P I A). Lawful u)
      (sym q) l)
      (λ g a. record {
        asked = a.asked;
        stands = uses_table s.table v.lawful.once v.known earlier.origin.path earlier.journal
            earlier.runs site r b go g x.0 y.0 lq.journal a.stands (v.known r x.0 x.1) y.1;
      }))
  claimed-stands s goals id node earlier site r b go Wait t v l e h =
      let next : State P I A = waiting w s id earlier r b go in
      let x = only_if-some (may_wait w (is_begun r s.begun) (found s.table r) (is_in_cycle next r))
      next t h in
      subst (λ (u : State P I A). Standing u goals) x.1 (put-stands s goals id (with_status earlier
      (assigned node (walking (wants site r b go)))) (with_status earlier (waits r b go)) v e
      (subst (λ (u : State P I A). Lawful u) (sym x.1) l)
      (λ g a. record { asked = a.asked; stands = (site, a.stands) }))

  claim-stands : (s : State P I A) (goals : List Goal) (id : ℕ) (run : RunId) (kind : ClaimKind)
      (q : RequestState P I A) (st : Status P I A) (t : State P I A) →
      Standing s goals → Lawful t →
      at s.requests id ≡ Some (with_status q st)
      → claim_at w s id run kind q st ≡ Some t → Standing t goals
  claim-stands s goals id run kind q (assigned node (walking (wants site r b go))) t v l e
      h =
      let x = and_then-some (only_if (same_run r run) r)
      (λ run. claimed w s id node q run b go kind) t h in
      let y : r ≡ x.0 = (only_if-some (same_run r run) r x.0 x.1).1 in
      claimed-stands s goals id node q site r b go kind t v l e
      (subst (λ n. claimed w s id node q n b go kind ≡ Some t) (sym y) x.2)
  claim-stands s goals id run kind q _ t v l e h = absurd (cc)

  -- a request that waits goes on
  woken_if-stands : (goals : List Goal) (table : Records) → IsOnce table →
      ((r : RunId) (m : Record) → Recorded table r m → Made D r m) →
      (q t : RequestState P I A) (g : Goal) (site : P) (r : RunId) (b : Body I A)
      (go : Record → Journal → Walk P I A) (m : Record) →
      LawfulJournal table q.journal q.runs → Made D r m → D (requested q.origin.key) →
      OfWalk w D q.origin.path q.journal q.runs (wants site r b go) g.res g.journal →
      woken_if w true table q m r go ≡ Some t → Stands w D goals t g
  woken_if-stands goals table once known q t g site r b go m l p a x h =
      let y = and_then-some (replay table r q.journal)
      (λ next. Some (goes_on w ready q r go m next)) t h in
      let z : RequestState P I A = goes_on w ready q r go m y.0 in
      subst (λ (u : RequestState P I A). Stands w D goals u g) (some-is z t y.2)
      (record {
        asked = a;
        stands = uses_table table once known q.origin.path q.journal q.runs site
            r b go g m y.0 l x p y.1;
      })

  woken_at-stands : (goals : List Goal) (table : Records) → IsOnce table →
      ((r : RunId) (m : Record) → Recorded table r m → Made D r m) → (run : RunId) (m : Record) →
      Made D run m → (q t : RequestState P I A) (g : Goal) → LawfulJournal table q.journal q.runs →
      Stands w D goals q g → (st : Status P I A) →
      StandsAt w D goals q.origin.path q.journal q.runs st g →
      woken_at w table run m q st ≡ Some t → Stands w D goals t g
  woken_at-stands goals table once known run m p q t g l v (waits r b go) x h = f (same_run r run)
      refl h
    where
      f : (y : Bool) → same_run r run ≡ y → woken_if w y table q m r go ≡ Some t
          → Stands w D goals t g
      f false e h = subst (λ (u : RequestState P I A). Stands w D goals u g) (some-is q t h) v
      f true e h = woken_if-stands goals table once known q t g x.0 r b go m l
          (subst (λ n. Made D n m) (sym (same_run-true r run e)) p) v.asked x.1 h
  woken_at-stands goals table once known run m p q t g l v _ x h =
      subst (λ (u : RequestState P I A). Stands w D goals u g) (some-is q t h) v

  -- a body that is over
  makes_so : (path : List RunId) (r : RunId) (j : Journal) (so_far : SoFar I) (outcome : Outcome)
      (m : Record) (tools : List (ToolUse I)) (i : Journal)
      → OfBody w D path r j so_far (makes outcome) m tools i →
      (recorded outcome so_far.segments ≡ m) × (so_far.tools ≡ tools) × (j ≡ i)
  makes_so path r j so_far outcome m tools i ended_so = (refl, refl, refl)

  made_in : (path : List RunId) (j : Journal) (runs : List RunId) (r : RunId) (so_far : SoFar I)
      (outcome : Outcome) (go : Record → Journal → Walk P I A) (g : Goal) →
      InSome w D path j runs r so_far (makes outcome) go g →
      (site : P) × (from : Journal)
      × D (built site r from (recorded outcome so_far.segments) so_far.tools)
      × OfWalk w D path (add j (ended r (recorded outcome so_far.segments))) (runs ++ r ∷ [])
      (go (recorded outcome so_far.segments)
      (add j (ended r (recorded outcome so_far.segments)))) g.res g.journal
  made_in path j runs r so_far outcome go g (m, tools, i, x) =
      let e = makes_so (r ∷ path) r j so_far outcome m tools i x.body in (
        x.known.0,
        x.known.1,
        subst (λ n. D (built x.known.0 r x.known.1 n so_far.tools)) (sym e.0)
            (subst (λ u. D (built x.known.0 r x.known.1 m u)) (sym e.1) x.known.2),
        subst
            (λ n. OfWalk w D path (add j (ended r n)) (runs ++ r ∷ []) (go n (add j (ended r n)))
            g.res g.journal) (sym e.0)
            (subst
            (λ a. OfWalk w D path (add a (ended r m)) (runs ++ r ∷ [])
            (go m (add a (ended r m))) g.res g.journal) (sym e.2) x.next),
      )

  known-more : (table : Records) (f : FinishedRun) → Made D f.run f.made
      → ((r : RunId) (m : Record) → Recorded table r m → Made D r m) → (r : RunId) (m : Record)
      → Recorded (f ∷ table) r m → Made D r m
  known-more table f p known r m h = go (same_run f.run r) refl h
    where
      go : (b : Bool) → same_run f.run r ≡ b → this_or b (found table r) f.made ≡ Some m
          → Made D r m
      go true e h = subst (λ n. Made D r n) (some-is f.made m h)
          (subst (λ n. Made D n f.made) (same_run-true f.run r e) p)
      go false e h = known r m h

  tooled-more : (f : ToolsUsed I) (site : P) (from : Journal) (m : Record)
      (tools_used : List (ToolsUsed I)) → D (built site f.run from m f.tools) →
      ((t : ToolsUsed I) → In t tools_used →
      (site : P) × (from : Journal) × (m : Record) × D (built site t.run from m t.tools)) →
      (t : ToolsUsed I) → In t (f ∷ tools_used) →
      (site : P) × (from : Journal) × (m : Record) × D (built site t.run from m t.tools)
  tooled-more f site from m tools_used p k t (inl e) =
      (site, from, m, subst (λ (x : ToolsUsed I). D (built site x.run from m x.tools)) e p)
  tooled-more f site from m tools_used p k t (inr i) = k t i

  finished-stands : (s : State P I A) (goals : List Goal) (id node : ℕ)
      (earlier : RequestState P I A)
      (x : Within P I A) (outcome : Outcome) (t : State P I A) →
      Standing s goals → Lawful t →
      at s.requests id ≡ Some (with_status earlier (assigned node (within x (ends outcome))))
      → finished w s id node earlier x (recorded outcome x.so_far.segments) ≡ Some t
      → Standing t goals
  finished-stands s goals id node earlier x outcome t v l e h =
      let m : Record = recorded outcome x.so_far.segments in
      let f : FinishedRun = record { run = x.run; made = m } in
      let old_q : RequestState P I A =
      with_status earlier (assigned node (within x (ends outcome))) in
      let z : RequestState P I A =
      goes_on w (assigned node) earlier x.run x.go m (add earlier.journal (ended x.run m)) in
      let lq = v.lawful.each id old_q e in
      let b = lq.status.1 in
      let n : found s.table x.run ≡ None = b.unfinished in
      let u = and_then-some (traverse (woken w (f ∷ s.table) x.run m) (put s.requests id z))
      (λ requests.
      Some
      (record {
        requests = requests;
        begun = s.begun;
        table = f
            ∷ s.table;
        tools_used = record { run = x.run; tools = x.so_far.tools } ∷ s.tools_used;
      }))
      t h in
      let last : State P I A = record {
        requests = u.0;
        begun = s.begun;
        table = f ∷ s.table;
        tools_used = record { run = x.run; tools = x.so_far.tools } ∷ s.tools_used;
      } in
      let q : last ≡ t = some-is last t u.2 in
      let here = Paired-some (Stands w D goals) s.requests goals id old_q v.each e in
      let told = made_in earlier.origin.path earlier.journal earlier.runs x.run x.so_far outcome
      x.go here.0
      here.1.stands in
      let mine : Made D x.run m = (told.0, told.1, (x.so_far.tools, told.2)) in
      let known = known-more s.table f mine v.known in
      let c = reps-closed (Recorded s.table) (one_record s.table) b.so_far b.from_closed in
      subst (λ (u : State P I A). Standing u goals) q (record {
        lawful = subst (λ (u : State P I A). Lawful u) (sym q) l;
        each = Paired-traverse (Stands w D goals) (Stands w D goals) (woken w (f ∷ s.table) x.run m)
            (put s.requests id z) u.0 goals
            (Paired-put (Stands w D goals) (Stands w D goals) (λ x y a. a) old_q z
            (λ g y. record {
              asked = y.asked;
              stands =
                  (made_in earlier.origin.path earlier.journal earlier.runs x.run x.so_far outcome
                  x.go g
                  y.stands).3;
            }) s.requests id goals v.each e)
            u.1
            (λ i a y g at_i stands woke.
            let lj : LawfulJournal (f ∷ s.table) a.journal a.runs = elim
            (at-put s.requests id z i a at_i) [
              | inl r ↦
                  subst (λ (k : RequestState P I A). LawfulJournal (f ∷ s.table) k.journal k.runs)
                  r.1 (journal-ended s.table f n earlier.journal earlier.runs lq.journal c.0)
              | inr r ↦ journal-grows s.table f n a.journal a.runs (v.lawful.each i a r.1).journal
            ] in
            woken_at-stands goals (f ∷ s.table) (n, v.lawful.once) known x.run m mine a y g lj
            stands
            a.status stands.stands woke);
        known = known;
        tools_used = tooled-more (record { run = x.run; tools = x.so_far.tools }) told.0 told.1 m
            s.tools_used told.2 v.tools_used;
      })

  result-stands : (s : State P I A) (goals : List Goal) (id : ℕ) (run : RunId)
      (q : RequestState P I A) (st : Status P I A) (t : State P I A) → Standing s goals →
      Lawful t →
      at s.requests id ≡ Some (with_status q st) → result_at w s id run q st ≡ Some t
      → Standing t goals
  result-stands s goals id run q (assigned node (within x (ends outcome))) t v l e h =
      let y = and_then-some (only_if (same_run x.run run) x)
      (λ x. finished w s id node q x (recorded outcome x.so_far.segments)) t h in
      let p : x ≡ y.0 = (only_if-some (same_run x.run run) x y.0 y.1).1 in
      finished-stands s goals id node q x outcome t v l e
      (subst (λ (a : Within P I A). finished w s id node q a
      (recorded outcome a.so_far.segments) ≡ Some t) (sym p) y.2)
  result-stands s goals id run q _ t v l e h = absurd (cc)

  -- a body that calls
  calls_so : (path : List RunId) (r : RunId) (j : Journal) (so_far : SoFar I) (key : RequestKey)
      (keys : List RequestKey) (k : List RequestResult → Journal → Body I A) (m : Record)
      (tools : List (ToolUse I)) (i : Journal) →
      OfBody w D path r j so_far (calls key keys k) m tools i →
      (results : List RequestResult) × (a : Journal) × OfCalls w D path j j (key ∷ keys) results a
      × OfBody w D path r a (with_calls so_far (key ∷ keys) results) (k results a) m tools i
  calls_so path r j so_far key keys k m tools i
      (called_all {i = a} {results = results} all asked rest) =
      (results, a, asked, rest)

  pub called_in : (path : List RunId) (j : Journal) (runs : List RunId) (r : RunId)
      (so_far : SoFar I) (key : RequestKey) (keys : List RequestKey) (k : List RequestResult →
      Journal → Body I A) (go : Record → Journal → Walk P I A) (g : Goal) →
      InSome w D path j runs r so_far (calls key keys k) go g →
      (results : List RequestResult) × (a : Journal)
      × OfCalls w D (r ∷ path) j j (key ∷ keys) results a
      × InSome w D path a runs r (with_calls so_far (key ∷ keys) results) (k results a) go g
  called_in path j runs r so_far key keys k go g (m, tools, i, x) =
      let y = calls_so (r ∷ path) r j so_far key keys k m tools i x.body in
      (y.0, y.1, y.2, (m, tools, i, record { body = y.3; known = x.known; next = x.next }))

  length-more : {X : Type 0} (xs : List X) (x : X) → length (xs ++ x ∷ []) ≡ suc (length xs)
  length-more [] x = refl
  length-more (y ∷ xs) x = ap suc (length-more xs x)

  -- the children of calls
  children : {path : List RunId} {j a : Journal} {keys : List RequestKey}
      {results : List RequestResult} {i : Journal} → OfCalls w D path j a keys results i
      → (parent : Option ℕ) (all goals : List Goal) →
      (gs : List Goal) × Paired (Stands w D all) (map (new_request w parent path j) keys) gs
      × ((more : List Goal) → more ≡ goals ++ gs
      → Match more (numbered_from (length goals) keys) results)
  children no_calls parent all goals = ([], tt, λ more h. tt)
  children (one_call {path = path} {j = j} {i = i} {key = key} {keys = keys} {res = res}
      {results = results} d less x so rest) parent all goals =
      let g : Goal = record { res = res; journal = i } in
      let ih = children rest parent all (goals ++ g ∷ []) in (
        g ∷ ih.0,
        (record { asked = d; stands = x }, ih.1),
        λ more h. (
          (
            g,
            subst (λ (y : List Goal). at y (length goals) ≡ Some g) (sym h)
                (at-length goals ih.0 g),
            refl,
          ),
          subst (λ (n : ℕ). Match more (numbered_from n keys) results) (length-more goals g)
              (ih.2 more (h ∙ sym (append_assoc goals (g ∷ []) ih.0))),
        ),
      )

  abbrev pub Keeps : Goal → State P I A → Type 0
  Keeps g s = (goals : List Goal) × Standing s goals × (at goals 0 ≡ Some g)

  children-stand : (s : State P I A) (goals : List Goal) (id node : ℕ) (q : RequestState P I A)
      (x : Within P I A) (key : RequestKey) (more : List RequestKey)
      (go : List RequestResult → Journal → Body I A) → Standing s goals →
      Lawful (with_children w s id q (key ∷ more) x go)
      → at s.requests id
      ≡ Some (with_status q (assigned node (within x (asks key more go)))) → (root : Goal)
      → at goals 0 ≡ Some root →
      Keeps root (with_children w s id q (key ∷ more) x go)
  children-stand s goals id node q x key more go v l e root at_root =
      let keys : List RequestKey = key ∷ more in
      let old_q : RequestState P I A =
      with_status q (assigned node (within x (asks key more go))) in
      let ids : List ℕ = numbered_from (length s.requests) keys in
      let z : RequestState P I A = with_status q (calling keys ids x go) in
      let here = Paired-some (Stands w D goals) s.requests goals id old_q v.each e in
      let g : Goal = here.0 in
      let st : Stands w D goals old_q g = here.1 in
      let y = called_in q.origin.path q.journal q.runs x.run x.so_far key more go x.go g st.stands
      in
      let kids0 = children y.2 (Some id) [] goals in
      let all : List Goal = goals ++ kids0.0 in
      let kids : Paired (Stands w D all)
      (map (new_request w (Some id) (x.run ∷ q.origin.path) q.journal) keys)
      kids0.0 =
      Paired-mono (Stands w D []) (Stands w D all) (stands-mono [] all (λ i g p. absurd (cc)))
      (map (new_request w (Some id) (x.run ∷ q.origin.path) q.journal) keys) kids0.0 kids0.1 in
      let matched : Match all ids y.0 = subst (λ (n : ℕ). Match all (numbered_from n keys) y.0)
      (sym (Paired-length (Stands w D goals) s.requests goals v.each)) (kids0.2 all refl) in
      let zst : Stands w D all z g = record {
        asked = st.asked;
        stands =
            (y.0, y.1, record { asked = y.2; matched = matched; then_in = y.3 });
      } in
      let front : Paired (Stands w D all) (put s.requests id z) goals =
      Paired-put_at (Stands w D goals) (Stands w D all)
      (stands-mono goals all (λ i g p. at-front goals kids0.0 i g p)) z g zst s.requests id
      goals v.each here.2 in (
        all,
        record {
          lawful = l;
          each = Paired-append (Stands w D all) (put s.requests id z) goals
              (map (new_request w (Some id) (x.run ∷ q.origin.path) q.journal) keys) kids0.0 front
              kids;
          known = v.known;
          tools_used = v.tools_used;
        },
        at-front goals kids0.0 0 root at_root,
      )

  request-stands : (s : State P I A) (goals : List Goal) (id : ℕ) (keys : List RequestKey)
      (q : RequestState P I A) (st : Status P I A) (t : State P I A) →
      Standing s goals → Lawful t →
      at s.requests id ≡ Some (with_status q st) → request_at w s id keys q st ≡ Some t
      → (root : Goal) → at goals 0 ≡ Some root → Keeps root t
  request-stands s goals id keys q (assigned node (within x (asks key more go))) t v l e h
      root at_root =
      let y = only_if-some (same_keys (key ∷ more) keys
      && is_within_limits w s (x.run ∷ q.origin.path) (key ∷ more))
      (with_children w s id q (key ∷ more) x go) t h in
      subst (λ (u : State P I A). Keeps root u) y.1
      (children-stand s goals id node q x key more go v
      (subst (λ (u : State P I A). Lawful u) (sym y.1) l) e root at_root)
  request-stands s goals id keys q _ t v l e h root at_root = absurd (cc)

  -- results of calls
  result_in-goal : (goals : List Goal) (path : List RunId) (j : Journal) (runs : List RunId)
      (st : Status P I A) (g : Goal) (res : RequestResult) → StandsAt w D goals path j runs st g →
      result_in w st ≡ Some res → g.res ≡ res
  result_in-goal goals path j runs (done r) g res x h = x.0 ∙ some-is r res h
  result_in-goal goals path j runs _ g res x h = absurd (cc)

  pub results_of-match : (all : List Goal) (requests : List (RequestState P I A))
      (goals : List Goal) → Paired (Stands w D all) requests goals →
      (ids : List ℕ) (results reply : List RequestResult) →
      Match goals ids results → results_of w requests ids ≡ Some reply → reply ≡ results
  results_of-match all requests goals v [] [] reply m h = let e : []
      ≡ reply = some-is [] reply h in sym e
  results_of-match all requests goals v (id ∷ ids) (res ∷ results) reply m h =
      let u = traverse-some (λ id. and_then (at requests id) (λ q. result_in w q.status)) id ids
      reply h in
      let x = and_then-some (at requests id) (λ q. result_in w q.status) u.0 u.2 in
      let y : Stands w D all x.0 m.0.0 = Paired-at (Stands w D all) requests goals id x.0 m.0.0 v
      x.1 m.0.1 in
      let p : m.0.0.res ≡ u.0 = result_in-goal all x.0.origin.path x.0.journal x.0.runs x.0.status
      m.0.0 u.0 y.stands x.2 in
      let q : u.0 ≡ res = sym p ∙ m.0.2 in
      let ih : u.1 ≡ results = results_of-match all requests goals v ids results u.1 m.1 u.3 in
      u.4 ∙ (ap (λ a. a ∷ u.1) q ∙ ap (λ b. res ∷ b) ih)
  results_of-match all requests goals v [] (res ∷ results) reply m h = absurd m
  results_of-match all requests goals v (id ∷ ids) [] reply m h = absurd m

  answered-stands : (s : State P I A) (goals : List Goal) (id : ℕ) (earlier : RequestState P I A)
      (keys : List RequestKey) (ids : List ℕ) (x : Within P I A)
      (go : List RequestResult → Journal → Body I A) (t : State P I A) → Standing s goals →
      Lawful t →
      at s.requests id ≡ Some (with_status earlier (calling keys ids x go))
      → (reply : Option (List RequestResult)) → results_of w s.requests ids ≡ reply
      → answered w s id earlier keys x go reply ≡ Some t → Standing t goals
  answered-stands s goals id earlier keys ids x go t v l e None g h =
      subst (λ (u : State P I A). Standing u goals) (some-is s t h) v
  answered-stands s goals id earlier keys ids x go t v l e (Some reply) g h =
      let lq = v.lawful.each id (with_status earlier (calling keys ids x go)) e in
      let y = and_then-some (replay_all s.table (runs_of reply) earlier.journal)
      (λ next.
      Some
      (with_request s id
      (in_body w ready earlier x.run x.go
      (run_on w.tools x.run (go reply next) next (with_calls x.so_far keys reply))))) t h in
      let d : Reps (Made D) (map replays_run (runs_of reply)) earlier.journal y.0 = reps-map
      (Recorded s.table)
      (Made D) v.known
      (replay_all-reps s.table v.lawful.once (runs_of reply) earlier.journal y.0 y.1)
      in
      let c = closed-made s.table v.known earlier.journal earlier.runs lq.journal in
      let z : RequestState P I A = in_body w ready earlier x.run x.go (run_on w.tools x.run
      (go reply y.0) y.0 (with_calls x.so_far keys reply)) in
      let q : with_request s id z ≡ t = some-is (with_request s id z) t y.2 in
      subst (λ (u : State P I A). Standing u goals) q (put-stands s goals id (with_status earlier
      (calling keys ids x go)) z v e (subst (λ (u : State P I A). Lawful u) (sym q) l)
      (λ a b.
      record {
        asked = b.asked;
        stands = back a
            (results_of-match goals s.requests goals v.each ids b.stands.0 reply b.stands.2.matched
            g)
            c d b.stands.2;
      }))
    where
      back : {results : List RequestResult} {i k : Journal} (a : Goal) → reply ≡ results
          → Closed (Made D) one earlier.journal
          → Reps (Made D) (map replays_run (runs_of reply)) earlier.journal k
          → Calling w D goals earlier.origin.path earlier.journal earlier.runs keys ids x go a
          results i →
          InSome w D earlier.origin.path
          (run_on w.tools x.run (go reply k) k (with_calls x.so_far keys reply)).journal
          earlier.runs
          x.run (run_on w.tools x.run (go reply k) k (with_calls x.so_far keys reply)).so_far
          (body_of (run_on w.tools x.run (go reply k) k (with_calls x.so_far keys reply)).stop) x.go
          a
      back {results} {i} {k} a e c d y =
          let d2 : Reps (Made D) (map replays_run (runs_of reply)) earlier.journal i = subst
          (λ (n : List RequestResult). Reps (Made D) (map replays_run (runs_of n)) earlier.journal
          i)
          (sym e)
          (agree_calls w D one y.asked (λ s h. h) c c) in
          let p : i ≡ k = reps-one (Made D) one d2 k d in
          let n : InSome w D earlier.origin.path k earlier.runs x.run
          (with_calls x.so_far keys reply)
          (go reply k) x.go
          a =
          subst
          (λ (l : Journal). InSome w D earlier.origin.path l earlier.runs x.run
          (with_calls x.so_far keys reply)
          (go reply l) x.go a) p
          (subst
          (λ (n : List RequestResult). InSome w D earlier.origin.path i earlier.runs x.run
          (with_calls x.so_far keys n) (go n i) x.go a) (sym e) y.then_in) in
          runs_in earlier.origin.path k earlier.runs x.run (with_calls x.so_far keys reply)
          (go reply k)
          x.go a n

  back_at-stands : (s : State P I A) (goals : List Goal) (id : ℕ) (q : RequestState P I A)
      (st : Status P I A) (t : State P I A) → Standing s goals → Lawful t →
      at s.requests id ≡ Some q → q.status ≡ st → resume_at w s id q st ≡ Some t → Standing t goals
  back_at-stands s goals id q (calling keys ids x go) t v l e p h =
      answered-stands s goals id q keys ids x go t v l
      (e ∙ ap (λ (a : Status P I A). Some (with_status q a)) p)
      (results_of w s.requests ids) refl h
  back_at-stands s goals id q _ t v l e p h = absurd (cc)

  back_to-stands : (s : State P I A) (goals : List Goal) (parent : Option ℕ) (t : State P I A) →
      Standing s goals → Lawful t → resume_caller w s parent ≡ Some t → Standing t goals
  back_to-stands s goals None t v l h =
      subst (λ (u : State P I A). Standing u goals) (some-is s t h) v
  back_to-stands s goals (Some id) t v l h =
      let y = and_then-some (at s.requests id) (λ q. resume_at w s id q q.status) t h in
      back_at-stands s goals id y.0 y.0.status t v l y.1 refl y.2

  pub gives_so : (path : List RunId) (j : Journal) (runs : List RunId) (reply : Reply)
      (res : RequestResult) (k : Journal) → OfWalk w D path j runs (gives reply) res k
      → (res ≡ result_of reply runs) × (k ≡ j)
  gives_so path j runs reply res k over = (refl, refl)

  done-stands : (s : State P I A) (goals : List Goal) (id : ℕ) (q : RequestState P I A)
      (st : Status P I A) (t : State P I A) → Standing s goals → Lawful t →
      at s.requests id ≡ Some (with_status q st) → done_at w s id q st ≡ Some t
      → Standing t goals
  done-stands s goals id q (assigned node (walking (gives reply))) t v l e h =
      let z : RequestState P I A = with_status q (done (result_of reply q.runs)) in
      let lq = v.lawful.each id (with_status q (assigned node (walking (gives reply)))) e in
      let zl = put-lawful s id z v.lawful
      (record { journal = lq.journal; status = lq.journal.runs_in }) in
      back_to-stands (with_request s id z) goals q.origin.parent t
      (put-stands s goals id (with_status q (assigned node (walking (gives reply)))) z v e zl
      (λ g x.
      record {
        asked = x.asked;
        stands = gives_so q.origin.path q.journal q.runs reply g.res g.journal
            x.stands;
      })) l h
  done-stands s goals id q _ t v l e h = absurd (cc)

  step_of-stands : (s : State P I A) (goals : List Goal) (event : Event) (q : RequestState P I A)
      (t : State P I A) (root : Goal) → at goals 0 ≡ Some root → Standing s goals →
      at s.requests (whose event) ≡ Some q → step_of w s event q ≡ Some t → Keeps root t
  step_of-stands s goals (Assign id node) q t root z v e h = (
    goals,
    assign-stands s goals id node q q.status t v
        (step_of-lawful w s (Assign id node) q t v.lawful e h) e h,
    z,
  )
  step_of-stands s goals (Claim id run kind) q t root z v e h = (
    goals,
    claim-stands s goals id run kind q q.status t v
        (step_of-lawful w s (Claim id run kind) q t v.lawful e h) e h,
    z,
  )
  step_of-stands s goals (Request id keys) q t root z v e h = request-stands s goals id keys
      q q.status t v (step_of-lawful w s (Request id keys) q t v.lawful e h)
      e h root z
  step_of-stands s goals (Result id run) q t root z v e h = (
    goals,
    result-stands s goals id run q q.status t v
        (step_of-lawful w s (Result id run) q t v.lawful e h) e h,
    z,
  )
  step_of-stands s goals (Done id) q t root z v e h = (
    goals,
    done-stands s goals id q q.status t v
        (step_of-lawful w s (Done id) q t v.lawful e h) e h,
    z,
  )
  step_of-stands s goals (Retire id node) q t root z v e h = (
    goals,
    retire-stands s goals id node q q.status t v
        (step_of-lawful w s (Retire id node) q t v.lawful e h) e h,
    z,
  )

  all-stand : (events : List Event) (s t : State P I A) (root : Goal) → Keeps root s →
      after_all w s events ≡ Some t → Keeps root t
  all-stand [] s t root v h = subst (λ (u : State P I A). Keeps root u) (some-is s t h) v
  all-stand (event ∷ events) s t root (goals, v, z) h =
      let x = and_then-some (step w s event) (λ t. after_all w t events) t h in
      let y = and_then-some (at s.requests (whose event)) (step_of w s event) x.0 x.1 in
      all-stand events x.0 t root (step_of-stands s goals event y.0 x.0 root z v y.1 y.2) x.2

  start-stands : (res : RequestResult) (k : Journal) → D (requested w.root)
      → OfWalk w D [] [] [] (w.walks w.root []) res k
      → Standing (start w) (record { res = res; journal = k } ∷ [])
  start-stands res k d x = record {
    lawful = start-lawful w;
    each = (record { asked = d; stands = x }, tt);
    known = λ r m h. absurd (cc);
    tools_used = λ t i. absurd i;
  }

  -- every legal history stands where the meaning does
  pub history-stands : (res : RequestResult) (k : Journal) → D (requested w.root) →
      OfWalk w D [] [] [] (w.walks w.root []) res k → (events : List Event) (t : State P I A) →
      after_all w (start w) events ≡ Some t →
      Keeps (record { res = res; journal = k }) t
  history-stands res k d x events t h = all-stand events (start w) t
      (record { res = res; journal = k })
      ((record { res = res; journal = k } ∷ []), start-stands res k d x, refl) h
