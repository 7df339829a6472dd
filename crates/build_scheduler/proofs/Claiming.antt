-- A request with a node begins the run that it wants, or takes the run's record.
use Rattle.std.proofs.Common.{
  ◌≡◌,
  ◌≤◌,
  ◌<◌,
  ◌+◌,
  ◌||◌,
  ℕ,
  suc,
  Bool,
  true,
  false,
  List,
  [],
  ◌∷◌,
  ◌++◌,
  length,
  Option,
  None,
  Some,
  refl,
  ap,
  sym,
  ◌∙◌,
  subst,
  arith,
}
use Rattle.std.proofs.Math.Bridge.{le_prop}
use Rattle.std.proofs.Math.Logic.{∥∥₁_elim}
use Rattle.std.proofs.lemmas.List.{length-map}
use Rattle.std.specs.Prelude.{IsSome}
use Rattle.msb_laws.specs.Asking.{and_then}
use Rattle.result_cache.specs.declared.run.RunId.{RunId}
use Rattle.result_cache.specs.declared.record.Record.{Record}
use Rattle.result_cache.specs.Journal.{Journal}
use Rattle.result_cache.specs.Lists.{this_or}
use Rattle.result_cache.specs.Replay.{replay}
use Rattle.result_cache.specs.Same.{same_run}
use Rattle.result_cache.specs.Table.{Records, TableRuns, BegunRun, found, request_of, is_begun}
use Rattle.result_cache.proofs.RunTests.{same_run-refl, same_run-true}
use Rattle.build_meaning.specs.declared.event.Event.TheVariants.{Claim}
use Rattle.build_meaning.specs.declared.event.ClaimKind.{ClaimKind}
use Rattle.build_meaning.specs.declared.event.ClaimKind.TheVariants.{Go, Use}
use Rattle.build_meaning.specs.Lists.{at, put, Paired}
use Rattle.build_meaning.specs.World.{World}
use Rattle.build_meaning.specs.Walk.{wants}
use Rattle.build_meaning.specs.SoFar.{nothing_yet}
use Rattle.build_meaning.specs.Stop.{Stopped, run_on}
use Rattle.build_meaning.specs.State.{walking, assigned, RequestState, State, with_request}
use Rattle.build_meaning.specs.Step.{only_if, unless, claimed, step_of, step}
use Rattle.build_meaning.specs.History.{IsHistory}
use Rattle.build_meaning.proofs.HistoriesGoOn.{replay-total}
use Rattle.build_meaning.proofs.ListPlaces.{at-put_same, at-less}
use Rattle.build_scheduler.specs.declared.walker.Ask.TheVariants.{Want}
use Rattle.build_scheduler.specs.declared.walker.Answer.TheVariants.{Go as Goes, Use as Uses}
use Rattle.build_scheduler.specs.declared.slot.Origin.{Origin}
use Rattle.build_scheduler.specs.declared.slot.Slot.{Slot}
use Rattle.build_scheduler.specs.declared.slot.Slot.TheVariants.{Assigned}
use Rattle.build_scheduler.specs.declared.slot.End.{End}
use Rattle.build_scheduler.specs.Learnt.{ArePartOf}
use Rattle.build_scheduler.specs.History.{History}
use Rattle.build_scheduler.specs.Own.{Seen, placed, IsWith, IsOwn, IsOut}
use Rattle.build_scheduler.specs.Position.{
  Position,
  ask_of,
  stopped_in,
  after_run,
  answered_at,
  answered,
}
use Rattle.build_scheduler.specs.Shown.{Shown}
use Rattle.build_scheduler.specs.Slots.{
  making_of,
  run_at,
  result_in,
  owed,
  owed_by,
  begun_if,
  unfinished,
  ShowsSlot,
}
use Rattle.build_scheduler.proofs.HistoryFacts.{more, lawful}
use Rattle.build_scheduler.proofs.OneRequest.{
  map-put,
  map-puts,
  result-put,
  put-there,
  shown-put,
  one-more,
}
use Rattle.build_scheduler.proofs.OwnWalks.{Wants, wants-of, There, there-of}
use Rattle.build_scheduler.proofs.SlotsStay.{Alike, map-alike}

-- a run that is neither finished nor begun and unfinished is not begun
pub not_begun : (table : Records) (begun : List BegunRun) (run : RunId) → found table run ≡ None
    → request_of (unfinished table begun) run ≡ None → is_begun run begun ≡ false
not_begun table [] run f r = refl
not_begun table (b ∷ begun) run f r = go (same_run b.run run) refl (found table b.run) refl r
    (not_begun table begun run f)
  where
    go : (t : Bool) → same_run b.run run ≡ t → (o : Option Record) → found table b.run ≡ o
        → request_of (begun_if o b (unfinished table begun)) run ≡ None →
        (request_of (unfinished table begun) run ≡ None → is_begun run begun ≡ false)
        → (t || is_begun run begun) ≡ false
    go true e None g h ih = absurd (let k : Some b.by
        ≡ None = sym (ap (λ t. this_or t (request_of (unfinished table begun) run) b.by) e)
        ∙ h in cc)
    go true e (Some made) g h ih = absurd (let k : Some made ≡ None = sym g
        ∙ (ap (found table) (same_run-true b.run run e) ∙ f) in cc)
    go false e None g h ih = ih
        (sym (ap (λ t. this_or t (request_of (unfinished table begun) run) b.by) e) ∙ h)
    go false e (Some made) g h ih = ih h

module _ {W P I A : Type 0} (seen : W → Seen P I A) (w : World P I A) (history after : History)
    {origins : List Origin} {slots : List (Slot W)} {making : List (Option RunId)}
    {table : TableRuns} {end : Option End}
    (id : ℕ) (walk : W) (run : RunId) where
  -- the request that wants the run
  pub record Claims (x : Shown seen w history origins slots making table end) : Type 0 where
    pub there : There slots x.state id (seen walk).position
    pub wanted : Wants (seen walk).position.place run

  pub claims-of : (x : Shown seen w history origins slots making table end)
      → IsOwn w history.events table.finished id (seen walk)
      → ask_of (seen walk).position ≡ Want run
      → Claims x
  claims-of x o a = record {
    there = there-of seen w x id (seen walk).position o.stands;
    wanted = wants-of
        (seen walk).position.runs (seen walk).position.place run a;
  }

  -- what a claim comes to
  pub claim-step : (x : Shown seen w history origins slots making table end) (c : Claims x)
      (kind : ClaimKind) → step w x.state (Claim id run kind)
      ≡ claimed w x.state id c.there.node
      (placed c.there.origin (seen walk).position (assigned c.there.node))
      run c.wanted.body c.wanted.go kind
  claim-step x c kind =
      ap (λ o. and_then o (step_of w x.state (Claim id run kind)))
      (c.there.at_state
      ∙ ap
      (λ p.
      Some
      (record {
        origin = c.there.origin;
        journal = (seen walk).position.journal;
        runs =
            (seen walk).position.runs;
        status = assigned c.there.node p;
      })) c.wanted.is)
      ∙ ap
      (λ t.
      and_then (only_if t run)
      (λ run. claimed w x.state id c.there.node
      (placed c.there.origin (seen walk).position (assigned c.there.node))
      run c.wanted.body c.wanted.go kind)) (same_run-refl run)

  -- the other requests stand as before where a run is begun
  others-alike : (x : Shown seen w history origins slots making table end) (z : RequestState P I A)
      (q : RequestState P I A) → at x.state.requests id ≡ Some q
      → result_in z.status ≡ result_in q.status → found table.finished run ≡ None
      → request_of table.begun run ≡ None →
      (b : RequestState P I A)
      → Alike w x.state
      (record {
        requests = put x.state.requests id z;
        begun = record { run = run; by = id }
            ∷ x.state.begun;
        table = x.state.table;
        tools_used = x.state.tools_used;
      }) b
  others-alike x z q e r f u b = record {
    begun = λ other body go by h g. go_on other by (same_run run other) refl g;
    told = λ keys ids y go h. map-alike _ _ ids (result-put x.state.requests id q z e r);
  }
    where
      f_now : found x.state.table run ≡ None
      f_now = ap (λ t. found t run) (sym x.finished) ∙ f

      u_now : request_of (unfinished x.state.table x.state.begun) run ≡ None
      u_now = ap (λ t. request_of t run) (sym x.begun) ∙ u

      go_on : (other : RunId) (by : ℕ) (t : Bool) → same_run run other ≡ t
          → request_of (unfinished x.state.table x.state.begun) other ≡ Some by →
          request_of
          (begun_if (found x.state.table run) (record { run = run; by = id })
          (unfinished x.state.table x.state.begun)) other ≡ Some by
      go_on other by true e g = absurd (let k : None ≡ Some by = sym u_now
          ∙ (ap (request_of (unfinished x.state.table x.state.begun)) (same_run-true run other e)
          ∙ g) in cc)
      go_on other by false e g =
          ap
          (λ o.
          request_of
          (begun_if o (record { run = run; by = id }) (unfinished x.state.table x.state.begun))
          other) f_now
          ∙ (ap (λ t. this_or t (request_of (unfinished x.state.table x.state.begun) other) id) e
          ∙ g)

  -- the state in which the run is begun
  abbrev begun_stopped : (x : Shown seen w history origins slots making table end) → Claims x
      → Stopped I A
  begun_stopped x c = run_on w.tools run c.wanted.body (seen walk).position.journal nothing_yet

  abbrev begun_position : (x : Shown seen w history origins slots making table end) → Claims x
      → Position P I A
  begun_position x c = stopped_in (seen walk).position.runs run c.wanted.go (begun_stopped x c)

  abbrev begun_state : (x : Shown seen w history origins slots making table end) → Claims x
      → State P I A
  begun_state x c = record {
    requests = put x.state.requests id
        (placed c.there.origin (begun_position x c) (assigned c.there.node));
    begun = record { run = run; by = id } ∷ x.state.begun;
    table = x.state.table;
    tools_used = x.state.tools_used;
  }

  begun-step : (x : Shown seen w history origins slots making table end) (c : Claims x)
      → found table.finished run ≡ None → request_of table.begun run ≡ None
      → step w x.state (Claim id run Go) ≡ Some (begun_state x c)
  begun-step x c f u = claim-step x c Go ∙ ap (λ t. unless t (begun_state x c))
      (not_begun x.state.table x.state.begun run (ap (λ t. found t run) (sym x.finished) ∙ f)
      (ap (λ t. request_of t run) (sym x.begun) ∙ u))

  pub wanting_status : (x : Shown seen w history origins slots making table end) (c : Claims x)
      → assigned c.there.node (seen walk).position.place
      ≡ assigned c.there.node (walking (wants c.wanted.site run c.wanted.body c.wanted.go))
  wanting_status x c = ap (assigned c.there.node) c.wanted.is

  pub begun-shown : {bodies : List (Option RunId)} {runs : TableRuns}
      → IsOwn w history.events table.finished id (seen walk)
      → ask_of (seen walk).position ≡ Want run
      → found table.finished run ≡ None → request_of table.begun run ≡ None →
      after.events ≡ history.events ++ Claim id run Go ∷ [] → history.room + 2 ≡ after.room + 1
      → bodies ≡ put making id (Some run) → runs.finished ≡ table.finished
      → runs.begun ≡ record { run = run; by = id } ∷ table.begun →
      Shown seen w history origins slots making table end
      → Shown seen w after origins slots bodies runs end
  begun-shown {bodies} {runs} o a f u ev room bo fin beg x =
      let c = claims-of x o a in
      let q : RequestState P I A = placed c.there.origin (seen walk).position
      (assigned c.there.node) in
      let z : RequestState P I A = placed c.there.origin (begun_position x c)
      (assigned c.there.node) in
      let t : State P I A = begun_state x c in
      let f_now : found x.state.table run ≡ None = ap (λ t. found t run) (sym x.finished) ∙ f in
      subst (λ (xs : List (Slot W)). Shown seen w after origins xs bodies runs end)
      (put-there slots id (Assigned c.there.node) c.there.at_slots)
      (shown-put seen w (Claim id run Go) id q z t (Assigned c.there.node) x c.there.at_state
      (begun-step x c f u) refl refl refl refl refl ev
      (let k : owed q.status ≡ 1 = ap owed (wanting_status x c) in omega arith)
      (bo
      ∙ (ap (λ xs. put xs id (Some run)) x.bodies
      ∙ sym (map-puts making_of x.state.requests id z)))
      fin
      (beg
      ∙ (ap (λ xs. record { run = run; by = id } ∷ xs) x.begun
      ∙ ap
      (λ o. begun_if o (record { run = run; by = id }) (unfinished x.state.table x.state.begun))
      (sym f_now)))
      (λ n b d e. others-alike x z q c.there.at_state refl f u b)
      (record { place = (begun_position x c).place; is = refl }))

  pub begun-out : IsOwn w history.events table.finished id (seen walk)
      → ask_of (seen walk).position ≡ Want run → found table.finished run ≡ None
      → request_of table.begun run ≡ None →
      after.events ≡ history.events ++ Claim id run Go ∷ [] → {runs : Records}
      → runs ≡ table.finished
      → Shown seen w history origins slots making table end
      → IsOut w after.events runs id (seen walk) Goes
  begun-out o a f u ev {runs} fin x =
      let c = claims-of x o a in
      let q : RequestState P I A = placed c.there.origin (seen walk).position
      (assigned c.there.node) in
      let z : RequestState P I A = placed c.there.origin (begun_position x c)
      (assigned c.there.node) in
      record {
        next = begun_position x c;
        stands = record {
          state = begun_state x c;
          origin = c.there.origin;
          node = c.there.node;
          history = subst (λ es. IsHistory w es (begun_state x c)) (sym ev)
              (more w history.events (Claim id run Go) x.state (begun_state x c) x.history
              (begun-step x c f u));
          there = at-put_same x.state.requests id q z c.there.at_state;
        };
        world = o.world;
        learnt = subst (ArePartOf (seen walk).learnt) (sym fin) o.learnt;
        goes = ap
            (λ place. answered_at w runs (seen walk).position.journal (seen walk).position.runs
            place Goes) c.wanted.is;
        turn = o.asked;
        few = let k : length after.events ≡ suc (length history.events) = one-more history.events
            after.events (Claim id run Go) ev in let m : (seen walk).asked
            ≤ length history.events = o.few in omega arith;
      }

  -- the journal with the record replayed
  record Taken (x : Shown seen w history origins slots making table end) : Type 0 where
    pub made : Record
    pub next : Journal
    pub is_found : found x.state.table run ≡ Some made
    pub replayed : replay x.state.table run (seen walk).position.journal ≡ Some next

  taken-of : (x : Shown seen w history origins slots making table end)
      → IsSome (found table.finished run) → Taken x
  taken-of x f = go (found x.state.table run) refl (subst (λ t. IsSome (found t run)) x.finished f)
    where
      go : (o : Option Record) → found x.state.table run ≡ o → IsSome o → Taken x
      go None e h = absurd (cc)
      go (Some made) e h = let v = lawful w history.events x.state x.history in let y = replay-total
          x.state.table v.ordered run (seen walk).position.journal (made, e) in
          record { made = made; next = y.0; is_found = e; replayed = y.1 }

  abbrev taken_position : (x : Shown seen w history origins slots making table end) → Claims x
      → Taken x
      → Position P I A
  taken_position x c y = after_run (seen walk).position.runs run c.wanted.go y.made y.next

  abbrev taken_state : (x : Shown seen w history origins slots making table end) → Claims x
      → Taken x
      → State P I A
  taken_state x c y = with_request x.state id
      (placed c.there.origin (taken_position x c y) (assigned c.there.node))

  taken-step : (x : Shown seen w history origins slots making table end) (c : Claims x)
      (y : Taken x)
      → step w x.state (Claim id run Use) ≡ Some (taken_state x c y)
  taken-step x c y = claim-step x c Use
      ∙ (ap
      (λ o.
      and_then o
      (λ made. and_then (replay x.state.table run (seen walk).position.journal)
      (λ next.
      Some
      (with_request x.state id
      (placed c.there.origin (after_run (seen walk).position.runs run c.wanted.go made next)
      (assigned c.there.node)))))) y.is_found
      ∙ ap
      (λ o.
      and_then o
      (λ next.
      Some
      (with_request x.state id
      (placed c.there.origin (after_run (seen walk).position.runs run c.wanted.go y.made next)
      (assigned c.there.node))))) y.replayed)

  pub taken-shown : IsOwn w history.events table.finished id (seen walk)
      → ask_of (seen walk).position ≡ Want run → IsSome (found table.finished run)
      → after.events ≡ history.events ++ Claim id run Use ∷ [] →
      history.room + 1 ≡ after.room + 1 → Shown seen w history origins slots making table end
      → Shown seen w after origins slots making table end
  taken-shown o a f ev room x =
      let c = claims-of x o a in
      let y = taken-of x f in
      let q : RequestState P I A = placed c.there.origin (seen walk).position
      (assigned c.there.node) in
      let z : RequestState P I A = placed c.there.origin (taken_position x c y)
      (assigned c.there.node) in
      subst (λ (xs : List (Slot W)). Shown seen w after origins xs making table end)
      (put-there slots id (Assigned c.there.node) c.there.at_slots)
      (shown-put seen w (Claim id run Use) id q z (taken_state x c y) (Assigned c.there.node) x
      c.there.at_state (taken-step x c y) refl refl refl refl refl ev
      (let k : owed q.status ≡ 1 = ap owed (wanting_status x c) in omega arith)
      (x.bodies
      ∙ sym
      (map-put making_of x.state.requests id q z c.there.at_state
      (sym (ap run_at (wanting_status x c))))) refl x.begun
      (λ n b d e.
      record {
        begun = λ other body go by h g. g;
        told = λ keys ids y go h.
            map-alike _ _ ids (result-put x.state.requests id q z c.there.at_state refl);
      })
      (record { place = (taken_position x c y).place; is = refl }))

  pub taken-out : IsOwn w history.events table.finished id (seen walk)
      → ask_of (seen walk).position ≡ Want run → IsSome (found table.finished run)
      → after.events ≡ history.events ++ Claim id run Use ∷ [] →
      Shown seen w history origins slots making table end
      → IsOut w after.events table.finished id (seen walk) Uses
  taken-out o a f ev x =
      let c = claims-of x o a in
      let y = taken-of x f in
      let q : RequestState P I A = placed c.there.origin (seen walk).position
      (assigned c.there.node) in
      let z : RequestState P I A = placed c.there.origin (taken_position x c y)
      (assigned c.there.node) in
      let p : Position P I A = (seen walk).position in
      record {
        next = taken_position x c y;
        stands = record {
          state = taken_state x c y;
          origin = c.there.origin;
          node = c.there.node;
          history = subst (λ es. IsHistory w es (taken_state x c y)) (sym ev)
              (more w history.events (Claim id run Use) x.state (taken_state x c y) x.history
              (taken-step x c y));
          there = at-put_same x.state.requests id q z c.there.at_state;
        };
        world = o.world;
        learnt = o.learnt;
        goes = ap (λ records. answered w records p Uses) x.finished
            ∙ (ap (λ place. answered_at w x.state.table p.journal p.runs place Uses) c.wanted.is
            ∙ (ap
            (λ o.
            and_then o
            (λ made. and_then (replay x.state.table run p.journal)
            (λ next. Some (after_run p.runs run c.wanted.go made next)))) y.is_found
            ∙ ap (λ o. and_then o (λ next. Some (after_run p.runs run c.wanted.go y.made next)))
            y.replayed));
        turn = o.asked;
        few = let k : length after.events ≡ suc (length history.events) = one-more history.events
            after.events (Claim id run Use) ev in let m : (seen walk).asked
            ≤ length history.events = o.few in omega arith;
      }

module _ {W P I A : Type 0} (seen : W → Seen P I A) (w : World P I A) where
  -- there may be more room
  pub shown-room : {history after : History} {origins : List Origin} {slots : List (Slot W)}
      {making : List (Option RunId)} {table runs : TableRuns} {end : Option End}
      → after.events ≡ history.events → history.room ≤ after.room →
      runs.finished ≡ table.finished → runs.begun ≡ table.begun
      → Shown seen w history origins slots making table end
      → Shown seen w after origins slots making runs end
  shown-room {history} {after} {origins} {slots} ev room fin beg x = record {
    state = x.state;
    history = subst (λ es. IsHistory w es x.state) (sym ev) x.history;
    asked = x.asked;
    rooted = x.rooted;
    each = subst (λ es. Paired (ShowsSlot w x.state (length es) seen) slots x.state.requests)
        (sym ev) x.each;
    bodies = x.bodies;
    finished = fin ∙ x.finished;
    begun = beg ∙ x.begun;
    room = let r : owed_by x.state.requests ≤ history.room = x.room in omega arith;
    ends = x.ends;
  }

  -- a request with a node has a place in the list of bodies
  pub placed-there : {history : History} {origins : List Origin} {slots : List (Slot W)}
      {making : List (Option RunId)} {table : TableRuns} {end : Option End}
      (x : Shown seen w history origins slots making table end) (id : ℕ) (p : Position P I A) →
      IsWith w history.events id p → id < length making
  placed-there {making = making} x id p i =
      let t = there-of seen w x id p i in
      let l : id < length x.state.requests = at-less x.state.requests id _ t.at_state in
      let m : length making ≡ length x.state.requests = ap length x.bodies
      ∙ length-map x.state.requests making_of in omega arith

  -- so has that of a walk which is its own
  pub making-there : {history : History} {origins : List Origin} {slots : List (Slot W)}
      {making : List (Option RunId)} {table : TableRuns} {records : Records} {end : Option End}
      (id : ℕ) (walk : W) → ∥ Shown seen w history origins slots making table end ∥₁ →
      ∥ IsOwn w history.events records id (seen walk) ∥₁ → id < length making
  making-there id walk shown own = ∥∥₁_elim shown (λ p q. le_prop p q)
      (λ x. ∥∥₁_elim own (λ p q. le_prop p q)
      (λ o. placed-there x id (seen walk).position o.stands))
