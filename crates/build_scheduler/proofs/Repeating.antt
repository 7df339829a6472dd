-- A request is over at once by the records that are left to it, where another one of its key is
-- over.
use Rattle.std.proofs.Common.{
  ◌≡◌,
  ◌≤◌,
  ◌<◌,
  ◌+◌,
  ◌==◌,
  ◌⊎◌,
  inl,
  inr,
  ℕ,
  zero,
  suc,
  true,
  List,
  [],
  ◌∷◌,
  ◌++◌,
  length,
  drop,
  Option,
  None,
  Some,
  refl,
  ap,
  sym,
  ◌∙◌,
  subst,
  arith,
}
use Rattle.std.proofs.Math.Seq.{drop-nil}
use Rattle.std.proofs.lemmas.List.{length-append}
use Rattle.msb_laws.specs.Asking.{and_then}
use Rattle.result_cache.specs.declared.run.RunId.{RunId}
use Rattle.result_cache.specs.declared.request.RequestKey.{RequestKey}
use Rattle.result_cache.specs.declared.request.RequestResult.{RequestResult}
use Rattle.result_cache.specs.declared.record.Record.{Record}
use Rattle.result_cache.specs.Journal.{Journal, add, ended}
use Rattle.result_cache.specs.Lists.{In}
use Rattle.result_cache.specs.Replay.{replay, replay_all}
use Rattle.result_cache.specs.Table.{FinishedRun, Records, TableRuns, found}
use Rattle.result_cache.proofs.RunTests.{and_then-some}
use Rattle.build_meaning.specs.declared.event.Event.{Event}
use Rattle.build_meaning.specs.declared.event.Event.TheVariants.{Assign}
use Rattle.build_meaning.specs.Lists.{at, put, Paired}
use Rattle.build_meaning.specs.Plain.{IsPlain}
use Rattle.build_meaning.specs.World.{World}
use Rattle.build_meaning.specs.Walk.{Walk, Reply, gives, wants}
use Rattle.build_meaning.specs.SoFar.{
  nothing_yet,
  recorded,
  result_of,
  runs_of,
  with_calls,
}
use Rattle.build_meaning.specs.Stop.{Stopped, ends, asks, run_on}
use Rattle.build_meaning.specs.ByTable.{walk_by, request_by}
use Rattle.build_meaning.specs.State.{
  Place,
  Within,
  walking,
  within,
  Status,
  ready,
  assigned,
  waits,
  calling,
  done,
  Origin as Asked,
  RequestState,
  State,
  with_request,
  start,
}
use Rattle.build_meaning.specs.Step.{assign_at, only_if, step_of, step, after_all}
use Rattle.build_meaning.specs.History.{IsHistory}
use Rattle.build_meaning.proofs.EventsKeepLawful.{all-lawful, some-is, start-lawful}
use Rattle.build_meaning.proofs.LawfulStates.{LawfulJournal}
use Rattle.build_meaning.proofs.PlainRequests.{plain_requests_give_alike}
use Rattle.build_meaning.proofs.ListPlaces.{at-put_same, at-front, map-at}
use Rattle.build_meaning.proofs.OpenRequests.{ids_in, told_in, kin_of, kins-at, at-kins}
use Rattle.build_meaning.proofs.ParentsAndChildren.{Kin, same_some}
use Rattle.build_history.specs.Began.{AwaitsCall, GivesJournal}
use Rattle.build_history.specs.Repeated.{LeadsOn, EndsAs, EndsByRecords, uses_of_all}
use Rattle.build_history.proofs.ToldByTable.{
  calls_go_by_the_table,
  requests_end_by_the_table,
  what_the_table_tells_stays,
}
use Rattle.build_scheduler.specs.declared.walker.Ask.TheVariants.{Done as IsOver}
use Rattle.build_scheduler.specs.declared.walker.Answer.{Answer}
use Rattle.build_scheduler.specs.declared.walker.Answer.TheVariants.{First, Go, Use, Results}
use Rattle.build_scheduler.specs.declared.kept.InstanceEnd.{InstanceEnd}
use Rattle.build_scheduler.specs.declared.kept.Kept.{Kept}
use Rattle.build_scheduler.specs.declared.kept.KeptEnds.{KeptEnds}
use Rattle.build_scheduler.specs.declared.slot.Origin.{Origin}
use Rattle.build_scheduler.specs.declared.slot.Slot.{Slot}
use Rattle.build_scheduler.specs.declared.slot.Slot.TheVariants.{
  Ready,
  Assigned,
  Waiting,
  Calling,
  Done as Over,
}
use Rattle.build_scheduler.specs.declared.slot.End.{End}
use Rattle.build_scheduler.specs.Behind.{AreBehind}
use Rattle.build_scheduler.specs.Kept.{
  AreKept,
  BeganWithNothing,
  EndsAlike,
  IsKept,
  IsCalled,
  KnowsNothing,
  LeavesJournal,
  Serves,
  used_in,
  uses_one,
}
use Rattle.build_scheduler.specs.KeptEnds.{AreFewer, IsAmong, IsPut}
use Rattle.build_scheduler.specs.History.{History}
use Rattle.build_scheduler.specs.Own.{Seen, placed, IsWith, IsOwn}
use Rattle.build_scheduler.specs.Position.{Position, after_run, ask_of, answered, stopped_in}
use Rattle.build_scheduler.specs.Ready.{IsReady}
use Rattle.build_scheduler.specs.Shown.{Shown}
use Rattle.build_scheduler.specs.Slots.{
  origin_of,
  making_of,
  run_in,
  run_at,
  owed,
  owed_in,
  owed_by,
  ShowsReady,
  ShowsSlot,
}
use Rattle.build_scheduler.proofs.HistoryFacts.{kindred, one_state}
use Rattle.build_scheduler.proofs.KeptLists.{for-among, put-among}
use Rattle.build_scheduler.proofs.LeftRuns.{drop-front, left-before, runs-left}
use Rattle.build_scheduler.proofs.ManyUses.{behind-many}
use Rattle.build_scheduler.proofs.OneRequest.{
  map-put,
  put-there,
  owed-put,
  result-put,
  ends-put,
  later-same,
}
use Rattle.build_scheduler.proofs.OwnWalks.{there-of, gives-of}
use Rattle.build_scheduler.proofs.SlotsStay.{
  paired-other,
  paired-puts,
  map-alike,
  Alike,
  slot-later,
}

append-cancel : {X : Type 0} (xs ys zs : List X) → xs ++ ys ≡ xs ++ zs → ys ≡ zs
append-cancel [] ys zs h = h
append-cancel (x ∷ xs) ys zs h = append-cancel xs ys zs (cc)

pub drop-drop : {X : Type 0} (n more : ℕ) (xs : List X) → drop more (drop n xs) ≡ drop (n + more) xs
drop-drop zero more xs = ap (λ k. drop k xs) (let e : more ≡ 0 + more = omega arith in e)
drop-drop (suc n) more [] =
    ap (drop more) (drop-nil (suc n)) ∙ (drop-nil more ∙ sym (drop-nil (suc n + more)))
drop-drop (suc n) more (x ∷ xs) =
    drop-drop n more xs
    ∙ ap (λ k. drop k (x ∷ xs)) (let e : suc (n + more) ≡ suc n + more = omega arith in e)

same-reply : (a b : Reply) (runs : List RunId) → result_of a runs ≡ result_of b runs → a ≡ b
same-reply a b runs h = λ i. record {
  ok = (h i).ok;
  evaluated = (h i).evaluated;
  returned = (h i).returned;
  error = (h i).error;
}

module _ {P I A : Type 0} where
  -- a request in whose calls this one is not over awaits it
  awaits-of : (st : Status P I A) (id : ℕ) (ids : List ℕ) → ids_in st ≡ Some ids → In id ids →
      AwaitsCall id st
  awaits-of (calling keys ms x go) id ids e i = subst (λ ns. In id ns) (sym (some-is ms ids e)) i
  awaits-of (ready place) id ids e i = absurd (cc)
  awaits-of (assigned node place) id ids e i = absurd (cc)
  awaits-of (waits run b go) id ids e i = absurd (cc)
  awaits-of (done result) id ids e i = absurd (cc)

  -- in no body a place is between two runs
  between-of : (place : Place P I A) → run_in place ≡ None → (x : Walk P I A) × (place ≡ walking x)
  between-of (walking x) e = (x, refl)
  between-of (within x stop) e = absurd (cc)

module _ {P I A : Type 0} (w : World P I A) where
  pub after-append : (events more : List Event) (s t : State P I A) →
      after_all w s events ≡ Some t →
      after_all w s (events ++ more) ≡ after_all w t more
  after-append [] more s t h = ap (λ u. after_all w u more) (some-is s t h)
  after-append (event ∷ events) more s t h =
      let y = and_then-some (step w s event) (λ next. after_all w next events) t h in
      ap (λ o. and_then o (λ next. after_all w next (events ++ more))) y.1
      ∙ after-append events more y.0 t y.2

-- a request that is ready between two runs, and the records that are left to it
module _ {P I A : Type 0} (w : World P I A) {history : History} (id node : ℕ) {rest : List RunId}
    (e : EndsAlike w history id node rest) where
  abbrev assigned_request : RequestState P I A
  assigned_request = record {
    origin = e.request.origin;
    journal = e.request.journal;
    runs = e.request.runs;
    status = assigned node (walking e.walk);
  }

  abbrev assigned_state : State P I A
  assigned_state = with_request e.state id assigned_request

  there_now : at assigned_state.requests id ≡ Some assigned_request
  there_now = at-put_same e.state.requests id e.request assigned_request e.there

  assign-step : step w e.state (Assign id node) ≡ Some assigned_state
  assign-step =
      ap (λ o. and_then o (step_of w e.state (Assign id node))) e.there
      ∙ ap (assign_at w e.state id node e.request) e.between

  pub by-records : EndsByRecords w assigned_state id node e.request.origin e.request.runs e.result
      e.last
  by-records = requests_end_by_the_table w assigned_state id node assigned_request e.walk e.result
      e.last there_now refl e.told

  rest-is : by-records.rest ≡ rest
  rest-is = append-cancel e.request.runs by-records.rest rest (sym by-records.runs_so ∙ e.left)

  abbrev last_request : RequestState P I A
  last_request = record {
    origin = e.request.origin;
    journal = e.last;
    runs = e.result.runs;
    status = assigned node (walking (gives by-records.reply));
  }

  uses-step : after_all w assigned_state
      (uses_of_all id rest) ≡ Some (with_request assigned_state id last_request)
  uses-step = subst (λ rs. after_all w assigned_state (uses_of_all id rs)
      ≡ Some (with_request assigned_state id last_request)) rest-is by-records.after

  assigned-history : (events : List Event) → events ≡ history.events ++ Assign id node ∷ [] →
      IsHistory w events assigned_state
  assigned-history events ev =
      subst (λ es. IsHistory w es assigned_state) (sym ev)
      (after-append w history.events (Assign id node ∷ []) (start w) e.state e.history
      ∙ ap (λ o. and_then o (λ next. after_all w next [])) assign-step)

  -- with a node it stands at its end
  pub last-with : (events : List Event) →
      events ≡ history.events ++ Assign id node ∷ uses_of_all id rest →
      IsWith w events id (record
      { journal = e.last; runs = e.result.runs; place = walking (gives by-records.reply) })
  last-with events ev = record {
    state = with_request assigned_state id last_request;
    origin = e.request.origin;
    node = node;
    history = subst (λ es. IsHistory w es (with_request assigned_state id last_request)) (sym ev)
        (after-append w history.events (Assign id node ∷ uses_of_all id rest) (start w) e.state
        e.history
        ∙ (ap (λ o. and_then o (λ next. after_all w next (uses_of_all id rest))) assign-step
        ∙ uses-step));
    there = at-put_same assigned_state.requests id assigned_request last_request there_now;
  }

  pub last-told : result_of by-records.reply e.result.runs ≡ e.result
  last-told = by-records.told

module _ {W P I A : Type 0} (seen : W → Seen P I A) (w : World P I A) where
  -- a request with a node goes on by some events of its own, and is in no other body then
  shown-many : {history after : History} {origins : List Origin} {slots : List (Slot W)}
      {making : List (Option RunId)}
      {table : TableRuns} {end : Option End} (more : List Event) (id node : ℕ) (o : Asked)
      (p r : Position P I A)
      (x : Shown seen w history origins slots making table end) →
      at x.state.requests id ≡ Some (placed o p (assigned node)) →
      at slots id ≡ Some (Assigned node) → run_in r.place ≡ run_in p.place →
      owed_in r.place ≡ owed_in p.place →
      after_all w x.state more ≡ Some (with_request x.state id (placed o r (assigned node))) →
      after.events ≡ history.events ++ more → owed_by x.state.requests ≤ after.room →
      Shown seen w after origins slots making table end
  shown-many {history} {after} {origins} {slots} {making} {table} {end} more id node o p r x e sl
      run
      owes st ev room =
      let q : RequestState P I A = placed o p (assigned node) in
      let z : RequestState P I A = placed o r (assigned node) in
      let t : State P I A = with_request x.state id z in
      let count : length history.events ≤ length after.events =
      (let k : length after.events ≡ length (history.events ++ more) = ap length ev in
      let h : length (history.events ++ more) ≡ length history.events + length more =
      length-append history.events more in omega arith) in
      let alike : (b : RequestState P I A) → Alike w x.state t b = λ b. record {
        begun = λ run body go by h g. g;
        told = λ keys ids y go h. map-alike _ _ ids (result-put x.state.requests id q z e refl);
      } in
      record {
        state = t;
        history = subst (λ es. IsHistory w es t) (sym ev)
            (after-append w history.events more (start w) x.state x.history ∙ st);
        asked = x.asked ∙ sym (map-put origin_of x.state.requests id q z e refl);
        rooted = x.rooted;
        each = subst (λ (xs : List (Slot W)). Paired (ShowsSlot w t (length after.events) seen) xs
            t.requests) (put-there slots id (Assigned node) sl)
            (paired-puts (ShowsSlot w x.state (length history.events) seen)
            (ShowsSlot w t (length after.events) seen) slots x.state.requests id (Assigned node) z
            (λ n u v d f h. slot-later w seen x.state t (length history.events)
            (length after.events)
            (later-same seen w x.state t (length history.events) (length after.events) refl count) u
            v
            (alike v) h)
            (record { place = r.place; is = refl }) x.each);
        bodies = x.bodies ∙ sym (map-put making_of x.state.requests id q z e run);
        finished = x.finished;
        begun = x.begun;
        room = let h = owed-put x.state.requests id q z e in
            let k : owed z.status ≡ owed q.status = owes in omega arith;
        ends = ends-put x.state t id q z end e refl refl refl x.ends;
      }

  -- after its Assign the request may use the records that are left to it: its slot is out
  pub record Uses {history : History} {origins : List Origin} {slots : List (Slot W)}
      {making : List (Option RunId)} {table : TableRuns} {end : Option End}
      (x : Shown seen w history origins slots making table end) (id node : ℕ) {before : History}
      {rest : List RunId} (e : EndsAlike w before id node rest) : Type 0 where
    pub there : at x.state.requests id ≡ Some (assigned_request w id node e)
    pub steps : after_all w x.state
        (uses_of_all id rest) ≡ Some (with_request x.state id (last_request w id node e))
    pub out : at slots id ≡ Some (Assigned node)

  pub uses-go : {history before : History} {origins : List Origin} {slots : List (Slot W)}
      {making : List (Option RunId)} {table : TableRuns} {end : Option End}
      (id node : ℕ) {rest : List RunId} (e : EndsAlike w history id node rest) →
      before.events ≡ history.events ++ Assign id node ∷ [] →
      (x : Shown seen w before origins slots making table end) → Uses x id node e
  uses-go {history} {before} {slots = slots} id node {rest} e ev x =
      let s : State P I A = assigned_state w id node e in
      let q : RequestState P I A = assigned_request w id node e in
      let same : s ≡ x.state =
      one_state w before.events s x.state (assigned-history w id node e before.events ev)
      x.history in
      let at_q : at x.state.requests id ≡ Some q =
      subst (λ (t : State P I A). at t.requests id ≡ Some q) same (there_now w id node e) in
      let steps = subst (λ (t : State P I A). after_all w t
      (uses_of_all id rest) ≡ Some (with_request t id (last_request w id node e))) same
      (uses-step w id node e) in
      let p : Position P I A =
      record { journal = e.request.journal; runs = e.request.runs; place = walking e.walk } in
      let i : IsWith w before.events id p =
      record {
        state = x.state;
        origin = e.request.origin;
        node = node;
        history =
            x.history;
        there = at_q;
      } in
      let c = there-of seen w x id p i in
      let y : at x.state.requests id ≡ Some (placed c.origin p (assigned c.node)) = c.at_state in
      let same_request = same_some (at x.state.requests id) q
      (placed c.origin p (assigned c.node)) at_q y in
      let same_node : q.status ≡ assigned c.node p.place =
      ap (λ (a : RequestState P I A). a.status) same_request in
      let n : node ≡ c.node = cc in
      record { there = at_q; steps = steps; out = c.at_slots ∙ ap (λ m. Some (Assigned m)) (sym n) }

  -- it uses them
  pub uses-shown : {history before after : History} {origins : List Origin} {slots : List (Slot W)}
      {making : List (Option RunId)}
      {table : TableRuns} {end : Option End} (id node : ℕ) {rest : List RunId}
      (e : EndsAlike w history id node rest) →
      before.events ≡ history.events ++ Assign id node ∷ [] → history.room ≡ before.room + 1 →
      after.events ≡ before.events ++ uses_of_all id rest → before.room ≡ after.room + length rest →
      Shown seen w before origins slots making table end →
      Shown seen w after origins slots making table end
  uses-shown {history} {before} {after} {slots = slots} id node {rest} e ev room more_ev more_room x
      =
      let s : State P I A = assigned_state w id node e in
      let q : RequestState P I A = assigned_request w id node e in
      let same : s ≡ x.state =
      one_state w before.events s x.state (assigned-history w id node e before.events ev)
      x.history in
      let u = uses-go id node e ev x in
      let p : Position P I A =
      record { journal = e.request.journal; runs = e.request.runs; place = walking e.walk } in
      let r : Position P I A =
      record {
        journal = e.last;
        runs = e.result.runs;
        place = walking
            (gives (by-records w id node e).reply);
      } in
      let owes : owed_by (put e.state.requests id q) + owed e.request.status ≡ owed_by
      e.state.requests + owed q.status =
      owed-put e.state.requests id e.request q e.there in
      let two : owed e.request.status ≡ 2 = ap owed e.between in
      let now : owed_by x.state.requests ≡ owed_by (put e.state.requests id q) =
      ap (λ (t : State P I A). owed_by t.requests) (sym same) in
      shown-many (uses_of_all id rest) id node e.request.origin p r x u.there u.out refl refl
      u.steps more_ev
      (let spare : owed_by e.state.requests + length rest ≤ history.room = e.spare in omega arith)

  -- and no tool meanwhile
  pub uses-behind : {history before : History} (after : History) {origins : List Origin}
      {slots : List (Slot W)} {making : List (Option RunId)}
      {table : TableRuns} {end : Option End} (id node : ℕ) {rest : List RunId}
      (e : EndsAlike w history id node rest) →
      before.events ≡ history.events ++ Assign id node ∷ [] →
      after.events ≡ before.events ++ uses_of_all id rest →
      Shown seen w before origins slots making table end → AreBehind seen w before.events slots →
      AreBehind seen w after.events slots
  uses-behind {before = before} after {slots = slots} id node {rest} e ev more_ev x behind =
      let u = uses-go id node e ev x in
      let t : State P I A = with_request x.state id (last_request w id node e) in
      let later : IsHistory w after.events t =
      subst (λ es. IsHistory w es t) (sym more_ev)
      (after-append w before.events (uses_of_all id rest) (start w) x.state x.history ∙ u.steps) in
      behind-many w seen slots before.events after.events id node rest x.state
      (last_request w id node e) x.history u.steps later more_ev u.out behind

-- a walk that stands at that end is the request's own
module _ {W P I A : Type 0} (seen : W → Seen P I A) (w : World P I A) {history : History}
    (id node : ℕ) {rest : List RunId} (e : EndsAlike w history id node rest) where
  pub ends-own : (events : List Event) (table : Records) (reply : Reply) (walk : W) →
      events ≡ history.events ++ Assign id node ∷ uses_of_all id rest →
      result_of reply e.result.runs ≡ e.result →
      seen walk ≡ record {
        world = w;
        position = record {
          journal = e.last;
          runs = e.result.runs;
          place = walking (gives reply);
        };
        asked = 1;
        learnt = [];
      } → IsOwn w events table id (seen walk)
  ends-own events table reply walk ev told is =
      let mine : Reply = (by-records w id node e).reply in
      let same : mine ≡ reply = same-reply mine reply e.result.runs
      (last-told w id node e ∙ sym told) in
      let stands = subst (λ (r : Reply). IsWith w events id (record {
        journal = e.last;
        runs = e.result.runs;
        place = walking (gives r);
      })) same (last-with w id node e events ev) in
      let count : length events ≡ length history.events + length
      (Assign id node ∷ uses_of_all id rest) =
      ap length ev ∙ length-append history.events (Assign id node ∷ uses_of_all id rest) in
      let more : length (Assign id node ∷ uses_of_all id rest) ≡ suc
      (length (uses_of_all id rest)) =
      refl in
      let few : 1 ≤ length events = omega arith in
      let some : 0 < 1 = omega arith in
      subst (λ (u : Seen P I A). IsOwn w events table id u) (sym is) (record {
        stands = stands;
        world = refl;
        learnt = record {
          in_order = tt;
          shared = λ run made h. absurd (let a : None ≡ Some made = h in cc);
        };
        asked = some;
        few = few;
      })

module _ {W P I A : Type 0} (seen : W → Seen P I A) (w : World P I A) {history : History}
    {origins : List Origin} {slots : List (Slot W)}
    {making : List (Option RunId)} {table : TableRuns} {end : Option End}
    (x : Shown seen w history origins slots making table end) where
  -- the slot of a caller with an empty journal
  nothing-known : (slot : Slot W) (q : RequestState P I A) →
      ShowsSlot w x.state (length history.events) seen slot q →
      KnowsNothing seen (Some slot) → q.journal ≡ []
  nothing-known (Ready walk answer) q s h = absurd h
  nothing-known (Assigned node) q s h = absurd h
  nothing-known (Waiting walk by) q s h = absurd h
  nothing-known (Calling calls) q s h =
      sym (ap (λ (p : Position P I A). p.journal) s.stands.position) ∙ h
  nothing-known Over q s h = absurd h

  own-origin : (id : ℕ) (q : RequestState P I A) → at x.state.requests id ≡ Some q →
      (o : Origin) → at origins id ≡ Some o → o ≡ origin_of q
  own-origin id q e o h =
      same_some (at origins id) o (origin_of q) h
      (ap (λ os. at os id) x.asked ∙ map-at origin_of x.state.requests id q e)

  -- a request that another one calls, and what the table tells of it by that one's journal
  pub record Told (id : ℕ) (q : RequestState P I A) (c : IsCalled origins id) : Type 0 where
    pub by : RequestState P I A
    pub slot : Slot W
    pub there : at x.state.requests c.caller ≡ Some by
    pub at_slot : at slots c.caller ≡ Some slot
    pub shows : ShowsSlot w x.state (length history.events) seen slot by
    pub law : EndsAs w x.state.table by.journal q.origin.key q.journal q.runs q.status
    pub parent : q.origin.parent ≡ Some c.caller

  tells : (id : ℕ) (q : RequestState P I A) → at x.state.requests id ≡ Some q →
      (kin_of q).reply ≡ None → (c : IsCalled origins id) → Told id q c
  tells id q e unanswered c =
      let o : c.origin ≡ origin_of q = own-origin id q e c.origin c.own in
      let parent : q.origin.parent ≡ Some c.caller =
      ap (λ (a : Origin). a.parent) (sym o) ∙ c.by in
      let k = kindred w history.events x.state x.history in
      let u = k.family.up id (kin_of q) (kins-at x.state.requests id q e) unanswered c.caller
      parent in
      let v = at-kins x.state.requests c.caller u.0 u.2 in
      let calls = awaits-of v.0.status id u.1 (ap (λ (a : Kin). a.calls) v.2 ∙ u.3) u.4 in
      let s = paired-other (ShowsSlot w x.state (length history.events) seen) slots x.state.requests
      c.caller v.0 x.each v.1 in
      record {
        by = v.0;
        slot = s.0;
        there = v.1;
        at_slot = s.2;
        shows = s.1;
        law = calls_go_by_the_table w history.events x.state x.history c.caller id v.0 q v.1 calls
            e;
        parent = parent;
      }

  begun-so : (id : ℕ) (q : RequestState P I A) (c : IsCalled origins id) (t : Told id q c) →
      GivesJournal x.state q.origin.parent t.by.journal
  begun-so id q c t =
      subst (λ parent. GivesJournal x.state parent t.by.journal) (sym t.parent)
      (t.by, t.there, refl)

  -- where it began with nothing, that journal is empty
  empty-so : (id : ℕ) (q : RequestState P I A) (c : IsCalled origins id) (t : Told id q c) →
      BeganWithNothing seen slots origins id → t.by.journal ≡ []
  empty-so id q c t b =
      let o : b.origin ≡ c.origin = same_some (at origins id) b.origin c.origin b.own c.own in
      let callers : Some b.caller ≡ Some c.caller =
      sym b.called ∙ (ap (λ (a : Origin). a.parent) o ∙ c.by) in
      let same : b.caller ≡ c.caller = some-is b.caller c.caller callers in
      nothing-known t.slot t.by t.shows
      (subst (KnowsNothing seen) t.at_slot
      (subst (λ n. KnowsNothing seen (at slots n)) same b.nothing))

  -- a request that is over is kept
  pub kept-of : (id : ℕ) (walk : W) (told : RequestResult) →
      IsOwn w history.events table.finished id (seen walk) →
      ask_of (seen walk).position ≡ IsOver told → (c : IsCalled origins id) →
      (kept : Kept W) → kept.id ≡ id →
      kept.result ≡ told → seen kept.walk ≡ record
      { world = (seen walk).world; position = (seen walk).position; asked = 1; learnt = [] } →
      (kept.from_nothing ≡ true → BeganWithNothing seen slots origins id) →
      (kept.plain ≡ true → (o : Origin) → at origins id ≡ Some o →
      IsPlain (seen walk).world o.key) → IsKept seen w table.finished origins kept
  kept-of id walk told own over c kept same_id same_result same_walk nothing plain =
      let p : Position P I A = (seen walk).position in
      let t = there-of seen w x id p own.stands in
      let g = gives-of p.runs p.place told over in
      let q : RequestState P I A = placed t.origin p (assigned t.node) in
      let law = tells id q t.at_state refl c in
      let o : c.origin ≡ origin_of q = own-origin id q t.at_state c.origin c.own in
      let first : Journal = law.by.journal in
      let leads : LeadsOn w x.state.table first t.origin.key p.journal p.runs
      (walking (gives g.reply)) =
      subst (LeadsOn w x.state.table first t.origin.key p.journal p.runs) g.is law.law in
      let runs : p.runs ≡ kept.result.runs =
      ap (λ (r : RequestResult). r.runs) (g.told_is ∙ sym same_result) in
      record {
        origin = c.origin;
        whose = subst (λ n. at origins n ≡ Some c.origin) (sym same_id) c.own;
        first = first;
        last = p.journal;
        told = ap (λ (a : Origin). request_by w table.finished first a.key) o
            ∙ (ap (λ records. request_by w records first t.origin.key) x.finished
            ∙ (leads ∙ ap (λ r. Some (r, p.journal)) (g.told_is ∙ sym same_result)));
        nothing = λ n. empty-so id q c law (nothing n);
        plain = λ n. subst (λ v. IsPlain v c.origin.key) own.world (plain n c.origin c.own);
        reply = g.reply;
        result = ap (result_of g.reply) (sym runs) ∙ (g.told_is ∙ sym same_result);
        walk = same_walk ∙ (λ i. record {
          world = own.world i;
          position = record { journal = p.journal; runs = runs i; place = g.is i };
          asked = 1;
          learnt = [];
        });
      }

  -- where a body has stopped, its request is in the body
  in-body : {C : Type 0} (runs : List RunId) (run : RunId) (go : Record → Journal → Walk P I A)
      (stopped : Stopped I A) (next : Position P I A) {y : Walk P I A} →
      stopped_in runs run go stopped ≡ next → next.place ≡ walking y → C
  in-body runs run go stopped next {y} s pl =
      let inside : Within P I A = record { run = run; so_far = stopped.so_far; go = go } in
      let k : within inside stopped.stop ≡ next.place = ap (λ (p : Position P I A). p.place) s in
      let m : within inside stopped.stop ≡ walking y = k ∙ pl in absurd (cc)

  -- a ready request in no body, and what its walk has used
  used-so : (id : ℕ) (walk : W) (answer : Answer) (q : RequestState P I A) (y : Walk P I A) →
      ShowsReady w x.state (length history.events) (seen walk) answer q →
      q.status ≡ ready (walking y) →
      length (seen walk).position.runs + uses_one answer ≡ length q.runs
  used-so id walk answer q y r st =
      let place : r.position.place ≡ walking y =
      (let h : ready r.position.place ≡ ready (walking y) = sym
      (ap (λ (a : RequestState P I A). a.status) r.is) ∙ st in cc) in
      let runs : q.runs ≡ r.position.runs = ap (λ (a : RequestState P I A). a.runs) r.is in
      by (seen walk).position.journal (seen walk).position.runs (seen walk).position.place answer
      r.position place r.goes.goes ∙ sym (ap length runs)
    where
      by : (journal : Journal) (runs : List RunId) (from : Place P I A) (answer : Answer)
          (next : Position P I A) → next.place ≡ walking y →
          answered w x.state.table (record { journal = journal; runs = runs; place = from })
          answer ≡ Some next → length runs + uses_one answer ≡ length next.runs
      by journal runs from First next pl h =
          let none : length runs + 0 ≡ length runs = omega arith in
          none ∙ ap (λ (p : Position P I A). length p.runs)
          (some-is (record { journal = journal; runs = runs; place = from }) next h)
      by journal runs (walking (gives reply)) Go next pl h = absurd (cc)
      by journal runs (walking (wants site run b go)) Go next pl h =
          let stopped : Stopped I A = run_on w.tools run b journal nothing_yet in
          in-body runs run go stopped next (some-is (stopped_in runs run go stopped) next h) pl
      by journal runs (within v (ends outcome)) Go next pl h = absurd (cc)
      by journal runs (within v (asks key keys go)) Go next pl h = absurd (cc)
      by journal runs (walking (gives reply)) Use next pl h = absurd (cc)
      by journal runs (walking (wants site run b go)) Use next pl h =
          let f = and_then-some (found x.state.table run) (λ made.
          and_then (replay x.state.table run journal)
          (λ now. Some (after_run runs run go made now))) next h in
          let g = and_then-some (replay x.state.table run journal)
          (λ now. Some (after_run runs run go f.0 now)) next f.2 in
          sym (length-append runs (run ∷ []))
          ∙ ap (λ (p : Position P I A). length p.runs)
          (some-is (after_run runs run go f.0 g.0) next g.2)
      by journal runs (within v (ends outcome)) Use next pl h =
          let made : Record = recorded outcome v.so_far.segments in
          let last : Journal = add journal (ended v.run made) in
          sym (length-append runs (v.run ∷ []))
          ∙ ap (λ (p : Position P I A). length p.runs)
          (some-is (after_run runs v.run v.go made last) next h)
      by journal runs (within v (asks key keys go)) Use next pl h = absurd (cc)
      by journal runs (walking (gives reply)) (Results results) next pl h = absurd (cc)
      by journal runs (walking (wants site run b go)) (Results results) next pl h = absurd (cc)
      by journal runs (within v (ends outcome)) (Results results) next pl h = absurd (cc)
      by journal runs (within v (asks key keys go)) (Results results) next pl h =
          let after : List RequestResult → Journal → Stopped I A =
          λ told now. run_on w.tools v.run (go told now) now
          (with_calls v.so_far (key ∷ keys) told) in
          let f = and_then-some (only_if (length results == length (key ∷ keys)) results)
          (λ told. and_then (replay_all x.state.table (runs_of told) journal)
          (λ now. Some (stopped_in runs v.run v.go (after told now)))) next h in
          let g = and_then-some (replay_all x.state.table (runs_of f.0) journal)
          (λ now. Some (stopped_in runs v.run v.go (after f.0 now))) next f.2 in
          in-body runs v.run v.go (after f.0 g.0) next
          (some-is (stopped_in runs v.run v.go (after f.0 g.0)) next g.2) pl

  -- what the table tells of a request with the key of that end
  record Serving (kept : Kept W) (key : RequestKey) (first : Journal) : Type 0 where
    pub last : Journal
    pub told : request_by w x.state.table first key ≡ Some (kept.result, last)
    pub same : kept.from_nothing ≡ true → first ≡ [] → last ≡ (seen kept.walk).position.journal

  serving : (kept : Kept W) (k : IsKept seen w table.finished origins kept) (first : Journal) →
      ((kept.plain ≡ true) ⊎ ((kept.from_nothing ≡ true) × (first ≡ []))) →
      Serving kept k.origin.key first
  serving kept k first either =
      let its : request_by w x.state.table k.first k.origin.key ≡ Some (kept.result, k.last) =
      ap (λ records. request_by w records k.first k.origin.key) (sym x.finished) ∙ k.told in
      let last : k.last ≡ (seen kept.walk).position.journal =
      ap (λ (u : Seen P I A). u.position.journal) (sym k.walk) in
      let with_nothing : kept.from_nothing ≡ true → first ≡ [] →
      request_by w x.state.table first k.origin.key ≡ Some (kept.result, k.last) =
      λ n none. ap (λ j. request_by w x.state.table j k.origin.key) (none ∙ sym (k.nothing n))
      ∙ its in
      elim either [
        | inl plain ↦
            let y = plain_requests_give_alike w history.events x.state x.history k.origin.key
            (k.plain plain) k.first first k.last kept.result its in
            record {
              last = y.0;
              told = y.1;
              same = λ n none.
                  let e : Some (kept.result, y.0) ≡ Some (kept.result, k.last) =
                  sym y.1 ∙ with_nothing n none in
                  ap (λ (z : RequestResult × Journal). z.1)
                  (some-is (kept.result, y.0) (kept.result, k.last) e) ∙ last;
            }
        | inr nothing ↦ record {
          last = k.last;
          told = with_nothing nothing.0 nothing.1;
          same = λ n none. last;
        }
      ]

  -- a ready request that another one serves comes to the same end
  pub record Alike_end (id : ℕ) (kept : Kept W) : Type 0 where
    pub request : RequestState P I A
    pub walk : Walk P I A
    pub there : at x.state.requests id ≡ Some request
    pub between : request.status ≡ ready (walking walk)
    pub first : Journal
    pub last : Journal
    pub begun : GivesJournal x.state request.origin.parent first
    pub told : walk_by w x.state.table walk request.journal
        request.runs ≡ Some (kept.result, last)
    pub by_key : request_by w x.state.table first request.origin.key ≡ Some (kept.result, last)
    pub used : used_in seen (at slots id) ≡ length request.runs
    pub rest : List RunId
    pub left : kept.result.runs ≡ request.runs ++ rest
    pub leaves : LeavesJournal seen x.state.table (at slots id) kept.result.runs last
    pub same : kept.from_nothing ≡ true → BeganWithNothing seen slots origins id →
        last ≡ (seen kept.walk).position.journal

  ready-slot : (slot : Slot W) (q : RequestState P I A) (place : Place P I A) →
      ShowsSlot w x.state (length history.events) seen slot q → q.status ≡ ready place →
      (walk : W) × (answer : Answer) × (slot ≡ Ready walk answer) × ShowsReady w x.state
      (length history.events) (seen walk) answer q
  ready-slot (Ready walk answer) q place s st = (walk, answer, refl, s)
  ready-slot (Assigned node) q place s st =
      absurd (let a : ready place ≡ assigned node s.place = sym st ∙ s.is in cc)
  ready-slot (Waiting walk by) q place s st =
      absurd (let a : ready place ≡ waits s.run s.body s.go = sym st ∙ s.is in cc)
  ready-slot (Calling calls) q place s st = absurd (let a = sym st ∙ s.is in cc)
  ready-slot Over q place s st = absurd (let a : ready place ≡ done s.result = sym st ∙ s.is in cc)

  leaves-so : (id : ℕ) (walk : W) (answer : Answer) (q : RequestState P I A) (y : Walk P I A)
      (last : Journal) (result : RequestResult) (rest : List RunId) →
      at x.state.requests id ≡ Some q →
      ShowsReady w x.state (length history.events) (seen walk) answer q →
      q.status ≡ ready (walking y) → result.runs ≡ q.runs ++ rest →
      replay_all x.state.table rest q.journal ≡ Some last →
      LeavesJournal seen x.state.table (Some (Ready walk answer)) result.runs last
  leaves-so id walk answer q y last result rest e r st runs_so replays =
      let l = all-lawful w history.events (start w) x.state (start-lawful w) x.history in
      let place : r.position.place ≡ walking y =
      (let h : ready r.position.place ≡ ready (walking y) = sym
      (ap (λ (a : RequestState P I A). a.status) r.is) ∙ st in cc) in
      let runs : q.runs ≡ r.position.runs = ap (λ (a : RequestState P I A). a.runs) r.is in
      let journal : q.journal ≡ r.position.journal =
      ap (λ (a : RequestState P I A). a.journal) r.is in
      let lawful : LawfulJournal x.state.table r.position.journal r.position.runs =
      subst (λ j. LawfulJournal x.state.table j r.position.runs) journal
      (subst (λ rs. LawfulJournal x.state.table q.journal rs) runs (l.each id q e).journal) in
      left-before w x.state.table l.once l.ordered (seen walk).position answer r.position y
      result.runs rest last place r.goes.goes (record {
        runs = runs_so ∙ ap (λ rs. rs ++ rest) runs;
        replays_so = ap (replay_all x.state.table rest) (sym journal) ∙ replays;
        lawful = lawful;
      })

  pub alike-end : (id : ℕ) → IsReady w history.events id → (all : KeptEnds W) →
      AreKept seen w table.finished origins all.instances.items → (kept : Kept W) →
      Serves seen slots origins making all id kept → Alike_end id kept
  alike-end id r all each kept s =
      let q : RequestState P I A = r.request in
      let e : at x.state.requests id ≡ Some q =
      subst (λ (t : State P I A). at t.requests id ≡ Some q)
      (one_state w history.events r.state x.state r.history x.history) r.there in
      let y = paired-other (ShowsSlot w x.state (length history.events) seen) slots x.state.requests
      id q x.each e in
      let z = ready-slot y.0 q r.place y.1 r.is in
      let free : run_in r.place ≡ None =
      ap run_at (sym r.is) ∙ same_some (at making id) (making_of q) None
      (ap (λ os. at os id) x.bodies ∙ map-at making_of x.state.requests id q e) s.free in
      let v = between-of r.place free in
      let st : q.status ≡ ready (walking v.0) = r.is ∙ ap ready v.1 in
      let told = tells id q e (ap told_in r.is) s.called in
      let first : Journal = told.by.journal in
      let law : request_by w x.state.table first q.origin.key ≡ walk_by w x.state.table v.0
      q.journal q.runs =
      subst (EndsAs w x.state.table first q.origin.key q.journal q.runs) st told.law in
      let k = each kept (for-among all id kept s.there) in
      let whose : k.origin ≡ s.one_key.its =
      same_some (at origins kept.id) k.origin s.one_key.its k.whose s.one_key.whose in
      let mine : s.one_key.mine ≡ origin_of q = own-origin id q e s.one_key.mine s.one_key.own in
      let keys : k.origin.key ≡ q.origin.key =
      ap (λ (o : Origin). o.key) whose ∙ (s.one_key.same ∙ ap (λ (o : Origin). o.key) mine) in
      let m = serving kept k first (elim s.alike [
        | inl plain ↦ inl plain
        | inr both ↦ inr (both.0, empty-so id q s.called told both.1)
      ]) in
      let by_key : request_by w x.state.table first q.origin.key ≡ Some (kept.result, m.last) =
      ap (λ key. request_by w x.state.table first key) (sym keys) ∙ m.told in
      let ends_so = runs-left w x.state.table v.0 q.journal m.last q.runs kept.result
      (sym law ∙ by_key) in
      record {
        request = q;
        walk = v.0;
        there = e;
        between = st;
        first = first;
        last = m.last;
        begun = begun-so id q s.called told;
        told = sym law ∙ by_key;
        by_key = by_key;
        used = ap (used_in seen) (y.2 ∙ ap Some z.2) ∙ used-so id z.0 z.1 q v.0 z.3 st;
        rest = ends_so.0;
        left = ends_so.1;
        leaves = subst (λ slot. LeavesJournal seen x.state.table slot kept.result.runs m.last)
            (sym (y.2 ∙ ap Some z.2))
            (leaves-so id z.0 z.1 q v.0 m.last kept.result ends_so.0 e z.3 st ends_so.1 ends_so.2);
        same = λ n b. m.same n (empty-so id q s.called told b);
      }

  -- the names of the runs that are left
  pub rest-named : (id : ℕ) (kept : Kept W) (names : List RunId) (a : Alike_end id kept) →
      names ≡ drop (used_in seen (at slots id)) kept.result.runs → names ≡ a.rest
  rest-named id kept names a is_names =
      is_names ∙ (ap (λ n. drop n kept.result.runs) a.used
      ∙ (ap (drop (length a.request.runs)) a.left ∙ drop-front a.request.runs a.rest))

-- what is kept stays as it is told
module _ {W P I A : Type 0} (seen : W → Seen P I A) (w : World P I A) where
  kept-stays : (table records : Records) (origins more : List Origin) →
      ((first : Journal) (key : RequestKey) (r : RequestResult) (j : Journal) →
      request_by w table first key ≡ Some (r, j) → request_by w records first key ≡ Some (r, j)) →
      ((n : ℕ) (o : Origin) → at origins n ≡ Some o → at more n ≡ Some o) → (kept : Kept W) →
      IsKept seen w table origins kept → IsKept seen w records more kept
  kept-stays table records origins more f g kept k = record {
    origin = k.origin;
    whose = g kept.id k.origin k.whose;
    first = k.first;
    last = k.last;
    told = f k.first k.origin.key kept.result k.last k.told;
    nothing = k.nothing;
    plain = k.plain;
    reply = k.reply;
    result = k.result;
    walk = k.walk;
  }

  -- where a run is finished
  pub kept-finished : (table : Records) (run : FinishedRun) (records : Records)
      (origins : List Origin) (all : List (InstanceEnd W)) → records ≡ run ∷ table →
      found table run.run ≡ None →
      AreKept seen w table origins all → AreKept seen w records origins all
  kept-finished table run records origins all is n each kept i =
      subst (λ rs. IsKept seen w rs origins kept) (sym is)
      (kept-stays table (run ∷ table) origins origins
      (λ first key r j. what_the_table_tells_stays w table run n first key r j) (λ m o h. h) kept
      (each kept i))

  -- where there are more requests, and no more is kept
  pub kept-entered : (table : Records) (origins behind new : List Origin)
      (all after : List (InstanceEnd W)) → new ≡ origins ++ behind → AreFewer all after →
      AreKept seen w table origins all → AreKept seen w table new after
  kept-entered table origins behind new all after is fewer each kept i =
      subst (λ os. IsKept seen w table os kept) (sym is)
      (kept-stays table table origins (origins ++ behind) (λ first key r j h. h)
      (λ m o h. at-front origins behind m o h) kept (each kept (fewer kept i)))

  -- where the table, the requests and what is kept are the same
  pub kept-alike : {table records : Records} {origins more : List Origin}
      {all after : List (InstanceEnd W)} →
      records ≡ table → more ≡ origins → after ≡ all → ∥ AreKept seen w table origins all ∥₁ →
      ∥ AreKept seen w records more after ∥₁
  kept-alike {table} {records} {origins} {more} {all} {after} t o e each =
      subst (λ rs. ∥ AreKept seen w rs more after ∥₁) (sym t)
      (subst (λ os. ∥ AreKept seen w table os after ∥₁) (sym o)
      (subst (λ es. ∥ AreKept seen w table origins es ∥₁) (sym e) each))

  -- where no more is kept
  pub kept-fewer : (table : Records) (origins : List Origin) (all after : List (InstanceEnd W)) →
      AreFewer all after → AreKept seen w table origins all → AreKept seen w table origins after
  kept-fewer table origins all after fewer each kept i = each kept (fewer kept i)

  pub kept-put : (table : Records) (origins : List Origin) (before after : KeptEnds W)
      (new : Kept W) → IsPut before after new → IsKept seen w table origins new →
      AreKept seen w table origins before.instances.items →
      AreKept seen w table origins after.instances.items
  kept-put table origins before after new entered is each kept i =
      elim (put-among before after new kept entered i) [
        | inl same ↦ subst (IsKept seen w table origins) (sym same) is
        | inr old ↦ each kept old
      ]

pub none-kept : {W : Type 0} (all : List (InstanceEnd W)) (kept : Kept W) →
    all ≡ record { open_requests = 1; kept = None } ∷ [] → IsAmong all kept → ⊥
none-kept {W = W} all kept e (place, x, h, k) =
    go place (subst (λ (xs : List (InstanceEnd W)). at xs place ≡ Some x) e h)
  where
    first : InstanceEnd W
    first = record { open_requests = 1; kept = None }

    go : (place : ℕ) → at (first ∷ []) place ≡ Some x → ⊥
    go zero h =
        let c : None ≡ Some kept = ap (λ (y : InstanceEnd W). y.kept) (some-is first x h) ∙ k in
        absurd (cc)
    go (suc n) h = absurd (cc)
