-- A request is over: with the root the build ends, and else its caller is told.
use Rattle.std.proofs.Common.{
  ◌≡◌,
  ◌≤◌,
  ◌<◌,
  ◌+◌,
  ◌-◌,
  inl,
  inr,
  ℕ,
  zero,
  suc,
  true,
  false,
  List,
  [],
  ◌∷◌,
  ◌++◌,
  length,
  map,
  Option,
  None,
  Some,
  refl,
  ap,
  sym,
  ◌∙◌,
  subst,
  arith,
}
use Rattle.std.proofs.Math.Bridge.{le_prop}
use Rattle.std.proofs.Math.Logic.{∥∥₁_elim, ∥∥₁_map₂, ∥∥₁_prop}
use Rattle.std.proofs.Props.{props}
use Rattle.std.proofs.lemmas.Bool.{eq-eqb}
use Rattle.std.proofs.lemmas.List.{length-map}
use Rattle.std.specs.Prelude.{is_some}
use Rattle.msb_laws.specs.Asking.{and_then}
use Rattle.msb_laws.specs.Traverse.{traverse}
use Rattle.result_cache.specs.declared.run.RunId.{RunId}
use Rattle.result_cache.specs.declared.request.RequestKey.{RequestKey}
use Rattle.result_cache.specs.declared.request.RequestResult.{RequestResult}
use Rattle.result_cache.specs.Journal.{Journal}
use Rattle.result_cache.specs.Lists.{In}
use Rattle.result_cache.specs.Replay.{replay_all}
use Rattle.result_cache.specs.Table.{TableRuns}
use Rattle.result_cache.proofs.RunTests.{and_then-some}
use Rattle.build_meaning.specs.declared.event.Event.TheVariants.{Done}
use Rattle.build_meaning.specs.Lists.{at, put, Paired, numbered_from}
use Rattle.build_meaning.specs.World.{World}
use Rattle.build_meaning.specs.Walk.{Body, gives}
use Rattle.build_meaning.specs.SoFar.{with_calls, runs_of}
use Rattle.build_meaning.specs.Stop.{asks, run_on}
use Rattle.build_meaning.specs.State.{
  Within,
  walking,
  within,
  Status,
  ready,
  assigned,
  waits,
  calling,
  done,
  RequestState,
  State,
  with_request,
}
use Rattle.build_meaning.specs.Step.{only_if, results_of, resume_caller, step_of, step}
use Rattle.build_meaning.specs.Step as steps
use Rattle.build_meaning.specs.History.{IsHistory}
use Rattle.build_meaning.specs.Progress.{IsPossible}
use Rattle.build_meaning.proofs.EventsKeepLawful.{some-is}
use Rattle.build_meaning.proofs.HistoriesGoOn.{goes}
use Rattle.build_meaning.proofs.ListPlaces.{
  at-put_same,
  at-put_other,
  at-put_else,
  at-less,
  map-at,
  in-numbered,
  numbered-length,
  put-length,
}
use Rattle.build_meaning.proofs.OpenRequests.{ids_in, kin_of, kins_of, kins-at, at-kins, calling-so}
use Rattle.build_meaning.proofs.ParentsAndChildren.{Kin, same_some}
use Rattle.build_scheduler.specs.declared.walker.Ask.TheVariants.{Done as IsOver}
use Rattle.build_scheduler.specs.declared.walker.Answer.TheVariants.{Results}
use Rattle.build_scheduler.specs.declared.slot.Origin.{Origin}
use Rattle.build_scheduler.specs.declared.slot.Calls.{Calls}
use Rattle.build_scheduler.specs.declared.slot.Slot.{Slot}
use Rattle.build_scheduler.specs.declared.slot.Slot.TheVariants.{
  Ready,
  Assigned,
  Waiting,
  Calling,
  Done as Over,
}
use Rattle.build_scheduler.specs.declared.slot.End.{End}
use Rattle.build_scheduler.specs.declared.slot.End.TheVariants.{Root}
use Rattle.build_scheduler.specs.Learnt.{ArePartOf}
use Rattle.build_scheduler.specs.Calls.{HasOpen, HasParent, IsResumed, IsTold}
use Rattle.build_scheduler.specs.History.{History}
use Rattle.build_scheduler.specs.Numbers.{among, Numbered}
use Rattle.build_scheduler.specs.Own.{Seen, placed, Asks}
use Rattle.build_scheduler.specs.Position.{Position, IsInTurn, stopped_in, answered}
use Rattle.build_scheduler.specs.Shown.{
  Shown,
  Indexed,
  ShowsEnd,
  AreRooted,
  AreCalled,
  is_ready,
  unready,
}
use Rattle.build_scheduler.specs.Slots.{
  origin_of,
  origin_from,
  making_of,
  run_at,
  result_in,
  result_at,
  owed,
  owed_in,
  owed_by,
  AreSoFar,
  Stands,
  ShowsCalling,
  ShowsSlot,
}
use Rattle.build_scheduler.proofs.CallResults.{
  at-numbered,
  traverse-alike,
  one-told,
  all-told,
  some-open,
  told-length,
  map-alike-in,
  map-numbered,
  paired-two,
}
use Rattle.build_scheduler.proofs.HistoryFacts.{more, kindred}
use Rattle.build_scheduler.proofs.OneRequest.{
  put-there,
  map-put,
  owed-put,
  owed-at,
  result-put,
  ends-alike,
  shown-change,
  one-more,
  later-same,
}
use Rattle.build_scheduler.proofs.OwnWalks.{Gives, gives-of, There, there-of}
use Rattle.build_scheduler.proofs.SlotNumbers.{unlisted-prop, unready-there, same-indexed}
use Rattle.build_scheduler.proofs.SlotsStay.{map-alike, paired-other, slot-later}

-- only the root has no caller
called-other : (origins : List Origin) (n : ℕ) (o : Origin) → AreCalled origins
    → at origins n ≡ Some o → o.parent ≡ None → ⊥
called-other [] n o h e p = absurd (cc)
called-other (x ∷ origins) zero o h e p = let q : x ≡ o = cc in let a : is_some o.parent
    ≡ true = ap (λ (y : Origin). is_some y.parent) (sym q)
    ∙ h.0 in let b : is_some o.parent ≡ false = ap is_some p in cc
called-other (x ∷ origins) (suc n) o h e p = called-other origins n o h.1 e p

pub root-none : (origins : List Origin) (n : ℕ) (o : Origin) → AreRooted origins
    → at origins n ≡ Some o → o.parent ≡ None → n ≡ 0
root-none [] n o h e p = absurd (cc)
root-none (x ∷ origins) zero o h e p = refl
root-none (x ∷ origins) (suc n) o h e p = absurd (called-other origins n o h.1 e p)

pub none-root : (origins : List Origin) (o : Origin) → AreRooted origins → at origins 0 ≡ Some o
    → o.parent ≡ None
none-root [] o h e = absurd (cc)
none-root (x ∷ origins) o h e = let q : x ≡ o = cc in ap (λ (y : Origin). y.parent) (sym q) ∙ h.0

module _ {W P I A : Type 0} (seen : W → Seen P I A) (w : World P I A) (history after : History)
    {origins : List Origin} {slots : List (Slot W)} {making : List (Option RunId)}
    {table : TableRuns} {end : Option End}
    (id : ℕ) (told : RequestResult) (p : Position P I A)
    (x : Shown seen w history origins slots making table end) (e : Gives p.place p.runs told)
    (h : There slots x.state id p) where
  abbrev was_request : RequestState P I A
  was_request = placed h.origin p (assigned h.node)

  abbrev over_request : RequestState P I A
  over_request = record
      { origin = h.origin; journal = p.journal; runs = p.runs; status = done told }

  abbrev over_state : State P I A
  over_state = with_request x.state id over_request

  was_status : was_request.status ≡ assigned h.node (walking (gives e.reply))
  was_status = ap (assigned h.node) e.is

  at_giving : at x.state.requests id
      ≡ Some
      (record {
        origin = h.origin;
        journal = p.journal;
        runs = p.runs;
        status = assigned h.node
            (walking (gives e.reply));
      })
  at_giving = h.at_state
      ∙ ap
      (λ place.
      Some
      (record
      { origin = h.origin; journal = p.journal; runs = p.runs; status = assigned h.node place }))
      e.is

  pub over-step : step w x.state (Done id) ≡ resume_caller w over_state h.origin.parent
  over-step = ap (λ o. and_then o (step_of w x.state (Done id))) at_giving
      ∙ ap
      (λ result.
      resume_caller w
      (with_request x.state id
      (record { origin = h.origin; journal = p.journal; runs = p.runs; status = done result }))
      h.origin.parent) e.told_is

  pub over-origin : at origins id ≡ Some (origin_from h.origin)
  over-origin = ap (λ os. at os id) x.asked ∙ map-at origin_of x.state.requests id was_request
      h.at_state

  -- no other request calls this one
  not-called : (n : ℕ) (b : RequestState P I A) (keys : List RequestKey) (ids : List ℕ)
      (y : Within P I A) (go : List RequestResult → Journal → Body I A)
      → at x.state.requests n ≡ Some b → b.status ≡ calling keys ids y go →
      (h.origin.parent ≡ Some n → ⊥) → (m : ℕ) → In m ids → m ≡ id → ⊥
  not-called n b keys ids y go a st d m i same =
      let k = kindred w history.events x.state x.history in
      let c = k.family.down n (kin_of b) ids (kins-at x.state.requests n b a) (ap ids_in st) m i in
      let u : kins_of x.state.requests id ≡ Some c.0 = subst
      (λ j. kins_of x.state.requests j ≡ Some c.0) same c.1 in
      let v : c.0 ≡ kin_of was_request = same_some (kins_of x.state.requests id) c.0
      (kin_of was_request) u (kins-at x.state.requests id was_request h.at_state) in
      d (ap (λ (a : Kin). a.parent) (sym v) ∙ c.2)

  result-other : (n : ℕ) → (n ≡ id → ⊥) → result_at (put x.state.requests id over_request) n
      ≡ result_at x.state.requests n
  result-other n d = ap (λ o. and_then o (λ q. result_in q.status))
      (at-put_else x.state.requests id over_request n d)

  result-mine : result_at (put x.state.requests id over_request) id ≡ Some told
  result-mine = ap (λ o. and_then o (λ q. result_in q.status))
      (at-put_same x.state.requests id was_request over_request h.at_state)

  -- the root is over
  pub root-over : {outs : List (Slot W)} {end_now : Option End} → h.origin.parent ≡ None
      → after.events ≡ history.events ++ Done id ∷ [] → history.room ≡ after.room + 1
      → outs ≡ put slots id Over → end_now ≡ Some (Root told) →
      Shown seen w after origins outs making table end_now
  root-over {outs} {end_now} none ev room os en =
      let zero_id : id ≡ 0 = root-none origins id (origin_from h.origin) x.rooted over-origin none
      in
      subst (λ (xs : List (Slot W)). Shown seen w after origins xs making table end_now) (sym os)
      (shown-change seen w (Done id) id was_request over_request over_state Over x h.at_state
      (over-step ∙ ap (resume_caller w over_state) none) refl refl refl ev
      (let k : owed was_request.status ≡ 1 = ap owed was_status in omega arith)
      (x.bodies
      ∙ sym
      (map-put making_of x.state.requests id was_request over_request h.at_state
      (sym (ap run_at was_status)))) refl x.begun
      (λ n b d a. record {
        begun = λ r body go by st g. g;
        told = λ keys ids y go st. map-alike-in _ _ ids
            (λ m i.
            result-other m
            (not-called n b keys ids y go a st (λ q. let c : None ≡ Some n = sym none ∙ q in cc) m
            i));
      })
      (record { result = told; is = refl })
      (subst (ShowsEnd over_state) (sym en) (
        over_request,
        (ap (at (put x.state.requests id over_request)) (sym zero_id)
            ∙ at-put_same x.state.requests id was_request over_request h.at_state),
        refl,
      )))

  -- the request that is told
  pub record Caller (caller : ℕ) : Type 0 where
    pub request : RequestState P I A
    pub calls : Calls W
    pub place : ℕ
    pub at_state : at x.state.requests caller ≡ Some request
    pub at_slots : at slots caller ≡ Some (Calling calls)
    pub shows : ShowsCalling w x.state (length history.events) (seen calls.walk) calls.first
        calls.«open» calls.results.items request
    pub id_is : id ≡ calls.first + place
    pub below : place < length (shows.key ∷ shows.keys)

  calling-slot : (slot : Slot W) (q : RequestState P I A) (keys : List RequestKey) (ids : List ℕ)
      (y : Within P I A) (go : List RequestResult → Journal → Body I A)
      → q.status ≡ calling keys ids y go → ShowsSlot w x.state (length history.events) seen slot q →
      (calls : Calls W) × (slot ≡ Calling calls)
      × ShowsCalling w x.state (length history.events) (seen calls.walk) calls.first calls.«open»
      calls.results.items q
  calling-slot (Ready walk answer) q keys ids y go st s = absurd
      (let a : calling keys ids y go ≡ ready s.position.place = sym st
      ∙ ap (λ (q : RequestState P I A). q.status) s.is in cc)
  calling-slot (Assigned node) q keys ids y go st s = absurd
      (let a : calling keys ids y go ≡ assigned node s.place = sym st ∙ s.is in cc)
  calling-slot (Waiting walk by) q keys ids y go st s = absurd
      (let a : calling keys ids y go ≡ waits s.run s.body s.go = sym st ∙ s.is in cc)
  calling-slot (Calling calls) q keys ids y go st s = (calls, refl, s)
  calling-slot Over q keys ids y go st s = absurd
      (let a : calling keys ids y go ≡ done s.result = sym st ∙ s.is in cc)

  same-ids : (keys others : List RequestKey) (ids more_ids : List ℕ) (y z : Within P I A)
      (go then_go : List RequestResult → Journal → Body I A)
      → calling keys ids y go ≡ calling others more_ids z then_go → ids ≡ more_ids
  same-ids keys others ids more_ids y z go then_go g = cc

  pub caller-of : (caller : ℕ) → h.origin.parent ≡ Some caller → Caller caller
  caller-of caller par =
      let k = kindred w history.events x.state x.history in
      let u = k.family.up id (kin_of was_request)
      (kins-at x.state.requests id was_request h.at_state) refl caller par in
      let q = at-kins x.state.requests caller u.0 u.2 in
      let c = calling-so q.0.status u.1 (ap (λ (a : Kin). a.calls) q.2 ∙ u.3) in
      let s = paired-other (ShowsSlot w x.state (length history.events) seen) slots x.state.requests
      caller q.0 x.each q.1 in
      let y = calling-slot s.0 q.0 c.0 u.1 c.1 c.2 c.3 s.1 in
      let n = in-numbered y.0.first (y.2.key ∷ y.2.keys) id
      (subst (In id)
      (same-ids c.0 (y.2.key ∷ y.2.keys) u.1 (numbered_from y.0.first (y.2.key ∷ y.2.keys)) c.1
      y.2.inside c.2 y.2.go (sym c.3 ∙ y.2.is)) u.4) in
      record {
        request = q.0;
        calls = y.0;
        place = n.0;
        at_state = q.1;
        at_slots = s.2 ∙ ap Some y.1;
        shows = y.2;
        id_is = n.2;
        below = at-less (y.2.key ∷ y.2.keys) n.0 n.1 n.3;
      }

  module _ (caller : ℕ) (par : h.origin.parent ≡ Some caller) (c : Caller caller) where
    abbrev ids : List ℕ
    ids = numbered_from c.calls.first (c.shows.key ∷ c.shows.keys)

    apart : id ≡ caller → ⊥
    apart same =
        let a : Some was_request ≡ Some c.request = sym h.at_state
        ∙ (ap (at x.state.requests) same ∙ c.at_state) in
        let b : assigned h.node p.place ≡ calling (c.shows.key ∷ c.shows.keys) ids c.shows.inside
        c.shows.go = ap (λ (q : RequestState P I A). q.status) (some-is was_request c.request a)
        ∙ c.shows.is in cc

    not-told : result_at x.state.requests id ≡ None
    not-told = ap (λ o. and_then o (λ q. result_in q.status)) h.at_state

    -- the results with this one
    pub told-so-far : (m : ℕ) × (c.calls.«open» ≡ suc m)
        × AreSoFar (map (result_at (put x.state.requests id over_request)) ids)
        (put c.calls.results.items c.place told) m
    told-so-far =
        let there : at (map (result_at x.state.requests) ids) c.place ≡ Some None =
        map-at (result_at x.state.requests) ids c.place (c.calls.first + c.place)
        (at-numbered c.calls.first (c.shows.key ∷ c.shows.keys) c.place c.below)
        ∙ ap Some (ap (result_at x.state.requests) (sym c.id_is) ∙ not-told) in
        let y = one-told (map (result_at x.state.requests) ids) c.calls.results.items c.calls.«open»
        c.place told c.shows.so_far there in (
          y.0,
          y.1,
          subst (λ others. AreSoFar others (put c.calls.results.items c.place told) y.0)
              (sym
              (map-numbered (result_at x.state.requests)
              (result_at (put x.state.requests id over_request)) (Some told) id result-other
              result-mine c.calls.first (c.shows.key ∷ c.shows.keys) c.place c.id_is c.below))
              y.2,
        )

    abbrev told_state : RequestState P I A → State P I A
    told_state z = record {
      requests = put (put x.state.requests id over_request) caller z;
      begun = x.state.begun;
      table = x.state.table;
      tools_used = x.state.tools_used;
    }

    caller_there : at (put x.state.requests id over_request) caller ≡ Some c.request
    caller_there = at-put_other x.state.requests id over_request caller c.request
        (λ q. apart (sym q)) c.at_state

    caller_none : result_in c.request.status ≡ None
    caller_none = ap result_in c.shows.is

    result-told : (z : RequestState P I A) → result_in z.status ≡ None → (n : ℕ)
        → result_at (told_state z).requests n ≡ result_at (put x.state.requests id over_request) n
    result-told z r n = result-put (put x.state.requests id over_request) caller c.request z
        caller_there (r ∙ sym caller_none) n

    -- the core shows the state in which the caller is told
    pub told-shown : {outs : List (Slot W)} (z : RequestState P I A) (slot : Slot W)
        → step w x.state (Done id) ≡ Some (told_state z) → end ≡ None
        → after.events ≡ history.events ++ Done id ∷ [] → history.room ≡ after.room + 1 →
        outs ≡ put (put slots id Over) caller slot → z.origin ≡ c.request.origin
        → making_of z ≡ making_of c.request → result_in z.status ≡ None
        → owed z.status ≤ owed c.request.status →
        ShowsSlot w (told_state z) (length after.events) seen slot z
        → Shown seen w after origins outs making table end
    told-shown {outs} z slot st none ev room os o mk r ow s = record {
      state = told_state z;
      history = subst (λ es. IsHistory w es (told_state z)) (sym ev)
          (more w history.events (Done id) x.state (told_state z) x.history st);
      asked = x.asked
          ∙ (sym (map-put origin_of x.state.requests id was_request over_request h.at_state refl)
          ∙ sym
          (map-put origin_of (put x.state.requests id over_request) caller c.request z caller_there
          (ap origin_from o)));
      rooted = x.rooted;
      each = subst
          (λ (xs : List (Slot W)). Paired (ShowsSlot w (told_state z) (length after.events) seen) xs
          (told_state z).requests) (sym os)
          (paired-two (ShowsSlot w x.state (length history.events) seen)
          (ShowsSlot w (told_state z) (length after.events) seen) slots x.state.requests id
          caller Over slot over_request z apart
          (λ n a b d k t s. slot-later w seen x.state (told_state z) (length history.events)
          (length after.events)
          (later-same seen w x.state (told_state z) (length history.events) (length after.events)
          refl
          (let m = one-more history.events after.events (Done id) ev in omega arith)) a b (record {
            begun = λ r body go by st g. g;
            told = λ keys js y go st. map-alike-in _ _ js
                (λ m i. result-told z r m ∙ result-other m
                (not-called n b keys js y go t st (λ q. k (some-is n caller (sym q ∙ par))) m i));
          }) s)
          (record { result = told; is = refl }) s x.each);
      bodies = x.bodies
          ∙ (sym
          (map-put making_of x.state.requests id was_request over_request h.at_state
          (sym (ap run_at was_status))) ∙ sym
          (map-put making_of (put x.state.requests id over_request) caller c.request z caller_there
          mk));
      finished = x.finished;
      begun = x.begun;
      room =
          let a = owed-put x.state.requests id was_request over_request h.at_state in
          let b = owed-put (put x.state.requests id over_request) caller c.request z caller_there in
          let d : owed was_request.status ≡ 1 = ap owed was_status in
          let f : owed_by x.state.requests ≤ history.room = x.room in omega arith;
      ends = subst (ShowsEnd (told_state z)) (sym none)
          (ends-alike x.state (told_state z) (result-told z r 0
          ∙ result-other 0 (λ q. root-called (sym q))) (subst (ShowsEnd x.state) none x.ends));
    }
      where
        root-called : id ≡ 0 → ⊥
        root-called q = let a : Some caller ≡ None = sym par
            ∙ none-root origins (origin_from h.origin) x.rooted
            (subst (λ n. at origins n ≡ Some (origin_from h.origin)) q over-origin) in cc

    same_result : (n : ℕ)
        → and_then (at (put x.state.requests id over_request) n) (λ q. steps.result_in w q.status)
        ≡ result_at (put x.state.requests id over_request) n
    same_result n = go (at (put x.state.requests id over_request) n)
      where
        in_status : (st : Status P I A) → steps.result_in w st ≡ result_in st
        in_status (ready place) = refl
        in_status (assigned node place) = refl
        in_status (waits run b go) = refl
        in_status (calling keys js y go) = refl
        in_status (done result) = refl

        go : (o : Option (RequestState P I A))
            → and_then o (λ q. steps.result_in w q.status) ≡ and_then o (λ q. result_in q.status)
        go None = refl
        go (Some q) = in_status q.status

    results-are : results_of w (put x.state.requests id over_request) ids
        ≡ traverse (result_at (put x.state.requests id over_request)) ids
    results-are = traverse-alike _ _ ids same_result

    -- the caller's turn
    told-step : step w x.state (Done id) ≡ steps.answered w over_state caller c.request
        (c.shows.key ∷ c.shows.keys) c.shows.inside c.shows.go
        (traverse (result_at (put x.state.requests id over_request)) ids)
    told-step = over-step
        ∙ (ap (resume_caller w over_state) par
        ∙ (ap (λ o. and_then o (λ q. steps.resume_at w over_state caller q q.status)) caller_there
        ∙ (ap (steps.resume_at w over_state caller c.request) c.shows.is
        ∙ ap
        (steps.answered w over_state caller c.request
        (c.shows.key ∷ c.shows.keys) c.shows.inside c.shows.go) results-are)))

    -- some calls are still open
    open-step : (n : ℕ)
        → AreSoFar (map (result_at (put x.state.requests id over_request)) ids)
        (put c.calls.results.items c.place told) (suc n)
        → step w x.state (Done id) ≡ Some (told_state c.request)
    open-step n s = told-step
        ∙ (ap
        (steps.answered w over_state caller c.request
        (c.shows.key ∷ c.shows.keys) c.shows.inside c.shows.go)
        (some-open (result_at (put x.state.requests id over_request)) ids
        (put c.calls.results.items c.place told) n s)
        ∙ ap
        (λ rs.
        Some
        (record {
          requests = rs;
          begun = x.state.begun;
          table = x.state.table;
          tools_used =
              x.state.tools_used;
        }))
        (sym (put-there (put x.state.requests id over_request) caller c.request caller_there)))

    abbrev all_results : List RequestResult
    all_results = put c.calls.results.items c.place told

    abbrev resumed_position : Journal → Position P I A
    resumed_position next = stopped_in c.request.runs c.shows.inside.run c.shows.inside.go
        (run_on w.tools c.shows.inside.run (c.shows.go all_results next) next
        (with_calls c.shows.inside.so_far (c.shows.key ∷ c.shows.keys) all_results))

    resumed_step : AreSoFar (map (result_at (put x.state.requests id over_request)) ids) all_results
        0 →
        step w x.state (Done id)
        ≡ and_then (replay_all x.state.table (runs_of all_results) c.request.journal)
        (λ next. Some (told_state (placed c.request.origin (resumed_position next) ready)))
    resumed_step s = told-step
        ∙ ap
        (steps.answered w over_state caller c.request
        (c.shows.key ∷ c.shows.keys) c.shows.inside c.shows.go)
        (all-told (result_at (put x.state.requests id over_request)) ids all_results s)

    over-possible : IsPossible w x.state (Done id)
    over-possible = elim
        (goes w history.events x.state x.history id h.node was_request (walking (gives e.reply))
        h.at_state was_status) [ inl g ↦ g | inr g ↦ absurd g ]

    replayed : AreSoFar (map (result_at (put x.state.requests id over_request)) ids) all_results 0
        → (next : Journal)
        × (replay_all x.state.table (runs_of all_results) c.request.journal ≡ Some next)
    replayed s =
        let g = over-possible in
        let y = and_then-some (replay_all x.state.table (runs_of all_results) c.request.journal)
        (λ next. Some (told_state (placed c.request.origin (resumed_position next) ready))) g.0
        (sym (resumed_step s) ∙ g.1) in (y.0, y.1)

    place_is : id - c.calls.first ≡ c.place
    place_is = let q : id ≡ c.calls.first + c.place = c.id_is in omega arith

    results_at_place : put c.calls.results.items (id - c.calls.first) told ≡ all_results
    results_at_place = ap (λ n. put c.calls.results.items n told) place_is

    enough : length all_results ≡ length (c.shows.key ∷ c.shows.keys)
    enough = put-length c.calls.results.items c.place told
        ∙ (told-length (map (result_at x.state.requests) ids) c.calls.results.items c.calls.«open»
        c.shows.so_far
        ∙ (length-map ids (result_at x.state.requests)
        ∙ numbered-length c.calls.first (c.shows.key ∷ c.shows.keys)))

    -- the caller is told
    pub caller-told : {outs : List (Slot W)} (calls : Calls W) (slot : Slot W)
        → at slots caller ≡ Some (Calling calls) → IsTold calls (id - calls.first) told slot
        → end ≡ None → after.events ≡ history.events ++ Done id ∷ [] → history.room ≡ after.room + 1
        →
        outs ≡ put (put slots id Over) caller slot
        → Shown seen w after origins outs making table end
    caller-told calls slot a tells none ev room os = go slot
        (subst (λ (d : Calls W). IsTold d (id - d.first) told slot) same_calls tells) os
      where
        same_calls : calls ≡ c.calls
        same_calls = let q : Some (Calling calls) ≡ Some (Calling c.calls) = sym a
            ∙ c.at_slots in cc

        few_more : length after.events ≡ suc (length history.events)
        few_more = one-more history.events after.events (Done id) ev

        go : (slot : Slot W) → IsTold c.calls (id - c.calls.first) told slot
            → {outs : List (Slot W)} → outs ≡ put (put slots id Over) caller slot
            → Shown seen w after origins outs making table end
        go (Assigned node) t os = absurd t
        go (Waiting walk by) t os = absurd t
        go Over t os = absurd t
        go (Calling next) t os =
            let y = told-so-far in
            let m : y.0
            ≡ next.«open» = (let u : c.calls.«open» ≡ suc y.0 = y.1 in let v : c.calls.«open»
            ≡ suc next.«open» = t.2 in omega arith) in
            let n : y.0 ≡ suc (y.0 - 1) = (let u : 0 < next.«open» = t.3 in omega arith) in
            told-shown c.request (Calling next)
            (open-step (y.0 - 1)
            (subst
            (AreSoFar (map (result_at (put x.state.requests id over_request)) ids) all_results)
            n y.2)) none ev room os refl refl caller_none (omega arith) (record {
              key = c.shows.key;
              keys = c.shows.keys;
              inside = c.shows.inside;
              go = c.shows.go;
              is = c.shows.is
                  ∙ ap
                  (λ f. calling (c.shows.key ∷ c.shows.keys)
                  (numbered_from f (c.shows.key ∷ c.shows.keys)) c.shows.inside c.shows.go)
                  (sym t.1);
              stands = subst
                  (λ walk. Stands w (told_state c.request) (length after.events) (seen walk)
                  (record {
                    journal = c.request.journal;
                    runs = c.request.runs;
                    place = within
                        c.shows.inside (asks c.shows.key c.shows.keys c.shows.go);
                  })) (sym t.0) (record {
                    world = c.shows.stands.world;
                    learnt = c.shows.stands.learnt;
                    position = c.shows.stands.position;
                    asked = c.shows.stands.asked;
                    few = let u : (seen c.calls.walk).asked
                        ≤ length history.events = c.shows.stands.few in omega (arith, few_more);
                  });
              so_far = subst
                  (λ f.
                  AreSoFar
                  (map (result_at (told_state c.request).requests)
                  (numbered_from f (c.shows.key ∷ c.shows.keys))) next.results.items next.«open»)
                  (sym t.1)
                  (subst
                  (λ rs. AreSoFar (map (result_at (told_state c.request).requests) ids) rs
                  next.«open») (sym (t.4 ∙ results_at_place))
                  (subst
                  (AreSoFar (map (result_at (told_state c.request).requests) ids) all_results) m
                  (subst (λ others. AreSoFar others all_results y.0)
                  (sym (map-alike _ _ ids (result-told c.request caller_none))) y.2)));
            })
        go (Ready walk answer) t os =
            let y = told-so-far in
            let m : y.0
            ≡ 0 = (let u : c.calls.«open» ≡ suc y.0 = y.1 in let v : c.calls.«open»
            ≡ 1 = t.1 in omega arith) in
            let all : AreSoFar (map (result_at (put x.state.requests id over_request)) ids)
            all_results 0 = subst
            (AreSoFar (map (result_at (put x.state.requests id over_request)) ids) all_results)
            m y.2 in
            let r = replayed all in
            let position : Position P I A = resumed_position r.0 in
            told-shown (placed c.request.origin position ready) (Ready walk answer)
            (resumed_step all
            ∙ ap
            (λ o.
            and_then o
            (λ next. Some (told_state (placed c.request.origin (resumed_position next) ready))))
            r.1) none ev room os refl (sym (ap run_at c.shows.is)) refl
            (let u : owed c.request.status ≡ 3 = ap owed c.shows.is in omega arith) (record {
              position = position;
              goes = record {
                world = ap (λ v. (seen v).world) t.0 ∙ c.shows.stands.world;
                learnt = subst (λ v. ArePartOf (seen v).learnt x.state.table) (sym t.0)
                    c.shows.stands.learnt;
                goes = ap (λ v. answered w x.state.table (seen v).position answer) t.0
                    ∙ (ap (λ v. answered w x.state.table v answer) c.shows.stands.position
                    ∙ (ap
                    (answered w x.state.table
                    (record {
                      journal = c.request.journal;
                      runs = c.request.runs;
                      place = within
                          c.shows.inside (asks c.shows.key c.shows.keys c.shows.go);
                    }))
                    (t.2 ∙ ap Results results_at_place)
                    ∙ (ap
                    (λ b. and_then (only_if b all_results)
                    (λ results.
                    and_then (replay_all x.state.table (runs_of results) c.request.journal)
                    (λ next.
                    Some
                    (stopped_in c.request.runs c.shows.inside.run c.shows.inside.go
                    (run_on w.tools c.shows.inside.run (c.shows.go results next) next
                    (with_calls c.shows.inside.so_far (c.shows.key ∷ c.shows.keys) results))))))
                    (eq-eqb _ _ enough)
                    ∙ ap (λ o. and_then o (λ next. Some (resumed_position next))) r.1)));
                turn = subst (IsInTurn (seen walk).asked) (sym t.2)
                    (subst (λ v. 0 < (seen v).asked) (sym t.0) c.shows.stands.asked);
                few = let u : (seen c.calls.walk).asked
                    ≤ length history.events = c.shows.stands.few in let v : (seen walk).asked
                    ≡ (seen c.calls.walk).asked = ap (λ b. (seen b).asked) t.0 in omega
                    (arith, few_more);
              };
              is = refl;
            })

has_open-prop : {W : Type 0} (id : ℕ) (o : Option (Slot W)) → IsProp (HasOpen id o)
has_open-prop id None = λ a b. absurd a
has_open-prop id (Some (Ready walk answer)) = λ a b. absurd a
has_open-prop id (Some (Assigned node)) = λ a b. absurd a
has_open-prop id (Some (Waiting walk by)) = λ a b. absurd a
has_open-prop id (Some (Calling calls)) = hlevel props
has_open-prop id (Some Over) = λ a b. absurd a

zero-prop : (n : ℕ) → IsProp (n ≡ 0)
zero-prop n = hlevel props

-- of a core that shows a state
module _ {W P I A : Type 0} (seen : W → Seen P I A) (w : World P I A) {history : History}
    {origins : List Origin} {slots : List (Slot W)} {making : List (Option RunId)}
    {table : TableRuns} {end : Option End} (id : ℕ) (told : RequestResult) where
  -- the request that is over, its reply and its caller
  pub record Over_now (x : Shown seen w history origins slots making table end) (parent : Option ℕ)
      :
      Type 0 where
    pub position : Position P I A
    pub gives_so : Gives position.place position.runs told
    pub there : There slots x.state id position
    pub parent_is : there.origin.parent ≡ parent

  pub over-now : (x : Shown seen w history origins slots making table end) (parent : Option ℕ)
      → Asks w history.events id (IsOver told) → HasParent (at origins id) parent
      → Over_now x parent
  over-now x parent a p =
      let g = gives-of a.position.runs a.position.place told a.asks in
      let h = there-of seen w x id a.position a.stands in
      record {
        position = a.position;
        gives_so = g;
        there = h;
        parent_is = subst
            (λ o. HasParent o parent) (over-origin seen w history history id told a.position x g h)
            p;
      }

  module _ (shown : ∥ Shown seen w history origins slots making table end ∥₁)
      (asked : ∥ Asks w history.events id (IsOver told) ∥₁) where
    pub over-room : 0 < history.room
    over-room = ∥∥₁_elim shown (λ p q. le_prop p q) (λ x. ∥∥₁_elim asked (λ p q. le_prop p q) (λ a.
        let g = gives-of a.position.runs a.position.place told a.asks in
        let h = there-of seen w x id a.position a.stands in
        let b = owed-at x.state.requests id _ h.at_state in
        let c : owed_in a.position.place ≡ 1 = ap owed_in g.is in
        let d : owed_by x.state.requests ≤ history.room = x.room in omega arith))

    pub over-slot : id < length slots
    over-slot = ∥∥₁_elim shown (λ p q. le_prop p q)
        (λ x. ∥∥₁_elim asked (λ p q. le_prop p q)
        (λ a. at-less slots id _ (there-of seen w x id a.position a.stands).at_slots))

    pub over-there : id < length origins
    over-there = ∥∥₁_elim shown (λ p q. le_prop p q) (λ x. ∥∥₁_elim asked (λ p q. le_prop p q) (λ a.
        let g = gives-of a.position.runs a.position.place told a.asks in
        let h = there-of seen w x id a.position a.stands in
        at-less origins id (origin_from h.origin)
        (over-origin seen w history history id told a.position x g h)))

    pub root-zero : HasParent (at origins id) None → id ≡ 0
    root-zero p = ∥∥₁_elim shown (zero-prop id) (λ x. ∥∥₁_elim asked (zero-prop id) (λ a.
        let y = over-now x None a p in root-none origins id (origin_from y.there.origin) x.rooted
        (over-origin seen w history history id told y.position x y.gives_so y.there) y.parent_is))

    pub called-other-than_root : (caller : ℕ) → HasParent (at origins id) (Some caller) → id ≡ 0 → ⊥
    called-other-than_root caller p z = ∥∥₁_elim shown (λ q. absurd q)
        (λ x. ∥∥₁_elim asked (λ q. absurd q) (λ a.
        let y = over-now x (Some caller) a p in
        let n = none-root origins (origin_from y.there.origin) x.rooted
        (subst (λ n. at origins n ≡ Some (origin_from y.there.origin)) z
        (over-origin seen w history history id told y.position x y.gives_so y.there)) in
        let c : Some caller ≡ None = sym y.parent_is ∙ n in cc))

    -- the caller's slot, in which the call is open
    pub caller-open : (caller : ℕ) {outs : List (Slot W)} → HasParent (at origins id) (Some caller)
        → outs ≡ put slots id Over → HasOpen id (at outs caller)
    caller-open caller {outs} p os = ∥∥₁_elim shown (has_open-prop id (at outs caller))
        (λ x. ∥∥₁_elim asked (has_open-prop id (at outs caller)) (λ a.
        let y = over-now x (Some caller) a p in
        let c = caller-of seen w history history id told y.position x y.gives_so y.there caller
        y.parent_is
        in
        let d = apart seen w history history id told y.position x y.gives_so y.there caller
        y.parent_is c in
        let t = told-so-far seen w history history id told y.position x y.gives_so y.there caller
        y.parent_is c in
        let i : id ≡ c.calls.first + c.place = c.id_is in
        let n : c.calls.«open» ≡ suc t.0 = t.1 in
        let l : length c.calls.results.items ≡ length (c.shows.key ∷ c.shows.keys) = told-length
        (map (result_at x.state.requests)
        (numbered_from c.calls.first (c.shows.key ∷ c.shows.keys))) c.calls.results.items
        c.calls.«open» c.shows.so_far
        ∙ (length-map (numbered_from c.calls.first (c.shows.key ∷ c.shows.keys))
        (result_at x.state.requests) ∙ numbered-length c.calls.first
        (c.shows.key ∷ c.shows.keys)) in
        let b : c.place < length (c.shows.key ∷ c.shows.keys) = c.below in
        subst (λ (xs : List (Slot W)). HasOpen id (at xs caller)) (sym os)
        (subst (HasOpen id)
        (sym (at-put_other slots id Over caller (Calling c.calls) (λ q. d (sym q)) c.at_slots))
        (omega arith, omega arith, omega arith))))

    pub caller-unlisted : (caller : ℕ) {ready : Numbered} {waiting : List Numbered}
        → HasParent (at origins id) (Some caller) → ∥ Indexed slots ready waiting ∥₁
        → (among caller ready.numbers ≡ false) × (0 < ready.room)
    caller-unlisted caller {ready} p indexed = ∥∥₁_elim shown (unlisted-prop caller ready)
        (λ x. ∥∥₁_elim asked (unlisted-prop caller ready)
        (λ a. ∥∥₁_elim indexed (unlisted-prop caller ready) (λ y.
        let o = over-now x (Some caller) a p in
        let c = caller-of seen w history history id told o.position x o.gives_so o.there caller
        o.parent_is
        in
        let n : unready slots ≤ ready.room = y.room in
        let u : 0 < unready slots = unready-there 0 slots caller (Calling c.calls) c.at_slots refl
        in
        (y.listed caller ∙ ap is_ready c.at_slots, omega arith))))

    -- the core shows the state after the event
    pub ended-shown : {after : History} {outs : List (Slot W)} {told_end : Option End}
        → HasParent (at origins id) None → after.events ≡ history.events ++ Done id ∷ []
        → history.room ≡ after.room + 1 → outs ≡ put slots id Over → told_end ≡ Some (Root told) →
        ∥ Shown seen w after origins outs making table told_end ∥₁
    ended-shown {after} p ev room os en = ∥∥₁_map₂ shown asked
        (λ x a. let y = over-now x None a p in root-over seen w history after id told y.position x
        y.gives_so y.there y.parent_is ev room os en)

    pub resumed-shown : {after : History} {outs after_slots : List (Slot W)} {ready next : Numbered}
        (caller : ℕ) → HasParent (at origins id) (Some caller) → end ≡ None
        → after.events ≡ history.events ++ Done id ∷ [] → history.room ≡ after.room + 1 →
        outs ≡ put slots id Over → IsResumed outs after_slots ready next caller id told
        → ∥ Shown seen w after origins after_slots making table end ∥₁
    resumed-shown {after} {outs} caller p none ev room os r = ∥∥₁_map₂ shown asked (λ x a.
        let y = over-now x (Some caller) a p in
        let c = caller-of seen w history after id told y.position x y.gives_so y.there caller
        y.parent_is in
        let d = apart seen w history after id told y.position x y.gives_so y.there caller
        y.parent_is c
        in
        let was : at slots caller ≡ Some (Calling r.calls) = sym
        (at-put_else slots id Over caller (λ q. d (sym q)))
        ∙ (ap (λ (xs : List (Slot W)). at xs caller) (sym os) ∙ r.was) in
        caller-told seen w history after id told y.position x y.gives_so y.there caller y.parent_is
        c
        r.calls r.slot was r.tells none ev room
        (r.is ∙ ap (λ (xs : List (Slot W)). put xs caller r.slot) os))

    pub over-indexed : {outs : List (Slot W)} {ready : Numbered} {waiting : List Numbered}
        → outs ≡ put slots id Over → ∥ Indexed slots ready waiting ∥₁
        → ∥ Indexed outs ready waiting ∥₁
    over-indexed {outs} {ready} {waiting} os indexed = ∥∥₁_elim shown ∥∥₁_prop
        (λ x. ∥∥₁_map₂ asked indexed (λ a y.
        subst (λ (xs : List (Slot W)). Indexed xs ready waiting) (sym os)
        (let h = there-of seen w x id a.position a.stands in same-indexed slots ready waiting id
        (Assigned h.node) Over h.at_slots refl (λ by. refl) y)))
