-- Where a request would close a cycle of runs if it waited for a run: exactly where the request
-- that has begun the run is found among those whose runs need what the request holds.
use Rattle.std.proofs.Common.{
  ◌≡◌,
  ◌≤◌,
  ◌<◌,
  ◌+◌,
  ◌⊎◌,
  inl,
  inr,
  ℕ,
  zero,
  suc,
  true,
  false,
  List,
  [],
  ◌∷◌,
  length,
  map,
  get_or,
  Option,
  None,
  Some,
  refl,
  ap,
  sym,
  ◌∙◌,
  subst,
  arith,
}
use Rattle.std.proofs.lemmas.Bool.{eqb-true, eq-eqb}
use Rattle.std.proofs.lemmas.List.{length-map}
use Rattle.msb_laws.specs.Asking.{and_then}
use Rattle.result_cache.specs.declared.run.RunId.{RunId}
use Rattle.result_cache.specs.declared.request.RequestKey.{RequestKey}
use Rattle.result_cache.specs.declared.record.Record.{Record}
use Rattle.result_cache.specs.Journal.{Journal}
use Rattle.result_cache.specs.Lists.{In}
use Rattle.result_cache.specs.Table.{TableRuns, found, request_of, is_begun}
use Rattle.result_cache.proofs.RunTests.{and_then-some}
use Rattle.build_meaning.specs.Lists.{at, numbered_from}
use Rattle.build_meaning.specs.World.{World}
use Rattle.build_meaning.specs.Walk.{Walk, Body}
use Rattle.build_meaning.specs.State.{
  Place,
  walking,
  within,
  Status,
  ready,
  assigned,
  waits,
  calling,
  done,
  RequestState,
  State,
}
use Rattle.build_meaning.specs.Cycle.{holds, Needs, IsChain}
use Rattle.build_meaning.specs.Step.{waiting}
use Rattle.build_meaning.proofs.EventsKeepLawful.{some-is}
use Rattle.build_meaning.proofs.LawfulStates.{beginner, beginner-begun, Lawful}
use Rattle.build_meaning.proofs.ListPlaces.{
  at-less,
  at-map,
  in-numbered,
  map-at,
  numbered-in,
  numbered-length,
}
use Rattle.build_meaning.proofs.NeedsOfRuns.{need, needs-of}
use Rattle.build_meaning.proofs.OpenRequests.{
  Open,
  ids_in,
  told_in,
  inside_of,
  waits_of,
  kin_of,
  kins_of,
  kins-at,
  at-kins,
  path-first,
  put-kins,
  calling-so,
  inside-open,
  waits-open,
}
use Rattle.build_meaning.proofs.PairedLists.{Paired-length, Paired-some}
use Rattle.build_meaning.proofs.ParentsAndChildren.{
  Kin,
  Kins,
  NeedOf,
  Family,
  PutAt,
  put-cases,
  same_some,
  none_some,
}
use Rattle.build_meaning.proofs.RunPaths.{Path, last_one, step_on, path-mono}
use Rattle.build_scheduler.specs.declared.slot.Origin.{Origin}
use Rattle.build_scheduler.specs.declared.slot.Calls.{Calls}
use Rattle.build_scheduler.specs.declared.slot.Slot.{Slot}
use Rattle.build_scheduler.specs.declared.slot.Slot.TheVariants.{
  Ready,
  Assigned,
  Waiting,
  Calling,
  Done,
}
use Rattle.build_scheduler.specs.declared.slot.End.{End}
use Rattle.build_scheduler.specs.History.{History}
use Rattle.build_scheduler.specs.Free.{AreFree, IsFree, NeedsNothing}
use Rattle.build_scheduler.specs.Dependents.{caller_at, CallsOver, AreFound, AreApart, AreOver}
use Rattle.build_scheduler.specs.Numbers.{among, Numbered}
use Rattle.build_scheduler.specs.Own.{Seen}
use Rattle.build_scheduler.specs.Shown.{Shown, Indexed, IsWaiting, waits_for, numbers_of}
use Rattle.build_scheduler.specs.Slots.{
  origin_of,
  making_of,
  result_at,
  run_at,
  unfinished,
  ShowsSlot,
}
use Rattle.build_scheduler.proofs.CallResults.{told-length}
use Rattle.build_scheduler.proofs.GrowingAnswers.{unfinished-beginner}
use Rattle.build_scheduler.proofs.HistoryFacts.{lawful, kindred}
use Rattle.build_scheduler.proofs.SlotNumbers.{at-get}
use Rattle.build_scheduler.proofs.SlotsStay.{paired-other}

module _ {P I A : Type 0} where
  -- a chain as a way, and needs by kin as needs
  pub chain-path : (s : State P I A) (r t : RunId) (runs : List RunId) → IsChain s r runs t
      → Path (Needs s) r t
  chain-path s r t [] c = last_one c
  chain-path s r t (x ∷ runs) c = step_on c.0 (chain-path s x t runs c.1)

  inside-holds : (st : Status P I A) (t : RunId) → inside_of st ≡ Some t → In t (holds st)
  inside-holds (ready (within x stop)) t h = inl (some-is x.run t h)
  inside-holds (ready (walking y)) t h = absurd (cc)
  inside-holds (assigned node (within x stop)) t h = inl (some-is x.run t h)
  inside-holds (assigned node (walking y)) t h = absurd (cc)
  inside-holds (waits r b go) t h = absurd (cc)
  inside-holds (calling keys ids x go) t h = inl (some-is x.run t h)
  inside-holds (done result) t h = absurd (cc)

  waits-holds : (st : Status P I A) (t : RunId) → waits_of st ≡ Some t → In t (holds st)
  waits-holds (waits r b go) t h = inl (some-is r t h)
  waits-holds _ t h = absurd (cc)

  held-cases : (st : Status P I A) (t : RunId) → In t (holds st)
      → (inside_of st ≡ Some t) ⊎ (waits_of st ≡ Some t)
  held-cases (ready (within x stop)) t (inl e) = inl (ap Some e)
  held-cases (assigned node (within x stop)) t (inl e) = inl (ap Some e)
  held-cases (waits r b go) t (inl e) = inr (ap Some e)
  held-cases (calling keys ids x go) t (inl e) = inl (ap Some e)
  held-cases (ready (within x stop)) t (inr i) = absurd i
  held-cases (assigned node (within x stop)) t (inr i) = absurd i
  held-cases (waits r b go) t (inr i) = absurd i
  held-cases (calling keys ids x go) t (inr i) = absurd i
  held-cases (ready (walking y)) t i = absurd i
  held-cases (assigned node (walking y)) t i = absurd i
  held-cases (done result) t i = absurd i

  pub needs-kin : (s : State P I A) (r t : RunId) → NeedOf (kins_of s.requests) r t → Needs s r t
  needs-kin s r t n =
      let q = at-kins s.requests n.caller n.kin n.at_caller in
      let c = at-kins s.requests n.child_id n.child n.at_child in
      let y = calling-so q.0.status n.ids (ap (λ (a : Kin). a.calls) q.2 ∙ n.calls_so) in
      let i : Some y.1.run ≡ Some r = sym (ap inside_of y.3)
      ∙ (ap (λ (a : Kin). a.inside) q.2 ∙ n.in_run) in
      needs-of s r t (record {
        caller = n.caller;
        req = q.0;
        keys = y.0;
        ids = n.ids;
        x = y.1;
        go = y.2;
        req_at = q.1;
        calls_so = y.3;
        is_run = some-is y.1.run r i;
        child_id = n.child_id;
        child = c.0;
        child_in = n.child_in;
        child_at = c.1;
        child_holds = elim n.holds [
          | inl h ↦ inside-holds c.0.status t (ap (λ (a : Kin). a.inside) c.2 ∙ h)
          | inr h ↦ waits-holds c.0.status t (ap (λ (a : Kin). a.waits) c.2 ∙ h)
        ];
      })

  pub kin-needs : (s : State P I A) (r t : RunId) → Needs s r t → NeedOf (kins_of s.requests) r t
  kin-needs s r t h = let n = need s r t h in record {
    caller = n.caller;
    kin = kin_of n.req;
    ids = n.ids;
    at_caller = kins-at s.requests n.caller n.req n.req_at;
    calls_so = ap ids_in n.calls_so;
    in_run = ap inside_of n.calls_so ∙ ap Some n.is_run;
    child_id = n.child_id;
    child_in = n.child_in;
    child = kin_of n.child;
    at_child = kins-at s.requests n.child_id n.child n.child_at;
    holds = held-cases n.child.status t n.child_holds;
  }

  waits-so : (st : Status P I A) (run : RunId) → waits_of st ≡ Some run
      → (body : Body I A) × (go : Record → Journal → Walk P I A) × (st ≡ waits run body go)
  waits-so (waits other body go) run h = (body, go, ap (λ r. waits r body go) (some-is other run h))
  waits-so _ run h = absurd (cc)

  inside-run : (st : Status P I A) → inside_of st ≡ run_at st
  inside-run (ready (walking y)) = refl
  inside-run (ready (within x stop)) = refl
  inside-run (assigned node (walking y)) = refl
  inside-run (assigned node (within x stop)) = refl
  inside-run (waits r b go) = refl
  inside-run (calling keys ids x go) = refl
  inside-run (done result) = refl

-- a request comes to hold one run more, which its caller then needs: what its caller needs
module _ {f g : Kins} (id : ℕ) (old new : Kin) (run : RunId) (p : PutAt f g id old new)
    (none : new.calls ≡ None) (v : Family f) where
  -- the request's caller, in the body of this run
  pub record IsCaller (r : RunId) : Type 0 where
    pub caller : ℕ
    pub kin : Kin
    pub called : old.parent ≡ Some caller
    pub there : f caller ≡ Some kin
    pub inside : kin.inside ≡ Some r

  old-or-new : (s t : RunId) → NeedOf g s t → NeedOf f s t ⊎ IsCaller s
  old-or-new s t n = elim (put-cases p n.caller n.kin n.at_caller) [
    | inl x ↦ none_some n.kin.calls n.ids n.calls_so (ap (λ (k : Kin). k.calls) x.1 ∙ none)
    | inr x ↦ elim (put-cases p n.child_id n.child n.at_child) [
      | inl y ↦
          let z = v.down n.caller n.kin n.ids x.1 n.calls_so n.child_id n.child_in in
          let k : z.0 ≡ old = same_some (f n.child_id) z.0 old z.1
          (subst (λ b. f b ≡ Some old) (sym y.0) p.was) in
          inr
          (record {
            caller = n.caller;
            kin = n.kin;
            called = ap (λ (a : Kin). a.parent) (sym k)
                ∙ z.2;
            there = x.1;
            inside = n.in_run;
          })
      | inr y ↦ inl (record {
        caller = n.caller;
        kin = n.kin;
        ids = n.ids;
        at_caller = x.1;
        calls_so = n.calls_so;
        in_run = n.in_run;
        child_id = n.child_id;
        child_in = n.child_in;
        child = n.child;
        at_child = y.1;
        holds = n.holds;
      })
    ]
  ]

  -- a way by needs of which some may be new leads by old ones alone, or to the run of the caller
  pub cut : {s t : RunId} → Path (NeedOf g) s t
      → Path (NeedOf f) s t ⊎ ((r : RunId) × IsCaller r × ((s ≡ r) ⊎ Path (NeedOf f) s r))
  cut (last_one {r = s} {t = t} n) = elim (old-or-new s t n)
      [ inl m ↦ inl (last_one m) | inr c ↦ inr (s, c, inl refl) ]
  cut (step_on {r = s} {t = t} {u = u} n q) = elim (old-or-new s t n) [
    | inr c ↦ inr (s, c, inl refl)
    | inl m ↦ elim (cut q) [
      | inl y ↦ inl (step_on m y)
      | inr y ↦ inr (
        y.0,
        y.1,
        inr
            (elim y.2
            [ inl e ↦ subst (λ a. Path (NeedOf f) s a) e (last_one m) | inr z ↦ step_on m z ]),
      )
    ]
  ]

module _ {W P I A : Type 0} (seen : W → Seen P I A) (w : World P I A) {history : History}
    {origins : List Origin} {slots : List (Slot W)} {making : List (Option RunId)}
    {table : TableRuns} {end : Option End} {ready_ones : Numbered} {waiting_ones : List Numbered}
    (x : Shown seen w history origins slots making table end)
    (y : Indexed slots ready_ones waiting_ones) where
  abbrev kin : Kins
  kin = kins_of x.state.requests

  family : Family kin
  family = (kindred w history.events x.state x.history).family

  law : Lawful x.state
  law = lawful w history.events x.state x.history

  caller-kin : (c n : ℕ) → caller_at origins c ≡ Some n
      → (k : Kin) × (kin c ≡ Some k) × (k.parent ≡ Some n)
  caller-kin c n e =
      let a = and_then-some (at (map origin_of x.state.requests) c) (λ o. o.parent) n
      (sym (ap (λ os. caller_at os c) x.asked) ∙ e) in
      let b = at-map origin_of x.state.requests c a.0 a.1 in
      (kin_of b.0, kins-at x.state.requests c b.0 b.1, ap (λ (o : Origin). o.parent) b.2 ∙ a.2)

  kin-caller : (c n : ℕ) (k : Kin) → kin c ≡ Some k → k.parent ≡ Some n
      → caller_at origins c ≡ Some n
  kin-caller c n k h e =
      let q = at-kins x.state.requests c k h in
      ap (λ os. caller_at os c) x.asked
      ∙ (ap (λ o. and_then o (λ (o : Origin). o.parent))
      (map-at origin_of x.state.requests c q.0 q.1) ∙ (ap (λ (k : Kin). k.parent) q.2 ∙ e))

  -- a request that waits for the run of another one
  pub record WaitsFor (c m : ℕ) : Type 0 where
    pub of_it : Kin
    pub run : RunId
    pub there : kin c ≡ Some of_it
    pub wants_it : of_it.waits ≡ Some run
    pub open_still : of_it.reply ≡ None
    pub begun_by : beginner x.state.begun run ≡ Some m

  waits-kin : (c m : ℕ) → among c (numbers_of (at waiting_ones m)) ≡ true → WaitsFor c m
  waits-kin c m e = go (at slots c) refl (sym (y.waits m c) ∙ e)
    where
      go : (o : Option (Slot W)) → at slots c ≡ o → waits_for m o ≡ true → WaitsFor c m
      go None h t = absurd (cc)
      go (Some (Ready walk answer)) h t = absurd (cc)
      go (Some (Assigned node)) h t = absurd (cc)
      go (Some (Waiting walk by)) h t =
          let q = Paired-some (ShowsSlot w x.state (length history.events) seen) slots
          x.state.requests
          c (Waiting walk by) x.each h in
          let at_c = kins-at x.state.requests c q.0 q.2 in
          let o = waits-open x.state law c (kin_of q.0) q.1.run at_c (ap waits_of q.1.is) in
          record {
            of_it = kin_of q.0;
            run = q.1.run;
            there = at_c;
            wants_it = ap waits_of q.1.is;
            open_still = ap told_in q.1.is;
            begun_by = sym (unfinished-beginner x.state.table x.state.begun q.1.run o.1)
                ∙ (q.1.begun ∙ ap Some (eqb-true by m t));
          }
      go (Some (Calling calls)) h t = absurd (cc)
      go (Some Done) h t = absurd (cc)

  slot-waits : (slot : Slot W) (q : RequestState P I A) (run : RunId) (body : Body I A)
      (go : Record → Journal → Walk P I A) → ShowsSlot w x.state (length history.events) seen slot q
      → q.status ≡ waits run body go →
      (walk : W) × (by : ℕ) × (slot ≡ Waiting walk by)
      × (request_of (unfinished x.state.table x.state.begun) run ≡ Some by)
  slot-waits (Ready walk answer) q run body go h e = absurd
      (let a : waits run body go ≡ ready h.position.place = sym e
      ∙ ap (λ (q : RequestState P I A). q.status) h.is in cc)
  slot-waits (Assigned node) q run body go h e = absurd
      (let a : waits run body go ≡ assigned node h.place = sym e ∙ h.is in cc)
  slot-waits (Waiting walk by) q run body go h e =
      let a : h.run ≡ run = some-is h.run run (sym (ap waits_of h.is) ∙ ap waits_of e) in
      (walk, by, refl, ap (request_of (unfinished x.state.table x.state.begun)) (sym a) ∙ h.begun)
  slot-waits (Calling calls) q run body go h e = absurd (let a = sym e ∙ h.is in cc)
  slot-waits Done q run body go h e = absurd (let a : waits run body go ≡ done h.result = sym e
      ∙ h.is in cc)

  kin-waits : (c m : ℕ) (k : Kin) (run : RunId) → kin c ≡ Some k → k.waits ≡ Some run
      → beginner x.state.begun run ≡ Some m → among c (numbers_of (at waiting_ones m)) ≡ true
  kin-waits c m k run h e b =
      let q = at-kins x.state.requests c k h in
      let st = waits-so q.0.status run (ap (λ (k : Kin). k.waits) q.2 ∙ e) in
      let s = paired-other (ShowsSlot w x.state (length history.events) seen) slots x.state.requests
      c
      q.0 x.each q.1 in
      let z = slot-waits s.0 q.0 run st.0 st.1 s.1 st.2 in
      let o = waits-open x.state law c k run h e in
      let by_is : z.1 ≡ m = same_some (beginner x.state.begun run) z.1 m
      (sym (unfinished-beginner x.state.table x.state.begun run o.1) ∙ z.3) b in
      y.waits m c ∙ (ap (waits_for m) (s.2 ∙ ap Some z.2) ∙ eq-eqb z.1 m by_is)

  -- a request has one run that it has begun and not finished
  one-run : (m : ℕ) (k : Kin) (r t : RunId) → kin m ≡ Some k → k.inside ≡ Some r → Open x.state t
      → beginner x.state.begun t ≡ Some m → t ≡ r
  one-run m k r t h e o b =
      let z = (kindred w history.events x.state x.history).free.working t o in
      let i = inside-open x.state law z.0 z.1 t z.2 z.3 in
      let n : z.0 ≡ m = same_some (beginner x.state.begun t) z.0 m i.1 b in
      let same : z.1 ≡ k = same_some (kin m) z.1 k (subst (λ a. kin a ≡ Some z.1) n z.2) h in
      same_some k.inside t r (ap (λ (k : Kin). k.inside) (sym same) ∙ z.3) e

  -- one that calls
  pub record IsCalling (n : ℕ) : Type 0 where
    pub of_it : Kin
    pub ids : List ℕ
    pub there : kin n ≡ Some of_it
    pub calls_so : of_it.calls ≡ Some ids

  -- the caller of an open request
  caller-calls : (id n : ℕ) (k : Kin) → kin id ≡ Some k → k.reply ≡ None → k.parent ≡ Some n
      → (c : IsCalling n) × In id c.ids
  caller-calls id n k h e p = let u = family.up id k h e n p
      in (record { of_it = u.0; ids = u.1; there = u.2; calls_so = u.3 }, u.4)

  -- its run needs the run of another one
  pub record Over (n m : ℕ) : Type 0 where
    pub caller : IsCalling n
    pub child : ℕ
    pub child_in : In child caller.ids
    pub of_child : Kin
    pub child_there : kin child ≡ Some of_child
    pub other : RunId
    pub holds_it : (of_child.inside ≡ Some other) ⊎ (of_child.waits ≡ Some other)
    pub begun_by : beginner x.state.begun other ≡ Some m
    pub busy : of_child.calls ≡ None → of_child.waits ≡ None → ⊥

  over : (n m : ℕ) → CallsOver origins waiting_ones n m → IsCalling m → Over n m
  over n m c k = elim c.holds [
    | inl e ↦
        let a = caller-kin c.child n c.called in
        let at_m : kin c.child ≡ Some k.of_it = ap kin e ∙ k.there in
        let same : a.0 ≡ k.of_it = same_some (kin c.child) a.0 k.of_it a.1 at_m in
        let b = family.busy m k.of_it k.ids k.there k.calls_so in
        let u = caller-calls c.child n k.of_it at_m b.0
        (ap (λ (k : Kin). k.parent) (sym same) ∙ a.2) in
        record {
          caller = u.0;
          child = c.child;
          child_in = u.1;
          of_child = k.of_it;
          child_there = at_m;
          other = b.1.0;
          holds_it = inl b.1.1;
          begun_by = (inside-open x.state law m k.of_it b.1.0 k.there b.1.1).1;
          busy = λ none wait. none_some k.of_it.calls k.ids k.calls_so none;
        }
    | inr g ↦
        let a = caller-kin c.child n c.called in
        let z = waits-kin c.child m g in
        let same : a.0 ≡ z.of_it = same_some (kin c.child) a.0 z.of_it a.1 z.there in
        let u = caller-calls c.child n z.of_it z.there z.open_still
        (ap (λ (k : Kin). k.parent) (sym same) ∙ a.2) in
        record {
          caller = u.0;
          child = c.child;
          child_in = u.1;
          of_child = z.of_it;
          child_there = z.there;
          other = z.run;
          holds_it = inr z.wants_it;
          begun_by = z.begun_by;
          busy = λ none wait. none_some z.of_it.waits z.run z.wants_it wait;
        }
  ]

  held-open : (id : ℕ) (k : Kin) (run : RunId) → kin id ≡ Some k
      → (k.inside ≡ Some run) ⊎ (k.waits ≡ Some run) → Open x.state run
  held-open id k run h e = elim e [
    | inl i ↦ (inside-open x.state law id k run h i).0
    | inr i ↦ waits-open x.state law id k run h
        i
  ]

  -- all that are found call
  found-calling : (first : ℕ) (requests overs : List ℕ)
      → AreFound origins waiting_ones first requests overs → IsCalling first → (b i n : ℕ) → i < b
      → at requests i ≡ Some n → IsCalling n
  found-calling first requests overs f c zero i n l e = absurd (omega arith)
  found-calling first requests overs f c (suc b) zero n l e = subst IsCalling
      (same_some (at requests 0) first n f.starts e) c
  found-calling first requests overs f c (suc b) (suc i) n l e =
      let z = f.each (suc i) n e (omega arith) in
      let before : z.place < suc i = z.before in
      (over n z.next z.needs
      (found-calling first requests overs f c b z.place z.next (omega arith) z.next_is)).caller

  -- the slot of a request that calls, and where its calls are
  slot-calls : (slot : Slot W) (q : RequestState P I A) (ids : List ℕ) →
      ShowsSlot w x.state (length history.events) seen slot q → ids_in q.status ≡ Some ids →
      (calls : Calls W) × (slot ≡ Calling calls) × ((n : ℕ) → In n ids →
      (i : ℕ) × (n ≡ calls.first + i) × (i < length calls.results.items))
  slot-calls (Ready walk answer) q ids h e =
      let a = ap (λ (q : RequestState P I A). ids_in q.status) h.is in
      none_some (ids_in q.status) ids e a
  slot-calls (Assigned node) q ids h e =
      none_some (ids_in q.status) ids e (ap ids_in h.is)
  slot-calls (Waiting walk by) q ids h e =
      none_some (ids_in q.status) ids e (ap ids_in h.is)
  slot-calls (Calling calls) q ids h e =
      let keys : List RequestKey = h.key ∷ h.keys in
      let named : List ℕ = numbered_from calls.first keys in
      let same : named ≡ ids = some-is named ids (sym (ap ids_in h.is) ∙ e) in
      let told : length calls.results.items ≡ length keys =
      told-length (map (result_at x.state.requests) named) calls.results.items calls.«open» h.so_far
      ∙ (length-map named (result_at x.state.requests) ∙ numbered-length calls.first keys) in (
        calls,
        refl,
        λ n i.
            let z = in-numbered calls.first keys n (subst (In n) (sym same) i) in
            let l : z.0 < length keys = at-less keys z.0 z.1 z.3 in (z.0, z.2, omega arith),
      )
  slot-calls Done q ids h e = none_some (ids_in q.status) ids e (ap ids_in h.is)

  -- all calls of a request have slots
  pub calls-within : (by : ℕ) (calls : Calls W) → at slots by ≡ Some (Calling calls) →
      calls.first + length calls.results.items ≤ length slots
  calls-within by calls e =
      let z = Paired-some (ShowsSlot w x.state (length history.events) seen) slots x.state.requests
      by
      (Calling calls) x.each e in
      let keys : List RequestKey = z.1.key ∷ z.1.keys in
      let ids : List ℕ = numbered_from calls.first keys in
      let told : length calls.results.items ≡ length keys =
      told-length (map (result_at x.state.requests) ids) calls.results.items calls.«open»
      z.1.so_far
      ∙ (length-map ids (result_at x.state.requests) ∙ numbered-length calls.first keys) in
      let more : length keys ≡ suc (length z.1.keys) = refl in
      let within : length z.1.keys < length keys = omega arith in
      let last : In (calls.first + length z.1.keys) ids =
      numbered-in calls.first keys (length z.1.keys) (get_or keys (length z.1.keys) z.1.key)
      (at-get keys (length z.1.keys) z.1.key within) in
      let d = family.down by (kin_of z.0) ids (kins-at x.state.requests by z.0 z.2)
      (ap ids_in z.1.is) (calls.first + length z.1.keys) last in
      let c = at-kins x.state.requests (calls.first + length z.1.keys) d.0 d.1 in
      let l : calls.first + length z.1.keys < length x.state.requests =
      at-less x.state.requests (calls.first + length z.1.keys) c.0 c.1 in
      let a : length slots ≡ length x.state.requests =
      Paired-length (ShowsSlot w x.state (length history.events) seen) slots x.state.requests x.each
      in
      omega arith

  -- a request that is free holds no run
  free-holds : (n : ℕ) (k : Kin) (t : RunId) → kin n ≡ Some k → IsFree slots making n →
      (k.inside ≡ Some t) ⊎ (k.waits ≡ Some t) → ⊥
  free-holds n k t h free (inl e) =
      let q = at-kins x.state.requests n k h in
      let made : at making n ≡ Some (making_of q.0) =
      ap (λ ms. at ms n) x.bodies ∙ map-at making_of x.state.requests n q.0 q.1 in
      let idle : None ≡ making_of q.0 =
      same_some (at making n) None (making_of q.0) free.idle made in
      none_some k.inside t e
      (ap (λ (k : Kin). k.inside) (sym q.2) ∙ (inside-run q.0.status ∙ sym idle))
  free-holds n k t h free (inr e) =
      let q = at-kins x.state.requests n k h in
      let st = waits-so q.0.status t (ap (λ (k : Kin). k.waits) q.2 ∙ e) in
      let s = paired-other (ShowsSlot w x.state (length history.events) seen) slots x.state.requests
      n
      q.0 x.each q.1 in
      let z = slot-waits s.0 q.0 t st.0 st.1 s.1 st.2 in
      free.awake (subst IsWaiting (sym (s.2 ∙ ap Some z.2)) tt)

  -- the run of a request needs none where its calls are free
  needs-none : (by : ℕ) (r t : RunId) → NeedsNothing slots making (at slots by) →
      beginner x.state.begun r ≡ Some by → NeedOf kin r t → ⊥
  needs-none by r t free b d =
      let i = inside-open x.state law d.caller d.kin r d.at_caller d.in_run in
      let same : d.caller ≡ by = same_some (beginner x.state.begun r) d.caller by i.1 b in
      let q = at-kins x.state.requests d.caller d.kin d.at_caller in
      let s = paired-other (ShowsSlot w x.state (length history.events) seen) slots x.state.requests
      d.caller q.0 x.each q.1 in
      let z = slot-calls s.0 q.0 d.ids s.1 (ap (λ (k : Kin). k.calls) q.2 ∙ d.calls_so) in
      let frees : AreFree slots making z.0.first (length z.0.results.items) =
      subst (NeedsNothing slots making) (ap (at slots) (sym same) ∙ (s.2 ∙ ap Some z.1)) free in
      let c = z.2 d.child_id d.child_in in
      free-holds d.child_id d.child t d.at_child
      (subst (IsFree slots making) (sym c.1) (frees c.0 c.2)) d.holds

  -- a request with a node
  module _ (id node : ℕ) (q : RequestState P I A) (place : Place P I A)
      (here : at x.state.requests id ≡ Some q) (st : q.status ≡ assigned node place) where
    there : kin id ≡ Some (kin_of q)
    there = kins-at x.state.requests id q here

    idle : ((kin_of q).calls ≡ None) × ((kin_of q).reply ≡ None) × ((kin_of q).waits ≡ None)
    idle = (ap ids_in st, ap told_in st, ap waits_of st)

    -- the caller of the request calls
    pub first-calls : (first : ℕ) → caller_at origins id ≡ Some first → IsCalling first
    first-calls first p =
        let a = caller-kin id first p in
        let parent_is : (kin_of q).parent ≡ Some first = ap (λ (k : Kin). k.parent)
        (same_some (kin id) (kin_of q) a.0 there a.1) ∙ a.2 in
        (caller-calls id first (kin_of q) there idle.1 parent_is).0

    -- all that are found are in a body
    pub found-making : (first : ℕ) (requests overs : List ℕ)
        → AreFound origins waiting_ones first requests overs → caller_at origins id ≡ Some first
        → (i n : ℕ) → at requests i ≡ Some n → (r : RunId) × (at making n ≡ Some (Some r))
    found-making first requests overs f p i n e =
        let c = found-calling first requests overs f (first-calls first p) (suc i) i n (omega arith)
        e in
        let b = family.busy n c.of_it c.ids c.there c.calls_so in
        let a = at-kins x.state.requests n c.of_it c.there in (
          b.1.0,
          ap (λ ms. at ms n) x.bodies
              ∙ (map-at making_of x.state.requests n a.0 a.1
              ∙ ap Some (sym (inside-run a.0.status) ∙ (ap (λ (k : Kin). k.inside) a.2 ∙ b.1.1))),
        )

    -- and the state in which it waits
    module _ (run : RunId) (body : Body I A) (go : Record → Journal → Walk P I A) (by : ℕ)
        (begun : request_of table.begun run ≡ Some by) (open_run : found table.finished run ≡ None)
      where
        abbrev then : State P I A
        then = waiting w x.state id q run body go

        abbrev new : RequestState P I A
        new = record
            { origin = q.origin; journal = q.journal; runs = q.runs; status = waits run body go }

        changed : PutAt kin (kins_of then.requests) id (kin_of q) (kin_of new)
        changed = put-kins x.state.requests id q new here

        finished_not : found x.state.table run ≡ None
        finished_not = ap (λ t. found t run) (sym x.finished) ∙ open_run

        pub begun-by : beginner x.state.begun run ≡ Some by
        begun-by = sym (unfinished-beginner x.state.table x.state.begun run finished_not)
            ∙ (ap (λ t. request_of t run) (sym x.begun) ∙ begun)

        not-calling : (n : ℕ) (k : Kin) (ids : List ℕ) → kin n ≡ Some k → k.calls ≡ Some ids
            → n ≡ id
            → ⊥
        not-calling n k ids h e d = none_some k.calls ids e
            (ap (λ (k : Kin). k.calls)
            (same_some (kin n) k (kin_of q) h
            (subst (λ a. kin a ≡ Some (kin_of q)) (sym d) changed.was)) ∙ idle.0)

        -- the run of a caller needs the run that is claimed, since its call waits for it
        last-need : (n : ℕ) (r : RunId) (c : IsCalling n) → (kin_of q).parent ≡ Some n
            → c.of_it.inside ≡ Some r → Needs then r run
        last-need n r c p i =
            let u = caller-calls id n (kin_of q) changed.was idle.1 p in
            let same : u.0.of_it ≡ c.of_it = same_some (kin n) u.0.of_it c.of_it u.0.there c.there
            in
            needs-kin then r run (record {
              caller = n;
              kin = u.0.of_it;
              ids = u.0.ids;
              at_caller = changed.others n (not-calling n u.0.of_it u.0.ids u.0.there u.0.calls_so)
                  ∙ u.0.there;
              calls_so = u.0.calls_so;
              in_run = ap (λ (k : Kin). k.inside) same ∙ i;
              child_id = id;
              child_in = u.1;
              child = kin_of new;
              at_child = changed.is;
              holds = inr refl;
            })

        over-need : (n m : ℕ) (r : RunId) (k : Kin) → kin n ≡ Some k → k.inside ≡ Some r
            → (o : Over n m) → Needs then r o.other
        over-need n m r k h i o =
            let same : o.caller.of_it ≡ k = same_some (kin n) o.caller.of_it k o.caller.there h in
            needs-kin then r o.other (record {
              caller = n;
              kin = o.caller.of_it;
              ids = o.caller.ids;
              at_caller = changed.others n
                  (not-calling n o.caller.of_it o.caller.ids o.caller.there o.caller.calls_so)
                  ∙ o.caller.there;
              calls_so = o.caller.calls_so;
              in_run = ap (λ (k : Kin). k.inside) same ∙ i;
              child_id = o.child;
              child_in = o.child_in;
              child = o.of_child;
              at_child = changed.others o.child
                  (λ d. let e : o.of_child ≡ kin_of q = same_some (kin o.child) o.of_child
                  (kin_of q)
                  o.child_there (subst (λ a. kin a ≡ Some (kin_of q)) (sym d) changed.was) in
                  o.busy (ap (λ (k : Kin). k.calls) e ∙ idle.0)
                  (ap (λ (k : Kin). k.waits) e ∙ idle.2)) ∙ o.child_there;
              holds = o.holds_it;
            })

        making-inside : (n : ℕ) (r : RunId) → at making n ≡ Some (Some r)
            → (k : Kin) × (kin n ≡ Some k) × (k.inside ≡ Some r)
        making-inside n r e =
            let a = at-map making_of x.state.requests n (Some r)
            (sym (ap (λ ms. at ms n) x.bodies) ∙ e) in
            (kin_of a.0, kins-at x.state.requests n a.0 a.1, inside-run a.0.status ∙ a.2)

        -- from the run of one that was found over those by which it was found to the run that is
        -- claimed
        found-chain : (first : ℕ) (requests overs : List ℕ)
            → AreFound origins waiting_ones first requests overs → caller_at origins id ≡ Some first
            → (c : IsCalling first) → (runs : List RunId) (i n : ℕ) (r : RunId) (k : Kin) →
            at requests i ≡ Some n → AreOver requests overs making i runs → kin n ≡ Some k
            → k.inside ≡ Some r → IsChain then r runs run
        found-chain first requests overs f p c [] i n r k e o h j =
            let same : n ≡ first = same_some (at requests 0) n first
            (subst (λ a. at requests a ≡ Some n) o e) f.starts in
            let of_first : c.of_it ≡ k = same_some (kin first) c.of_it k c.there
            (subst (λ a. kin a ≡ Some k) same h) in
            let a = caller-kin id first p in
            let parent_is : (kin_of q).parent ≡ Some first = ap (λ (k : Kin). k.parent)
            (same_some (kin id) (kin_of q) a.0 changed.was a.1) ∙ a.2 in
            last-need first r c parent_is (ap (λ (k : Kin). k.inside) of_first ∙ j)
        found-chain first requests overs f p c (other ∷ runs) i n r k e
            (at_place, m, over_is, above, m_is, made, rest) h j =
            let z = f.each i n e above in
            let same_place : z.place ≡ at_place = same_some (at overs i) z.place at_place z.over_is
            over_is in
            let same_next : z.next ≡ m = same_some (at requests at_place) z.next m
            (subst (λ a. at requests a ≡ Some z.next) same_place z.next_is) m_is in
            let m_calls : IsCalling m = found-calling first requests overs f c (suc at_place)
            at_place
            m (omega arith) m_is in
            let a = over n m (subst (CallsOver origins waiting_ones n) same_next z.needs) m_calls in
            let inside_m = making-inside m other made in
            let other_is : a.other ≡ other = one-run m inside_m.0 other a.other inside_m.1
            inside_m.2
            (held-open a.child a.of_child a.other a.child_there a.holds_it) a.begun_by in (
              subst (λ t. Needs then r t) other_is (over-need n m r k h j a),
              found-chain first
                  requests overs f p c runs at_place m other inside_m.0 m_is rest inside_m.1
                  inside_m.2,
            )

        -- where the request that has begun the run is found, the wait would close a cycle
        pub found-closes : (first : ℕ) (requests overs : List ℕ)
            → AreFound origins waiting_ones first requests overs → caller_at origins id ≡ Some first
            → (i : ℕ) → at requests i ≡ Some by → (runs : List RunId)
            → AreOver requests overs making i runs →
            IsChain then run runs run
        found-closes first requests overs f p i e runs o =
            let c = first-calls first p in
            let b_calls = found-calling first requests overs f c (suc i) i by (omega arith) e in
            let b = family.busy by b_calls.of_it b_calls.ids b_calls.there b_calls.calls_so in
            let is : run ≡ b.1.0 = one-run by b_calls.of_it b.1.0 run b_calls.there b.1.1
            (beginner-open, finished_not) begun-by in
            found-chain first requests overs f p c runs i by run b_calls.of_it e o b_calls.there
            (b.1.1 ∙ ap Some (sym is))
          where
            beginner-open : is_begun run x.state.begun ≡ true
            beginner-open = beginner-begun x.state.begun run by begun-by

        -- by old needs only those are reached that are found
        reached-one : (requests : List ℕ) → AreApart origins waiting_ones by requests
            → (s t : RunId)
            → NeedOf kin s t → (m : ℕ) → beginner x.state.begun t ≡ Some m → among m requests ≡ true
            → (n : ℕ) × (beginner x.state.begun s ≡ Some n) × (among n requests ≡ true)
        reached-one requests a s t d m b h =
            let z = family.down d.caller d.kin d.ids d.at_caller d.calls_so d.child_id d.child_in in
            let called : caller_at origins d.child_id
            ≡ Some d.caller = kin-caller d.child_id d.caller z.0 z.1 z.2 in (
              d.caller,
              (inside-open x.state law d.caller d.kin s d.at_caller d.in_run).1,
              a.closed m d.caller h (record {
                child = d.child_id;
                called = called;
                holds = elim d.holds [
                  | inl i ↦ inl
                      (same_some (beginner x.state.begun t) d.child_id m
                      (inside-open x.state law d.child_id d.child t d.at_child i).1 b)
                  | inr i ↦ inr (kin-waits d.child_id m d.child t d.at_child i b)
                ];
              }),
            )

        reached : (requests : List ℕ) → AreApart origins waiting_ones by requests → {s t : RunId}
            → Path (NeedOf kin) s t → (m : ℕ) → beginner x.state.begun t ≡ Some m
            → among m requests ≡ true →
            (n : ℕ) × (beginner x.state.begun s ≡ Some n) × (among n requests ≡ true)
        reached requests a (last_one {r = s} {t = t} d) m b h = reached-one requests a s t d m b h
        reached requests a (step_on {r = s} {t = t} {u = u} d p) m b h = let l = reached requests a
            p
            m b h in reached-one requests a s t d l.0 l.1 l.2

        -- where it is not found, the wait closes none
        pub apart-open : (requests : List ℕ)
            → ((caller : ℕ) → caller_at origins id ≡ Some caller → among caller requests ≡ true)
            → AreApart origins waiting_ones by requests → (between : List RunId)
            → IsChain then run between run → ⊥
        apart-open requests starts a between c =
            let p : Path (NeedOf (kins_of then.requests)) run run = path-mono (kin-needs then)
            (chain-path then run run between c) in
            elim (cut id (kin_of q) (kin_of new) run changed refl family p) [
              | inl o ↦ (kindred w history.events x.state x.history).free.acyclic run o
              | inr o ↦
                  let called : caller_at origins id
                  ≡ Some o.1.caller = kin-caller id o.1.caller (kin_of q) changed.was o.1.called
                  in
                  let inside = inside-open x.state law o.1.caller o.1.kin o.0 o.1.there o.1.inside
                  in
                  let there = starts o.1.caller called in
                  elim o.2 [
                    | inl e ↦ contra o.1.caller (ap (beginner x.state.begun) e ∙ inside.1) there
                    | inr l ↦ let z = reached requests a l o.1.caller inside.1 there in contra z.0
                        z.1
                        z.2
                  ]
            ]
          where
            contra : (n : ℕ) → beginner x.state.begun run ≡ Some n → among n requests ≡ true → ⊥
            contra n b h =
                let same : n ≡ by = same_some (beginner x.state.begun run) n by b begun-by in
                let t : true ≡ false = sym h ∙ (ap (λ m. among m requests) same ∙ a.apart) in absurd
                (cc)

        -- where the run needs no other, and the request that has begun it does not call this one,
        -- the wait closes none
        pub free-open : (caller_at origins id ≡ Some by → ⊥) →
            NeedsNothing slots making (at slots by) →
            (between : List RunId) → IsChain then run between run → ⊥
        free-open other free between c =
            let p : Path (NeedOf (kins_of then.requests)) run run =
            path-mono (kin-needs then) (chain-path then run run between c) in
            let d = path-first p in
            elim (old-or-new id (kin_of q) (kin_of new) run changed refl family run d.0 d.1) [
              | inl o ↦ needs-none by run d.0 free begun-by o
              | inr o ↦
                  let inside = inside-open x.state law o.caller o.kin run o.there o.inside in
                  let same : o.caller ≡ by =
                  same_some (beginner x.state.begun run) o.caller by inside.1 begun-by in
                  other (kin-caller id by (kin_of q) changed.was (o.called ∙ ap Some same))
            ]
