-- A run is finished: its request goes on with the record, and so do all that wait for it.
use Rattle.std.proofs.Common.{
  ◌≡◌,
  ◌≤◌,
  ◌<◌,
  ◌+◌,
  ◌==◌,
  inl,
  inr,
  ℕ,
  zero,
  suc,
  Bool,
  true,
  false,
  List,
  [],
  ◌∷◌,
  ◌++◌,
  length,
  map,
  Option,
  None,
  Some,
  refl,
  ap,
  sym,
  ◌∙◌,
  subst,
  arith,
}
use Rattle.std.proofs.Math.Bridge.{le_prop}
use Rattle.std.proofs.Math.Logic.{∥∥₁_elim}
use Rattle.std.proofs.Props.{props}
use Rattle.std.proofs.lemmas.Bool.{eqb-true, eq-eqb}
use Rattle.std.specs.Prelude.{IsSome, is_some}
use Rattle.msb_laws.specs.Asking.{and_then}
use Rattle.msb_laws.specs.Traverse.{traverse}
use Rattle.result_cache.specs.declared.run.RunId.{RunId}
use Rattle.result_cache.specs.declared.record.Record.{Record}
use Rattle.result_cache.specs.Journal.{Journal, ended, add}
use Rattle.result_cache.specs.Replay.{replay}
use Rattle.result_cache.specs.Same.{same_run}
use Rattle.result_cache.specs.Table.{
  FinishedRun,
  Records,
  TableRuns,
  found,
  request_of,
  is_begun,
  without,
}
use Rattle.result_cache.proofs.RunTests.{
  same_run-refl,
  same_run-true,
  same_run-eq,
  and_then-some,
  tells,
  clash,
}
use Rattle.build_meaning.specs.declared.event.Event.TheVariants.{Result}
use Rattle.build_meaning.specs.Lists.{at, put, Paired}
use Rattle.build_meaning.specs.World.{World}
use Rattle.build_meaning.specs.Walk.{Walk, Body}
use Rattle.build_meaning.specs.SoFar.{recorded}
use Rattle.build_meaning.specs.Stop.{ends}
use Rattle.build_meaning.specs.State.{
  within,
  Status,
  ready,
  assigned,
  waits,
  calling,
  done,
  RequestState,
  State,
}
use Rattle.build_meaning.specs.Step.{
  only_if,
  goes_on,
  woken_if,
  woken_at,
  woken,
  finished,
  step_of,
  step,
}
use Rattle.build_meaning.specs.History.{IsHistory}
use Rattle.build_meaning.specs.Progress.{IsPossible}
use Rattle.build_meaning.proofs.EventsKeepLawful.{some-is}
use Rattle.build_meaning.proofs.HistoriesGoOn.{goes}
use Rattle.build_meaning.proofs.LawfulStates.{LawfulStatus, beginner, found-newest, found-grows}
use Rattle.build_meaning.proofs.ListPlaces.{
  at-put,
  at-put_same,
  at-less,
  map-at,
  traverse-some,
  traverse-at,
}
use Rattle.build_meaning.proofs.OpenRequests.{inside_of, kin_of, kins_of, kins-at, inside-open}
use Rattle.build_meaning.proofs.ParentsAndChildren.{Kin, same_some}
use Rattle.build_scheduler.specs.declared.walker.Ask.TheVariants.{Finished}
use Rattle.build_scheduler.specs.declared.walker.Answer.TheVariants.{Use}
use Rattle.build_scheduler.specs.declared.slot.Origin.{Origin}
use Rattle.build_scheduler.specs.declared.slot.Slot.{Slot}
use Rattle.build_scheduler.specs.declared.slot.Slot.TheVariants.{
  Ready,
  Assigned,
  Waiting,
  Calling,
  Done,
}
use Rattle.build_scheduler.specs.declared.slot.End.{End}
use Rattle.build_scheduler.specs.Learnt.{ArePartOf}
use Rattle.build_scheduler.specs.History.{History}
use Rattle.build_scheduler.specs.Own.{Seen, placed, IsWith, IsOwn, IsOut, Asks}
use Rattle.build_scheduler.specs.Position.{Position, ask_of, after_run, answered_at, answered}
use Rattle.build_scheduler.specs.Shown.{Shown, ShowsEnd, woken_by, woken_if as woken_if_slot}
use Rattle.build_scheduler.specs.Slots.{
  origin_of,
  origin_from,
  making_of,
  run_at,
  result_in,
  result_at,
  owed,
  owed_in,
  owed_by,
  run_in,
  unfinished,
  ShowsReady,
  ShowsWaiting,
  ShowsSlot,
}
use Rattle.build_scheduler.proofs.GrowingAnswers.{
  answered-more,
  unfinished-without,
  unfinished-beginner,
  without-other,
}
use Rattle.build_scheduler.proofs.HistoryFacts.{some-prop, more, lawful, kindred}
use Rattle.build_scheduler.proofs.OneRequest.{
  put-there,
  ends-alike,
  map-put,
  map-puts,
  owed-put,
  owed-at,
  result-put,
  one-more,
}
use Rattle.build_scheduler.proofs.OwnWalks.{Ends, ends-of, There, there-of}
use Rattle.build_scheduler.proofs.SlotsStay.{paired-puts, map-alike, Later, part-later, slot-later}

-- what every entry keeps
map-traverse : {X Y : Type 0} (g : X → Y) (f : X → Option X)
    → ((x y : X) → f x ≡ Some y → g y ≡ g x) → (xs ys : List X) → traverse f xs ≡ Some ys
    → map g ys ≡ map g xs
map-traverse g f k [] ys e = let p : [] ≡ ys = cc in ap (map g) (sym p)
map-traverse g f k (x ∷ xs) ys e =
    let u = traverse-some f x xs ys e in
    ap (map g) u.4
    ∙ (ap (λ y. y ∷ map g u.1) (k x u.0 u.2)
    ∙ ap (λ zs. g x ∷ zs) (map-traverse g f k xs u.1 u.3))

-- the entries of two lists in step, where one goes by a function and the other by a partial one
paired-traverse : {X Y : Type 0} (S T : X → Y → Type 0) (g : X → X) (f : Y → Option Y) (xs : List X)
    (ys zs : List Y) → Paired S xs ys → traverse f ys ≡ Some zs →
    ((n : ℕ) (x : X) (y z : Y) → at ys n ≡ Some y → S x y → f y ≡ Some z → T (g x) z)
    → Paired T (map g xs) zs
paired-traverse S T g f [] [] zs h e m = let q : [] ≡ zs = cc in subst (λ us. Paired T [] us) q tt
paired-traverse S T g f (x ∷ xs) (y ∷ ys) zs h e m =
    let u = traverse-some f y ys zs e in
    subst (λ us. Paired T (g x ∷ map g xs) us) (sym u.4)
    (m 0 x y u.0 refl h.0 u.2, paired-traverse S T g f xs ys u.1 h.1 u.3 (λ n. m (suc n)))
paired-traverse S T g f [] (y ∷ ys) zs h e m = absurd h
paired-traverse S T g f (x ∷ xs) [] zs h e m = absurd h

module _ {P I A : Type 0} (w : World P I A) (table : Records) (f : FinishedRun) where
  -- what a woken request keeps
  pub record Kept (q z : RequestState P I A) : Type 0 where
    pub origin : z.origin ≡ q.origin
    pub run : run_at z.status ≡ run_at q.status
    pub told : result_in z.status ≡ result_in q.status
    pub owes : owed z.status ≡ owed q.status

  kept-if : (t : Bool) (q z : RequestState P I A) (run : RunId) (b : Body I A)
      (go : Record → Journal → Walk P I A) → q.status ≡ waits run b go
      → woken_if w t table q f.made run go ≡ Some z → Kept q z
  kept-if false q z run b go st e = let p : q ≡ z = cc in record {
    origin = ap (λ (a : RequestState P I A). a.origin) (sym p);
    run = ap (λ (a : RequestState P I A). run_at a.status) (sym p);
    told = ap (λ (a : RequestState P I A). result_in a.status) (sym p);
    owes = ap (λ (a : RequestState P I A). owed a.status) (sym p);
  }
  kept-if true q z run b go st e =
      let y = and_then-some (replay table run q.journal)
      (λ next. Some (goes_on w ready q run go f.made next)) z e in
      let p : goes_on w ready q run go f.made y.0 ≡ z = some-is _ z y.2 in record {
        origin = ap (λ (a : RequestState P I A). a.origin) (sym p);
        run = ap (λ (a : RequestState P I A). run_at a.status) (sym p) ∙ sym (ap run_at st);
        told = ap (λ (a : RequestState P I A). result_in a.status) (sym p) ∙ sym (ap result_in st);
        owes = ap (λ (a : RequestState P I A). owed a.status) (sym p) ∙ sym (ap owed st);
      }

  kept-same : (q z : RequestState P I A) → q ≡ z → Kept q z
  kept-same q z p = record {
    origin = ap (λ (a : RequestState P I A). a.origin) (sym p);
    run = ap (λ (a : RequestState P I A). run_at a.status) (sym p);
    told = ap (λ (a : RequestState P I A). result_in a.status) (sym p);
    owes = ap (λ (a : RequestState P I A). owed a.status) (sym p);
  }

  pub kept-woken : (q z : RequestState P I A) → woken w table f.run f.made q ≡ Some z → Kept q z
  kept-woken q z e = go q.status refl e
    where
      go : (st : Status P I A) → q.status ≡ st → woken_at w table f.run f.made q st ≡ Some z
          → Kept q z
      go (waits run b g) st e = kept-if (same_run run f.run) q z run b g st e
      go (ready place) st e = kept-same q z (some-is q z e)
      go (assigned node place) st e = kept-same q z (some-is q z e)
      go (calling keys ids x g) st e = kept-same q z (some-is q z e)
      go (done result) st e = kept-same q z (some-is q z e)

  -- the events that woken requests owe, and their results
  pub owed-woken : (xs ys : List (RequestState P I A))
      → traverse (woken w table f.run f.made) xs ≡ Some ys → owed_by ys ≡ owed_by xs
  owed-woken [] ys e = let p : [] ≡ ys = cc in ap owed_by (sym p)
  owed-woken (x ∷ xs) ys e =
      let u = traverse-some (woken w table f.run f.made) x xs ys e in
      let a : owed_by ys ≡ owed u.0.status + owed_by u.1 = ap owed_by u.4 in
      let b : owed u.0.status ≡ owed x.status = (kept-woken x u.0 u.2).owes in
      let c = owed-woken xs u.1 u.3 in omega arith

  pub told-woken : (xs ys : List (RequestState P I A))
      → traverse (woken w table f.run f.made) xs ≡ Some ys → (n : ℕ)
      → result_at ys n ≡ result_at xs n
  told-woken [] ys e n = let p : [] ≡ ys = cc in ap (λ zs. result_at zs n) (sym p)
  told-woken (x ∷ xs) ys e n = let u = traverse-some (woken w table f.run f.made) x xs ys e in ap
      (λ zs. result_at zs n) u.4 ∙ go n u.0 u.1 (kept-woken x u.0 u.2).told (told-woken xs u.1 u.3)
    where
      go : (n : ℕ) (y : RequestState P I A) (zs : List (RequestState P I A))
          → result_in y.status ≡ result_in x.status → ((m : ℕ) → result_at zs m ≡ result_at xs m)
          → result_at (y ∷ zs) n ≡ result_at (x ∷ xs) n
      go zero y zs t ih = t
      go (suc n) y zs t ih = ih n

  -- a request that does not wait is as it was
  pub unwoken : (q z : RequestState P I A) (st : Status P I A) → q.status ≡ st
      → woken_at w table f.run f.made q st ≡ Some q → woken w table f.run f.made q ≡ Some z → q ≡ z
  unwoken q z st e s h = some-is q z (sym s ∙ (sym (ap (woken_at w table f.run f.made q) e) ∙ h))

waits-same : {P I A : Type 0} (r s : RunId) (b c : Body I A) (g h : Record → Journal → Walk P I A)
    → waits r b g ≡ waits s c h → r ≡ s
waits-same r s b c g h e = cc

module _ {W P I A : Type 0} (seen : W → Seen P I A) (w : World P I A) (history after : History)
    {origins : List Origin} {slots : List (Slot W)} {making : List (Option RunId)}
    {table : TableRuns} {end : Option End}
    (id : ℕ) (run : RunId) (made : Record) (p : Position P I A)
    (x : Shown seen w history origins slots making table end) where
  module _ (e : Ends p.place run made) (h : There slots x.state id p) where
    abbrev finished_run : FinishedRun
    finished_run = record { run = e.inside.run; made = recorded e.outcome e.inside.so_far.segments }

    abbrev records_after : Records
    records_after = finished_run ∷ x.state.table

    abbrev next_position : Position P I A
    next_position = after_run p.runs e.inside.run e.inside.go finished_run.made
        (add p.journal (ended e.inside.run finished_run.made))

    abbrev next_request : RequestState P I A
    next_request = placed h.origin next_position (assigned h.node)

    abbrev was_request : RequestState P I A
    was_request = placed h.origin p (assigned h.node)

    abbrev state_after : List (RequestState P I A) → State P I A
    state_after requests = record {
      requests = requests;
      begun = x.state.begun;
      table = records_after;
      tools_used = record { run = e.inside.run; tools = e.inside.so_far.tools }
          ∷ x.state.tools_used;
    }

    abbrev wakes : List (RequestState P I A) → Type 0
    wakes requests = traverse (woken w records_after e.inside.run finished_run.made)
        (put x.state.requests id next_request) ≡ Some requests

    was_status : was_request.status ≡ assigned h.node (within e.inside (ends e.outcome))
    was_status = ap (assigned h.node) e.is

    at_within : at x.state.requests id ≡ Some
        (record {
          origin = h.origin;
          journal = p.journal;
          runs = p.runs;
          status = assigned h.node
              (within e.inside (ends e.outcome));
        })
    at_within = h.at_state
        ∙ ap
        (λ place.
        Some
        (record
        { origin = h.origin; journal = p.journal; runs = p.runs; status = assigned h.node place }))
        e.is

    result-step : step w x.state (Result id e.inside.run)
        ≡ and_then
        (traverse (woken w records_after e.inside.run finished_run.made)
        (put x.state.requests id next_request)) (λ requests. Some (state_after requests))
    result-step = ap (λ o. and_then o (step_of w x.state (Result id e.inside.run))) at_within
        ∙ ap
        (λ t. and_then (only_if t e.inside)
        (λ y. finished w x.state id h.node was_request y
        (recorded e.outcome y.so_far.segments))) (same_run-refl e.inside.run)

    result-possible : IsPossible w x.state (Result id e.inside.run)
    result-possible = elim
        (goes w history.events x.state x.history id h.node was_request
        (within e.inside (ends e.outcome)) h.at_state was_status) [ inl g ↦ g | inr g ↦ absurd g ]

    pub woken-requests : (requests : List (RequestState P I A)) × wakes requests
    woken-requests =
        let g = result-possible in
        let y = and_then-some
        (traverse (woken w records_after e.inside.run finished_run.made)
        (put x.state.requests id next_request)) (λ requests. Some (state_after requests)) g.0
        (sym result-step ∙ g.1) in
        (y.0, y.1)

    pub stepped : (requests : List (RequestState P I A)) → wakes requests
        → step w x.state (Result id e.inside.run) ≡ Some (state_after requests)
    stepped requests k = result-step
        ∙ ap (λ o. and_then o (λ requests. Some (state_after requests))) k

    -- the run is open, and the request has begun it
    open_run : (found x.state.table e.inside.run ≡ None)
        × (beginner x.state.begun e.inside.run ≡ Some id)
    open_run =
        let v = lawful w history.events x.state x.history in
        let y = inside-open x.state v id (kin_of was_request) e.inside.run
        (kins-at x.state.requests id was_request h.at_state) (ap inside_of was_status)
        in (y.0.1, y.1)

    -- a run that the request has begun and not finished is the one that it is in
    one_run : (other : RunId) → found x.state.table other ≡ None
        → request_of (unfinished x.state.table x.state.begun) other ≡ Some id
        → is_begun other x.state.begun ≡ true → other ≡ e.inside.run
    one_run other n r b =
        let v = lawful w history.events x.state x.history in
        let k = kindred w history.events x.state x.history in
        let y = k.free.working other (b, n) in
        let z = inside-open x.state v y.0 y.1 other y.2 y.3 in
        let same : y.0
        ≡ id = some-is y.0 id
        (sym z.1 ∙ (sym (unfinished-beginner x.state.table x.state.begun other n) ∙ r)) in
        let kin : y.1 ≡ kin_of was_request = same_some (kins_of x.state.requests id) y.1
        (kin_of was_request) (subst (λ m. kins_of x.state.requests m ≡ Some y.1) same y.2)
        (kins-at x.state.requests id was_request h.at_state) in
        some-is other e.inside.run
        (sym y.3 ∙ (ap (λ (a : Kin). a.inside) kin ∙ ap inside_of was_status))

    later : (requests : List (RequestState P I A)) (count : ℕ) → length history.events ≤ count
        → Later w x.state (state_after requests) (length history.events) count
    later requests count l = record {
      has = λ r m g. found-grows x.state.table finished_run open_run.0 r m g;
      goes = λ a b answer g. answered-more w x.state.table finished_run open_run.0 a b answer g;
      counts = l;
    }

    told-after : (requests : List (RequestState P I A)) → wakes requests → (n : ℕ)
        → result_at requests n ≡ result_at x.state.requests n
    told-after requests k n = told-woken w records_after finished_run
        (put x.state.requests id next_request) requests k n
        ∙ result-put x.state.requests id was_request next_request h.at_state refl n

    -- a slot after the run is finished
    slot-woken : (requests : List (RequestState P I A)) → wakes requests → (count : ℕ)
        → length history.events ≤ count → (n : ℕ) (slot : Slot W) (q z : RequestState P I A)
        → at (put x.state.requests id next_request) n ≡ Some q →
        ShowsSlot w x.state (length history.events) seen slot q
        → woken w records_after e.inside.run finished_run.made q ≡ Some z
        → ShowsSlot w (state_after requests) count seen (woken_by id slot) z
    slot-woken requests k count l n (Ready walk answer) q z a s g =
        let st : q.status ≡ ready s.position.place = ap (λ (b : RequestState P I A). b.status) s.is
        in
        let same : q ≡ z = unwoken w records_after finished_run q z (ready s.position.place) st refl
        g in
        subst (λ b. ShowsSlot w (state_after requests) count seen (Ready walk answer) b) same
        (slot-later w seen x.state (state_after requests) (length history.events) count
        (later requests count l) (Ready walk answer) q (record {
          begun = λ r b go by h i. absurd (let c : ready s.position.place ≡ waits r b go = sym st
              ∙ h in cc);
          told = λ keys ids y go h. map-alike _ _ ids (told-after requests k);
        }) s)
    slot-woken requests k count l n (Assigned node) q z a s g =
        let same : q ≡ z = unwoken w records_after finished_run q z (assigned node s.place) s.is
        refl g in
        subst (λ b. ShowsSlot w (state_after requests) count seen (Assigned node) b) same
        (record { place = s.place; is = s.is })
    slot-woken requests k count l n (Calling calls) q z a s g =
        let same : q ≡ z = unwoken w records_after finished_run q z _ s.is refl g in
        subst (λ b. ShowsSlot w (state_after requests) count seen (Calling calls) b) same
        (slot-later w seen x.state (state_after requests) (length history.events) count
        (later requests count l) (Calling calls) q (record {
          begun = λ r b go by h i. absurd (let c = sym s.is ∙ h in cc);
          told = λ keys ids y go h. map-alike _ _ ids (told-after requests k);
        }) s)
    slot-woken requests k count l n Done q z a s g =
        let same : q ≡ z = unwoken w records_after finished_run q z (done s.result) s.is refl g in
        subst (λ b. ShowsSlot w (state_after requests) count seen Done b) same
        (record { result = s.result; is = s.is })
    slot-woken requests k count l n (Waiting walk by) q z a s g = go (by == id) refl
      where
        there : at x.state.requests n ≡ Some q
        there = elim (at-put x.state.requests id next_request n q a) [
          | inl c ↦ absurd (let d : assigned h.node next_position.place
              ≡ waits s.run s.body s.go = ap (λ (b : RequestState P I A). b.status) c.1
              ∙ s.is in cc)
          | inr c ↦ c.1
        ]

        open_there : (is_begun s.run x.state.begun ≡ true) × (found x.state.table s.run ≡ None)
        open_there = subst
            (λ (st : Status P I A). LawfulStatus x.state.begun x.state.table n q.journal st) s.is
            ((lawful w history.events x.state x.history).each n q there).status

        woken_now : woken_if w (same_run s.run e.inside.run) records_after q finished_run.made s.run
            s.go ≡ Some z
        woken_now = sym (ap (woken_at w records_after e.inside.run finished_run.made q) s.is) ∙ g

        is_ready_now : s.run ≡ e.inside.run
            → ShowsReady w (state_after requests) count (seen walk) Use z
        is_ready_now same =
            let y = and_then-some (replay records_after s.run q.journal)
            (λ next. Some (goes_on w ready q s.run s.go finished_run.made next)) z
            (sym
            (ap (λ t. woken_if w t records_after q finished_run.made s.run s.go)
            (same_run-eq s.run e.inside.run same)) ∙ woken_now) in
            let position : Position P I A = after_run q.runs s.run s.go finished_run.made y.0 in
            let f : found records_after s.run
            ≡ Some finished_run.made = ap (found records_after) same
            ∙ found-newest x.state.table finished_run in
            record {
              position = position;
              goes = record {
                world = s.stands.world;
                learnt = part-later w x.state (state_after requests) (length history.events) count
                    (later requests count l) (seen walk).learnt s.stands.learnt;
                goes = ap (λ b. answered w records_after b Use) s.stands.position
                    ∙ (ap
                    (λ o.
                    and_then o
                    (λ made. and_then (replay records_after s.run q.journal)
                    (λ next. Some (after_run q.runs s.run s.go made next)))) f
                    ∙ ap
                    (λ o.
                    and_then o
                    (λ next. Some (after_run q.runs s.run s.go finished_run.made next))) y.1);
                turn = s.stands.asked;
                few = let c : (seen walk).asked
                    ≤ length history.events = s.stands.few in omega arith;
              };
              is = subst (λ (b : RequestState P I A). b ≡ placed b.origin position ready)
                  (some-is _ z y.2) refl;
            }

        other_run : (by ≡ id → ⊥) → (r : RunId) → s.run ≡ r → r ≡ e.inside.run → ⊥
        other_run d r c same = d
            (some-is by id
            (sym s.begun
            ∙ (ap (request_of (unfinished x.state.table x.state.begun)) (c ∙ same)
            ∙ (unfinished-beginner x.state.table x.state.begun e.inside.run open_run.0
            ∙ open_run.1))))

        is_waiting_now : (by ≡ id → ⊥)
            → ShowsWaiting w (state_after requests) count (seen walk) by z
        is_waiting_now d =
            let apart : same_run s.run e.inside.run
            ≡ false = elim (tells (same_run s.run e.inside.run)) [
              | inl t ↦ absurd (other_run d s.run refl (same_run-true s.run e.inside.run t))
              | inr
                  m ↦ m
            ] in
            let same : q
            ≡ z = some-is q z
            (sym (ap (λ t. woken_if w t records_after q finished_run.made s.run s.go) apart)
            ∙ woken_now) in
            subst (λ b. ShowsWaiting w (state_after requests) count (seen walk) by b) same
            (slot-later w seen x.state (state_after requests) (length history.events) count
            (later requests count l) (Waiting walk by) q (record {
              begun = λ r b go by h i.
                  let c : s.run ≡ r = waits-same s.run r s.body b s.go go (sym s.is ∙ h) in
                  let m : same_run e.inside.run r
                  ≡ false = elim (tells (same_run e.inside.run r)) [
                    | inl t ↦ absurd (other_run d r c (sym (same_run-true e.inside.run r t)))
                    | inr m ↦ m
                  ] in
                  ap (λ bs. request_of bs r)
                  (unfinished-without x.state.table finished_run x.state.begun)
                  ∙ (without-other (unfinished x.state.table x.state.begun) r e.inside.run m
                  ∙ i);
              told = λ keys ids y go h. map-alike _ _ ids (told-after requests k);
            }) s)

        go : (t : Bool) → (by == id) ≡ t
            → ShowsSlot w (state_after requests) count seen (woken_if_slot t walk by) z
        go true b = is_ready_now
            (one_run s.run open_there.1 (s.begun ∙ ap Some (eqb-true by id b)) open_there.0)
        go false b = is_waiting_now (λ same. clash (by == id) (eq-eqb by id same) b)

    -- the core shows the state after the run is finished
    finished-shown : (requests : List (RequestState P I A)) → wakes requests
        → {outs : List (Slot W)} {bodies : List (Option RunId)} {runs : TableRuns} → end ≡ None
        → after.events ≡ history.events ++ Result id e.inside.run ∷ []
        → history.room ≡ after.room + 1 →
        outs ≡ map (woken_by id) slots → bodies ≡ put making id None
        → runs.finished ≡ finished_run ∷ table.finished
        → runs.begun ≡ without e.inside.run table.begun
        → Shown seen w after origins outs bodies runs end
    finished-shown requests k {outs} {bodies} {runs} none ev room os bs fin beg = record {
      state = state_after requests;
      history = subst (λ es. IsHistory w es (state_after requests)) (sym ev)
          (more w history.events (Result id e.inside.run) x.state (state_after requests) x.history
          (stepped requests k));
      asked = x.asked
          ∙ (sym (map-put origin_of x.state.requests id was_request next_request h.at_state refl)
          ∙ sym
          (map-traverse origin_of (woken w records_after e.inside.run finished_run.made)
          (λ a b g. ap origin_from (kept-woken w records_after finished_run a b g).origin)
          (put x.state.requests id next_request) requests k));
      rooted = x.rooted;
      each = subst
          (λ (xs : List (Slot W)).
          Paired (ShowsSlot w (state_after requests) (length after.events) seen) xs requests)
          (sym os)
          (paired-traverse (ShowsSlot w x.state (length history.events) seen)
          (ShowsSlot w (state_after requests) (length after.events) seen) (woken_by id)
          (woken w records_after e.inside.run finished_run.made) slots
          (put x.state.requests id next_request) requests
          (subst
          (λ (xs : List (Slot W)). Paired (ShowsSlot w x.state (length history.events) seen) xs
          (put x.state.requests id next_request))
          (put-there slots id (Assigned h.node) h.at_slots)
          (paired-puts (ShowsSlot w x.state (length history.events) seen)
          (ShowsSlot w x.state (length history.events) seen) slots x.state.requests id
          (Assigned h.node) next_request (λ n a b d g s. s)
          (record { place = next_position.place; is = refl }) x.each)) k
          (slot-woken requests k (length after.events)
          (let c = one-more history.events after.events (Result id e.inside.run) ev in omega
          arith)));
      bodies = bs
          ∙ (ap (λ ms. put ms id None) x.bodies
          ∙ (sym (map-puts making_of x.state.requests id next_request)
          ∙ sym
          (map-traverse making_of (woken w records_after e.inside.run finished_run.made)
          (λ a b g. (kept-woken w records_after finished_run a b g).run)
          (put x.state.requests id next_request) requests k)));
      finished = fin ∙ ap (λ t. finished_run ∷ t) x.finished;
      begun = beg
          ∙ (ap (without e.inside.run) x.begun
          ∙ sym (unfinished-without x.state.table finished_run x.state.begun));
      room =
          let a : owed_by requests ≡ owed_by (put x.state.requests id next_request) = owed-woken w
          records_after finished_run (put x.state.requests id next_request) requests k in
          let b = owed-put x.state.requests id was_request next_request h.at_state in
          let c : owed was_request.status ≡ 2 = ap owed was_status in
          let d : owed_by x.state.requests ≤ history.room = x.room in omega arith;
      ends = subst (ShowsEnd (state_after requests)) (sym none)
          (ends-alike x.state (state_after requests) (told-after requests k 0)
          (subst (ShowsEnd x.state) none x.ends));
    }

    finished-there : (requests : List (RequestState P I A)) → wakes requests
        → at requests id ≡ Some next_request
    finished-there requests k =
        let y = traverse-at (woken w records_after e.inside.run finished_run.made)
        (put x.state.requests id next_request) requests k id next_request
        (at-put_same x.state.requests id was_request next_request h.at_state) in
        y.1 ∙ sym y.2

    finished-with : (requests : List (RequestState P I A)) → wakes requests
        → after.events ≡ history.events ++ Result id e.inside.run ∷ []
        → IsWith w after.events id next_position
    finished-with requests k ev = record {
      state = state_after requests;
      origin = h.origin;
      node = h.node;
      history = subst (λ es. IsHistory w es (state_after requests)) (sym ev)
          (more w history.events (Result id e.inside.run) x.state (state_after requests) x.history
          (stepped requests k));
      there = finished-there requests k;
    }

    finished-out : (walk : W) → (seen walk).position ≡ p
        → IsOwn w history.events table.finished id (seen walk)
        → after.events ≡ history.events ++ Result id e.inside.run ∷ [] → {runs : Records}
        → runs ≡ finished_run ∷ table.finished →
        IsOut w after.events runs id (seen walk) Use
    finished-out walk same o ev {runs} fin =
        let y = woken-requests in record {
          next = next_position;
          stands = finished-with y.0 y.1 ev;
          world = o.world;
          learnt = subst (ArePartOf (seen walk).learnt)
              (sym (fin ∙ ap (λ t. finished_run ∷ t) x.finished))
              (part-later w x.state (state_after y.0) (length history.events)
              (length history.events)
              (later y.0 (length history.events) (omega arith)) (seen walk).learnt
              (subst (ArePartOf (seen walk).learnt) x.finished o.learnt));
          goes = ap (λ b. answered w runs b Use) same
              ∙ ap (λ place. answered_at w runs p.journal p.runs place Use) e.is;
          turn = o.asked;
          few = let c : length after.events ≡ suc (length history.events) = one-more history.events
              after.events (Result id e.inside.run) ev in let m : (seen walk).asked
              ≤ length history.events = o.few in omega arith;
        }

-- the run of a request whose body has ended
module _ {W P I A : Type 0} (seen : W → Seen P I A) (w : World P I A) (history after : History)
    {origins : List Origin} {slots : List (Slot W)} {making : List (Option RunId)}
    {table : TableRuns} {end : Option End} (id : ℕ) (run : RunId) (made : Record) where
  pub finish-shown : {outs : List (Slot W)} {bodies : List (Option RunId)} {runs : TableRuns}
      → Asks w history.events id (Finished run made) → end ≡ None
      → after.events ≡ history.events ++ Result id run ∷ [] → history.room ≡ after.room + 1 →
      outs ≡ map (woken_by id) slots → bodies ≡ put making id None
      → runs.finished ≡ record { run = run; made = made } ∷ table.finished
      → runs.begun ≡ without run table.begun → Shown seen w history origins slots making table end →
      Shown seen w after origins outs bodies runs end
  finish-shown a none ev room os bs fin beg x =
      let p : Position P I A = a.position in
      let e = ends-of p.runs p.place run made a.asks in
      let h = there-of seen w x id p a.stands in
      let y = woken-requests seen w history after id run made p x e h in
      finished-shown seen w history after id run made p x e h y.0 y.1 none
      (ev ∙ ap (λ r. history.events ++ Result id r ∷ []) (sym e.run_is)) room os bs
      (fin
      ∙ (ap (λ r. record { run = r; made = made } ∷ table.finished) (sym e.run_is)
      ∙ ap (λ m. record { run = e.inside.run; made = m } ∷ table.finished) (sym e.made_is)))
      (beg ∙ ap (λ r. without r table.begun) (sym e.run_is))

  pub finish-out : (walk : W) → IsOwn w history.events table.finished id (seen walk)
      → ask_of (seen walk).position ≡ Finished run made
      → after.events ≡ history.events ++ Result id run ∷ [] → {runs : Records} →
      runs ≡ record { run = run; made = made } ∷ table.finished
      → Shown seen w history origins slots making table end
      → IsOut w after.events runs id (seen walk) Use
  finish-out walk o a ev fin x =
      let p : Position P I A = (seen walk).position in
      let e = ends-of p.runs p.place run made a in
      let h = there-of seen w x id p o.stands in
      finished-out seen w history after id run made p x e h walk refl o
      (ev ∙ ap (λ r. history.events ++ Result id r ∷ []) (sym e.run_is))
      (fin
      ∙ (ap (λ r. record { run = r; made = made } ∷ table.finished) (sym e.run_is)
      ∙ ap (λ m. record { run = e.inside.run; made = m } ∷ table.finished) (sym e.made_is)))

  -- before the run is finished: it is begun, the request is in its body, and there is room for the
  -- event
  pub finish-begun : Asks w history.events id (Finished run made)
      → Shown seen w history origins slots making table end → request_of table.begun run ≡ Some id
  finish-begun a x =
      let p : Position P I A = a.position in
      let e = ends-of p.runs p.place run made a.asks in
      let h = there-of seen w x id p a.stands in
      let y = open_run seen w history after id run made p x e h in
      ap (λ bs. request_of bs run) x.begun
      ∙ (ap (request_of (unfinished x.state.table x.state.begun)) (sym e.run_is)
      ∙ (unfinished-beginner x.state.table x.state.begun e.inside.run y.0 ∙ y.1))

  -- the run has no record before
  pub finish-new : Asks w history.events id (Finished run made) →
      Shown seen w history origins slots making table end → found table.finished run ≡ None
  finish-new a x =
      let p : Position P I A = a.position in
      let e = ends-of p.runs p.place run made a.asks in
      let h = there-of seen w x id p a.stands in
      let y = open_run seen w history after id run made p x e h in
      ap (λ records. found records run) x.finished ∙ (ap (found x.state.table) (sym e.run_is) ∙ y.0)

  pub finish-room : Asks w history.events id (Finished run made)
      → Shown seen w history origins slots making table end → 0 < history.room
  finish-room a x =
      let p : Position P I A = a.position in
      let e = ends-of p.runs p.place run made a.asks in
      let h = there-of seen w x id p a.stands in
      let b = owed-at x.state.requests id _ h.at_state in
      let c : owed_in p.place ≡ 2 = ap owed_in e.is in
      let d : owed_by x.state.requests ≤ history.room = x.room in omega arith

  pub finish-making : Asks w history.events id (Finished run made)
      → Shown seen w history origins slots making table end → at making id ≡ Some (Some run)
  finish-making a x =
      let p : Position P I A = a.position in
      let e = ends-of p.runs p.place run made a.asks in
      let h = there-of seen w x id p a.stands in
      ap (λ ms. at ms id) x.bodies
      ∙ (map-at making_of x.state.requests id _ h.at_state
      ∙ ap Some (ap run_in e.is ∙ ap Some e.run_is))

  pub finish-slots : Asks w history.events id (Finished run made)
      → Shown seen w history origins slots making table end
      → (id < length making) × (id < length slots)
  finish-slots a x =
      let h = there-of seen w x id a.position a.stands in (
        at-less making id (Some run) (finish-making a x),
        at-less slots id (Assigned h.node)
            h.at_slots,
      )

run-prop : (r s : RunId) → IsProp (r ≡ s)
run-prop r s = hlevel props

-- the same of a core that shows a state
module _ {W P I A : Type 0} (seen : W → Seen P I A) (w : World P I A) {history : History}
    {origins : List Origin} {slots : List (Slot W)} {making : List (Option RunId)}
    {table : TableRuns} {end : Option End} (id : ℕ) (run : RunId) (made : Record)
    (shown : ∥ Shown seen w history origins slots making table end ∥₁)
    (asked : ∥ Asks w history.events id (Finished run made) ∥₁) where
  pub finishes-begun : IsSome (request_of table.begun run)
  finishes-begun = ∥∥₁_elim shown (some-prop _)
      (λ x.
      ∥∥₁_elim asked (some-prop _)
      (λ a. ap is_some (finish-begun seen w history history id run made a x)))

  pub finishes-room : 0 < history.room
  finishes-room = ∥∥₁_elim shown (λ p q. le_prop p q)
      (λ x. ∥∥₁_elim asked (λ p q. le_prop p q)
      (λ a. finish-room seen w history history id run made a x))

  pub finishes-there : id < length making
  finishes-there = ∥∥₁_elim shown (λ p q. le_prop p q)
      (λ x. ∥∥₁_elim asked (λ p q. le_prop p q)
      (λ a. (finish-slots seen w history history id run made a x).0))

  pub finishes-slot : id < length slots
  finishes-slot = ∥∥₁_elim shown (λ p q. le_prop p q)
      (λ x. ∥∥₁_elim asked (λ p q. le_prop p q)
      (λ a. (finish-slots seen w history history id run made a x).1))

  pub finishes-named : (r : RunId) → at making id ≡ Some (Some r) → r ≡ run
  finishes-named r e = ∥∥₁_elim shown (run-prop r run)
      (λ x.
      ∥∥₁_elim asked (run-prop r run)
      (λ a.
      some-is r run
      (some-is (Some r) (Some run) (sym e ∙ finish-making seen w history history id run made a x))))

  pub finishes-some : at making id ≡ Some None → ⊥
  finishes-some e = ∥∥₁_elim shown (λ p. absurd p)
      (λ x.
      ∥∥₁_elim asked (λ p. absurd p) (λ a. let c : None
      ≡ Some run = some-is None (Some run) (sym e
      ∙ finish-making seen w history history id run made a x)
      in cc))
