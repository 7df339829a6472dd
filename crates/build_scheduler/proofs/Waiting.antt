-- A request waits for a run that another one has begun, unless the wait would close a cycle.
use Rattle.std.proofs.Common.{
  ◌≡◌,
  ◌≤◌,
  ◌<◌,
  ◌+◌,
  ◌==◌,
  ◌||◌,
  inl,
  inr,
  ℕ,
  zero,
  suc,
  Bool,
  true,
  false,
  List,
  [],
  ◌∷◌,
  ◌++◌,
  length,
  get_or,
  set,
  Option,
  None,
  Some,
  refl,
  ap,
  sym,
  ◌∙◌,
  subst,
  arith,
}
use Rattle.std.proofs.Math.Bridge.{le_prop}
use Rattle.std.proofs.Math.Logic.{∥∥₁_elim, ∥∥₁_prop}
use Rattle.std.proofs.Props.{props}
use Rattle.std.proofs.lemmas.Bool.{eq-eqb}
use Rattle.std.proofs.lemmas.List.{length-map}
use Rattle.std.specs.Bool.{Decides}
use Rattle.std.specs.Prelude.{is_some}
use Rattle.result_cache.specs.declared.run.RunId.{RunId}
use Rattle.result_cache.specs.declared.record.Record.{Record}
use Rattle.result_cache.specs.Journal.{Journal}
use Rattle.result_cache.specs.Table.{Records, TableRuns, found, request_of, is_begun}
use Rattle.result_cache.proofs.RunTests.{clash, tells, and_then-some}
use Rattle.build_meaning.specs.declared.event.Event.{Event}
use Rattle.build_meaning.specs.declared.event.Event.TheVariants.{Claim}
use Rattle.build_meaning.specs.declared.event.ClaimKind.TheVariants.{Wait}
use Rattle.build_meaning.specs.Lists.{at, put}
use Rattle.build_meaning.specs.World.{World}
use Rattle.build_meaning.specs.Walk.{Walk, wants, Body}
use Rattle.build_meaning.specs.State.{walking, assigned, waits, RequestState, State}
use Rattle.build_meaning.specs.Cycle.{IsChain, is_in_cycle}
use Rattle.build_meaning.specs.Step.{only_if, waiting, may_wait, step}
use Rattle.build_meaning.proofs.CyclesShown.{cycles_are_shown}
use Rattle.build_meaning.proofs.LawfulStates.{beginner, beginner-begun}
use Rattle.build_meaning.proofs.ListPlaces.{at-put_same, at-put_else, at-less, put-length}
use Rattle.build_meaning.proofs.OpenRequests.{at-kins, calling-so, inside-open}
use Rattle.build_meaning.proofs.PairedLists.{Paired-length}
use Rattle.build_meaning.proofs.ParentsAndChildren.{Kin, same_some, same_or_not}
use Rattle.build_scheduler.specs.declared.walker.Ask.TheVariants.{Want}
use Rattle.build_scheduler.specs.declared.dependents.Dependent.{Dependent}
use Rattle.build_scheduler.specs.declared.slot.Origin.{Origin}
use Rattle.build_scheduler.specs.declared.slot.Slot.{Slot}
use Rattle.build_scheduler.specs.declared.slot.Slot.TheVariants.{Assigned, Waiting}
use Rattle.build_scheduler.specs.declared.slot.End.{End}
use Rattle.build_scheduler.specs.Claims.{WouldClose, ClosesCycle, IsClosingCycle}
use Rattle.build_scheduler.specs.Learnt.{ArePartOf}
use Rattle.build_scheduler.specs.History.{History}
use Rattle.build_scheduler.specs.Dependents.{
  caller_at,
  AreFound,
  AreOver,
  TellsDependent,
  IsCycleOver,
  IsMaking,
  AreCallersThere,
  AreBounded,
}
use Rattle.build_scheduler.specs.Numbers.{among, Numbered}
use Rattle.build_scheduler.specs.Own.{Seen, placed, IsOwn}
use Rattle.build_scheduler.specs.Position.{ask_of}
use Rattle.build_scheduler.specs.Ready.{IsAssigned}
use Rattle.build_scheduler.specs.Shown.{
  Shown,
  Indexed,
  AreNested,
  IsNested,
  HaveNumbers,
  IsListed,
  is_ready,
  waits_for,
  unready,
  numbers_of,
  room_of,
}
use Rattle.build_scheduler.specs.Slots.{origin_of, making_of, run_at, owed, unfinished, ShowsSlot}
use Rattle.build_scheduler.proofs.ClosingCycles.{
  begun-by,
  found-closes,
  found-making,
  first-calls,
  apart-open,
}
use Rattle.build_scheduler.proofs.Claiming.{
  Claims,
  claims-of,
  claim-step,
  wanting_status,
  not_begun,
}
use Rattle.build_scheduler.proofs.GrowingAnswers.{unfinished-beginner}
use Rattle.build_scheduler.proofs.HistoryFacts.{one_state, kindred, lawful, truth-prop}
use Rattle.build_scheduler.proofs.Looking.{among-in, in-at}
use Rattle.build_scheduler.proofs.OneRequest.{map-put, result-put, shown-put, one-more}
use Rattle.build_scheduler.proofs.OwnWalks.{there-of}
use Rattle.build_scheduler.proofs.SlotNumbers.{not-equal, at-cases, unready-put, at-get, put-set}
use Rattle.build_scheduler.proofs.SlotsStay.{map-alike}

module _ {W P I A : Type 0} (seen : W → Seen P I A) (w : World P I A) {history : History}
    {origins : List Origin} {slots : List (Slot W)} {making : List (Option RunId)}
    {table : TableRuns} {end : Option End} {ready_ones : Numbered} {waiting_ones : List Numbered}
    (x : Shown seen w history origins slots making table end)
    (y : Indexed slots ready_ones waiting_ones) (id : ℕ) (run : RunId) (by : ℕ)
    (begun : request_of table.begun run ≡ Some by) (open_run : found table.finished run ≡ None)
  where
    finished_not : found x.state.table run ≡ None
    finished_not = ap (λ t. found t run) (sym x.finished) ∙ open_run

    -- the claimed run would be needed by nobody who is found
    pub circle-none : TellsDependent origins waiting_ones id by None → (runs : List RunId)
        → ClosesCycle w history.events id run runs → ⊥
    circle-none n runs c =
        let one : c.state ≡ x.state = one_state w history.events c.state x.state c.history x.history
        in
        apart-open seen w x y id c.node c.request (walking (wants c.site run c.body c.go))
        (subst (λ (s : State P I A). at s.requests id ≡ Some c.request) one c.there) c.wants_so run
        c.body c.go by begun open_run n.0 n.1 n.2 c.between
        (subst
        (λ (s : State P I A). IsChain
        (waiting w s id c.request run c.body c.go) run
        c.between run) one c.closes)

    pub would-none : TellsDependent origins waiting_ones id by None
        → WouldClose w history.events id run
        → ⊥
    would-none n c =
        let one : c.state ≡ x.state = one_state w history.events c.state x.state c.history x.history
        in
        apart-open seen w x y id c.node c.request c.place
        (subst (λ (s : State P I A). at s.requests id ≡ Some c.request) one c.there) c.with_node run
        c.body c.go by begun open_run n.0 n.1 n.2 c.between
        (subst
        (λ (s : State P I A). IsChain
        (waiting w s id c.request run c.body c.go) run
        c.between run) one c.closes)

    pub circle-some : (walk : W) → IsOwn w history.events table.finished id (seen walk)
        → ask_of (seen walk).position ≡ Want run → (way : Dependent)
        → TellsDependent origins waiting_ones id by (Some way) → (runs : List RunId) →
        IsCycleOver way.dependents.requests.keys way.dependents.needs.items making way.place run
        runs
        → ClosesCycle w history.events id run runs
    circle-some walk o a way n runs r =
        let c = claims-of seen w history history id walk run x o a in
        let q : RequestState P I A = placed c.there.origin (seen walk).position
        (assigned c.there.node) in
        let st : q.status ≡ assigned c.there.node
        (walking (wants c.wanted.site run c.wanted.body c.wanted.go)) = ap (assigned c.there.node)
        c.wanted.is in
        record {
          state = x.state;
          request = q;
          node = c.there.node;
          site = c.wanted.site;
          body = c.wanted.body;
          go = c.wanted.go;
          between = r.0;
          history = x.history;
          there = c.there.at_state;
          wants_so = st;
          begun = beginner-begun x.state.begun run by
              (begun-by seen w x y id c.there.node q
              (walking (wants c.wanted.site run c.wanted.body c.wanted.go)) c.there.at_state st run
              c.wanted.body c.wanted.go by begun open_run);
          unfinished = finished_not;
          runs_so = r.1;
          closes = found-closes seen w x y id c.there.node q
              (walking (wants c.wanted.site run c.wanted.body c.wanted.go)) c.there.at_state st run
              c.wanted.body c.wanted.go by begun open_run
              n.0 way.dependents.requests.keys way.dependents.needs.items n.2 n.1 way.place n.3 r.0
              r.2;
        }

    -- a request with a node, as the claims of any run see it
    module _ (v : IsAssigned w history.events id) where
      here : at x.state.requests id ≡ Some v.request
      here = subst (λ (s : State P I A). at s.requests id ≡ Some v.request)
          (one_state w history.events v.state x.state v.history x.history) v.there

      pub ways-making : (first : ℕ) (requests over : List ℕ)
          → AreFound origins waiting_ones first requests over → caller_at origins id ≡ Some first
          → (i n : ℕ) → at requests i ≡ Some n → (r : RunId) × (at making n ≡ Some (Some r))
      ways-making first requests over f p i n e = found-making seen w x y id v.node v.request
          v.place
          here v.is first requests over f p i n e

      ways-over : (first : ℕ) (requests over : List ℕ)
          → AreFound origins waiting_ones first requests over → caller_at origins id ≡ Some first
          → (b i : ℕ) → i < b → i < length requests
          → (runs : List RunId) × AreOver requests over making i runs
      ways-over first requests over f p zero i l m = absurd (omega arith)
      ways-over first requests over f p (suc b) zero l m = ([], refl)
      ways-over first requests over f p (suc b) (suc i) l m =
          let z = f.each (suc i) (get_or requests (suc i) 0) (at-get requests (suc i) 0 m)
          (omega arith) in
          let d : z.place < suc i = z.before in
          let made = ways-making first requests over f p z.place z.next z.next_is in
          let more = ways-over first requests over f p b z.place (omega arith)
          (at-less requests z.place z.next z.next_is) in
          (made.0 ∷ more.0, (z.place, z.next, z.over_is, omega arith, z.next_is, made.1, more.1))

      -- how some request goes on, to say how this one would
      goes-on : (first : ℕ) → caller_at origins id ≡ Some first
          → (b : Body I A) × (Record → Journal → Walk P I A)
      goes-on first p =
          let a = first-calls seen w x y id v.node v.request v.place here v.is first p in
          let q = at-kins x.state.requests first a.of_it a.there in
          let s = calling-so q.0.status a.ids (ap (λ (k : Kin). k.calls) q.2 ∙ a.calls_so) in
          (s.2 [] [], s.1.go)

      pub would-some : (way : Dependent) → TellsDependent origins waiting_ones id by (Some way)
          → WouldClose w history.events id run
      would-some way n =
          let keys : List ℕ = way.dependents.requests.keys in
          let over : List ℕ = way.dependents.needs.items in
          let g = goes-on n.0 n.1 in
          let l = ways-over n.0 keys over n.2 n.1 (suc way.place) way.place (omega arith)
          (at-less keys way.place by n.3) in
          record {
            state = x.state;
            request = v.request;
            node = v.node;
            place = v.place;
            body = g.0;
            go = g.1;
            between = l.0;
            history = x.history;
            there = here;
            with_node = v.is;
            begun = beginner-begun x.state.begun run by
                (begun-by seen w x y id v.node v.request v.place here v.is run g.0 g.1 by begun
                open_run);
            unfinished = finished_not;
            closes = found-closes seen w x y id v.node v.request v.place here v.is run g.0 g.1 by
                begun open_run n.0 keys over n.2 n.1 way.place n.3 l.0 l.1;
          }

making-prop : (o : Option (Option RunId)) → IsProp (IsMaking o)
making-prop None p q = absurd p
making-prop (Some None) p q = absurd p
making-prop (Some (Some run)) p q = refl

bounded-prop : (waiting : List Numbered) (count : ℕ) → IsProp (AreBounded waiting count)
bounded-prop waiting count = hlevel props

-- a request whose walk is out is with a node
pub own-assigned : {W P I A : Type 0} (seen : W → Seen P I A) (w : World P I A)
    {events : List Event} {records : Records} (id : ℕ) (walk : W)
    → IsOwn w events records id (seen walk) → IsAssigned w events id
own-assigned seen w id walk o = record {
  state = o.stands.state;
  request = placed o.stands.origin (seen walk).position (assigned o.stands.node);
  node = o.stands.node;
  place = (seen walk).position.place;
  history = o.stands.history;
  there = o.stands.there;
  is = refl;
}

-- every caller is there
pub callers-there : (origins : List Origin) → ∥ AreNested origins ∥₁ → AreCallersThere origins
callers-there origins nested id caller e = ∥∥₁_elim nested (λ p q. le_prop p q) (λ v.
    let y = and_then-some (at origins id) (λ (o : Origin). o.parent) caller e in
    let z : IsNested origins y.0.depth (Some caller) = subst (IsNested origins y.0.depth) y.2
    (v id y.0 y.1).1 in
    at-less origins caller z.0 z.1)

module _ {W P I A : Type 0} (seen : W → Seen P I A) (w : World P I A) {history : History}
    {origins : List Origin} {slots : List (Slot W)} {making : List (Option RunId)}
    {table : TableRuns} {end : Option End} where
  slots-origins : Shown seen w history origins slots making table end
      → length slots ≡ length origins
  slots-origins x =
      let a : length slots ≡ length x.state.requests = Paired-length
      (ShowsSlot w x.state (length history.events) seen) slots x.state.requests x.each in
      let b : length origins ≡ length x.state.requests = ap length x.asked
      ∙ length-map x.state.requests origin_of in a ∙ sym b

  -- a request with a node has an origin
  pub assigned-there : (id : ℕ) → ∥ Shown seen w history origins slots making table end ∥₁
      → ∥ IsAssigned w history.events id ∥₁ → id < length origins
  assigned-there id shown v = ∥∥₁_elim shown (λ p q. le_prop p q)
      (λ x. ∥∥₁_elim v (λ p q. le_prop p q) (λ v.
      let e = subst (λ (s : State P I A). at s.requests id ≡ Some v.request)
      (one_state w history.events v.state x.state v.history x.history) v.there in
      let l : id < length x.state.requests = at-less x.state.requests id v.request e in
      let b : length origins ≡ length x.state.requests = ap length x.asked
      ∙ length-map x.state.requests origin_of in omega arith))

  -- a run that nobody has begun, or that is finished, closes none
  pub absent-open : (id : ℕ) (run : RunId)
      → ∥ Shown seen w history origins slots making table end ∥₁
      → found table.finished run ≡ None → request_of table.begun run ≡ None
      → ∥ WouldClose w history.events id run ∥₁ → ⊥
  absent-open id run shown f u c = ∥∥₁_elim shown (λ p q. absurd p)
      (λ x. ∥∥₁_elim c (λ p q. absurd p) (λ c.
      clash (is_begun run x.state.begun)
      (subst (λ (s : State P I A). is_begun run s.begun ≡ true)
      (one_state w history.events c.state x.state c.history x.history) c.begun)
      (not_begun x.state.table x.state.begun run (ap (λ t. found t run) (sym x.finished) ∙ f)
      (ap (λ t. request_of t run) (sym x.begun) ∙ u))))

  pub finished-open : (id : ℕ) (run : RunId) (made : Record)
      → ∥ Shown seen w history origins slots making table end ∥₁
      → found table.finished run ≡ Some made
      → ∥ WouldClose w history.events id run ∥₁ → ⊥
  finished-open id run made shown f c = ∥∥₁_elim shown (λ p q. absurd p)
      (λ x. ∥∥₁_elim c (λ p q. absurd p) (λ c.
      let n : found x.state.table run ≡ None = subst (λ (s : State P I A). found s.table run ≡ None)
      (one_state w history.events c.state x.state c.history x.history) c.unfinished in
      let a : Some made ≡ None = sym f ∙ (ap (λ t. found t run) x.finished ∙ n) in cc))

module _ {W P I A : Type 0} (seen : W → Seen P I A) (w : World P I A) {history : History}
    {origins : List Origin} {slots : List (Slot W)} {making : List (Option RunId)}
    {table : TableRuns} {end : Option End} {ready_ones : Numbered} {waiting_ones : List Numbered}
  where
    -- all that wait are there
    pub waiting-bounded : ∥ Shown seen w history origins slots making table end ∥₁
        → ∥ Indexed slots ready_ones waiting_ones ∥₁ → AreBounded waiting_ones (length origins)
    waiting-bounded shown indexed = ∥∥₁_elim shown (bounded-prop waiting_ones (length origins))
        (λ x. ∥∥₁_elim indexed (bounded-prop waiting_ones (length origins)) (λ y. record {
          lists = y.lists ∙ slots-origins seen w x;
          bounded = λ by id h. let l : id < length slots = slot-there id by
              (sym (y.waits by id) ∙ h)
              in let s : length slots ≡ length origins = slots-origins seen w x in omega arith;
        }))
      where
        slot-there : (id by : ℕ) → waits_for by (at slots id) ≡ true → id < length slots
        slot-there id by h = go (at slots id) refl h
          where
            go : (o : Option (Slot W)) → at slots id ≡ o → waits_for by o ≡ true → id < length slots
            go None e h = absurd (cc)
            go (Some slot) e h = at-less slots id slot e

    -- the request that has begun a run has a list of those that wait
    pub begun-there : (run : RunId) (by : ℕ)
        → ∥ Shown seen w history origins slots making table end ∥₁
        → ∥ Indexed slots ready_ones waiting_ones ∥₁ → request_of table.begun run ≡ Some by
        → found table.finished run ≡ None → by < length waiting_ones
    begun-there run by shown indexed u f = ∥∥₁_elim shown (λ p q. le_prop p q)
        (λ x. ∥∥₁_elim indexed (λ p q. le_prop p q) (λ y.
        let f_now : found x.state.table run ≡ None = ap (λ t. found t run) (sym x.finished) ∙ f in
        let b : beginner x.state.begun run ≡ Some by = sym
        (unfinished-beginner x.state.table x.state.begun run f_now)
        ∙ (ap (λ t. request_of t run) (sym x.begun) ∙ u) in
        let z = (kindred w history.events x.state x.history).free.working run
        (beginner-begun x.state.begun run by b, f_now) in
        let i = inside-open x.state (lawful w history.events x.state x.history) z.0 z.1 run z.2 z.3
        in
        let n : z.0 ≡ by = same_some (beginner x.state.begun run) z.0 by i.1 b in
        let q = at-kins x.state.requests z.0 z.1 z.2 in
        let l : z.0 < length x.state.requests = at-less x.state.requests z.0 q.0 q.1 in
        let a : length slots ≡ length x.state.requests = Paired-length
        (ShowsSlot w x.state (length history.events) seen) slots x.state.requests x.each in
        let d : length waiting_ones ≡ length slots = y.lists in omega arith))

    -- a request with a node is in no list
    pub unlisted : {mid : List Numbered} (id : ℕ) (walk : W) (by : ℕ)
        → ∥ Shown seen w history origins slots making table end ∥₁
        → ∥ Indexed slots ready_ones waiting_ones ∥₁
        → ∥ IsOwn w history.events table.finished id (seen walk) ∥₁ → HaveNumbers waiting_ones mid
        → among id (numbers_of (at mid by)) ≡ false
    unlisted {mid} id walk by shown indexed own h = ∥∥₁_elim shown
        (truth-prop (among id (numbers_of (at mid by))) false)
        (λ x. ∥∥₁_elim indexed (truth-prop (among id (numbers_of (at mid by))) false)
        (λ y. ∥∥₁_elim own (truth-prop (among id (numbers_of (at mid by))) false) (λ o.
        ap (among id) (h.numbers by)
        ∙ (y.waits by id ∙ ap (waits_for by)
        (there-of seen w x id (seen walk).position o.stands).at_slots))))

    -- what is said of a cycle
    pub cycle-closed : (id : ℕ) (run : RunId) (by : ℕ) (way : Dependent)
        → ∥ Shown seen w history origins slots making table end ∥₁
        → ∥ Indexed slots ready_ones waiting_ones ∥₁ → ∥ IsAssigned w history.events id ∥₁
        → request_of table.begun run ≡ Some by → found table.finished run ≡ None →
        TellsDependent origins waiting_ones id by (Some way)
        → ∥ WouldClose w history.events id run ∥₁
    cycle-closed id run by way shown indexed v b f n = ∥∥₁_elim shown ∥∥₁_prop
        (λ x.
        ∥∥₁_elim indexed ∥∥₁_prop
        (λ y. ∥∥₁_elim v ∥∥₁_prop (λ v. ∣ would-some seen w x y id run by b f v way n ∣₁)))

    pub cycle-open : (id : ℕ) (run : RunId) (by : ℕ)
        → ∥ Shown seen w history origins slots making table end ∥₁
        → ∥ Indexed slots ready_ones waiting_ones ∥₁ → request_of table.begun run ≡ Some by
        → found table.finished run ≡ None →
        TellsDependent origins waiting_ones id by None → ∥ WouldClose w history.events id run ∥₁ → ⊥
    cycle-open id run by shown indexed b f n c = ∥∥₁_elim shown (λ p q. absurd p)
        (λ x. ∥∥₁_elim indexed (λ p q. absurd p)
        (λ y. ∥∥₁_elim c (λ p q. absurd p) (λ c. would-none seen w x y id run by b f n c)))

    pub cycle-told : (id : ℕ) (run : RunId) (by : ℕ) (o : Option Dependent)
        → ∥ Shown seen w history origins slots making table end ∥₁
        → ∥ Indexed slots ready_ones waiting_ones ∥₁ → ∥ IsAssigned w history.events id ∥₁
        → request_of table.begun run ≡ Some by → found table.finished run ≡ None →
        TellsDependent origins waiting_ones id by o → (b : Bool) → b ≡ is_some o
        → Decides b ∥ WouldClose w history.events id run ∥₁
    cycle-told id run by None shown indexed v u f n b e = (
      (λ t. absurd (let a : true ≡ false = sym t ∙ e in cc)),
      λ h.
          absurd (cycle-open id run by shown indexed u f n h),
    )
    cycle-told id run by (Some found) shown indexed v u f n b e =
        ((λ t. cycle-closed id run by found shown indexed v u f n), λ h. e)

    pub circle-closed : (id : ℕ) (walk : W) (run : RunId) (by : ℕ) (way : Dependent)
        (runs : List RunId) → ∥ Shown seen w history origins slots making table end ∥₁
        → ∥ Indexed slots ready_ones waiting_ones ∥₁
        → ∥ IsOwn w history.events table.finished id (seen walk) ∥₁ →
        ask_of (seen walk).position ≡ Want run → request_of table.begun run ≡ Some by
        → found table.finished run ≡ None → TellsDependent origins waiting_ones id by (Some way)
        → IsCycleOver way.dependents.requests.keys way.dependents.needs.items making way.place run
        runs →
        ∥ ClosesCycle w history.events id run runs ∥₁
    circle-closed id walk run by way runs shown indexed o a b f n r = ∥∥₁_elim shown ∥∥₁_prop
        (λ x.
        ∥∥₁_elim indexed ∥∥₁_prop
        (λ y.
        ∥∥₁_elim o ∥∥₁_prop (λ o. ∣ circle-some seen w x y id run by b f walk o a way n runs r ∣₁)))

    pub circle-open : (id : ℕ) (run : RunId) (by : ℕ)
        → ∥ Shown seen w history origins slots making table end ∥₁
        → ∥ Indexed slots ready_ones waiting_ones ∥₁ → request_of table.begun run ≡ Some by
        → found table.finished run ≡ None →
        TellsDependent origins waiting_ones id by None → (runs : List RunId)
        → ∥ ClosesCycle w history.events id run runs ∥₁ → ⊥
    circle-open id run by shown indexed b f n runs c = ∥∥₁_elim shown (λ p q. absurd p)
        (λ x. ∥∥₁_elim indexed (λ p q. absurd p)
        (λ y. ∥∥₁_elim c (λ p q. absurd p) (λ c. circle-none seen w x y id run by b f n runs c)))

    -- all that are found are in a body
    pub way-making : (id : ℕ) (run : RunId) (by : ℕ) (way : Dependent)
        → ∥ Shown seen w history origins slots making table end ∥₁
        → ∥ Indexed slots ready_ones waiting_ones ∥₁ → ∥ IsAssigned w history.events id ∥₁
        → request_of table.begun run ≡ Some by → found table.finished run ≡ None →
        TellsDependent origins waiting_ones id by (Some way) → (request : ℕ)
        → among request way.dependents.requests.keys ≡ true → IsMaking (at making request)
    way-making id run by way shown indexed v b f n request h = ∥∥₁_elim shown
        (making-prop (at making request))
        (λ x. ∥∥₁_elim indexed (making-prop (at making request))
        (λ y. ∥∥₁_elim v (making-prop (at making request)) (λ v.
        let i = in-at request way.dependents.requests.keys
        (among-in request way.dependents.requests.keys h) in
        let m = ways-making seen w x y id run by b f v n.0 way.dependents.requests.keys
        way.dependents.needs.items n.2 n.1 i.0 request i.1 in
        subst IsMaking (sym m.1) tt)))

module _ {W P I A : Type 0} (seen : W → Seen P I A) (w : World P I A) (history after : History)
    {origins : List Origin} {slots : List (Slot W)} {making : List (Option RunId)}
    {table : TableRuns} {end : Option End} (id : ℕ) (walk : W) (run : RunId) (by : ℕ) where
  -- the state in which it waits
  abbrev put_state : (x : Shown seen w history origins slots making table end)
      → Claims seen w history history id walk run x → State P I A
  put_state x c = waiting w x.state id
      (placed c.there.origin (seen walk).position (assigned c.there.node))
      run c.wanted.body c.wanted.go

  no-cycle : (x : Shown seen w history origins slots making table end)
      (c : Claims seen w history history id walk run x) → found x.state.table run ≡ None
      → is_begun run x.state.begun ≡ true → IsClosingCycle w history.events id run None
      → is_in_cycle (put_state x c) run ≡ false
  no-cycle x c f b n = elim (tells (is_in_cycle (put_state x c) run)) [
    | inr t ↦ t
    | inl t ↦
        let q : RequestState P I A = placed c.there.origin (seen walk).position
        (assigned c.there.node) in
        let st : q.status ≡ assigned c.there.node
        (walking (wants c.wanted.site run c.wanted.body c.wanted.go)) = ap
        (assigned c.there.node) c.wanted.is in
        let shows =
        (cycles_are_shown w history.events x.state x.history id c.there.node q c.wanted.site run
        c.wanted.body c.wanted.go c.there.at_state st b f).0 t in
        absurd (n (run ∷ shows.0 ++ run ∷ []) ∣ record {
          state = x.state;
          request = q;
          node = c.there.node;
          site = c.wanted.site;
          body = c.wanted.body;
          go = c.wanted.go;
          between = shows.0;
          history = x.history;
          there = c.there.at_state;
          wants_so = st;
          begun = b;
          unfinished = f;
          runs_so = refl;
          closes = shows.1;
        } ∣₁)
  ]

  waits-step : (x : Shown seen w history origins slots making table end)
      (c : Claims seen w history history id walk run x) → found x.state.table run ≡ None
      → is_begun run x.state.begun ≡ true → IsClosingCycle w history.events id run None
      → step w x.state (Claim id run Wait) ≡ Some (put_state x c)
  waits-step x c f b n = claim-step seen w history history id walk run x c Wait
      ∙ (ap
      (λ t. only_if (may_wait w t (found x.state.table run) (is_in_cycle (put_state x c) run))
      (put_state x c)) b
      ∙ (ap (λ o. only_if (may_wait w true o (is_in_cycle (put_state x c) run)) (put_state x c)) f
      ∙ ap (λ t. only_if (may_wait w true None t) (put_state x c)) (no-cycle x c f b n)))

  pub waited-shown : {outs : List (Slot W)} → IsOwn w history.events table.finished id (seen walk)
      → ask_of (seen walk).position ≡ Want run → found table.finished run ≡ None
      → request_of table.begun run ≡ Some by → IsClosingCycle w history.events id run None →
      after.events ≡ history.events ++ Claim id run Wait ∷ [] → history.room + 2 ≡ after.room + 1
      → outs ≡ put slots id (Waiting walk by) → Shown seen w history origins slots making table end
      → Shown seen w after origins outs making table end
  waited-shown o a f u n ev room out x =
      let c = claims-of seen w history history id walk run x o a in
      let q : RequestState P I A = placed c.there.origin (seen walk).position
      (assigned c.there.node) in
      let z : RequestState P I A = record {
        origin = c.there.origin;
        journal = (seen walk).position.journal;
        runs =
            (seen walk).position.runs;
        status = waits run c.wanted.body c.wanted.go;
      } in
      let f_now : found x.state.table run ≡ None = ap (λ t. found t run) (sym x.finished) ∙ f in
      let u_now : request_of (unfinished x.state.table x.state.begun) run
      ≡ Some by = ap (λ t. request_of t run) (sym x.begun) ∙ u in
      let b : is_begun run x.state.begun ≡ true = beginner-begun x.state.begun run by
      (sym (unfinished-beginner x.state.table x.state.begun run f_now) ∙ u_now) in
      subst (λ (xs : List (Slot W)). Shown seen w after origins xs making table end) (sym out)
      (shown-put seen w (Claim id run Wait) id q z (put_state x c) (Waiting walk by) x
      c.there.at_state (waits-step x c f_now b n) refl refl refl refl refl ev
      (let k : owed q.status ≡ 1 = ap owed (wanting_status seen w history history id walk run x c)
      in omega
      arith)
      (x.bodies
      ∙ sym
      (map-put making_of x.state.requests id q z c.there.at_state
      (sym (ap run_at (wanting_status seen w history history id walk run x c))))) refl x.begun
      (λ n b d e.
      record {
        begun = λ other body go by h g. g;
        told = λ keys ids y go h.
            map-alike _ _ ids (result-put x.state.requests id q z c.there.at_state refl);
      })
      (record {
        run = run;
        site = c.wanted.site;
        body = c.wanted.body;
        go = c.wanted.go;
        is = refl;
        stands = record {
          world = o.world;
          learnt = subst (ArePartOf (seen walk).learnt) x.finished o.learnt;
          position = ap
              (λ place.
              record {
                journal = (seen walk).position.journal;
                runs = (seen walk).position.runs;
                place =
                    place;
              }) c.wanted.is;
          asked = o.asked;
          few = let k : length after.events ≡ suc (length history.events) = one-more history.events
              after.events (Claim id run Wait) ev in let m : (seen walk).asked
              ≤ length history.events = o.few in omega arith;
        };
        begun = u_now;
      }))

-- the lists of those that wait, as one of them gets room or one more number
module _ {X : Type 0} (f : Option Numbered → X) (old new : List Numbered) (by : ℕ)
    (one d : Numbered) (l : by < length old) (s : new ≡ set old by one) where
  pub set-mine : f (at new by) ≡ f (Some one)
  set-mine = ap (λ xs. f (at xs by)) (s ∙ put-set old by one)
      ∙ ap f (at-put_same old by (get_or old by d) one (at-get old by d l))

  pub set-others : (n : ℕ) → (n ≡ by → ⊥) → f (at new n) ≡ f (at old n)
  set-others n e = ap (λ xs. f (at xs n)) (s ∙ put-set old by one)
      ∙ ap f (at-put_else old by one n e)

  pub set-was : f (at old by) ≡ f (Some (get_or old by d))
  set-was = ap f (at-get old by d l)

pub reserved-numbers : (old new : List Numbered) (by : ℕ) (one d : Numbered) → by < length old
    → new ≡ set old by one → one.numbers ≡ (get_or old by d).numbers → HaveNumbers old new
reserved-numbers old new by one d l s n = record {
  lists = ap length (s ∙ put-set old by one) ∙ put-length old by one;
  numbers = λ m. elim (same_or_not m by) [
    | inl p ↦ subst (λ k. numbers_of (at new k) ≡ numbers_of (at old k)) (sym p)
        (set-mine numbers_of old new by one d l s
        ∙ (n ∙ sym (set-was numbers_of old new by one d l s)))
    | inr e ↦ set-others numbers_of old new by one d l s m e
  ];
}

pub listed-number : (old new : List Numbered) (by id : ℕ) (one d : Numbered) → by < length old
    → new ≡ set old by one
    → ((n : ℕ) → among n one.numbers ≡ ((id == n) || among n (get_or old by d).numbers))
    → IsListed old new by id
listed-number old new by id one d l s n = record {
  lists = ap length (s ∙ put-set old by one) ∙ put-length old by one;
  mine = λ m. ap (among m) (set-mine numbers_of old new by one d l s)
      ∙ (n m ∙ ap (λ xs. (id == m) || among m xs) (sym (set-was numbers_of old new by one d l s)));
  others = λ m e. set-others numbers_of old new by one d l s m e;
}

pub room-there : (waiting : List Numbered) (by : ℕ) → 0 < room_of (at waiting by)
    → by < length waiting
room-there [] by h = absurd (omega arith)
room-there (x ∷ waiting) zero h = omega arith
room-there (x ∷ waiting) (suc by) h = let l : by
    < length waiting = room-there waiting by h in omega arith

pub waits-indexed : {W : Type 0} {slots outs : List (Slot W)} {ready_ones : Numbered}
    {waiting mid lists : List Numbered} (id : ℕ) (walk : W) (by node : ℕ)
    → at slots id ≡ Some (Assigned node) → HaveNumbers waiting mid → IsListed mid lists by id
    → outs ≡ put slots id (Waiting walk by) →
    Indexed slots ready_ones waiting → Indexed outs ready_ones lists
waits-indexed {W} {slots} {outs} {ready_ones} {waiting} {mid} {lists} id walk by node e h l out x =
    subst (λ (xs : List (Slot W)). Indexed xs ready_ones lists) (sym out) (record {
      listed = at-cases slots id (Assigned node) (Waiting walk by)
          (λ n o. among n ready_ones.numbers ≡ is_ready o) e (x.listed id ∙ ap is_ready e)
          (λ n d. x.listed n);
      room = let k = unready-put slots id (Assigned node) (Waiting walk by) e in let b : unready
          slots
          ≤ ready_ones.room = x.room in omega arith;
      lists = l.lists ∙ (h.lists ∙ (x.lists ∙ sym (put-length slots id (Waiting walk by))));
      waits = λ other. elim (same_or_not other by) [
        | inl p ↦ subst (λ b. (n : ℕ) → among n (numbers_of (at lists b))
            ≡ waits_for b (at (put slots id (Waiting walk by)) n)) (sym p) mine
        | inr d ↦ others other d
      ];
    })
  where
    before : (b n : ℕ) → among n (numbers_of (at mid b)) ≡ waits_for b (at slots n)
    before b n = ap (among n) (h.numbers b) ∙ x.waits b n

    mine : (n : ℕ) → among n (numbers_of (at lists by))
        ≡ waits_for by (at (put slots id (Waiting walk by)) n)
    mine = at-cases slots id (Assigned node) (Waiting walk by)
        (λ n o. among n (numbers_of (at lists by)) ≡ waits_for by o) e
        (l.mine id
        ∙ (ap (λ b. b || among id (numbers_of (at mid by))) (eq-eqb id id refl)
        ∙ sym (eq-eqb by by refl)))
        (λ n d. l.mine n
        ∙ (ap (λ b. b || among n (numbers_of (at mid by))) (not-equal id n (λ q. d (sym q)))
        ∙ before by n))

    others : (other : ℕ) → (other ≡ by → ⊥) → (n : ℕ)
        → among n (numbers_of (at lists other))
        ≡ waits_for other (at (put slots id (Waiting walk by)) n)
    others other d = at-cases slots id (Assigned node) (Waiting walk by)
        (λ n o. among n (numbers_of (at lists other)) ≡ waits_for other o) e
        (ap (among id) (l.others other d)
        ∙ (before other id
        ∙ (ap (waits_for other) e ∙ sym (not-equal by other (λ q. d (sym q))))))
        (λ n q. ap (among n) (l.others other d) ∙ before other n)
