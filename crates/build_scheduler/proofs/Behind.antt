-- The walk of a ready request has used what the history has of its body.
use Rattle.std.proofs.Common.{
  ◌≡◌,
  inl,
  inr,
  ◌-◌,
  ◌==◌,
  ℕ,
  zero,
  suc,
  Bool,
  true,
  false,
  List,
  [],
  ◌∷◌,
  ◌++◌,
  length,
  map,
  Option,
  None,
  Some,
  ap,
  sym,
  ◌∙◌,
  subst,
}
use Rattle.std.proofs.Math.Logic.{∥∥₁_map, ∥∥₁_elim, ∥∥₁_prop}
use Rattle.result_cache.specs.declared.run.RunId.{RunId}
use Rattle.result_cache.specs.declared.request.RequestKey.{RequestKey}
use Rattle.result_cache.specs.declared.request.RequestResult.{RequestResult}
use Rattle.result_cache.specs.Journal.{Journal}
use Rattle.result_cache.specs.Table.{TableRuns}
use Rattle.result_cache.proofs.RunTests.{and_then-some}
use Rattle.build_meaning.specs.declared.event.Event.{Event}
use Rattle.build_meaning.specs.Lists.{at, put, numbered_from}
use Rattle.build_meaning.specs.World.{World}
use Rattle.build_meaning.specs.Walk.{Body}
use Rattle.build_meaning.specs.State.{
  Within,
  assigned,
  waits,
  calling,
  done,
  RequestState,
  ToolsUsed,
  State,
  start,
  new_request,
}
use Rattle.build_meaning.specs.Step.{whose, step, after_all}
use Rattle.build_meaning.specs.History.{IsHistory, retires}
use Rattle.build_meaning.proofs.ListPlaces.{at-put, at-put_else, at-front, at-map}
use Rattle.build_meaning.proofs.ParentsAndChildren.{same_some, none_some, same_or_not}
use Rattle.build_meaning.proofs.EventsKeepLawful.{some-is, step-lawful}
use Rattle.build_meaning.proofs.RetiredRequests.{none-before, none-now}
use Rattle.build_history.specs.Uses.{body_at, uses_of, uses_in}
use Rattle.build_history.proofs.BodiesMove.{IsReady, Other, step-moved}
use Rattle.build_history.proofs.UsesTold.{added, kept-other, event-uses, history-told}
use Rattle.build_scheduler.specs.declared.walker.Answer.{Answer}
use Rattle.build_scheduler.specs.declared.walker.Answer.TheVariants.{First}
use Rattle.build_scheduler.specs.declared.slot.Origin.{Origin}
use Rattle.build_scheduler.specs.declared.slot.Calls.{Calls}
use Rattle.build_scheduler.specs.declared.slot.Slot.{Slot}
use Rattle.build_scheduler.specs.declared.slot.Slot.TheVariants.{
  Ready,
  Assigned,
  Waiting,
  Calling,
  Done,
}
use Rattle.build_scheduler.specs.declared.slot.End.{End}
use Rattle.build_scheduler.specs.declared.request.Children.{Children}
use Rattle.build_scheduler.specs.Behind.{AreBehind, walk_in, AreKept}
use Rattle.build_scheduler.specs.Calls.{IsTold, IsResumed}
use Rattle.build_scheduler.specs.Entered.{AreEntered}
use Rattle.build_scheduler.specs.History.{History}
use Rattle.build_scheduler.specs.Numbers.{Numbered}
use Rattle.build_scheduler.specs.Own.{Seen}
use Rattle.build_scheduler.specs.Position.{tools_in}
use Rattle.build_scheduler.specs.Shown.{Shown, woken_if, woken_by}
use Rattle.build_scheduler.specs.Slots.{ShowsSlot}
use Rattle.build_scheduler.proofs.HistoryFacts.{one_state, lawful}
use Rattle.build_scheduler.proofs.SlotsStay.{paired-other}

module _ {W : Type 0} where
  pub kept-put : (slots : List (Slot W)) {outs : List (Slot W)} {id : ℕ} (slot : Slot W)
      → outs ≡ put slots id slot → AreKept slots outs id
  kept-put slots {outs} {id} slot e n walk answer there d out was =
      let a : at slots n ≡ Some (Ready walk answer) = sym (at-put_else slots id slot n d)
      ∙ (sym (ap (λ xs. at xs n) e) ∙ out) in
      ap walk_in (same_some (at slots n) there (Ready walk answer) was a)

  pub kept-same : {slots outs : List (Slot W)} {id : ℕ} → outs ≡ slots → AreKept slots outs id
  kept-same {slots} e n walk answer there d out was = ap walk_in
      (same_some (at slots n) there (Ready walk answer) was (sym (ap (λ xs. at xs n) e) ∙ out))

  pub kept-entered : {slots outs : List (Slot W)} {id : ℕ} {walk : W} {children : Children W}
      → AreEntered slots outs id walk children → AreKept slots outs id
  kept-entered {slots} {outs} {id} {children = children} v n walk answer there d out was =
      let front : at (put slots id (Calling v.calls)) n
      ≡ Some there = at-put_else slots id (Calling v.calls) n d ∙ was in
      let a : at outs n ≡ Some there = ap (λ xs. at xs n) v.entered
      ∙ at-front (put slots id (Calling v.calls)) children.slots.items n there front in
      ap walk_in (same_some (at outs n) there (Ready walk answer) a out)

  woken-walk : (id : ℕ) (slot : Slot W) (walk : W) (answer : Answer)
      → woken_by id slot ≡ Ready walk answer → walk_in slot ≡ Some walk
  woken-walk id (Ready a b) walk answer e = ap walk_in e
  woken-walk id (Assigned node) walk answer e = absurd (cc)
  woken-walk id (Waiting a by) walk answer e = go (by == id) e
    where
      go : (b : Bool) → woken_if b a by ≡ Ready walk answer → Some a ≡ Some walk
      go true h = ap walk_in h
      go false h = absurd (cc)
  woken-walk id (Calling a) walk answer e = absurd (cc)
  woken-walk id Done walk answer e = absurd (cc)

  pub kept-woken : (slots : List (Slot W)) {outs : List (Slot W)} {id : ℕ}
      → outs ≡ map (woken_by id) slots → AreKept slots outs id
  kept-woken slots {outs} {id} e n walk answer there d out was =
      let y = at-map (woken_by id) slots n (Ready walk answer) (sym (ap (λ xs. at xs n) e) ∙ out) in
      let same : y.0 ≡ there = same_some (at slots n) y.0 there y.1 was in
      ap walk_in (sym same) ∙ woken-walk id y.0 walk answer y.2

  told-walk : (calls : Calls W) (place : ℕ) (told : RequestResult) (slot : Slot W)
      → IsTold calls place told slot → (walk : W) (answer : Answer) → slot ≡ Ready walk answer
      → Some calls.walk ≡ Some walk
  told-walk calls place told (Ready a b) v walk answer e = ap Some (sym v.0) ∙ ap walk_in e
  told-walk calls place told (Assigned node) v walk answer e = absurd v
  told-walk calls place told (Waiting a by) v walk answer e = absurd v
  told-walk calls place told (Calling a) v walk answer e = absurd (cc)
  told-walk calls place told Done v walk answer e = absurd v

  -- a request is over, and its caller is told
  pub kept-resumed : (slots : List (Slot W)) {mid outs : List (Slot W)} {ready_ones next : Numbered}
      {caller id : ℕ} {told : RequestResult} → mid ≡ put slots id Done
      → IsResumed mid outs ready_ones next caller id told → AreKept slots outs id
  kept-resumed slots {mid} {outs} {caller = caller} {id = id} {told = told} e v n walk answer there
      d out was =
      let there_mid : at mid n ≡ Some there = ap (λ xs. at xs n) e
      ∙ (at-put_else slots id Done n d ∙ was) in
      elim (at-put mid caller v.slot n (Ready walk answer) (sym (ap (λ xs. at xs n) v.is) ∙ out)) [
        | inl here ↦
            let was_calling : there ≡ Calling v.calls = same_some (at mid n) there (Calling v.calls)
            there_mid (ap (at mid) here.0 ∙ v.was) in
            ap walk_in was_calling ∙ told-walk v.calls (id - v.calls.first) told v.slot v.tells walk
            answer here.1
        | inr else ↦ ap walk_in (same_some (at mid n) there (Ready walk answer) there_mid else.1)
      ]

module _ {W P I A : Type 0} (seen : W → Seen P I A) (w : World P I A) where
  -- what a slot holds of a request, by where the request stands
  slot-ready : (s : State P I A) (count : ℕ) (walk : W) (answer : Answer) (q : RequestState P I A)
      → ShowsSlot w s count seen (Ready walk answer) q → IsReady q.status
  slot-ready s count walk answer q v = subst (λ (z : RequestState P I A). IsReady z.status)
      (sym v.is) tt

  ready-slot : (s : State P I A) (count : ℕ) (slot : Slot W) (q : RequestState P I A)
      → ShowsSlot w s count seen slot q → IsReady q.status → (walk : W) → walk_in slot ≡ Some walk
      → (answer : Answer) × (slot ≡ Ready walk answer)
  ready-slot s count (Ready a b) q v r walk e = (b, ap (λ x. Ready x b) (some-is a walk e))
  ready-slot s count (Assigned node) q v r walk e = absurd (subst IsReady v.is r)
  ready-slot s count (Waiting a by) q v r walk e = absurd (subst IsReady v.is r)
  ready-slot s count (Calling a) q v r walk e = absurd (subst IsReady v.is r)
  ready-slot s count Done q v r walk e = absurd (subst IsReady v.is r)

  same_inside : (keys others : List RequestKey) (ids more : List ℕ) (x y : Within P I A)
      (go then : List RequestResult → Journal → Body I A)
      → calling keys ids x go ≡ calling others more y then → x ≡ y
  same_inside keys others ids more x y go then e = cc

  -- the walk of a caller stands in the body that calls
  calling-slot : (s : State P I A) (count : ℕ) (slot : Slot W) (q : RequestState P I A)
      (keys : List RequestKey) (ids : List ℕ) (x : Within P I A)
      (go : List RequestResult → Journal → Body I A) → ShowsSlot w s count seen slot q
      → q.status ≡ calling keys ids x go →
      (walk : W) → walk_in slot ≡ Some walk → tools_in (seen walk).position.place ≡ x.so_far.tools
  calling-slot s count (Ready a b) q keys ids x go v e walk f = absurd
      (subst IsReady e (slot-ready s count a b q v))
  calling-slot s count (Assigned node) q keys ids x go v e walk f = absurd
      (let p : assigned node v.place ≡ calling keys ids x go = sym v.is ∙ e in cc)
  calling-slot s count (Waiting a by) q keys ids x go v e walk f = absurd
      (let p : waits v.run v.body v.go ≡ calling keys ids x go = sym v.is ∙ e in cc)
  calling-slot s count (Calling a) q keys ids x go v e walk f =
      let same : v.inside ≡ x = same_inside (v.key ∷ v.keys) keys
      (numbered_from a.first (v.key ∷ v.keys)) ids v.inside x v.go go (sym v.is ∙ e) in
      ap (λ z. tools_in (seen z).position.place) (sym (some-is a.walk walk f))
      ∙ (ap (λ p. tools_in p.place) v.stands.position
      ∙ ap (λ (z : Within P I A). z.so_far.tools) same)
  calling-slot s count Done q keys ids x go v e walk f = absurd
      (let p : done v.result ≡ calling keys ids x go = sym v.is ∙ e in cc)

  -- the last event of a history is a step from the state before it
  last-step : (events : List Event) (event : Event) (u s t : State P I A)
      → after_all w u events ≡ Some s → after_all w u (events ++ event ∷ []) ≡ Some t
      → step w s event ≡ Some t
  last-step [] event u s t h g =
      let y = and_then-some (step w u event) (λ next. after_all w next []) t g in
      subst (λ (x : State P I A). step w x event ≡ Some t) (some-is u s h) (y.1 ∙ y.2)
  last-step (first ∷ events) event u s t h g =
      let y = and_then-some (step w u first) (λ next. after_all w next events) s h in
      let z = and_then-some (step w u first) (λ next. after_all w next (events ++ event ∷ [])) t g
      in
      let same : z.0 ≡ y.0 = some-is z.0 y.0 (sym z.1 ∙ y.1) in
      last-step events event y.0 s t y.2
      (subst (λ (x : State P I A). after_all w x (events ++ event ∷ []) ≡ Some t) same z.2)

  module _ {history after : History} {origins asked : List Origin} {slots outs : List (Slot W)}
      {making bodies : List (Option RunId)} {table runs : TableRuns} {end told_end : Option End}
      (event : Event)
      (x : Shown seen w history origins slots making table end)
      (y : Shown seen w after asked outs bodies runs told_end)
      (e : after.events ≡ history.events ++ event ∷ []) where
    is_step : step w x.state event ≡ Some y.state
    is_step = last-step history.events event (start w) x.state y.state x.history
        (subst (λ es. IsHistory w es y.state) e y.history)

    after-event : (kept : AreKept slots outs (whose event)) → AreBehind seen w history.events slots
        → AreBehind seen w after.events outs
    after-event kept behind id walk answer out s q b none h at_q in_b =
        let unretired : retires (history.events ++ event ∷ []) ≡ 0 = ap retires (sym e) ∙ none in
        let same_state : s ≡ y.state = one_state w after.events s y.state h y.history in
        let here : at y.state.requests id ≡ Some q = subst
        (λ (z : State P I A). at z.requests id ≡ Some q) same_state at_q in
        let v = paired-other (ShowsSlot w y.state (length after.events) seen) outs y.state.requests
        id q y.each here in
        let r : IsReady q.status = slot-ready y.state (length after.events) walk answer q
        (subst (λ (z : Slot W). ShowsSlot w y.state (length after.events) seen z q)
        (same_some (at outs id) v.0 (Ready walk answer) v.2 out) v.1) in
        let m = step-moved w x.state y.state event is_step in
        let ls = lawful w history.events x.state x.history in
        let lt = step-lawful w x.state event y.state ls is_step in
        let told = history-told w history.events x.state x.history in
        let grown : uses_in w after.events ≡ added (uses_in w history.events) m.mine = ap
        (uses_in w) e
        ∙ event-uses w history.events event x.state y.state x.history is_step in
        elim (same_or_not id (whose event)) [
          | inl d ↦ absurd
              (none-now history.events event unretired
              (m.unready
              (subst (λ (z : RequestState P I A). IsReady z.status)
              (same_some (at y.state.requests id) q m.mine here
              (ap (at y.state.requests) d ∙ m.there)) r)))
          | inr d ↦
              by_other id walk answer q b (none-before history.events (event ∷ []) unretired)
              (kept id walk answer) d out here in_b r behind (m.others id q d here)
              ∙ sym (ap (uses_of b.run) grown
              ∙ kept-other x.state y.state event (uses_in w history.events) ls lt m told id q b d
              here in_b)
        ]
      where
        by_other : (id : ℕ) (walk : W) (answer : Answer) (q : RequestState P I A) (b : ToolsUsed I)
            → retires history.events ≡ 0
            → ((slot : Slot W) → (id ≡ whose event → ⊥) → at outs id ≡ Some (Ready walk answer)
            → at slots id ≡ Some slot → walk_in slot ≡ Some walk) →
            (id ≡ whose event → ⊥) → at outs id ≡ Some (Ready walk answer)
            → at y.state.requests id ≡ Some q → body_at q.status ≡ Some b → IsReady q.status
            → AreBehind seen w history.events slots → Other x.state id q →
            tools_in (seen walk).position.place ≡ uses_of b.run (uses_in w history.events)
        by_other id walk answer q b none k d out here in_b r behind (inl same) =
            let v = paired-other (ShowsSlot w x.state (length history.events) seen) slots
            x.state.requests id q x.each same in
            let z = ready-slot x.state (length history.events) v.0 q v.1 r walk (k v.0 d out v.2) in
            behind id walk z.0 (v.2 ∙ ap Some z.1) x.state q b none x.history same in_b
        by_other id walk answer q b none k d out here in_b r behind (inr (inl in_none)) = none_some
            (body_at q.status) b in_b in_none
        by_other id walk answer q b none k d out here in_b r behind (inr (inr z)) =
            let v = paired-other (ShowsSlot w x.state (length history.events) seen) slots
            x.state.requests id z.caller x.each z.was in
            let before : ToolsUsed I = record { run = z.before.run; tools = z.before.so_far.tools }
            in
            let was : uses_of z.before.run (uses_in w history.events) ≡ z.before.so_far.tools =
            (history-told w history.events x.state x.history).caught id z.caller before z.was
            (ap body_at z.calls_so) (λ a. subst IsReady z.calls_so a) in
            let run_is : z.before.run ≡ b.run = sym z.same_run
            ∙ ap (λ (u : ToolsUsed I). u.run)
            (some-is (record { run = z.now.run; tools = z.now.so_far.tools }) b
            (sym (ap body_at z.is) ∙ in_b)) in
            calling-slot x.state (length history.events) v.0 z.caller z.keys z.ids z.before z.go v.1
            z.calls_so walk (k v.0 d out v.2)
            ∙ (sym was ∙ ap (λ run. uses_of run (uses_in w history.events)) run_is)

  -- an event keeps it
  pub behind-event : {history after : History} {origins asked : List Origin}
      {slots outs : List (Slot W)}
      {making bodies : List (Option RunId)} {table runs : TableRuns} {end told_end : Option End}
      (event : Event) →
      ∥ Shown seen w history origins slots making table end ∥₁
      → ∥ Shown seen w after asked outs bodies runs told_end ∥₁
      → after.events ≡ history.events ++ event ∷ [] → AreKept slots outs (whose event) →
      ∥ AreBehind seen w history.events slots ∥₁ → ∥ AreBehind seen w after.events outs ∥₁
  behind-event event old new e kept behind = ∥∥₁_elim old ∥∥₁_prop
      (λ x. ∥∥₁_elim new ∥∥₁_prop (λ y. ∥∥₁_map behind (λ b. after-event event x y e kept b)))

  -- and it stays where there is none
  pub behind-same : {events after : List Event} {slots outs : List (Slot W)} → after ≡ events
      → outs ≡ slots → ∥ AreBehind seen w events slots ∥₁ → ∥ AreBehind seen w after outs ∥₁
  behind-same {events} {outs = outs} e f b = subst (λ es. ∥ AreBehind seen w es outs ∥₁) (sym e)
      (subst (λ ss. ∥ AreBehind seen w events ss ∥₁) (sym f) b)

  -- the root is in no body at its beginning
  pub behind-start : {events : List Event} {slots : List (Slot W)} (walk : W) → events ≡ []
      → slots ≡ Ready walk First ∷ [] → AreBehind seen w events slots
  behind-start {events} {slots} walk e f zero ready_one answer out s q b unretired h at_q in_b =
      let first : s ≡ start w = some-is s (start w) (sym (subst (λ es. IsHistory w es s) e h)) in
      let here : at (start w).requests 0 ≡ Some q = subst
      (λ (z : State P I A). at z.requests 0 ≡ Some q) first at_q in
      let none : body_at q.status ≡ None = ap (λ (z : RequestState P I A). body_at z.status)
      (sym (some-is (new_request w None [] [] w.root) q here)) in
      none_some (body_at q.status) b in_b none
  behind-start {events} {slots} walk e f (suc id) ready_one answer out s q b unretired h at_q in_b =
      absurd (let p : None ≡ Some (Ready ready_one answer) = sym (ap (λ xs. at xs (suc id)) f)
      ∙ out in cc)
