-- A ready request goes to a node.
use Rattle.std.proofs.Common.{
  ◌≡◌,
  ◌≤◌,
  ◌<◌,
  ◌+◌,
  ℕ,
  suc,
  true,
  List,
  [],
  ◌∷◌,
  ◌++◌,
  length,
  Option,
  Some,
  refl,
  ap,
  sym,
  ◌∙◌,
  subst,
  arith,
}
use Rattle.std.proofs.Math.Bridge.{le_prop}
use Rattle.std.proofs.Math.Logic.{∥∥₁_elim}
use Rattle.msb_laws.specs.Asking.{and_then}
use Rattle.result_cache.specs.declared.run.RunId.{RunId}
use Rattle.result_cache.specs.Table.{TableRuns}
use Rattle.build_meaning.specs.declared.event.Event.TheVariants.{Assign}
use Rattle.build_meaning.specs.Lists.{at, put}
use Rattle.build_meaning.specs.World.{World}
use Rattle.build_meaning.specs.State.{ready, assigned, RequestState, State, with_request}
use Rattle.build_meaning.specs.Step.{step_of, step}
use Rattle.build_meaning.specs.History.{IsHistory}
use Rattle.build_meaning.proofs.ListPlaces.{at-put_same}
use Rattle.build_meaning.proofs.PairedLists.{Paired-some}
use Rattle.build_scheduler.specs.declared.walker.Answer.{Answer}
use Rattle.build_scheduler.specs.declared.slot.Origin.{Origin}
use Rattle.build_scheduler.specs.declared.slot.Slot.{Slot}
use Rattle.build_scheduler.specs.declared.slot.Slot.TheVariants.{Ready, Assigned}
use Rattle.build_scheduler.specs.declared.slot.End.{End}
use Rattle.build_scheduler.specs.History.{History}
use Rattle.build_scheduler.specs.Numbers.{among, Numbered}
use Rattle.build_scheduler.specs.Own.{Seen, placed, IsOut}
use Rattle.build_scheduler.specs.Learnt.{ArePartOf}
use Rattle.build_scheduler.specs.Position.{answered}
use Rattle.build_scheduler.specs.Ready.{IsReady}
use Rattle.build_scheduler.specs.Shown.{Shown, Indexed, is_ready}
use Rattle.build_scheduler.specs.Slots.{
  making_of,
  run_at,
  result_in,
  owed,
  owed_in,
  owed_by,
  ShowsSlot,
  ShowsReady,
}
use Rattle.build_scheduler.proofs.HistoryFacts.{more, one_state, truth-prop}
use Rattle.build_scheduler.proofs.ReadyRequests.{listed-of}
use Rattle.build_scheduler.proofs.OneRequest.{owed-at, map-put, result-put, shown-put, one-more}
use Rattle.build_scheduler.proofs.SlotsStay.{map-alike}

module _ {W P I A : Type 0} (seen : W → Seen P I A) (w : World P I A) (history after : History)
    {origins : List Origin} {slots : List (Slot W)} {making : List (Option RunId)}
    {table : TableRuns} {end : Option End} (id node : ℕ) (walk : W) (answer : Answer) where
  -- the request of a slot that is ready
  abbrev ReadyThere : Shown seen w history origins slots making table end → Type 0
  ReadyThere x = (q : RequestState P I A)
      × ShowsReady w x.state (length history.events) (seen walk) answer q
      × (at x.state.requests id ≡ Some q)

  ready-there : (x : Shown seen w history origins slots making table end)
      → at slots id ≡ Some (Ready walk answer) → ReadyThere x
  ready-there x e = Paired-some (ShowsSlot w x.state (length history.events) seen) slots
      x.state.requests id (Ready walk answer) x.each e

  assigned-step : (x : Shown seen w history origins slots making table end) (r : ReadyThere x)
      → step w x.state (Assign id node) ≡ Some
      (with_request x.state id (placed r.0.origin r.1.position (assigned node)))
  assigned-step x r = ap (λ o. and_then o (step_of w x.state (Assign id node)))
      (r.2 ∙ ap Some r.1.is)

  pub assigned-shown : {outs : List (Slot W)} → at slots id ≡ Some (Ready walk answer)
      → outs ≡ put slots id (Assigned node) → after.events ≡ history.events ++ Assign id node ∷ []
      → history.room ≡ after.room + 1 → Shown seen w history origins slots making table end →
      Shown seen w after origins outs making table end
  assigned-shown e out ev room x =
      let r = ready-there x e in
      let z : RequestState P I A = placed r.0.origin r.1.position (assigned node) in
      let t : State P I A = with_request x.state id z in
      let st : r.0.status ≡ ready r.1.position.place = ap (λ (q : RequestState P I A). q.status)
      r.1.is in
      subst
      (λ (after_slots : List (Slot W)). Shown seen w after origins after_slots making table end)
      (sym out)
      (shown-put seen w (Assign id node) id r.0 z t (Assigned node) x r.2 (assigned-step x r)
      refl refl refl (ap result_in st) refl ev
      (let k : owed r.0.status ≡ suc (owed_in r.1.position.place) = ap owed st in omega arith)
      (x.bodies ∙ sym (map-put making_of x.state.requests id r.0 z r.2 (sym (ap run_at st)))) refl
      x.begun
      (λ n b d f.
      record {
        begun = λ run body go by h g. g;
        told = λ keys ids y go h.
            map-alike _ _ ids (result-put x.state.requests id r.0 z r.2 (sym (ap result_in st)));
      })
      (record { place = r.1.position.place; is = refl }))

  pub assigned-out : at slots id ≡ Some (Ready walk answer)
      → after.events ≡ history.events ++ Assign id node ∷ []
      → Shown seen w history origins slots making table end →
      IsOut w after.events table.finished id (seen walk) answer
  assigned-out e ev x =
      let r = ready-there x e in
      let z : RequestState P I A = placed r.0.origin r.1.position (assigned node) in
      let t : State P I A = with_request x.state id z in
      let g = r.1.goes in record {
        next = r.1.position;
        stands = record {
          state = t;
          origin = r.0.origin;
          node = node;
          history = subst (λ es. IsHistory w es t) (sym ev)
              (more w history.events (Assign id node) x.state t x.history (assigned-step x r));
          there = at-put_same x.state.requests id r.0 z r.2;
        };
        world = g.world;
        learnt = subst (ArePartOf (seen walk).learnt) (sym x.finished) g.learnt;
        goes = ap (λ records. answered w records (seen walk).position answer) x.finished ∙ g.goes;
        turn = g.turn;
        few = let k : length after.events ≡ suc (length history.events) = one-more history.events
            after.events (Assign id node) ev in let f : (seen walk).asked
            ≤ length history.events = g.few in omega arith;
      }

module _ {W P I A : Type 0} (seen : W → Seen P I A) (w : World P I A) {history : History}
    {origins : List Origin} {slots : List (Slot W)} {making : List (Option RunId)}
    {table : TableRuns} {end : Option End} where
  -- a ready request is listed, and there is room for its event
  pub listed-there : {numbers : Numbered} {waiting : List Numbered} (id : ℕ)
      → ∥ Shown seen w history origins slots making table end ∥₁
      → ∥ Indexed slots numbers waiting ∥₁
      → ∥ IsReady w history.events id ∥₁ →
      (among id numbers.numbers ≡ true) × (is_ready (at slots id) ≡ true)
  listed-there {numbers} id shown indexed r =
      let a : is_ready (at slots id) ≡ true = ∥∥₁_elim shown
      (truth-prop (is_ready (at slots id)) true)
      (λ x. ∥∥₁_elim r (truth-prop (is_ready (at slots id)) true)
      (λ q. listed-of seen w id x q)) in
      (∥∥₁_elim indexed (truth-prop (among id numbers.numbers) true) (λ y. y.listed id ∙ a), a)

  pub room-there : (id : ℕ) → ∥ Shown seen w history origins slots making table end ∥₁
      → ∥ IsReady w history.events id ∥₁ → 0 < history.room
  room-there id shown r = ∥∥₁_elim shown (λ p q. le_prop p q)
      (λ x. ∥∥₁_elim r (λ p q. le_prop p q) (λ q.
      let e : at x.state.requests id ≡ Some q.request = subst
      (λ (s : State P I A). at s.requests id ≡ Some q.request)
      (one_state w history.events q.state x.state q.history x.history) q.there in
      let a = owed-at x.state.requests id q.request e in
      let b : owed q.request.status ≡ suc (owed_in q.place) = ap owed q.is in
      let c : owed_by x.state.requests ≤ history.room = x.room in omega arith))
