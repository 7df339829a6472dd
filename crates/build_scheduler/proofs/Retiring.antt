-- A node gives its request back.
use Rattle.std.proofs.Common.{◌≡◌, ◌≤◌, ◌<◌, ◌+◌, ◌==◌, ◌||◌, ℕ, suc, false, List, [], ◌∷◌, ◌++◌}
use Rattle.std.proofs.Common.{length, Option, None, Some, refl, ap, sym, ◌∙◌, subst, arith}
use Rattle.std.proofs.lemmas.Bool.{eq-eqb}
use Rattle.std.proofs.Math.Logic.{∥∥₁_elim}
use Rattle.msb_laws.specs.Asking.{and_then}
use Rattle.result_cache.specs.declared.run.RunId.{RunId}
use Rattle.result_cache.specs.Table.{TableRuns}
use Rattle.build_meaning.specs.declared.event.Event.TheVariants.{Retire}
use Rattle.build_meaning.specs.Lists.{at, put}
use Rattle.build_meaning.specs.World.{World}
use Rattle.build_meaning.specs.State.{ready, assigned, RequestState, State, with_request}
use Rattle.build_meaning.specs.Step.{only_if, step_of, step}
use Rattle.build_meaning.proofs.ListPlaces.{put-length}
use Rattle.build_scheduler.specs.declared.walker.Answer.{Answer}
use Rattle.build_scheduler.specs.declared.slot.Origin.{Origin}
use Rattle.build_scheduler.specs.declared.slot.Slot.{Slot}
use Rattle.build_scheduler.specs.declared.slot.Slot.TheVariants.{Ready, Assigned, Waiting}
use Rattle.build_scheduler.specs.declared.slot.Slot.TheVariants.{Calling, Done}
use Rattle.build_scheduler.specs.declared.slot.End.{End}
use Rattle.build_scheduler.specs.History.{History}
use Rattle.build_scheduler.specs.Learnt.{ArePartOf}
use Rattle.build_scheduler.specs.Numbers.{among, Numbered}
use Rattle.build_scheduler.specs.Own.{Seen, placed, IsOut}
use Rattle.build_scheduler.specs.Position.{answered}
use Rattle.build_scheduler.specs.Ready.{IsAssignedTo}
use Rattle.build_scheduler.specs.Shown.{Shown, Indexed, is_ready, waits_for, unready, numbers_of}
use Rattle.build_scheduler.specs.Slots.{IsWithNode, making_of}
use Rattle.build_scheduler.proofs.OneRequest.{map-put, result-put, shown-put, one-more}
use Rattle.build_scheduler.proofs.OwnWalks.{There, there-of}
use Rattle.build_scheduler.proofs.SlotNumbers.{at-cases, not-equal, unready-put, unready-there}
use Rattle.build_scheduler.proofs.SlotNumbers.{unlisted-prop}
use Rattle.build_scheduler.proofs.SlotsStay.{map-alike}

with_node-prop : {W : Type 0} (o : Option (Slot W)) → IsProp (IsWithNode o)
with_node-prop None = λ a b. absurd a
with_node-prop (Some (Ready walk answer)) = λ a b. absurd a
with_node-prop (Some (Assigned node)) = λ a b. refl
with_node-prop (Some (Waiting walk by)) = λ a b. absurd a
with_node-prop (Some (Calling calls)) = λ a b. absurd a
with_node-prop (Some Done) = λ a b. absurd a

same_node : {W : Type 0} (o : Option (Slot W)) (node by : ℕ) →
    o ≡ Some (Assigned node) → o ≡ Some (Assigned by) → by ≡ node
same_node o node by e f = let p : Some (Assigned node) ≡ Some (Assigned by) = sym e ∙ f in cc

-- a request with a node is in no list of ready requests, which have room for it
pub unlisted-there : {W : Type 0} {slots : List (Slot W)} {numbers : Numbered}
    {waiting : List Numbered} (id node : ℕ) → at slots id ≡ Some (Assigned node) →
    ∥ Indexed slots numbers waiting ∥₁ → (among id numbers.numbers ≡ false) × (0 < numbers.room)
unlisted-there {slots = slots} {numbers = numbers} id node e indexed =
    ∥∥₁_elim indexed (unlisted-prop id numbers) (λ y. (
      y.listed id ∙ ap is_ready e,
      (let a : 0 < unready slots = unready-there id slots id (Assigned node) e refl in
          let b : unready slots ≤ numbers.room = y.room in omega arith),
    ))

module _ {W P I A : Type 0} (seen : W → Seen P I A) (w : World P I A) {history : History}
    {origins : List Origin} {slots : List (Slot W)} {making : List (Option RunId)}
    {table : TableRuns} {end : Option End} (id : ℕ) (walk : W) (answer : Answer) where
  -- the slot of a request whose walk is out
  pub node-there : ∥ Shown seen w history origins slots making table end ∥₁ →
      ∥ IsOut w history.events table.finished id (seen walk) answer ∥₁ → IsWithNode (at slots id)
  node-there shown out =
      ∥∥₁_elim shown (with_node-prop (at slots id)) (λ x.
      ∥∥₁_elim out (with_node-prop (at slots id)) (λ o.
      subst IsWithNode (sym (there-of seen w x id o.next o.stands).at_slots) tt))

  module _ (node : ℕ) (e : at slots id ≡ Some (Assigned node)) where
    -- the request is with the node of its slot
    pub assigned-to : Shown seen w history origins slots making table end →
        IsOut w history.events table.finished id (seen walk) answer
        → IsAssignedTo w history.events id node
    assigned-to x o =
        let h = there-of seen w x id o.next o.stands in
        let same : h.node ≡ node = same_node (at slots id) node h.node e h.at_slots in
        record {
          state = x.state;
          request = placed h.origin o.next (assigned h.node);
          place = o.next.place;
          history = x.history;
          there = h.at_state;
          is = ap (λ (n : ℕ). assigned n o.next.place) same;
        }

    retire-step : (x : Shown seen w history origins slots making table end)
        (o : IsOut w history.events table.finished id (seen walk) answer)
        (h : There slots x.state id o.next) →
        step w x.state (Retire id node)
        ≡ Some (with_request x.state id (placed h.origin o.next ready))
    retire-step x o h =
        let next = with_request x.state id (placed h.origin o.next ready) in
        let same : h.node ≡ node = same_node (at slots id) node h.node e h.at_slots in
        ap (λ r. and_then r (step_of w x.state (Retire id node))) h.at_state
        ∙ ap (λ t. only_if t next) (eq-eqb h.node node same)

    -- it is ready again, with its walk
    pub retired-shown : {after : History} {outs : List (Slot W)} →
        after.events ≡ history.events ++ Retire id node ∷ [] → after.room ≡ history.room + 1 →
        outs ≡ put slots id (Ready walk answer) →
        Shown seen w history origins slots making table end →
        IsOut w history.events table.finished id (seen walk) answer →
        Shown seen w after origins outs making table end
    retired-shown {after} ev room out x o =
        let h = there-of seen w x id o.next o.stands in
        let q : RequestState P I A = placed h.origin o.next (assigned h.node) in
        let z : RequestState P I A = placed h.origin o.next ready in
        let t : State P I A = with_request x.state id z in
        let count : length after.events ≡ suc (length history.events) =
        one-more history.events after.events (Retire id node) ev in
        subst (λ (xs : List (Slot W)). Shown seen w after origins xs making table end) (sym out)
        (shown-put seen w (Retire id node) id q z t (Ready walk answer) x h.at_state
        (retire-step x o h) refl refl refl refl refl ev (omega arith)
        (x.bodies ∙ sym (map-put making_of x.state.requests id q z h.at_state refl)) refl x.begun
        (λ n b d f. record {
          begun = λ run body go by k g. g;
          told = λ keys ids y go k.
              map-alike _ _ ids (result-put x.state.requests id q z h.at_state refl);
        })
        (record {
          position = o.next;
          goes = record {
            world = o.world;
            learnt = subst (ArePartOf (seen walk).learnt) x.finished o.learnt;
            goes = ap (λ records. answered w records (seen walk).position answer)
                (sym x.finished) ∙ o.goes;
            turn = o.turn;
            few = let f : (seen walk).asked < length history.events = o.few in omega arith;
          };
          is = refl;
        }))

-- and it is listed
pub back-indexed : {W : Type 0} (slots : List (Slot W)) {outs : List (Slot W)}
    (numbers next : Numbered) (waiting : List Numbered) (id node : ℕ) (walk : W)
    (answer : Answer) → at slots id ≡ Some (Assigned node) →
    outs ≡ put slots id (Ready walk answer) →
    ((n : ℕ) → among n next.numbers ≡ ((id == n) || among n numbers.numbers)) →
    numbers.room ≡ next.room + 1 → Indexed slots numbers waiting → Indexed outs next waiting
back-indexed {W} slots numbers next waiting id node walk answer e out f r x =
    let had : Slot W = Assigned node in
    let has : Slot W = Ready walk answer in
    subst (λ (xs : List (Slot W)). Indexed xs next waiting) (sym out) (record {
      listed = at-cases slots id had has (λ n o. among n next.numbers ≡ is_ready o) e
          (f id ∙ ap (λ b. b || among id numbers.numbers) (eq-eqb id id refl))
          (λ n d. f n ∙ (ap (λ b. b || among n numbers.numbers)
          (not-equal id n (λ q. d (sym q))) ∙ x.listed n));
      room = let k = unready-put slots id had has e in
          let b : unready slots ≤ numbers.room = x.room in omega arith;
      lists = x.lists ∙ sym (put-length slots id has);
      waits = λ by. at-cases slots id had has
          (λ n o. among n (numbers_of (at waiting by)) ≡ waits_for by o) e
          (x.waits by id ∙ ap (waits_for by) e) (λ n d. x.waits by n);
    })
