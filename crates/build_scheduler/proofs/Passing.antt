-- A request that is over hands its journal to its caller: the core shows the same state.
use Rattle.std.proofs.Common.{
  ◌≡◌,
  ◌≤◌,
  ◌<◌,
  ◌+◌,
  inl,
  inr,
  ℕ,
  List,
  ◌∷◌,
  length,
  map,
  Option,
  None,
  Some,
  refl,
  ap,
  sym,
  ◌∙◌,
  subst,
}
use mathlib.Core.Sum.{⊎_set}
use Rattle.std.proofs.Math.Bridge.{le_prop}
use Rattle.std.proofs.Math.Logic.{∥∥₁_elim}
use Rattle.std.proofs.Props.{props}
use Rattle.result_cache.specs.declared.run.RunId.{RunId}
use Rattle.result_cache.specs.declared.record.Record.{Record}
use Rattle.result_cache.specs.declared.request.RequestResult.{RequestResult}
use Rattle.result_cache.specs.Journal.{Entry, Journal}
use Rattle.result_cache.specs.Lists.{In}
use Rattle.result_cache.specs.Replay.{replay_all}
use Rattle.result_cache.specs.Table.{Records, TableRuns, found}
use Rattle.build_meaning.specs.declared.event.Event.{Event}
use Rattle.build_meaning.specs.Lists.{at, put, Paired, numbered_from}
use Rattle.build_meaning.specs.World.{World}
use Rattle.build_meaning.specs.State.{Place, calling, RequestState}
use Rattle.build_meaning.proofs.ListPlaces.{at-in, at-put}
use Rattle.build_meaning.proofs.PairedLists.{Paired-some}
use Rattle.build_meaning.proofs.ParentsAndChildren.{same_some}
use Rattle.build_history.specs.Began.{AwaitsCall, IsWalking}
use Rattle.build_history.proofs.CallsReplayed.{calls_are_replayed}
use Rattle.build_scheduler.specs.declared.walker.Ask.TheVariants.{Done as IsOver}
use Rattle.build_scheduler.specs.declared.slot.Origin.{Origin}
use Rattle.build_scheduler.specs.declared.slot.Slot.{Slot}
use Rattle.build_scheduler.specs.declared.slot.Slot.TheVariants.{
  Ready,
  Assigned,
  Waiting,
  Calling,
  Done as Over,
}
use Rattle.build_scheduler.specs.declared.slot.End.{End}
use Rattle.build_scheduler.specs.Behind.{AreBehind}
use Rattle.build_scheduler.specs.Calls.{CanTake, HasParent, IsCalling, IsPassed}
use Rattle.build_scheduler.specs.Learnt.{ArePartOf}
use Rattle.build_scheduler.specs.History.{History}
use Rattle.build_scheduler.specs.Numbers.{Numbered}
use Rattle.build_scheduler.specs.Own.{Seen, Asks, IsOwn}
use Rattle.build_scheduler.specs.Position.{Position}
use Rattle.build_scheduler.specs.Shown.{Shown, Indexed}
use Rattle.build_scheduler.specs.Slots.{AreSoFar, result_at, ShowsCalling, ShowsSlot}
use Rattle.build_scheduler.proofs.CallResults.{at-numbered}
use Rattle.build_scheduler.proofs.Ending.{over-now, over-there, caller-of}
use Rattle.build_scheduler.proofs.HistoryFacts.{in_order-prop}
use Rattle.build_scheduler.proofs.OneRequest.{put-there}
use Rattle.build_scheduler.proofs.OwnWalks.{there-of}
use Rattle.build_scheduler.proofs.SlotNumbers.{same-indexed}
use Rattle.build_scheduler.proofs.SlotsStay.{paired-puts}

shared-prop : (part table : Records) (p q : (run : RunId) (made : Record) →
    found part run ≡ Some made → found table run ≡ Some made) → p ≡ q
shared-prop part table = hlevel props

part-prop : (part table : Records) (p q : ArePartOf part table) → p ≡ q
part-prop part table p q =
    let a : p.in_order ≡ q.in_order = in_order-prop part p.in_order q.in_order in
    let b : p.shared ≡ q.shared =
    shared-prop part table p.shared q.shared in λ i. record { in_order = a i; shared = b i }

entry-set : IsSet Entry
entry-set = hlevel (props, ⊎_set)

-- there is but one way to say what journal is there
pub journal-prop : (o : Option Journal) (j : Journal) → IsProp (o ≡ Some j)
journal-prop o j = hlevel (props, entry-set)

-- the request is over in a core that has the same world and the same events
pub asks-same : {P I A : Type 0} {v w : World P I A} {history after : History} (id : ℕ)
    (told : RequestResult) → w ≡ v → after ≡ history → ∥ Asks v history.events id (IsOver told) ∥₁ →
    ∥ Asks w after.events id (IsOver told) ∥₁
asks-same {v = v} {after = after} id told e f h =
    subst (λ u. ∥ Asks u after.events id (IsOver told) ∥₁) (sym e)
    (subst (λ (l : History). ∥ Asks v l.events id (IsOver told) ∥₁) (sym f) h)

module _ {W P I A : Type 0} (seen : W → Seen P I A) where
  can_take-prop : (table : Records) (walk : Seen P I A) (o : Option (Slot W)) →
      (p q : CanTake seen table walk o) → p ≡ q
  can_take-prop table walk None p q = absurd p
  can_take-prop table walk (Some (Ready other answer)) p q = absurd p
  can_take-prop table walk (Some (Assigned node)) p q = absurd p
  can_take-prop table walk (Some (Waiting other by)) p q = absurd p
  can_take-prop table walk (Some (Calling calls)) p q =
      let a : p.0 ≡ q.0 = part-prop _ table p.0 q.0 in
      let b : p.1 ≡ q.1 = journal-prop _ _ p.1 q.1 in λ i. (a i, b i)
  can_take-prop table walk (Some Over) p q = absurd p

  -- a caller that can take a journal over calls
  pub can_take-calls : (table : Records) (walk : Seen P I A) (o : Option (Slot W)) →
      CanTake seen table walk o → IsCalling o
  can_take-calls table walk None h = h
  can_take-calls table walk (Some (Ready other answer)) h = h
  can_take-calls table walk (Some (Assigned node)) h = h
  can_take-calls table walk (Some (Waiting other by)) h = h
  can_take-calls table walk (Some (Calling calls)) h = tt
  can_take-calls table walk (Some Over) h = h

module _ {W P I A : Type 0} (seen : W → Seen P I A)
    (w : World P I A) {history : History} {origins : List Origin} {slots : List (Slot W)}
    {making : List
    (Option RunId)} {table : TableRuns} {end : Option End} where
  -- the runs of a request that is over, replayed in its caller's journal, give its own
  takes : (id : ℕ) (walk : Seen P I A) (told : RequestResult) (caller : ℕ) →
      HasParent (at origins id) (Some caller) → Shown seen w history origins slots making table end
      →
      IsOwn w history.events table.finished id walk →
      Asks w history.events id (IsOver told) → CanTake seen table.finished walk (at slots caller)
  takes id walk told caller par x own asked =
      let y = over-now seen w id told x (Some caller) asked par in
      let p : Position P I A = y.position in
      let c = caller-of seen w history history id told p x y.gives_so y.there caller y.parent_is in
      let mine = there-of seen w x id walk.position own.stands in
      let same = same_some (at x.state.requests id) _ _ y.there.at_state mine.at_state in
      let runs : p.runs ≡ walk.position.runs = ap (λ (q : RequestState P I A). q.runs) same in
      let journal : p.journal ≡ walk.position.journal =
      ap (λ (q : RequestState P I A). q.journal) same in
      let keys = c.shows.key ∷ c.shows.keys in
      let called : In id (numbered_from c.calls.first keys) =
      subst (λ n. In n (numbered_from c.calls.first keys)) (sym c.id_is)
      (at-in (numbered_from c.calls.first keys) c.place (c.calls.first + c.place)
      (at-numbered c.calls.first keys c.place c.below)) in
      let replays = calls_are_replayed w history.events x.state x.history caller id c.request _
      c.at_state (subst (AwaitsCall id) (sym c.shows.is) called) y.there.at_state
      (subst (λ (place : Place P I A). IsWalking place) (sym y.gives_so.is) tt) in
      subst (CanTake seen table.finished walk) (sym c.at_slots) (
        subst (ArePartOf (seen c.calls.walk).learnt) (sym x.finished) c.shows.stands.learnt,
        ap (λ t. replay_all t walk.position.runs (seen c.calls.walk).position.journal) x.finished
            ∙ (ap (λ (q : Position P I A). replay_all x.state.table walk.position.runs q.journal)
            c.shows.stands.position
            ∙ (ap (λ rs. replay_all x.state.table rs c.request.journal) (sym runs)
            ∙ (replays ∙ ap Some journal))),
      )

  pub can-take : (id : ℕ) (walk : Seen P I A) (caller : ℕ) → HasParent (at origins id)
      (Some caller) → ∥ Shown seen w history origins slots making table end ∥₁ →
      ∥ IsOwn w history.events table.finished id walk ∥₁ →
      ∥ ((told : RequestResult) × Asks w history.events id (IsOver told)) ∥₁ →
      CanTake seen table.finished walk (at slots caller)
  can-take id walk caller par shown own over =
      let prop = can_take-prop seen table.finished walk (at slots caller) in
      ∥∥₁_elim shown prop (λ x. ∥∥₁_elim own prop (λ o. ∥∥₁_elim over prop
      (λ a. takes id walk a.0 caller par x o a.1)))

  pub caller-there : (id : ℕ) → ∥ Shown seen w history origins slots making table end ∥₁ →
      ∥ ((told : RequestResult) × Asks w history.events id (IsOver told)) ∥₁ → id < length origins
  caller-there id shown over =
      ∥∥₁_elim over (λ p q. le_prop p q) (λ a. over-there seen w id a.0 shown ∣ a.1 ∣₁)

  module _ {outs : List (Slot W)} (caller : ℕ) (r : IsPassed seen table.finished slots outs caller)
    where
      -- the caller stands as before
      still-calls : (x : Shown seen w history origins slots making table end)
          (q : RequestState P I A) →
          ShowsCalling w x.state (length history.events)
          (seen r.before.walk) r.before.first r.before.«open» r.before.results.items q →
          ShowsCalling w x.state (length history.events) (seen r.now.walk) r.now.first r.now.«open»
          r.now.results.items q
      still-calls x q s =
          let t = r.taken in
          let keys = s.key ∷ s.keys in
          let told : ℕ → List (Option RequestResult) =
          λ first. map (result_at x.state.requests) (numbered_from first keys) in
          record {
            key = s.key;
            keys = s.keys;
            inside = s.inside;
            go = s.go;
            is =
                s.is ∙ ap (λ first. calling keys (numbered_from first keys) s.inside s.go)
                (sym t.first);
            stands = record {
              world = t.world ∙ s.stands.world;
              learnt = subst (ArePartOf (seen r.now.walk).learnt) x.finished t.learnt;
              position = t.position ∙ s.stands.position;
              asked = subst (λ n. 0 < n) (sym t.asked) s.stands.asked;
              few = subst (λ n. n ≤ length history.events) (sym t.asked) s.stands.few;
            };
            so_far =
                subst (λ first. AreSoFar (told first) r.now.results.items r.now.«open»)
                (sym t.first)
                (subst (λ results. AreSoFar (told r.before.first) results r.now.«open»)
                (sym t.results) (subst (AreSoFar (told r.before.first) r.before.results.items)
                (sym t.open_calls) s.so_far));
          }

      pub passed-shown : Shown seen w history origins slots making table end →
          Shown seen w history origins outs making table end
      passed-shown x =
          let S = ShowsSlot w x.state (length history.events) seen in
          let y = Paired-some S slots x.state.requests caller (Calling r.before) x.each r.was in
          record {
            state = x.state;
            history = x.history;
            asked = x.asked;
            rooted = x.rooted;
            each = subst (λ (xs : List (Slot W)). Paired S xs x.state.requests) (sym r.is)
                (subst (Paired S (put slots caller (Calling r.now)))
                (put-there x.state.requests caller y.0 y.2)
                (paired-puts S S slots x.state.requests caller (Calling r.now) y.0
                (λ n a b d e s. s)
                (still-calls x y.0 y.1) x.each));
            bodies = x.bodies;
            finished = x.finished;
            begun = x.begun;
            room = x.room;
            ends = x.ends;
          }

-- what is listed, and how far walks are behind, does not change
module _ {W P I A : Type 0} (seen : W → Seen P I A) (table : Records) {slots outs : List (Slot W)}
    (caller : ℕ) (r : IsPassed seen table slots outs caller) where
  pub passed-indexed : {ready : Numbered} {waiting : List Numbered} → Indexed slots ready waiting →
      Indexed outs ready waiting
  passed-indexed {ready} {waiting} y =
      subst (λ (xs : List (Slot W)). Indexed xs ready waiting) (sym r.is)
      (same-indexed slots ready waiting caller (Calling r.before) (Calling r.now) r.was refl
      (λ by. refl) y)

  pub passed-behind : (w : World P I A) (events : List Event) → AreBehind seen w events slots →
      AreBehind seen w events outs
  passed-behind w events b id walk answer out =
      elim (at-put slots caller (Calling r.now) id (Ready walk answer)
      (sym (ap (λ (xs : List (Slot W)). at xs id) r.is) ∙ out)) [
        | inl here ↦ absurd (let e : Calling r.now ≡ Ready walk answer = here.1 in cc)
        | inr else ↦ b id walk answer else.1
      ]
