-- How a build ends, as its core tells it.
use Rattle.std.proofs.Common.{◌≡◌, List, Option, None, Some, refl, sym, subst}
use Rattle.std.proofs.Math.Logic.{∥∥₁_elim, ∥∥₁_map, ∥∥₁_prop}
use Rattle.result_cache.specs.declared.run.RunId.{RunId}
use Rattle.result_cache.specs.Table.{TableRuns}
use Rattle.build_meaning.specs.declared.event.Event.{Event}
use Rattle.build_meaning.specs.Lists.{at}
use Rattle.build_meaning.specs.World.{World}
use Rattle.build_meaning.specs.State.{State}
use Rattle.build_meaning.specs.Progress.{IsOver}
use Rattle.build_scheduler.specs.declared.slot.Origin.{Origin}
use Rattle.build_scheduler.specs.declared.slot.Slot.{Slot}
use Rattle.build_scheduler.specs.declared.slot.End.{End}
use Rattle.build_scheduler.specs.declared.slot.End.TheVariants.{
  Root,
  Circular,
  TooDeep,
  TooMany,
  NoMemory,
}
use Rattle.build_scheduler.specs.Ends.{IsStop, IsEnd, ShowsStop}
use Rattle.build_scheduler.specs.History.{History}
use Rattle.build_scheduler.specs.Own.{Seen}
use Rattle.build_scheduler.specs.Shown.{Shown, ShowsEnd}
use Rattle.build_scheduler.proofs.HistoryFacts.{one_state}

module _ {P I A : Type 0} (w : World P I A) (events : List Event) where
  pub none-stops : {end : Option End} → end ≡ None → ShowsStop w events end
  none-stops e = subst (ShowsStop w events) (sym e) tt

  pub shows-stop : (end : End) → IsStop w events end → ShowsStop w events (Some end)
  shows-stop (Root result) h = absurd h
  shows-stop (Circular runs) h = h
  shows-stop (TooDeep keys) h = h
  shows-stop (TooMany instance) h = h
  shows-stop NoMemory h = tt

  stop-ends : (s : State P I A) (end : End) → IsStop w events end → ShowsEnd s (Some end)
  stop-ends s (Root result) h = absurd h
  stop-ends s (Circular runs) h = tt
  stop-ends s (TooDeep keys) h = tt
  stop-ends s (TooMany instance) h = tt
  stop-ends s NoMemory h = tt

module _ {W P I A : Type 0} (seen : W → Seen P I A) (w : World P I A) {history : History}
    {origins : List Origin} {slots : List (Slot W)} {making : List (Option RunId)}
    {table : TableRuns} where
  -- the core shows the same state after it is stopped
  pub stopped-shown : {end : Option End} (told : End) → IsStop w history.events told
      → Shown seen w history origins slots making table end
      → Shown seen w history origins slots making table (Some told)
  stopped-shown told h x = record {
    state = x.state;
    history = x.history;
    asked = x.asked;
    rooted = x.rooted;
    each = x.each;
    bodies = x.bodies;
    finished = x.finished;
    begun = x.begun;
    room = x.room;
    ends = stop-ends w history.events x.state told h;
  }

  -- what is told of the end
  pub end-told : (end : Option End) → ∥ Shown seen w history origins slots making table end ∥₁
      → ∥ ShowsStop w history.events end ∥₁ → IsEnd w history.events end
  end-told None shown h = λ result r. ∥∥₁_elim shown (λ p q. absurd p)
      (λ x. ∥∥₁_elim r (λ p q. absurd p) (λ r.
      let one = one_state w history.events r.state x.state r.history x.history in
      x.ends r.ends.root
      (subst (λ (s : State P I A). at s.requests 0 ≡ Some r.ends.root) one r.ends.there)
      (subst IsOver (sym r.ends.over) tt)))
  end-told (Some (Root result)) shown h = ∥∥₁_map shown (λ x. record {
    state = x.state;
    journal = x.ends.0.journal;
    history = x.history;
    ends = record { root = x.ends.0; there = x.ends.1; over = x.ends.2; knows = refl };
  })
  end-told (Some (Circular runs)) shown h = ∥∥₁_elim h ∥∥₁_prop (λ s. s)
  end-told (Some (TooDeep keys)) shown h = ∥∥₁_elim h ∥∥₁_prop (λ s. s)
  end-told (Some (TooMany instance)) shown h = ∥∥₁_elim h ∥∥₁_prop (λ s. s)
  end-told (Some NoMemory) shown h = tt
