-- What the closed board gives: the events continue those of the start, they are legal in its world,
-- and an end is told.
use Rattle.std.proofs.Common.{◌≡◌, List, Option, Some, None, sym, subst}
use Rattle.std.proofs.Math.Logic.{∥∥₁_elim, ∥∥₁_map₂, ∥∥₁_prop}
use mathlib.Core.List.{IsPrefix}
use Rattle.result_cache.specs.declared.run.RunId.{RunId}
use Rattle.result_cache.specs.Table.{TableRuns}
use Rattle.build_meaning.specs.declared.event.Event.{Event}
use Rattle.build_meaning.specs.World.{World}
use Rattle.build_meaning.specs.History.{IsHistory}
use Rattle.build_scheduler.specs.declared.slot.End.{End}
use Rattle.build_scheduler.specs.declared.slot.End.TheVariants.{
  Root,
  Circular,
  TooDeep,
  TooMany,
  NoMemory,
}
use Rattle.build_scheduler.specs.declared.slot.Origin.{Origin}
use Rattle.build_scheduler.specs.declared.slot.Slot.{Slot}
use Rattle.build_scheduler.specs.Ends.{IsEnd, IsRootOver}
use Rattle.build_scheduler.specs.History.{History}
use Rattle.build_scheduler.specs.Own.{Seen}
use Rattle.build_scheduler.specs.Shown.{Shown}
use Rattle.build_scheduler.specs.Drivers.{Continues, IsLegal}
use Rattle.build_nodes.specs.Marked.{marked}
use Rattle.build_nodes.proofs.Marks.{continues-of}

-- the last seat saw the history of the closed board, which continues that of the opening seat
pub built-continues : (before after : List Event) (b a : Option End)
    (first last : List (Option Event)) → first ≡ marked before b → IsPrefix first last
    → marked after a ≡ last → ∥ Continues before after ∥₁
built-continues before after b a first last f p l = ∣ continues-of before after b a
    (subst (λ x. IsPrefix x (marked after a)) f (subst (IsPrefix first) (sym l) p)) ∣₁

pub built-legal : {W P I A : Type 0} (seen : W → Seen P I A) (w v : World P I A) {history : History}
    {origins : List Origin} {slots : List (Slot W)} {making : List (Option RunId)}
    {table : TableRuns} {end : Option End} →
    ∥ Shown seen w history origins slots making table end ∥₁ → ∥ w ≡ v ∥₁
    → ∥ IsLegal v history.events ∥₁
built-legal seen w v {history} legal same = ∥∥₁_map₂ legal same
    (λ x e. (x.state, subst (λ (v : World _ _ _). IsHistory v history.events x.state) e x.history))

pub built-told : {P I A : Type 0} (w v : World P I A) (events : List Event) (end : Option End)
    → ∥ w ≡ v ∥₁ → IsEnd w events end → IsEnd v events end
built-told w v events None e h = λ result r. ∥∥₁_elim e (λ p q. absurd p)
    (λ e. h result (subst (λ (v : World _ _ _). ∥ IsRootOver v events result ∥₁) (sym e) r))
built-told w v events (Some (Root result)) e h = ∥∥₁_elim e ∥∥₁_prop
    (λ e. subst (λ (v : World _ _ _). IsEnd v events (Some (Root result))) e h)
built-told w v events (Some (Circular runs)) e h = ∥∥₁_elim e ∥∥₁_prop
    (λ e. subst (λ (v : World _ _ _). IsEnd v events (Some (Circular runs))) e h)
built-told w v events (Some (TooDeep keys)) e h = ∥∥₁_elim e ∥∥₁_prop
    (λ e. subst (λ (v : World _ _ _). IsEnd v events (Some (TooDeep keys))) e h)
built-told w v events (Some (TooMany instance)) e h = ∥∥₁_elim e ∥∥₁_prop
    (λ e. subst (λ (v : World _ _ _). IsEnd v events (Some (TooMany instance))) e h)
built-told w v events (Some NoMemory) e h = tt
