-- The journal of a root request that is over is got from its result by the table of the core, and
-- tells what comes of the build.
use Rattle.std.proofs.Common.{
  ◌≡◌,
  Bool,
  List,
  [],
  Option,
  Some,
  IsSome,
  is_some,
  ap,
  sym,
  ◌∙◌,
  subst,
}
use Rattle.std.proofs.Math.Logic.{∥∥₁_elim, ∥∥₁_map₂}
use Rattle.std.specs.Prelude.{IfSome}
use Rattle.result_cache.specs.declared.run.RunId.{RunId}
use Rattle.result_cache.specs.declared.request.RequestResult.{RequestResult}
use Rattle.result_cache.specs.Replay.{replay_all}
use Rattle.result_cache.specs.Table.{TableRuns}
use Rattle.build_meaning.specs.declared.event.Event.{Event}
use Rattle.build_meaning.specs.World.{World}
use Rattle.build_meaning.specs.State.{State}
use Rattle.build_history.proofs.JournalsReplayed.{root_is_replayed}
use Rattle.build_scheduler.specs.declared.slot.Origin.{Origin}
use Rattle.build_scheduler.specs.declared.slot.Slot.{Slot}
use Rattle.build_scheduler.specs.declared.slot.End.{End}
use Rattle.build_scheduler.specs.declared.slot.End.TheVariants.{Root}
use Rattle.build_scheduler.specs.Ends.{IsRootOver, IsEnd}
use Rattle.build_scheduler.specs.History.{History}
use Rattle.build_scheduler.specs.Own.{Seen}
use Rattle.build_scheduler.specs.Shown.{Shown}
use Rattle.build_scheduler.proofs.HistoryFacts.{some-prop, one_state}
use Rattle.build_outcome.specs.declared.outcome.Outcome.{Outcome}
use Rattle.build_outcome.specs.Outcomes.{built, IsOutcomeAt}

over : {P I A : Type 0} (w : World P I A) (events : List Event)
    (result : RequestResult) {end : Option End} → Some (Root result) ≡ end → IsEnd w events end →
    ∥ IsRootOver w events result ∥₁
over w events result e told = subst (λ o. IsEnd w events o) (sym e) told

module _ {W P I A : Type 0} (seen : W → Seen P I A) (w : World P I A) {history : History}
    {origins : List Origin} {slots : List (Slot W)} {making : List (Option RunId)}
    {table : TableRuns} {end : Option End} (result : RequestResult) where
  over-replayed : Shown seen w history origins slots making table end
      → (x : IsRootOver w history.events result)
      → replay_all table.finished result.runs [] ≡ Some x.journal
  over-replayed s x =
      let same : s.state ≡ x.state = one_state w history.events s.state x.state s.history x.history
      in
      ap (λ finished. replay_all finished result.runs [])
      (s.finished ∙ ap (λ (t : State P I A). t.table) same)
      ∙ root_is_replayed w history.events x.state x.history result x.journal x.ends

  pub root-replays : ∥ Shown seen w history origins slots making table end ∥₁
      → Some (Root result) ≡ end
      → IsEnd w history.events end → IsSome (replay_all table.finished result.runs [])
  root-replays legal e told =
      ∥∥₁_elim legal (some-prop (replay_all table.finished result.runs [])) (λ s.
      ∥∥₁_elim (over w history.events result e told)
      (some-prop (replay_all table.finished result.runs []))
      (λ x. ap is_some (over-replayed s x)))

  pub root-outcome : (low : Bool) (outcome : Outcome)
      → ∥ Shown seen w history origins slots making table end ∥₁ → Some (Root result) ≡ end
      → IsEnd w history.events end
      → IfSome (replay_all table.finished result.runs [])
      (λ journal. outcome ≡ built low result journal)
      → ∥ IsOutcomeAt w low history.events end outcome ∥₁
  root-outcome low outcome legal e told h =
      ∥∥₁_map₂ legal (over w history.events result e told)
      (λ s x. subst (λ o. IsOutcomeAt w low history.events o outcome) e (record {
        state = x.state;
        journal = x.journal;
        history = x.history;
        ends = x.ends;
        outcome_is = subst (λ o. IfSome o (λ journal. outcome ≡ built low result journal))
            (over-replayed s x) h;
      }))
