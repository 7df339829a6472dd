-- The children of a target under what is decided of a bucket.
use Rattle.std.proofs.Common.{
  ◌≡◌,
  ◌∙◌,
  ◌⊎◌,
  inl,
  inr,
  ℕ,
  List,
  Option,
  Result,
  Ok,
  Err,
  IfOk,
  ap,
  drop,
  refl,
  subst,
  sym,
}
use Rattle.msb_values.specs.declared.item.Item.{Item}
use Rattle.build_world.specs.Elements.{children_of}
use Rattle.result_cache.specs.Journal.{Journal}
use Rattle.result_cache.specs.declared.record.Segment.{Segment}
use Rattle.task_trait.specs.declared.tools.ToolInput.{ToolInput}
use Rattle.target_incremental.specs.declared.decision.Choice.{Choice}
use Rattle.target_incremental.specs.declared.decision.Choice.TheVariants.{Run as RunAll, Skip, Part}
use Rattle.target_body.specs.Children.{child, children}
use Rattle.target_body.specs.Left.{children_frames}
use Rattle.target_body.specs.Moments.{Moment, Plays, moment}
use Rattle.target_body.specs.Pieces.{on_old, treated}
use Rattle.target_body.specs.Played.{Player, played}
use Rattle.target_body.specs.Seen.{seen_state}
use Rattle.target_body.specs.States.{Run, State, Stopped}
use Rattle.target_body.specs.Work.{Work, each_in_turn}
use Rattle.target_body.specs.declared.frames.AtTask.{AtTask}
use Rattle.target_body.specs.declared.state.State.{State as Held}
use Rattle.target_body.specs.declared.steps.Step.{Step}
use Rattle.target_body.proofs.Stepping.{all_as}

module _ (run : Run) (p : Player) (choice : Choice) (items : Option (List ℕ × List Item)) where
  abbrev pub all_children : State → Work (Result State Stopped)
  all_children s = each_in_turn (child run choice) (drop 0 (children_of run.target.element)) s

  runs_all : (s : State) → (choice ≡ RunAll) ⊎ (choice ≡ Skip)
      → treated run choice items s ≡ children run choice s
  runs_all s (inl is) = subst (λ (choice : Choice). treated run choice items s
      ≡ children run choice s) (sym is) refl
  runs_all s (inr is) = subst (λ (choice : Choice). treated run choice items s
      ≡ children run choice s) (sym is) refl

  -- all of them, be it that no task is called
  pub all_treated : {E : Type 0} (before after : Moment) (r : Result (Step AtTask) E)
      → (choice ≡ RunAll) ⊎ (choice ≡ Skip)
      → IfOk r (λ step. Plays (children_frames run choice) p all_children before step after)
      → IfOk r
      (λ step. Plays (children_frames run choice) p (treated run choice items) before step
      after)
  all_treated before after r is plays = all_as (children_frames run choice) p all_children
      (treated run choice items) before after r
      (runs_all (seen_state before.held before.journal) is) plays

  runs_part : (old : List Item) (s narrowed : State) → choice ≡ Part old
      → narrowed ≡ on_old items old s → treated run choice items s ≡ children run choice narrowed
  runs_part old s narrowed is so = subst (λ (choice : Choice). treated run choice items s
      ≡ children run choice narrowed) (sym is)
      (ap (λ (s : State). children run (Part old) s) (sym so))

  -- a part of them
  pub all_narrowed : {E : Type 0} (old : List Item) (held narrowed : Held) (journal : Journal)
      (tools : List (List ℕ × ToolInput)) (after : Moment) (r : Result (Step AtTask) E)
      → choice ≡ Part old
      → seen_state narrowed journal ≡ on_old items old (seen_state held journal)
      → narrowed.segments ≡ held.segments
      → IfOk r
      (λ step. Plays (children_frames run choice) p all_children (moment narrowed journal tools)
      step after)
      → IfOk r
      (λ step. Plays (children_frames run choice) p (treated run choice items)
      (moment held journal tools) step after)
  all_narrowed old held narrowed journal tools after (Ok step) is so same plays =
      ap
      (λ (segments : List Segment). played p
      (treated run choice items (seen_state held journal))
      (record { segments = segments; tools = tools; journal = journal })) (sym same)
      ∙ ap
      (λ (w : Work (Result State Stopped)). played p w
      (record { segments = narrowed.segments; tools = tools; journal = journal }))
      (runs_part old (seen_state held journal) (seen_state narrowed journal) is so)
      ∙ plays
  all_narrowed old held narrowed journal tools after (Err error) is so same plays = plays
