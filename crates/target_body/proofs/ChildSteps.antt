-- The steps of the children of a target, in order.
use Rattle.std.proofs.Common.{
  ◌≡◌,
  ◌∙◌,
  ◌∷◌,
  ◌<◌,
  ℕ,
  suc,
  List,
  Result,
  IfOk,
  ap,
  drop,
  drop-cons,
  length,
  subst,
  sym,
}
use Rattle.msb_laws.specs.Results.{map_ok}
use Rattle.msb_elements.specs.Nodes.{name_of}
use Rattle.build_world.specs.Elements.{At, children_of}
use Rattle.result_cache.specs.Journal.{Journal}
use Rattle.task_trait.specs.declared.tools.ToolInput.{ToolInput}
use Rattle.target_incremental.specs.declared.decision.Choice.{Choice}
use Rattle.target_body.specs.Children.{Kind, child, child_by, kind_of}
use Rattle.target_body.specs.Left.{
  IsOfChild,
  child_frames,
  child_left,
  children_frames,
  waiting_task,
}
use Rattle.target_body.specs.Moments.{
  Continues,
  Moment,
  Plays,
  done_at,
  moment,
  reached_by,
  state_at,
}
use Rattle.target_body.specs.Played.{Player, played, reached_then, waits}
use Rattle.target_body.specs.Seen.{child_at, ended, seen_done, seen_state}
use Rattle.target_body.specs.States.{Run, State, Stopped, settled}
use Rattle.target_body.specs.Work.{Work, and_then, done, each_in_turn, followed_by, unless_stopped}
use Rattle.target_body.specs.declared.frames.AtTask.{AtTask}
use Rattle.target_body.specs.declared.state.State.{State as Held}
use Rattle.target_body.specs.declared.steps.Ending.{Ending}
use Rattle.target_body.specs.declared.steps.Ending.TheVariants.{Fine}
use Rattle.target_body.specs.declared.steps.Step.{Step}
use Rattle.target_body.specs.declared.steps.Step.TheVariants.{Over, Waits}
use Rattle.target_body.proofs.Stepping.{in_turn}
use Rattle.target_body.proofs.TaskSteps.{goes_as, over_as}

module _ (p : Player) (run : Run) (choice : Choice) where
  -- a child, and the children that come later
  pub one_child : (place next : ℕ) (m m1 : Moment) (step : Step AtTask) → next ≡ suc place
      → place < length (children_of run.target.element)
      → Plays (child_frames run) p (child run choice (child_at run place)) m step m1
      → played p
      (each_in_turn (child run choice) (drop place (children_of run.target.element))
      (state_at m)) (done_at m)
      ≡ reached_then p (reached_by (child_frames run) step m1)
      (λ end.
      unless_stopped end
      (each_in_turn (child run choice) (drop next (children_of run.target.element))))
  one_child place next m m1 step is within plays =
      let elements : List At = children_of run.target.element in
      in_turn (child_frames run) p (child run choice) (child_at run place) (drop next elements)
      (drop place elements) m m1 step
      (drop-cons elements place run.target.element within
      ∙ ap (λ (n : ℕ). child_at run place ∷ drop n elements) (sym is)) plays

  -- a child waits, and the children that come later are left
  pub child_waits_here : (place : ℕ) (step : Step AtTask) (t : AtTask) (m : Moment) → step ≡ Waits t
      → IsOfChild place step
      → Continues (child_frames run) (children_frames run choice) p
      (λ end.
      unless_stopped end
      (each_in_turn (child run choice) (drop (suc place) (children_of run.target.element))))
      step m (Waits t) m
  child_waits_here place step t m is of_child =
      let of : t.child ≡ place = subst (λ (s : Step AtTask). IsOfChild place s) is of_child in
      ap
      (λ (s : Step AtTask). reached_then p (reached_by (child_frames run) s m)
      (λ end.
      unless_stopped end
      (each_in_turn (child run choice) (drop (suc place) (children_of run.target.element))))) is
      ∙ ap (λ (n : ℕ). waits (waiting_task t)
      (λ results journal. and_then (child_left run t (state_at m) results journal)
      (λ s. each_in_turn (child run choice) (drop (suc n) (children_of run.target.element)) s))
      (done_at m)) (sym of)

  -- behind a child, the children that come later
  pub children_go_on : {E : Type 0} (place next : ℕ) (step : Step AtTask) (m m1 : Moment)
      (r : Result (Step AtTask) E) → step ≡ Over Fine → next ≡ suc place
      → IfOk r
      (λ step_then. Plays (children_frames run choice) p
      (λ s. each_in_turn (child run choice) (drop next (children_of run.target.element)) s) m
      step_then m1)
      → IfOk r
      (λ step_then. Continues (child_frames run) (children_frames run choice) p
      (λ end.
      unless_stopped end
      (each_in_turn (child run choice) (drop (suc place) (children_of run.target.element))))
      step m step_then m1)
  children_go_on place next step m m1 r is same plays =
      let P : ℕ
      → Type 0 = λ n.
      IfOk r
      (λ step_then. Plays (children_frames run choice) p
      (λ s. each_in_turn (child run choice) (drop n (children_of run.target.element)) s) m
      step_then m1) in
      goes_as (child_frames run) (children_frames run choice) p
      (λ end.
      unless_stopped end
      (each_in_turn (child run choice) (drop (suc place) (children_of run.target.element)))) m
      m1 step (Over Fine) r is
      (subst P same plays)

  -- a child that does not wait
  pub child_ends : (kind : Kind) (e : At) (held mid after : Held) (journal : Journal)
      (tools : List (List ℕ × ToolInput)) (ending final : Ending)
      → kind_of (name_of e.node) ≡ kind → child_by kind run choice e (seen_state held journal)
      ≡ done (ended ending (seen_state mid journal)) → mid.segments ≡ held.segments
      → ended final (seen_state after journal)
      ≡ map_ok settled (ended ending (seen_state mid journal)) → after.segments ≡ mid.segments
      → Plays (child_frames run) p (child run choice e) (moment held journal tools) (Over final)
      (moment after journal tools)
  child_ends kind e held mid after journal tools ending final named is kept settled_so kept_then =
      let s : State = seen_state held journal in
      let f : Result State Stopped → Work (Result State Stopped) = λ end.
      done (map_ok settled end) in
      ap
      (λ (k : Kind). played p (followed_by (child_by k run choice e s) f)
      (seen_done held journal tools)) named
      ∙ ap
      (λ (w : Work (Result State Stopped)). played p (followed_by w f)
      (seen_done held journal tools)) is
      ∙ over_as held after journal tools final
      (map_ok settled (ended ending (seen_state mid journal))) settled_so (kept_then ∙ kept)
