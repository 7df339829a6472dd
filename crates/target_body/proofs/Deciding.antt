-- A bucket of a target by its parts: what is decided of it, its children, and what it returns.
use Rattle.std.proofs.Common.{
  ◌≡◌,
  ◌∙◌,
  ℕ,
  List,
  [],
  Option,
  None,
  Result,
  Ok,
  Err,
  IfOk,
  ap,
  refl,
  subst,
  sym,
}
use Rattle.msb_laws.specs.Results as results
use Rattle.msb_laws.specs.Results.{map_ok}
use Rattle.msb_expand.specs.declared.lens.Bucket.{Bucket}
use Rattle.msb_values.specs.Pairs.{all_put}
use Rattle.msb_values.specs.declared.item.Item.{Item}
use Rattle.msb_values.specs.declared.scope.Scope.{Scope}
use Rattle.result_cache.specs.Journal.{Journal}
use Rattle.result_cache.specs.declared.record.Decision.{Decision}
use Rattle.result_cache.specs.declared.record.Segment.{Segment}
use Rattle.result_cache.specs.declared.request.RequestResult.{RequestResult}
use Rattle.task_trait.specs.declared.tools.ToolInput.{ToolInput}
use Rattle.target_incremental.specs.declared.decision.Choice.{Choice}
use Rattle.target_body.specs.Left.{
  bucket_frames,
  bucket_left,
  children_frames,
  children_left,
  waiting_task,
}
use Rattle.target_body.specs.Moments.{
  Frames,
  Continues,
  Moment,
  Plays,
  done_at,
  moment,
  reached_by,
  state_at,
}
use Rattle.target_body.specs.Pieces.{Chooser, bucket_by, in_bucket, or_failed, word_of}
use Rattle.target_body.specs.Played.{Player, over, played, reached_then, waits}
use Rattle.target_body.specs.Returned.{returned}
use Rattle.target_body.specs.Seen.{ended, seen_done, seen_state}
use Rattle.target_body.specs.States.{Run, State, Stopped, with_decision}
use Rattle.target_body.specs.Work.{Work, done, followed_by, unless_stopped}
use Rattle.target_body.specs.declared.frames.AtBucket.{AtBucket}
use Rattle.target_body.specs.declared.frames.AtTask.{AtTask}
use Rattle.target_body.specs.declared.state.State.{State as Held}
use Rattle.target_body.specs.declared.steps.Ending.{Ending}
use Rattle.target_body.specs.declared.steps.Step.{Step}
use Rattle.target_body.specs.declared.steps.Step.TheVariants.{Over, Waits}
use Rattle.target_body.proofs.Playing.{follow_on}
use Rattle.target_body.proofs.Stepping.{joined, regrouped}

-- a part, and what goes on behind it in two steps
pub all_nested : {A E F : Type 0} (from : Frames A) (frames : Frames F) (p : Player)
    (part : State → Work (Result State Stopped))
    (f g : Result State Stopped → Work (Result State Stopped))
    (m m1 m2 : Moment) (step : Step A) (r : Result (Step F) E) → Plays from p part m step m1
    → IfOk r (λ step_then. Continues from frames p (λ end. followed_by (f end) g) step m1 step_then
    m2)
    → IfOk r
    (λ step_then. Plays frames p (λ s. followed_by (followed_by (part s) f) g) m step_then m2)
all_nested from frames p part f g m m1 m2 step (Ok step_then) plays goes =
    regrouped p (part (state_at m)) f g (done_at m)
    ∙ joined from frames p part (λ end. followed_by (f end) g) m m1 m2 step step_then plays goes
all_nested from frames p part f g m m1 m2 step (Err error) plays goes = goes

-- what doesn't wait, unless it has stopped before
pub ends_unless : (r : Result State Stopped) (x : State → Result State Stopped)
    → followed_by (unless_stopped r (λ s. done (x s))) (λ end. done (or_failed end))
    ≡ done (or_failed (results.and_then r x))
ends_unless (Ok s) x = refl
ends_unless (Err stop) x = refl

module _ (run : Run) (bucket : Bucket) (choice : Choice) (items : Option (List ℕ × List Item)) where
  -- what follows behind the children
  abbrev pub behind : Result State Stopped → Work (Result State Stopped)
  behind end = followed_by
      (unless_stopped end
      (λ s. done (map_ok (with_decision (word_of choice items)) (returned run bucket s))))
      (λ end. done (or_failed end))

  pub bucket_ends : (p : Player) (word : Decision) (ending ending_then : Ending)
      (step : Step AtTask) (held after : Held) (journal : Journal)
      (tools : List (List ℕ × ToolInput))
      → step ≡ Over ending → word ≡ word_of choice items
      → ended ending_then (seen_state after journal)
      ≡ or_failed
      (results.and_then (ended ending (seen_state held journal))
      (λ s. map_ok (with_decision word) (returned run bucket s)))
      → after.segments ≡ held.segments
      → Continues (children_frames run choice) (bucket_frames run) p behind step
      (moment held journal tools) (Over ending_then) (moment after journal tools)
  bucket_ends p word ending ending_then step held after journal tools step_so word_so ended_so same
      =
      let s : State = seen_state held journal in
      let x : Decision → State → Result State Stopped = λ word s.
      map_ok (with_decision word) (returned run bucket s) in
      let P : Decision → Type 0 = λ word. ended ending_then (seen_state after journal)
      ≡ or_failed (results.and_then (ended ending s) (x word)) in
      ap
      (λ (step : Step AtTask). reached_then p
      (reached_by (children_frames run choice) step (moment held journal tools)) behind) step_so
      ∙ ap (λ (w : Work (Result State Stopped)). played p w (seen_done held journal tools))
      (ends_unless (ended ending s) (x (word_of choice items)))
      ∙ ap (λ (end : Result State Stopped). over end (seen_done held journal tools))
      (sym (subst P word_so ended_so))
      ∙ ap
      (λ (segments : List Segment). over (ended ending_then (seen_state after journal))
      (record { segments = segments; tools = tools; journal = journal })) (sym same)

  pub bucket_waits : (p : Player) (task : AtTask) (step : Step AtTask) (m : Moment)
      → step ≡ Waits task
      → Continues (children_frames run choice) (bucket_frames run) p behind step m
      (Waits (record { bucket = bucket; choice = choice; items = items; task = task })) m
  bucket_waits p task step m step_so =
      let f : Result State Stopped → Work (Result State Stopped) = λ end.
      unless_stopped end
      (λ s. done (map_ok (with_decision (word_of choice items)) (returned run bucket s))) in
      let g : Result State Stopped → Work (Result State Stopped) = λ end. done (or_failed end) in
      let nested : (results : List RequestResult) (journal : Journal)
      → bucket_left run
      (record { bucket = bucket; choice = choice; items = items; task = task }) (state_at m)
      results journal
      ≡ followed_by (children_left run choice task (state_at m) results journal) behind =
      λ results journal. follow_on (children_left run choice task (state_at m) results journal) f g
      in
      ap
      (λ (step : Step AtTask). reached_then p (reached_by (children_frames run choice) step m)
      behind) step_so
      ∙ sym
      (λ i. waits (waiting_task task) (λ results journal. nested results journal i) (done_at m))

-- a bucket begins in the scope as the target found it
pub all_entered : {E : Type 0} (choose : Chooser) (run : Run) (bucket : Bucket) (p : Player)
    (found : Scope) (held begun : Held) (journal : Journal) (tools : List (List ℕ × ToolInput))
    (after : Moment) (r : Result (Step AtBucket) E)
    → begun
    ≡ record held {
      scope = record found { items = all_put found.items bucket.lists };
      task_scope = None;
      unseen =
          [];
    }
    → IfOk r (λ step. Plays (bucket_frames run) p (in_bucket choose run bucket)
    (moment begun journal tools) step after)
    → IfOk r (λ step. Plays (bucket_frames run) p (bucket_by choose run found bucket)
    (moment held journal tools) step after)
all_entered choose run bucket p found held begun journal tools after r begun_so plays =
    subst (λ (h : Held). IfOk r (λ step. Plays (bucket_frames run) p (in_bucket choose run bucket)
    (moment h journal tools) step after)) begun_so plays

pub entered : (choose : Chooser) (run : Run) (bucket : Bucket) (p : Player) (found : Scope)
    (held begun : Held) (journal : Journal) (tools : List (List ℕ × ToolInput)) (after : Moment)
    (step : Step AtBucket)
    → begun
    ≡ record held {
      scope = record found { items = all_put found.items bucket.lists };
      task_scope = None;
      unseen =
          [];
    }
    → Plays (bucket_frames run) p (in_bucket choose run bucket) (moment begun journal tools) step
    after
    → Plays (bucket_frames run) p (bucket_by choose run found bucket) (moment held journal tools)
    step after
entered choose run bucket p found held begun journal tools after step begun_so plays =
    subst (λ (h : Held). Plays (bucket_frames run) p (in_bucket choose run bucket)
    (moment h journal tools) step after) begun_so plays
