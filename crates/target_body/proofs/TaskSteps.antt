-- The steps of a task element: its calls, bucket by bucket, and what follows on them.
use Rattle.std.proofs.Common.{
  ◌≡◌,
  ◌∙◌,
  ◌++◌,
  ◌∷◌,
  [],
  ℕ,
  List,
  Bool,
  true,
  false,
  Result,
  Ok,
  Err,
  IfOk,
  ap,
  refl,
  subst,
  sym,
}
use Rattle.msb_laws.specs.Results.{map_ok}
use Rattle.msb_values.specs.Caused.{UnlessMemory}
use Rattle.msb_values.specs.declared.cause.Cause.{Cause}
use Rattle.msb_values.specs.declared.cause.Cause.TheVariants.{Memory}
use Rattle.msb_values.specs.declared.item.Item.{Item}
use Rattle.msb_values.specs.declared.note.Note.TheVariants.{Fail}
use Rattle.msb_expand.specs.declared.lens.Bucket.{Bucket}
use Rattle.build_world.specs.Elements.{At}
use Rattle.build_world.specs.Faults.{fault_text}
use Rattle.build_world.specs.declared.fault.EvalFault.{EvalFault}
use Rattle.result_cache.specs.Journal.{Journal}
use Rattle.result_cache.specs.declared.record.Segment.{Segment}
use Rattle.result_cache.specs.declared.request.RequestResult.{RequestResult}
use Rattle.task_trait.specs.declared.tools.ToolAnswer.{ToolAnswer}
use Rattle.task_trait.specs.declared.tools.ToolInput.{ToolInput}
use Rattle.target_texts.specs.Parameters.{task_buckets}
use Rattle.target_incremental.specs.declared.decision.Choice.{Choice}
use Rattle.target_incremental.specs.declared.decision.Choice.TheVariants.{
  Run as RunAll,
  Skip,
  Nothing,
  Part,
}
use Rattle.target_body.specs.Left.{
  IsOfTask,
  call_frames,
  call_left,
  calls_frames,
  calls_left,
  child_frames,
  child_left,
  inferred_unless,
  waiting,
  waiting_task,
}
use Rattle.target_body.specs.Moments.{
  EndsAs,
  Frames,
  Continues,
  Moment,
  Plays,
  done_at,
  moment,
  player,
  reached_by,
  state_at,
}
use Rattle.target_body.specs.Played.{Player, over, played, reached_then, waits}
use Rattle.target_body.specs.Seen.{child_at, ended, seen_done, seen_run, seen_state}
use Rattle.target_body.specs.States.{
  Progress,
  Run,
  State,
  Stopped,
  context_in,
  faulted,
  or_stop,
  progress_of,
  settled,
}
use Rattle.target_body.specs.Tasks.{call, called, inferred, task, then_inferred}
use Rattle.target_body.specs.Work.{Work, and_then, done, each_in_turn, followed_by, unless_stopped}
use Rattle.target_body.specs.declared.frames.AtCall.{AtCall}
use Rattle.target_body.specs.declared.frames.AtTask.{AtTask}
use Rattle.target_body.specs.declared.run_context.RunContext.{RunContext}
use Rattle.target_body.specs.declared.state.State.{State as Held}
use Rattle.target_body.specs.declared.steps.Ending.{Ending}
use Rattle.target_body.specs.declared.steps.Ending.TheVariants.{Faulted}
use Rattle.target_body.specs.declared.steps.Step.{Step}
use Rattle.target_body.specs.declared.steps.Step.TheVariants.{Over, Waits}
use Rattle.target_body.proofs.Stepping.{joined, regrouped}

-- a fault that is noted is not want of memory
pub noted : {P : Type 0} (cause : Cause) → (cause ≡ Memory → ⊥) → UnlessMemory cause P → P
noted Memory told p = absurd (told refl)
noted cause told p = p

-- what follows on one step, where the other is the same
pub goes_as : {A E F : Type 0} (from : Frames A) (frames : Frames F) (p : Player)
    (next : Result State Stopped → Work (Result State Stopped)) (before after : Moment)
    (step other : Step A) (r : Result (Step F) E)
    → step ≡ other → IfOk r (λ step_then. Continues from frames p next other before step_then after)
    → IfOk r (λ step_then. Continues from frames p next step before step_then after)
goes_as {A} from frames p next before after step other (Ok step_then) same goes = ap
    (λ (s : Step A). reached_then p (reached_by from s before) next) same ∙ goes
goes_as from frames p next before after step other (Err error) same goes = goes

-- a part is over, and what was written and called is what it was before
pub over_as : (held after : Held) (journal : Journal) (tools : List (List ℕ × ToolInput))
    (ending : Ending) (end : Result State Stopped)
    → ended ending (seen_state after journal) ≡ end → after.segments ≡ held.segments
    → over end (seen_done held journal tools)
    ≡ over (ended ending (seen_state after journal)) (seen_done after journal tools)
over_as held after journal tools ending end is kept =
    ap (λ (r : Result State Stopped). over r (seen_done held journal tools)) (sym is)
    ∙ ap
    (λ (segments : List Segment). over (ended ending (seen_state after journal))
    (record { segments = segments; tools = tools; journal = journal })) (sym kept)

module _ (p : Player) (run : Run) (e : At) where
  -- the calls of an element wait, and those of its buckets that come later are left
  pub calls_wait_so : (child : ℕ) (gives : Bool) (bucket : Bucket) (later : List Bucket)
      (at : AtCall) (m : Moment)
      → e ≡ child_at run child
      → Continues (call_frames run e gives bucket) (calls_frames run) p
      (λ end. unless_stopped end (each_in_turn (call run e gives) later)) (Waits at) m
      (Waits (record { child = child; gives = gives; bucket = bucket; later = later; call = at })) m
  calls_wait_so child gives bucket later at m same =
      ap (λ (e : At). waits (waiting at)
      (λ results journal. and_then (call_left run e gives bucket at (state_at m) results journal)
      (λ s. each_in_turn (call run e gives) later s)) (done_at m)) same

  -- the calls of an element are over, and its Outputs are inferred where they are not its own
  pub child_over : (gives : Bool) (step : Step AtTask) (held mid after : Held) (journal : Journal)
      (tools : List (List ℕ × ToolInput)) (ending inferring final : Ending)
      → step ≡ Over ending
      → ended inferring (seen_state mid journal)
      ≡ inferred_unless gives run e (ended ending (seen_state held journal))
      → mid.segments ≡ held.segments
      → ended final (seen_state after journal)
      ≡ map_ok settled (ended inferring (seen_state mid journal))
      → after.segments ≡ mid.segments
      → Continues (calls_frames run) (child_frames run) p
      (λ end. done (map_ok settled (inferred_unless gives run e end))) step
      (moment held journal tools) (Over final) (moment after journal tools)
  child_over gives step held mid after journal tools ending inferring final is inferred_so kept
      settled_so kept_then =
      ap
      (λ (s : Step AtTask). reached_then p
      (reached_by (calls_frames run) s (moment held journal tools))
      (λ end. done (map_ok settled (inferred_unless gives run e end)))) is
      ∙ over_as held after journal tools final
      (map_ok settled (inferred_unless gives run e (ended ending (seen_state held journal))))
      (settled_so ∙ ap (λ (r : Result State Stopped). map_ok settled r) inferred_so)
      (kept_then ∙ kept)

  -- or they wait
  pub child_waits : (child : ℕ) (gives : Bool) (step : Step AtTask) (t : AtTask) (m : Moment)
      → step ≡ Waits t → IsOfTask child gives step → e ≡ child_at run child
      → Continues (calls_frames run) (child_frames run) p
      (λ end. done (map_ok settled (inferred_unless gives run e end))) step m (Waits t) m
  child_waits child gives step t m is of_task same =
      let of : (t.child ≡ child)
      × (t.gives ≡ gives) = subst (λ (s : Step AtTask). IsOfTask child gives s) is of_task in
      ap
      (λ (s : Step AtTask). reached_then p (reached_by (calls_frames run) s m)
      (λ end. done (map_ok settled (inferred_unless gives run e end)))) is
      ∙ ap (λ (g : Bool). waits (waiting_task t)
      (λ results journal. followed_by (calls_left run t (state_at m) results journal)
      (λ end. done (map_ok settled (inferred_unless g run e end)))) (done_at m)) (sym of.1)
      ∙ ap (λ (e : At). waits (waiting_task t)
      (λ results journal. followed_by (calls_left run t (state_at m) results journal)
      (λ end. done (map_ok settled (inferred_unless t.gives run e end)))) (done_at m))
      (same ∙ ap (λ (n : ℕ). child_at run n) (sym of.0))

  -- nothing is inferred where a text has a fault
  unless_faulted : (gives : Bool) (p : Progress)
      → inferred_unless gives run e (Err (faulted p)) ≡ Err (faulted p)
  unless_faulted true p = refl
  unless_faulted false p = refl

  -- an element whose buckets a fault keeps from being formed
  pub called_stops : (gives : Bool) (fault : EvalFault) (held after : Held) (journal : Journal)
      (tools : List (List ℕ × ToolInput))
      → task_buckets
      (context_in run (seen_state held journal) (seen_state held journal).task_scope) e
      ≡ Err fault
      → after ≡ record held { notes = held.notes ++ Fail (fault_text fault) ∷ [] }
      → EndsAs p
      (λ s. followed_by (called run e gives s)
      (λ end. done (map_ok settled (inferred_unless gives run e end))))
      (moment held journal tools) Faulted (moment after journal tools)
  called_stops gives fault held after journal tools is noting_so =
      let s : State = seen_state held journal in
      let f : Result State Stopped → Work (Result State Stopped) = λ end.
      done (map_ok settled (inferred_unless gives run e end)) in
      let noting : Held = record held { notes = held.notes ++ Fail (fault_text fault) ∷ [] } in
      ap
      (λ (r : Result (List Bucket) EvalFault). played p
      (followed_by
      (unless_stopped (or_stop s r) (λ buckets. each_in_turn (call run e gives) buckets s)) f)
      (seen_done held journal tools)) is
      ∙ ap (λ (r : Result State Stopped). over (map_ok settled r) (seen_done held journal tools))
      (unless_faulted gives (progress_of (seen_state noting journal)))
      ∙ ap (λ (h : Held). over (ended Faulted (seen_state h journal)) (seen_done h journal tools))
      (sym noting_so)

  -- an element is called in these buckets, and what follows on its calls
  pub all_called : {E : Type 0} (gives : Bool) (buckets later : List Bucket) (m m1 m2 : Moment)
      (step : Step AtTask) (r : Result (Step AtTask) E)
      → task_buckets (context_in run (state_at m) (state_at m).task_scope) e ≡ Ok buckets
      → later ≡ buckets
      → Plays (calls_frames run) p (λ s. each_in_turn (call run e gives) later s) m step m1
      → IfOk r
      (λ step_then. Continues (calls_frames run) (child_frames run) p
      (λ end. done (map_ok settled (inferred_unless gives run e end))) step m1 step_then m2)
      → IfOk r
      (λ step_then. Plays (child_frames run) p
      (λ s. followed_by (called run e gives s)
      (λ end. done (map_ok settled (inferred_unless gives run e end)))) m step_then m2)
  all_called gives buckets later m m1 m2 step (Ok step_then) is same plays goes =
      let f : Result State Stopped → Work (Result State Stopped) = λ end.
      done (map_ok settled (inferred_unless gives run e end)) in
      let s : State = state_at m in
      ap
      (λ (r : Result (List Bucket) EvalFault). played p
      (followed_by
      (unless_stopped (or_stop s r) (λ buckets. each_in_turn (call run e gives) buckets s)) f)
      (done_at m)) is
      ∙ ap
      (λ (buckets : List Bucket). played p
      (followed_by (each_in_turn (call run e gives) buckets s) f) (done_at m)) (sym same)
      ∙ joined (calls_frames run) (child_frames run) p
      (λ s. each_in_turn (call run e gives) later s) f m m1 m2 step step_then plays goes
  all_called gives buckets later m m1 m2 step (Err error) is same plays goes = goes

-- a task element goes on when the results of calls have come
module _ {E : Type 0} (answer : List ℕ → ToolInput → ToolAnswer) (t : AtTask)
    (results : List RequestResult) (m m1 m2 m3 : Moment) (called_step : Step AtCall)
    (step : Step AtTask) (r : Result (Step AtTask) E) where
  abbrev resumed_by : Run → At → State → Work (Result State Stopped)
  resumed_by run e s = followed_by (call_left run e t.gives t.bucket t.call s results m.journal)
      (λ end. unless_stopped end (each_in_turn (call run e t.gives) t.later))

  resumed_on : (p : Player) (run : Run) (e : At) (r : Result (Step AtTask) E)
      → e ≡ child_at run t.child
      → Plays (call_frames run e t.gives t.bucket) p
      (λ s. call_left run e t.gives t.bucket t.call s results m.journal) m called_step m1
      → Continues (call_frames run e t.gives t.bucket) (calls_frames run) p
      (λ end. unless_stopped end (each_in_turn (call run e t.gives) t.later)) called_step m1
      step m2
      → IfOk r
      (λ step_then. Continues (calls_frames run) (child_frames run) p
      (λ end. done (map_ok settled (inferred_unless t.gives run e end))) step m2 step_then m3)
      → IfOk r
      (λ step_then. Plays (child_frames run) p (λ s. child_left run t s results m.journal) m
      step_then m3)
  resumed_on p run e (Ok step_then) same plays goes goes_then =
      let next : Result State Stopped → Work (Result State Stopped) = λ end.
      done (map_ok settled (inferred_unless t.gives run e end)) in
      let calls : Plays (calls_frames run) p (resumed_by run e) m step m2 =
      joined (call_frames run e t.gives t.bucket) (calls_frames run) p
      (λ s. call_left run e t.gives t.bucket t.call s results m.journal)
      (λ end. unless_stopped end (each_in_turn (call run e t.gives) t.later))
      m m1 m2 called_step step plays goes in
      ap
      (λ (e : At).
      played p
      (followed_by (resumed_by run e (state_at m))
      (λ end. done (map_ok settled (inferred_unless t.gives run e end)))) (done_at m))
      (sym same)
      ∙ joined (calls_frames run) (child_frames run) p (resumed_by run e) next m m2 m3 step
      step_then calls goes_then
  resumed_on p run e (Err error) same plays goes goes_then = goes_then

  -- what its parts have done, by the run at hand and by whether the Outputs are its own
  abbrev Resumed : At → RunContext → Bool → Type 0
  Resumed e context gives =
      let run : Run = seen_run context in
      let p : Player = player context.id.now answer in
      Plays (call_frames run e gives t.bucket) p
      (λ s. call_left run e gives t.bucket t.call s results m.journal) m called_step m1
      × Continues (call_frames run e gives t.bucket) (calls_frames run) p
      (λ end. unless_stopped end (each_in_turn (call run e gives) t.later)) called_step m1 step
      m2
      × IfOk r
      (λ step_then. Continues (calls_frames run) (child_frames run) p
      (λ end. done (map_ok settled (inferred_unless gives run e end))) step m2 step_then m3)

  resumed_here : (context : RunContext) (e : At) → e ≡ child_at (seen_run context) t.child
      → Resumed e context t.gives
      → IfOk r
      (λ step_then. Plays (child_frames (seen_run context)) (player context.id.now answer)
      (λ s. child_left (seen_run context) t s results m.journal) m step_then m3)
  resumed_here context e same (plays, goes, goes_then) = resumed_on (player context.id.now answer)
      (seen_run context) e r same plays goes goes_then

  pub task_resumed : (context held : RunContext) (e : At) (gives : Bool) → held ≡ context
      → gives ≡ t.gives → e ≡ child_at (seen_run context) t.child → Resumed e held gives
      → IfOk r
      (λ step_then. Plays (child_frames (seen_run context)) (player context.id.now answer)
      (λ s. child_left (seen_run context) t s results m.journal) m step_then m3)
  task_resumed context held e gives here own same parts =
      resumed_here context e same
      (subst (λ (w : RunContext). Resumed e w t.gives) here
      (subst (λ (g : Bool). Resumed e held g) own parts))

-- a task element by what is decided
module _ {E : Type 0} (answer : List ℕ → ToolInput → ToolAnswer) (context : RunContext) (child : ℕ)
    (m after : Moment) (r : Result (Step AtTask) E) where
  abbrev Called : RunContext → At → Bool → Type 0
  Called context e gives =
      let run : Run = seen_run context in
      IfOk r
      (λ step. Plays (child_frames run) (player context.id.now answer)
      (λ s. followed_by (called run e gives s)
      (λ end. done (map_ok settled (inferred_unless gives run e end)))) m step after)

  abbrev Treated : Choice → Type 0
  Treated choice =
      let run : Run = seen_run context in
      IfOk r
      (λ step. Plays (child_frames run) (player context.id.now answer)
      (λ s. followed_by (task run choice (child_at run child) s)
      (λ end. done (map_ok settled end))) m step after)

  called_here : (held : RunContext) (e : At) (gives own : Bool) → held ≡ context
      → e ≡ child_at (seen_run context) child → gives ≡ own → Called held e gives
      → Called context (child_at (seen_run context) child) own
  called_here held e gives own here same is plays =
      subst (λ (w : RunContext). Called w (child_at (seen_run context) child) own) here
      (subst (λ (e : At). Called held e own) same
      (subst (λ (g : Bool). Called held e g) is plays))

  pub runs_so : (held : RunContext) (e : At) (gives : Bool) (choice : Choice) → held ≡ context
      → e ≡ child_at (seen_run context) child → gives ≡ true → choice ≡ RunAll → Called held e gives
      → Treated choice
  runs_so held e gives choice here same is chosen plays = subst Treated (sym chosen)
      (called_here held e gives true here same is plays)

module _ {E : Type 0} (answer : List ℕ → ToolInput → ToolAnswer) (context : RunContext) (child : ℕ)
    (m after : Moment) where
  in_part : (r : Result (Step AtTask) E) (old : List Item)
      → Called answer context child m after r context (child_at (seen_run context) child) false
      → Treated answer context child m after r (Part old)
  in_part (Ok step) old plays =
      let run : Run = seen_run context in
      let e : At = child_at run child in
      regrouped (player context.id.now answer) (called run e false (state_at m))
      (λ end. done (then_inferred run e end)) (λ end. done (map_ok settled end)) (done_at m)
      ∙ plays
  in_part (Err error) old plays = plays

  pub runs_in_part : (r : Result (Step AtTask) E) (held : RunContext) (e : At) (gives : Bool)
      (choice : Choice) (old : List Item) → held ≡ context → e ≡ child_at (seen_run context) child
      → gives ≡ false → choice ≡ Part old
      → Called answer context child m after r held e gives
      → Treated answer context child m after r choice
  runs_in_part r held e gives choice old here same is chosen plays =
      subst (Treated answer context child m after r) (sym chosen)
      (in_part r old
      (called_here answer context child m after r held e gives false here same is plays))

-- where it is not called
module _ (p : Player) (run : Run) (e : At) (held after : Held) (journal : Journal)
    (tools : List (List ℕ × ToolInput)) (final : Ending) where
  pub is_inferred : (other : Run) (of : At) (choice : Choice) (mid : Held) (ending : Ending)
      → other ≡ run → of ≡ e → choice ≡ Skip
      → ended ending (seen_state mid journal) ≡ inferred other of (seen_state held journal)
      → mid.segments ≡ held.segments
      → ended final (seen_state after journal)
      ≡ map_ok settled (ended ending (seen_state mid journal)) → after.segments ≡ mid.segments
      → Plays (child_frames run) p
      (λ s. followed_by (task run choice e s) (λ end. done (map_ok settled end)))
      (moment held journal tools) (Over final) (moment after journal tools)
  is_inferred other of choice mid ending here same chosen inferred_so kept settled_so kept_then =
      let s : State = seen_state held journal in
      ap
      (λ (c : Choice).
      played p (followed_by (task run c e s) (λ end. done (map_ok settled end)))
      (seen_done held journal tools)) chosen
      ∙ over_as held after journal tools final (map_ok settled (inferred run e s))
      (settled_so ∙ ap (λ (r : Result State Stopped). map_ok settled r)
      (inferred_so ∙ ap (λ (w : Run). inferred w of s) here
      ∙ ap (λ (x : At). inferred run x s) same))
      (kept_then ∙ kept)

  pub is_passed : (choice : Choice) → choice ≡ Nothing
      → ended final (seen_state after journal) ≡ map_ok settled (Ok (seen_state held journal))
      → after.segments ≡ held.segments
      → Plays (child_frames run) p
      (λ s. followed_by (task run choice e s) (λ end. done (map_ok settled end)))
      (moment held journal tools) (Over final) (moment after journal tools)
  is_passed choice chosen settled_so kept =
      ap
      (λ (c : Choice).
      played p
      (followed_by (task run c e (seen_state held journal)) (λ end. done (map_ok settled end)))
      (seen_done held journal tools)) chosen
      ∙ over_as held after journal tools final (map_ok settled (Ok (seen_state held journal)))
      settled_so kept
