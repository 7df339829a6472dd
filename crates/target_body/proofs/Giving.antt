-- What is taken of a task that has answered.
use Rattle.std.proofs.Common.{
  ◌≡◌,
  ◌∙◌,
  ◌++◌,
  ◌==◌,
  ◌&&◌,
  ◌<◌,
  ℕ,
  zero,
  suc,
  List,
  [],
  ◌∷◌,
  Bool,
  true,
  false,
  Result,
  Ok,
  Err,
  IfOk,
  arith,
  eqb-true,
  ap,
  map,
  not,
  refl,
  sym,
  subst,
  length,
}
use Rattle.msb_laws.specs.Results as results
use Rattle.msb_elements.specs.Nodes.{Node, children_in}
use Rattle.msb_expand.specs.Reserved.{folder_of}
use Rattle.msb_expand.specs.declared.lens.Bucket.{Bucket}
use Rattle.build_world.specs.Elements.{At, at}
use Rattle.build_world.specs.declared.fault.EvalFault.{EvalFault}
use Rattle.element_texts.specs.Contexts.{ElementContext}
use Rattle.result_cache.specs.Journal.{Journal}
use Rattle.result_cache.specs.declared.record.Segment.{Segment}
use Rattle.result_cache.specs.declared.request.RequestResult.{RequestResult}
use Rattle.task_msbuild.specs.Gathered.{gathered}
use Rattle.task_msbuild.specs.Plans.{next_calls, plan_of}
use Rattle.task_msbuild.specs.declared.plans.Plan.{Plan}
use Rattle.task_kit.specs.Foreign.{foreign_output}
use Rattle.task_trait.specs.Failures.{failed}
use Rattle.task_trait.specs.declared.failures.Failure.{Failure}
use Rattle.task_trait.specs.declared.tools.Param.{Param}
use Rattle.task_trait.specs.declared.tools.ToolInput.{ToolInput}
use Rattle.task_trait.specs.declared.tools.TaskOutput.{TaskOutput}
use Rattle.target_texts.specs.Made.{Made, all_made, up_to_fault}
use Rattle.target_texts.specs.OnErrors.{notes_by}
use Rattle.target_texts.specs.Outputs.{output, outputs}
use Rattle.target_texts.specs.declared.on_error.OnError.{OnError}
use Rattle.target_body.specs.Answers.{all_acted, given, make_calls, msbuild, tool}
use Rattle.target_body.specs.Left.{call_frames, call_left, remaining_calls, waiting}
use Rattle.target_body.specs.Moments.{EndsAs, Moment, Plays, done_at, moment, reached_by, state_at}
use Rattle.target_body.specs.Played.{Player, Done, Reached, over, played}
use Rattle.target_body.specs.Seen.{ended, seen_done, seen_state}
use Rattle.target_body.specs.States.{Run, State, Stopped, or_stop, taken, with_notes}
use Rattle.target_body.specs.Tasks.{answered_to, call_context, ended_by, outputs_if}
use Rattle.target_body.specs.Work.{Work, done, followed_by, unless_stopped}
use Rattle.target_body.specs.declared.state.State.{State as Held}
use Rattle.target_body.specs.declared.steps.Ending.{Ending}
use Rattle.target_body.specs.declared.frames.AtCall.{AtCall}
use Rattle.target_body.specs.declared.steps.Step.{Step}
use Rattle.target_body.specs.declared.steps.Step.TheVariants.{Over}
use Rattle.target_body.proofs.PlannedCalls.{calls_over, all_remain, results_on}
use Rattle.target_body.proofs.Stepping.{plays_then, regrouped}

pub empty_of : (n : ℕ) → (n == 0) ≡ true → n ≡ 0
empty_of n is = eqb-true n 0 is

pub not_empty : (n : ℕ) → (n == 0) ≡ false → n ≡ 0 → ⊥
not_empty n is none =
    let same : (0 == 0) ≡ false = subst (λ (m : ℕ). (m == 0) ≡ false) none is in
    cc

both : (a b : Bool) → (a && b) ≡ true → (a ≡ true) × (b ≡ true)
both true b is = (refl, is)
both false b is = cc

-- no results go before
none_before : (first more : List RequestResult) → length first ≡ 0 → more ≡ first ++ more
none_before [] more none = refl
none_before (result ∷ first) more none = cc

-- an element without children has no Outputs
no_output : (e : At) → children_in e.node ≡ [] → (context : ElementContext)
    (params : List Param) → outputs context params e ≡ all_made []
no_output e none context params = ap
    (λ (nodes : List Node). up_to_fault (output context params) (map (at e.file) nodes)) none

not_false : (b : Bool) → not b ≡ false → b ≡ true
not_false true is = refl
not_false false is = cc

some_node : (n : ℕ) → not (suc n == 0) ≡ false → ⊥
some_node n none = omega (arith, eqb-true (suc n) 0 (not_false (suc n == 0) none))

takes_by : (gives : Bool) (e : At) (nodes : List Node) → children_in e.node ≡ nodes
    → (gives && not (length nodes == 0)) ≡ false → (context : ElementContext)
    (params : List Param) → outputs_if gives context params e ≡ all_made []
takes_by false e nodes is none context params = refl
takes_by true e [] is none context params = no_output e is context params
takes_by true e (first ∷ rest) is none context params = absurd (some_node (length rest) none)

-- Outputs that are inferred, and those of an element without children, take nothing
pub takes_none : (gives : Bool) (e : At) (takes : Bool)
    → takes ≡ (gives && not (length (children_in e.node) == 0)) → takes ≡ false
    → (context : ElementContext) (params : List Param)
    → outputs_if gives context params e ≡ all_made []
takes_none gives e takes is none = takes_by gives e (children_in e.node) refl (sym is ∙ none)

-- a value that was read, and a fault
pub read_on : {X S : Type 0} (p : Player) (s : State) (d : Done)
    (next : X → Work (Result S Stopped)) (r : Result X EvalFault) (x : X) → r ≡ Ok x
    → played p (unless_stopped (or_stop s r) next) d ≡ played p (next x) d
read_on p s d next r x is = ap (λ r. played p (unless_stopped (or_stop s r) next) d) is

module _ (run : Run) (e : At) (gives : Bool) (bucket : Bucket) (on_error : OnError) where
  pub answered_so : (output : TaskOutput) (held noted after : Held) (journal : Journal)
      (ending : Ending)
      → noted ≡ record held { notes = held.notes ++ notes_by on_error output.notes }
      → ended ending (seen_state after journal)
      ≡ taken
      (outputs_if gives (call_context run (seen_state noted journal) bucket) output.outputs e)
      (seen_state noted journal)
      → answered_to run e gives bucket on_error (seen_state held journal, output)
      ≡ results.and_then (ended ending (seen_state after journal)) (ended_by on_error output.ok)
  answered_so output held noted after journal ending is taken_so =
      let P : Held → Type 0 = λ h. ended ending (seen_state after journal)
      ≡ taken
      (outputs_if gives (call_context run (seen_state h journal) bucket) output.outputs e)
      (seen_state h journal) in
      sym (ap (λ r. results.and_then r (ended_by on_error output.ok)) (subst P is taken_so))

  pub given_ends : (p : Player) (output : TaskOutput) (before after : Moment) (held : Held)
      (ending : Ending)
      → played p (all_acted output.acts (state_at before)) (done_at before)
      ≡ over (seen_state held after.journal) (seen_done held after.journal after.tools)
      → held.segments ≡ after.held.segments
      → answered_to run e gives bucket on_error (seen_state held after.journal, output)
      ≡ ended ending (state_at after)
      → EndsAs p
      (λ s.
      followed_by (given s output) (λ x. done (answered_to run e gives bucket on_error x)))
      before ending after
  given_ends p output before after held ending acted same answered =
      regrouped p (all_acted output.acts (state_at before)) (λ s. done (s, output))
      (λ x. done (answered_to run e gives bucket on_error x)) (done_at before)
      ∙ plays_then p (all_acted output.acts (state_at before))
      (λ s. done (answered_to run e gives bucket on_error (s, output))) (done_at before) _ acted
      ∙ ap (λ r. over r (seen_done held after.journal after.tools)) answered
      ∙ ap
      (λ (segments : List Segment). over (ended ending (state_at after))
      (record { segments = segments; tools = after.tools; journal = after.journal })) same

  -- a task gives what its calls have given
  pub gathered_so : {E : Type 0} (p : Player) (whole output : TaskOutput) (before after : Moment)
      (r : Result Ending E) → output ≡ whole
      → IfOk r
      (λ ending. EndsAs p
      (λ s.
      followed_by (given s output) (λ x. done (answered_to run e gives bucket on_error x)))
      before ending after)
      → IfOk r
      (λ ending. EndsAs p
      (λ s. followed_by (given s whole) (λ x. done (answered_to run e gives bucket on_error x)))
      before ending after)
  gathered_so p whole output before after r is ends =
      let P : TaskOutput
      → Type 0 = λ o.
      IfOk r
      (λ ending. EndsAs p
      (λ s. followed_by (given s o) (λ x. done (answered_to run e gives bucket on_error x)))
      before ending after) in
      subst P is ends

  -- where no Output takes items, it doesn't matter which are given
  pub none_taken : {E : Type 0} (p : Player) (plan : Plan) (entries : List RequestResult)
      (output : TaskOutput) (before after : Moment) (r : Result Ending E)
      → ((context : ElementContext) (params : List Param)
      → outputs_if gives context params e ≡ all_made [])
      → output ≡ record (gathered plan entries) { outputs = [] }
      → IfOk r
      (λ ending. EndsAs p
      (λ s.
      followed_by (given s output) (λ x. done (answered_to run e gives bucket on_error x)))
      before ending after)
      → IfOk r
      (λ ending. EndsAs p
      (λ s.
      followed_by (given s (gathered plan entries))
      (λ x. done (answered_to run e gives bucket on_error x))) before ending after)
  none_taken p plan entries output before after r none is ends =
      let whole : TaskOutput = gathered plan entries in
      let without : TaskOutput = record whole { outputs = [] } in
      let context : ElementContext = call_context run (state_at before) bucket in
      let noted : State = with_notes (notes_by on_error whole.notes) (state_at before) in
      let same : answered_to run e gives bucket on_error (state_at before, without)
      ≡ answered_to run e gives bucket on_error (state_at before, whole) =
      ap (λ (made : Made). results.and_then (taken made noted) (ended_by on_error whole.ok))
      (none context [] ∙ sym (none context whole.outputs)) in
      let Q : Result State Stopped
      → Type 0 = λ w.
      IfOk r
      (λ ending. played p (done w) (done_at before)
      ≡ over (ended ending (state_at after)) (done_at after)) in
      subst Q same (gathered_so p without output before after r is ends)

  pub made_over : (p : Player) (plan : Plan) (results : List RequestResult)
      (before after : Moment) (ending : Ending) → length (next_calls plan results) ≡ 0
      → EndsAs p
      (λ s.
      followed_by (given s (gathered plan results))
      (λ x. done (answered_to run e gives bucket on_error x))) before ending after
      → Plays (call_frames run e gives bucket) p
      (λ s. followed_by (remaining_calls plan results s)
      (λ x. done (answered_to run e gives bucket on_error (x.0, gathered plan x.1)))) before
      (Over ending) after
  made_over p plan results before after ending none ends =
      ap
      (λ w.
      played p
      (followed_by w
      (λ x. done (answered_to run e gives bucket on_error (x.0, gathered plan x.1))))
      (done_at before)) (calls_over plan results (state_at before) none)
      ∙ ends

  -- the calls of an MSBuild task, from the first ones on
  pub planned_on : (p : Player) (plan : Plan) (s : State) (d : Done)
      → played p
      (followed_by
      (followed_by (make_calls (length plan.calls) plan [] s) (λ x. done (x.0, gathered plan x.1)))
      (λ x. done (answered_to run e gives bucket on_error x))) d
      ≡ played p
      (followed_by (remaining_calls plan [] s)
      (λ x. done (answered_to run e gives bucket on_error (x.0, gathered plan x.1)))) d
  planned_on p plan s d =
      regrouped p (make_calls (length plan.calls) plan [] s) (λ x. done (x.0, gathered plan x.1))
      (λ x. done (answered_to run e gives bucket on_error x)) d
      ∙ ap
      (λ w.
      played p
      (followed_by w
      (λ x. done (answered_to run e gives bucket on_error (x.0, gathered plan x.1)))) d)
      (sym (all_remain plan s))

  pub resumed_on : (p : Player) (at : AtCall) (results more : List RequestResult)
      (before after : Moment) (step : Step AtCall)
      → at.on_error ≡ on_error → 0 < length (waiting at) → length more ≡ length (waiting at)
      → results ≡ at.results ++ more
      → Plays (call_frames run e gives bucket) p
      (λ s. followed_by (remaining_calls at.plan results s)
      (λ x. done (answered_to run e gives bucket at.on_error (x.0, gathered at.plan x.1))))
      before step after
      → Plays (call_frames run e gives bucket) p
      (λ s. call_left run e gives bucket at s more before.journal) before step after
  resumed_on p at results more before after step same waits fits is plays =
      ap
      (λ w.
      played p
      (followed_by w
      (λ x. done (answered_to run e gives bucket at.on_error (x.0, gathered at.plan x.1))))
      (done_at before))
      (results_on at more (state_at before) before.journal waits fits
      ∙ ap (λ (r : List RequestResult). remaining_calls at.plan r (state_at before)) (sym is))
      ∙ plays

  pub all_resumed : {E : Type 0} (p : Player) (at : AtCall) (results more : List RequestResult)
      (before after : Moment) (r : Result (Step AtCall) E)
      → at.on_error ≡ on_error → 0 < length (waiting at) → length more ≡ length (waiting at)
      → results ≡ at.results ++ more
      → IfOk r
      (λ step. Plays (call_frames run e gives bucket) p
      (λ s. followed_by (remaining_calls at.plan results s)
      (λ x. done (answered_to run e gives bucket at.on_error (x.0, gathered at.plan x.1))))
      before step after)
      → IfOk r
      (λ step. Plays (call_frames run e gives bucket) p
      (λ s. call_left run e gives bucket at s more before.journal) before step after)
  all_resumed p at results more before after (Ok step) same waits fits is plays = resumed_on p at
      results more before after step same waits fits is plays
  all_resumed p at results more before after (Err error) same waits fits is plays = plays

  pub planned_so : (p : Player) (plan : Plan) (params : List Param) (first : List RequestResult)
      (before after : Moment) (step : Step AtCall)
      → plan ≡ plan_of run.files (folder_of run.instance.path) run.instance.globals params
      → first ≡ []
      → Plays (call_frames run e gives bucket) p
      (λ s. followed_by (remaining_calls plan first s)
      (λ x. done (answered_to run e gives bucket on_error (x.0, gathered plan x.1)))) before
      step after
      → Plays (call_frames run e gives bucket) p
      (λ s. followed_by (msbuild run s params)
      (λ x. done (answered_to run e gives bucket on_error x))) before step after
  planned_so p plan params first before after step is none plays =
      let reached : Reached (Result State Stopped) = reached_by (call_frames run e gives bucket)
      step after in
      let P : Plan → List RequestResult → Type 0 = λ plan first.
      played p
      (followed_by (remaining_calls plan first (state_at before))
      (λ x. done (answered_to run e gives bucket on_error (x.0, gathered plan x.1))))
      (done_at before) ≡ reached in
      let of_plan : Plan = plan_of run.files (folder_of run.instance.path) run.instance.globals
      params in
      planned_on p of_plan (state_at before) (done_at before)
      ∙ subst (λ (pl : Plan). P pl []) is
      (subst (λ (f : List RequestResult). P plan f) none plays)

  pub all_planned : {E : Type 0} (p : Player) (plan : Plan) (params : List Param)
      (first : List RequestResult) (before after : Moment) (r : Result (Step AtCall) E)
      → plan ≡ plan_of run.files (folder_of run.instance.path) run.instance.globals params
      → first ≡ []
      → IfOk r
      (λ step. Plays (call_frames run e gives bucket) p
      (λ s. followed_by (remaining_calls plan first s)
      (λ x. done (answered_to run e gives bucket on_error (x.0, gathered plan x.1)))) before
      step after)
      → IfOk r
      (λ step. Plays (call_frames run e gives bucket) p
      (λ s. followed_by (msbuild run s params)
      (λ x. done (answered_to run e gives bucket on_error x))) before step after)
  all_planned p plan params first before after (Ok step) is none plays = planned_so p plan params
      first before after step is none plays
  all_planned p plan params first before after (Err error) is none plays = plays

-- the results of all calls of an MSBuild task have come at once
pub resumed_over : (run : Run) (e : At) (gives : Bool) (bucket : Bucket) (p : Player)
    (call : AtCall) (more : List RequestResult) (before after : Moment) (ending : Ending)
    (ends_with : Bool) → 0 < length (waiting call) → length more ≡ length (waiting call)
    → ends_with ≡ ((length call.results == 0) && (length (next_calls call.plan more) == 0))
    → ends_with ≡ true
    → EndsAs p
    (λ s.
    followed_by (given s (gathered call.plan more))
    (λ x. done (answered_to run e gives bucket call.on_error x))) before ending after
    → Plays (call_frames run e gives bucket) p
    (λ s. call_left run e gives bucket call s more before.journal) before (Over ending) after
resumed_over run e gives bucket p call more before after ending ends_with waits fits is ended_so
    ends =
    let none : ((length call.results == 0) ≡ true)
    × ((length (next_calls call.plan more) == 0) ≡ true) =
    both (length call.results == 0) (length (next_calls call.plan more) == 0) (sym is ∙ ended_so) in
    resumed_on run e gives bucket call.on_error p call more more before after (Over ending) refl
    waits fits (none_before call.results more (empty_of (length call.results) none.0))
    (made_over run e gives bucket call.on_error p call.plan more before after ending
    (empty_of (length (next_calls call.plan more)) none.1) ends)

-- a tool, and one that can't be handed its files
module _ (p : Player) (task : List ℕ) (f : State × TaskOutput → Work (Result State Stopped)) where
  pub tool_ends : (input : ToolInput) (r : Result ToolInput Failure) (output : TaskOutput)
      (before : Moment) (held : Held) (journal : Journal) (calls : List (List ℕ × ToolInput))
      (ending : Ending)
      → r ≡ Ok input → output ≡ foreign_output task before.held.written (p.tools task input)
      → calls ≡ before.tools ++ (task, input) ∷ []
      → EndsAs p (λ s. followed_by (given s output) f) (moment before.held before.journal calls)
      ending (moment held journal calls)
      → played p (followed_by (tool task (state_at before) r) f) (done_at before)
      ≡ over (ended ending (seen_state held journal)) (seen_done held journal calls)
  tool_ends input r output before held journal calls ending is output_so calls_so ends =
      let P : TaskOutput → List (List ℕ × ToolInput) → Type 0 = λ o t.
      played p (followed_by (given (state_at before) o) f) (seen_done before.held before.journal t)
      ≡ over (ended ending (seen_state held journal)) (seen_done held journal calls) in
      ap
      (λ (r : Result ToolInput Failure). played p
      (followed_by (tool task (state_at before) r) f) (done_at before)) is
      ∙ subst
      (λ (t : List (List ℕ × ToolInput)). P
      (foreign_output task before.held.written (p.tools task input)) t) calls_so
      (subst (λ (o : TaskOutput). P o calls) output_so ends)

  pub tool_fails : (failure : Failure) (r : Result ToolInput Failure) (output : TaskOutput)
      (before after : Moment) (ending : Ending)
      → r ≡ Err failure → output ≡ failed task failure
      → EndsAs p (λ s. followed_by (given s output) f) before ending after
      → played p (followed_by (tool task (state_at before) r) f) (done_at before)
      ≡ over (ended ending (state_at after)) (done_at after)
  tool_fails failure r output before after ending is output_so ends =
      let P : TaskOutput
      → Type 0 = λ o. EndsAs p (λ s. followed_by (given s o) f) before ending after in
      ap
      (λ (r : Result ToolInput Failure). played p
      (followed_by (tool task (state_at before) r) f) (done_at before)) is
      ∙ subst P output_so ends
