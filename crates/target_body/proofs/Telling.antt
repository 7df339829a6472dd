-- What the body tells behind a step of the machine, and where it stands.
use Rattle.std.proofs.Common.{
  ◌≡◌,
  ◌∙◌,
  ◌<◌,
  ◌++◌,
  ℕ,
  List,
  [],
  ◌∷◌,
  length,
  Result,
  Ok,
  Err,
  IfOk,
  arith,
  ap,
  refl,
  subst,
}
use Rattle.msb_values.specs.declared.scope.Scope.{Scope}
use Rattle.result_cache.specs.Journal.{Journal}
use Rattle.result_cache.specs.declared.record.Segment.{Segment}
use Rattle.result_cache.specs.declared.request.RequestKey.{RequestKey}
use Rattle.result_cache.specs.declared.request.RequestResult.{RequestResult}
use Rattle.result_cache.specs.declared.run.RunId.{RunId}
use Rattle.build_meaning.specs.SoFar.{called, recorded}
use Rattle.build_meaning.specs.Walk.{Body, Outcome}
use Rattle.task_trait.specs.declared.tools.ToolAnswer.{ToolAnswer}
use Rattle.task_trait.specs.declared.tools.ToolInput.{ToolInput}
use Rattle.target_body.specs.Bodies.{body_by, buckets_by}
use Rattle.target_body.specs.Left.{buckets_frames, buckets_left, left, waiting_run}
use Rattle.target_body.specs.Moments.{Moment, Plays, done_at, moment, player, reached_by, state_at}
use Rattle.target_body.specs.Pieces.{Chooser}
use Rattle.target_body.specs.Played.{Player, reached_then}
use Rattle.target_body.specs.Seen.{ended, seen_state}
use Rattle.target_body.specs.Standings.{
  Advances,
  Fits,
  Goes,
  Standing,
  Tells,
  standing_by,
  waits_if,
}
use Rattle.target_body.specs.States.{Run, State, Stopped, begun, outcome_of}
use Rattle.target_body.specs.Work.{Work, body_of, done, followed_by}
use Rattle.target_body.specs.declared.body.BodyAsk.{BodyAsk}
use Rattle.target_body.specs.declared.body.BodyAsk.TheVariants.{Finished}
use Rattle.target_body.specs.declared.body.Stand.{Stand}
use Rattle.target_body.specs.declared.frames.AtRun.{AtRun}
use Rattle.target_body.specs.declared.state.State.{State as Held}
use Rattle.target_body.specs.declared.steps.Ending.{Ending}
use Rattle.target_body.specs.declared.steps.Ending.TheVariants.{Fine, Faulted, Failed}
use Rattle.target_body.specs.declared.steps.Step.{Step}
use Rattle.target_body.specs.declared.steps.Step.TheVariants.{Over, Waits}
use Rattle.target_body.proofs.Advancing.{Told, advances}
use Rattle.target_body.proofs.Stepping.{plays_then}

-- no record says what the journal was
pub outcome_at : (ending : Ending) (state : Held) (one other : Journal)
    → outcome_of (ended ending (seen_state state one))
    ≡ outcome_of (ended ending (seen_state state other))
outcome_at Fine state one other = refl
outcome_at Faulted state one other = refl
outcome_at Failed state one other = refl

pub told_by : (choose : Chooser) (run : Run) (p : Player) (m : Moment) (step : Step AtRun)
    (ask : BodyAsk) (now : Standing) → Tells choose run m.held step ask now
    → Told (reached_then p (reached_by (buckets_frames choose run) step m)
    (λ end. done (outcome_of end))) m.journal m.tools ask now
told_by choose run p m (Over ending) ask now (told, stands) = (
  refl,
  refl,
  told ∙ ap (λ (outcome : Outcome). Finished (recorded outcome m.held.segments))
      (outcome_at ending m.held [] m.journal),
  stands,
)
told_by choose run p m (Waits at) ask now (told, stands) = (refl, refl, told, stands)

-- the body goes on as the machine does
pub advances_by : (answer : List ℕ → ToolInput → ToolAnswer) (id : RunId) (choose : Chooser)
    (run : Run) (part : State → Work (Result State Stopped)) (before after : Moment)
    (step : Step AtRun) (ask : BodyAsk) (now : Standing)
    → Plays (buckets_frames choose run) (player id answer) part before step after → Tells choose
    run after.held step ask now
    → Advances answer id
    (body_of (followed_by (part (state_at before)) (λ end. done (outcome_of end))))
    before.held.segments before.journal after.journal before.tools after.tools ask now
advances_by answer id choose run part before after step ask now plays tells =
    let p = player id answer in
    advances answer id (followed_by (part (state_at before)) (λ end. done (outcome_of end)))
    before.held.segments before.journal after.journal before.tools after.tools
    (reached_then p (reached_by (buckets_frames choose run) step after)
    (λ end. done (outcome_of end))) ask now
    (plays_then p (part (state_at before)) (λ end. done (outcome_of end)) (done_at before)
    (reached_by (buckets_frames choose run) step after) plays)
    (told_by choose run p after step ask now tells)

-- where it waits, there are requests
pub waits_fits : (keys : List RequestKey) (segments : List Segment)
    (go : List RequestResult → Journal → Body ToolInput ToolAnswer) (results : List RequestResult)
    → Fits (waits_if keys segments go) results → (0 < length keys) × (length results ≡ length keys)
waits_fits [] segments go results fits = absurd fits
waits_fits (key ∷ keys) segments go results fits = (omega arith, fits)

pub waits_goes : (answer : List ℕ → ToolInput → ToolAnswer) (id : RunId)
    (whole : Scope → Journal → Body ToolInput ToolAnswer) (keys : List RequestKey)
    (segments : List Segment) (go : List RequestResult → Journal → Body ToolInput ToolAnswer)
    (results : List RequestResult) (before after : Journal)
    (tools tools_then : List (List ℕ × ToolInput)) (ask : BodyAsk) (now : Standing)
    → 0 < length keys
    → Advances answer id (go results before) (segments ++ called keys results) before after
    tools tools_then ask now
    → Goes answer id whole (waits_if keys segments go) results before after tools tools_then ask now
waits_goes answer id whole [] segments go results before after tools tools_then ask now some
    advances = tt
waits_goes answer id whole (key ∷ keys) segments go results before after tools tools_then ask now
    some advances = advances

module _ {E : Type 0} (answer : List ℕ → ToolInput → ToolAnswer) (id : RunId) (choose : Chooser)
    (run : Run) (journal : Journal) (tools : List (List ℕ × ToolInput)) (after : Moment)
    (step : Step AtRun) where
  -- at the beginning of a run
  pub all_begun : (scope : Scope) (held : Held) (r : Result (BodyAsk × Stand) E)
      → seen_state held journal ≡ begun scope journal → held.segments ≡ []
      → Plays (buckets_frames choose run) (player id answer) (buckets_by choose run scope)
      (moment held journal tools) step after
      → IfOk r (λ r. (choose : Chooser) (run : Run) → Tells choose run after.held step r.0
      (standing_by choose run r.1))
      → IfOk r (λ r. Advances answer id (body_by choose run scope journal) [] journal after.journal
      tools after.tools r.0 (standing_by choose run r.1))
  all_begun scope held (Ok r) seen none plays tells =
      let P : State → List Segment → Type 0 =
      λ s segments. Advances answer id
      (body_of (followed_by (buckets_by choose run scope s) (λ end. done (outcome_of end))))
      segments journal after.journal tools after.tools r.0 (standing_by choose run r.1) in
      subst (λ (s : State). P s []) seen
      (subst (λ (segments : List Segment). P (seen_state held journal) segments) none
      (advances_by answer id choose run (buckets_by choose run scope) (moment held journal tools)
      after step r.0 (standing_by choose run r.1) plays (tells choose run)))
  all_begun scope held (Err error) seen none plays tells = tt

  -- and when results have come
  pub all_resumed : (at : AtRun) (keys : List RequestKey)
      (results given : List RequestResult) (held added : Held)
      (r : Result (BodyAsk × Stand) E)
      → added ≡ record held { segments = held.segments ++ called keys given }
      → keys ≡ waiting_run at → given ≡ results
      → Plays (buckets_frames choose run) (player id answer) (λ s. buckets_left choose run at s
      results journal) (moment added journal tools) step after
      → IfOk r (λ r. (choose : Chooser) (run : Run) → Tells choose run after.held step r.0
      (standing_by choose run r.1))
      → IfOk r (λ r. Advances answer id
      (body_of (left choose run at (seen_state held journal) results journal))
      (held.segments ++ called (waiting_run at) results) journal after.journal tools after.tools
      r.0 (standing_by choose run r.1))
  all_resumed at keys results given held added (Ok r) added_so keys_so given_so plays tells =
      let P : Held → Type 0 =
      λ h. Advances answer id
      (body_of (left choose run at (seen_state h journal) results journal)) h.segments journal
      after.journal tools after.tools r.0 (standing_by choose run r.1) in
      let Q : List RequestKey → List RequestResult
      → Type 0 = λ keys given. P (record held { segments = held.segments ++ called keys given }) in
      subst (λ (given : List RequestResult). Q (waiting_run at) given) given_so
      (subst (λ (keys : List RequestKey). Q keys given) keys_so
      (subst P added_so
      (advances_by answer id choose run (λ s. buckets_left choose run at s results journal)
      (moment added journal tools) after step r.0 (standing_by choose run r.1) plays
      (tells choose run))))
  all_resumed at keys results given held added (Err error) added_so keys_so given_so plays tells =
      tt

pub all_gone : {E : Type 0} (answer : List ℕ → ToolInput → ToolAnswer) (id : RunId)
    (choose : Chooser) (run : Run) (keys : List RequestKey) (segments : List Segment)
    (go : List RequestResult → Journal → Body ToolInput ToolAnswer)
    (results : List RequestResult) (before after : Journal)
    (tools tools_then : List (List ℕ × ToolInput)) (r : Result (BodyAsk × Stand) E)
    → Fits (waits_if keys segments go) results
    → IfOk r (λ r. Advances answer id (go results before) (segments ++ called keys results) before
    after tools tools_then r.0 (standing_by choose run r.1))
    → IfOk r (λ r. Goes answer id (body_by choose run) (waits_if keys segments go) results before
    after tools tools_then r.0 (standing_by choose run r.1))
all_gone answer id choose run keys segments go results before after tools tools_then (Ok r) fits
    advances =
    waits_goes answer id (body_by choose run) keys segments go results before after tools
    tools_then r.0 (standing_by choose run r.1) (waits_fits keys segments go results fits).0
    advances
all_gone answer id choose run keys segments go results before after tools tools_then (Err error)
    fits advances = tt
