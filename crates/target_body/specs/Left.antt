-- Where the run of a target waits for the results of calls, and what is left of it then: what the
-- machine's stack stands for. (MSBuild task)
use Rattle.std.specs.Prelude.{◌≡◌, ℕ, suc, List, ◌++◌, length, ◌-◌, drop, Bool, true, false, Result}
use Rattle.msb_laws.specs.Results.{map_ok}
use Rattle.msb_expand.specs.declared.lens.Bucket.{Bucket}
use Rattle.result_cache.specs.Journal.{Journal}
use Rattle.result_cache.specs.declared.request.RequestKey.{RequestKey}
use Rattle.result_cache.specs.declared.request.RequestResult.{RequestResult}
use Rattle.build_meaning.specs.Walk.{Outcome}
use Rattle.build_world.specs.Elements.{At, children_of}
use Rattle.task_msbuild.specs.Gathered.{gathered}
use Rattle.task_msbuild.specs.Plans.{next_calls}
use Rattle.target_incremental.specs.declared.decision.Choice.{Choice}
use Rattle.task_msbuild.specs.declared.plans.Plan.{Plan}
use Rattle.target_body.specs.Work.{Work, done, calls, followed_by, and_then, each_in_turn}
use Rattle.target_body.specs.States.{
  Run,
  State,
  Stopped,
  outcome_of,
  settled,
  with_decision,
  with_journal,
}
use Rattle.target_body.specs.Answers.{make_calls}
use Rattle.target_body.specs.Tasks.{answered_to, call, then_inferred}
use Rattle.target_body.specs.Children.{child}
use Rattle.target_body.specs.Returned.{returned}
use Rattle.target_body.specs.Pieces.{Chooser, bucket_by, or_failed, word_of}
use Rattle.target_body.specs.Seen.{child_at}
use Rattle.target_body.specs.Moments.{Frames}
use Rattle.target_body.specs.declared.frames.AtCall.{AtCall}
use Rattle.target_body.specs.declared.frames.AtTask.{AtTask}
use Rattle.target_body.specs.declared.frames.AtBucket.{AtBucket}
use Rattle.target_body.specs.declared.frames.AtRun.{AtRun}
use Rattle.target_body.specs.declared.steps.Step.{Step}
use Rattle.target_body.specs.declared.steps.Step.TheVariants.{Over, Waits}

-- the requests whose results are waited for
abbrev pub waiting : AtCall → List RequestKey
waiting c = next_calls c.plan c.results

-- the calls that are left when these results have come
abbrev pub results_left : AtCall → State → List RequestResult → Journal
    → Work (State × List RequestResult)
results_left c s results journal =
    make_calls (length c.plan.calls - suc (length c.results)) c.plan (c.results ++ results)
    (with_journal journal s)

-- the calls of a plan from the next ones on, when these are the results of the first ones
abbrev pub remaining_calls : Plan → List RequestResult → State → Work (State × List RequestResult)
remaining_calls plan results s = make_calls (length plan.calls - length results) plan results s

-- of a bucket of a task element
abbrev pub call_left : Run → At → Bool → Bucket → AtCall → State → List RequestResult → Journal
    → Work (Result State Stopped)
call_left run e gives bucket c s results journal =
    followed_by (results_left c s results journal)
    (λ x. done (answered_to run e gives bucket c.on_error (x.0, gathered c.plan x.1)))

-- and the buckets of the element that come later
abbrev pub calls_left : Run → AtTask → State → List RequestResult → Journal
    → Work (Result State Stopped)
calls_left run t s results journal =
    let e : At = child_at run t.child in
    and_then (call_left run e t.gives t.bucket t.call s results journal)
    (λ s. each_in_turn (call run e t.gives) t.later s)

-- and where the Outputs of the element are inferred, these
abbrev pub inferred_unless : Bool → Run → At → Result State Stopped → Result State Stopped
inferred_unless true run e end = end
inferred_unless false run e end = then_inferred run e end

abbrev pub child_left : Run → AtTask → State → List RequestResult → Journal
    → Work (Result State Stopped)
child_left run t s results journal =
    followed_by (calls_left run t s results journal)
    (λ end. done (map_ok settled (inferred_unless t.gives run (child_at run t.child) end)))

-- and the children that come later
abbrev pub children_left : Run → Choice → AtTask → State → List RequestResult → Journal
    → Work (Result State Stopped)
children_left run choice t s results journal =
    and_then (child_left run t s results journal)
    (λ s. each_in_turn (child run choice) (drop (suc t.child) (children_of run.target.element))
    s)

-- and what the bucket of the target returns
abbrev pub bucket_left : Run → AtBucket → State → List RequestResult → Journal
    → Work (Result State Stopped)
bucket_left run b s results journal =
    followed_by
    (and_then (children_left run b.choice b.task s results journal)
    (λ s. done (map_ok (with_decision (word_of b.choice b.items)) (returned run b.bucket s))))
    (λ end. done (or_failed end))

-- and the buckets of the target that come later
abbrev pub buckets_left : Chooser → Run → AtRun → State → List RequestResult → Journal →
    Work (Result State Stopped)
buckets_left choose run r s results journal =
    and_then (bucket_left run r.at s results journal)
    (λ s. each_in_turn (bucket_by choose run r.found) r.later s)

abbrev pub left : Chooser → Run → AtRun → State → List RequestResult → Journal → Work Outcome
left choose run r s results journal =
    followed_by (buckets_left choose run r s results journal) (λ end. done (outcome_of end))

abbrev pub call_frames : Run → At → Bool → Bucket → Frames AtCall
call_frames run e gives bucket = record { keys = waiting; left = call_left run e gives bucket }

abbrev pub waiting_task : AtTask → List RequestKey
waiting_task t = waiting t.call

abbrev pub waiting_bucket : AtBucket → List RequestKey
waiting_bucket b = waiting b.task.call

abbrev pub waiting_run : AtRun → List RequestKey
waiting_run r = waiting r.at.task.call

abbrev pub calls_frames : Run → Frames AtTask
calls_frames run = record { keys = waiting_task; left = calls_left run }

abbrev pub child_frames : Run → Frames AtTask
child_frames run = record { keys = waiting_task; left = child_left run }

abbrev pub children_frames : Run → Choice → Frames AtTask
children_frames run choice = record { keys = waiting_task; left = children_left run choice }

abbrev pub bucket_frames : Run → Frames AtBucket
bucket_frames run = record { keys = waiting_bucket; left = bucket_left run }

abbrev pub buckets_frames : Chooser → Run → Frames AtRun
buckets_frames choose run = record { keys = waiting_run; left = buckets_left choose run }

-- a step of the task element at this place among the children, whose Outputs are its own or not
abbrev pub IsOfChild : ℕ → Step AtTask → Type 0
IsOfChild child (Over ending) = Unit {0}
IsOfChild child (Waits t) = t.child ≡ child

abbrev pub IsOfTask : ℕ → Bool → Step AtTask → Type 0
IsOfTask child gives (Over ending) = Unit {0}
IsOfTask child gives (Waits t) = (t.child ≡ child) × (t.gives ≡ gives)
