-- The run of a target: its body, bucket by bucket. (Target element; MSBuild batching)
use Rattle.std.specs.Prelude.{List, Result}
use Rattle.msb_values.specs.declared.mode.Mode.{Mode}
use Rattle.msb_values.specs.declared.scope.Scope.{Scope}
use Rattle.msb_expand.specs.declared.lens.Bucket.{Bucket}
use Rattle.result_cache.specs.Journal.{Journal}
use Rattle.build_meaning.specs.Walk.{Body, Outcome}
use Rattle.task_trait.specs.declared.tools.ToolAnswer.{ToolAnswer}
use Rattle.task_trait.specs.declared.tools.ToolInput.{ToolInput}
use Rattle.target_texts.specs.Batched.{target_buckets}
use Rattle.target_body.specs.Work.{Work, done, followed_by, unless_stopped, each_in_turn, body_of}
use Rattle.target_body.specs.States.{Run, State, Stopped, begun, or_stop, outcome_of, context_in}
use Rattle.target_body.specs.Pieces.{Chooser, bucket_by, choice_of, or_failed}

abbrev pub buckets_at : Run → State → Result (List Bucket) Stopped
buckets_at run s = or_stop s (target_buckets (context_in run s s.scope) run.target.element)

-- bucket by bucket, or the one word `failed` where there are none to form
abbrev pub buckets_by : Chooser → Run → Scope → State → Work (Result State Stopped)
buckets_by choose run scope s =
    unless_stopped (or_failed (buckets_at run s))
    (λ found. each_in_turn (bucket_by choose run scope) found s)

-- the run of a target in a scope and by a journal, to what its record says
abbrev pub work_by : Chooser → Run → Scope → Journal → Work Outcome
work_by choose run scope journal =
    followed_by (buckets_by choose run scope (begun scope journal)) (λ end. done (outcome_of end))

abbrev pub body_by : Chooser → Run → Scope → Journal → Body ToolInput ToolAnswer
body_by choose run scope journal = body_of (work_by choose run scope journal)

-- the body of a run, as a build decides in its mode
abbrev pub body : Mode → Run → Scope → Journal → Body ToolInput ToolAnswer
body mode run = body_by (choice_of mode run) run
