-- What a task has done, act by act, and the limits of what it may write. (MSBuild tasks)
use Rattle.std.specs.Prelude.{
  ◌≡◌,
  ℕ,
  ◌+◌,
  Bool,
  true,
  false,
  ◌&&◌,
  nat_le,
  List,
  [],
  ◌∷◌,
  ◌++◌,
  length,
  Result,
  Ok,
  Err,
  if◌then◌else◌,
}
use Rattle.msb_laws.specs.Results.{fold_ok}
use Rattle.msb_laws.specs.Words.{Text, Name}
use Rattle.msb_values.specs.declared.act.Act.{Act}
use Rattle.msb_values.specs.declared.act.Act.TheVariants.{Write, Remove}
use Rattle.msb_values.specs.declared.note.Note.TheVariants.{Fail}
use Rattle.msb_values.specs.declared.put.Put.{Put}
use Rattle.task_trait.specs.Answers.{UnlessMemory}
use Rattle.task_trait.specs.Failures.{failure_text}
use Rattle.task_trait.specs.Tools.{act_size}
use Rattle.task_trait.specs.declared.failures.Failure.{Failure}
use Rattle.task_trait.specs.declared.failures.Failure.TheVariants.{TooLarge}
use Rattle.task_trait.specs.declared.tools.Param.{Param}
use Rattle.task_trait.specs.declared.tools.TaskOutput.{TaskOutput}
use Rattle.task_kit.specs.declared.progress.TaskProgress.{TaskProgress}

-- a file has at most 16 MiB, and a run writes at most 64 MiB
abbrev pub has_room : ℕ → ℕ → Bool
has_room written size = nat_le size 16777216 && nat_le (written + size) 67108864

-- nothing yet, in a run that has written this much before
abbrev pub started : ℕ → TaskProgress
started written = record { written = written; acts = []; items = [] }

-- an act more
abbrev pub added : Act → TaskProgress → TaskProgress
added act progress = record {
  written = progress.written + act_size act;
  acts = progress.acts ++ act ∷ [];
  items = progress.items;
}

-- a removal always has room
abbrev pub fits : Act → ℕ → Bool
fits (Write put) written = has_room written (length put.bytes)
fits (Remove path) written = true

-- an act more, unless it writes too much; its path is told as the task was handed it
abbrev pub with_act : Text → Act → TaskProgress → Result TaskProgress Failure
with_act text act progress =
    if fits act progress.written then Ok (added act progress) else Err (TooLarge text)

abbrev pub with_file : Text → Put → TaskProgress → Result TaskProgress Failure
with_file text put progress = with_act text (Write put) progress

-- an act that fails leaves what was made before it
abbrev pub kept_by : TaskProgress → Result TaskProgress Failure
    → Result TaskProgress (TaskProgress × Failure)
kept_by progress (Ok next) = Ok next
kept_by progress (Err failure) = Err (progress, failure)

-- acts in turn, up to the first that fails
abbrev pub made_by : {X : Type 0} → (TaskProgress → X → Result TaskProgress Failure) → TaskProgress
    → List X
    → Result TaskProgress (TaskProgress × Failure)
made_by act progress xs = fold_ok (λ so_far x. kept_by so_far (act so_far x)) progress xs

-- what was made, all of it or up to a failure
abbrev pub made_in : Result TaskProgress (TaskProgress × Failure) → TaskProgress
made_in (Ok progress) = progress
made_in (Err stop) = stop.0

-- the output of a task that does what it is to do
abbrev pub succeeded : List Param → TaskOutput
succeeded outputs = record { ok = true; outputs = outputs; acts = []; notes = [] }

-- an output with what was done to files; a failure makes the task fail, with its note behind the
-- others
abbrev pub output_with : Name → TaskOutput → Result TaskProgress (TaskProgress × Failure)
    → TaskOutput
output_with task output (Ok progress) =
    record { ok = output.ok; outputs = output.outputs; acts = progress.acts; notes = output.notes }
output_with task output (Err stop) =
    record {
      ok = false;
      outputs = output.outputs;
      acts = stop.0.acts;
      notes = output.notes ++ Fail (failure_text task stop.1) ∷ [];
    }

-- one act of the code, and acts in turn: what is made then is what the answer says, but for want of
-- memory
abbrev pub Acts : {T : Type 0} → Result T Failure → TaskProgress → TaskProgress
    → Result TaskProgress Failure → Type 0
Acts (Ok value) before now answer = answer ≡ Ok now
Acts (Err failure) before now answer = UnlessMemory failure
    ((answer ≡ Err failure) × (now ≡ before))

abbrev pub Makes : {T : Type 0} → Result T Failure → TaskProgress
    → Result TaskProgress (TaskProgress × Failure) → Type 0
Makes (Ok value) now answer = answer ≡ Ok now
Makes (Err failure) now answer = UnlessMemory failure (answer ≡ Err (now, failure))
