-- A bucket of a target: what is decided of it, its children, and what it returns. (Target element;
-- Incremental builds)
use Rattle.std.specs.Prelude.{
  ℕ,
  List,
  [],
  ◌∷◌,
  ◌++◌,
  length,
  Option,
  Some,
  None,
  option_map,
  Result,
  Ok,
  Err,
  codes,
}
use Rattle.msb_laws.specs.Results.{map_ok}
use Rattle.msb_laws.specs.Words.{Name}
use Rattle.msb_values.specs.declared.item.Item.{Item}
use Rattle.msb_values.specs.declared.mode.Mode.{Mode}
use Rattle.msb_values.specs.declared.scope.Scope.{Scope}
use Rattle.msb_expand.specs.declared.lens.Bucket.{Bucket}
use Rattle.build_world.specs.Elements.{attribute_of}
use Rattle.build_world.specs.declared.fault.EvalFault.{EvalFault}
use Rattle.result_cache.specs.declared.record.Decision.{Decision}
use Rattle.result_cache.specs.declared.record.Decision.TheVariants.{
  Ran,
  UpToDate,
  NothingToDo,
  Part as InPart,
  Failed,
}
use Rattle.target_incremental.specs.Decisions.{decision}
use Rattle.target_incremental.specs.declared.decision.Choice.{Choice}
use Rattle.target_incremental.specs.declared.decision.Choice.TheVariants.{
  Run as RunAll,
  Skip,
  Nothing,
  Part,
}
use Rattle.target_body.specs.Work.{Work, done, followed_by, unless_stopped, and_then}
use Rattle.target_body.specs.States.{
  Run,
  State,
  Stopped,
  faulted,
  failed,
  or_stop,
  entered,
  on_part,
  with_decision,
  view_of,
  context_in,
}
use Rattle.target_body.specs.Children.{children}
use Rattle.target_texts.specs.Lists.{Lists, lists_by}
use Rattle.target_texts.specs.Returned.{in_target}
use Rattle.target_body.specs.Returned.{returned}

-- the lists of a target that has both Inputs and Outputs
abbrev pub lists_at : Run → Bucket → State → Result (Option Lists) EvalFault
lists_at run bucket s =
    let e = run.target.element in
    lists_by (in_target (context_in run s s.scope) bucket) e (attribute_of (codes "Inputs") e)
    (attribute_of (codes "Outputs") e)

-- what is chosen for a bucket of a target that has Inputs and Outputs, by its lists and the state
-- in which it begins
abbrev pub Chooser : Type 0
Chooser = Lists → State → Choice

-- what a build decides by the lists, in its mode
abbrev pub choice_of : Mode → Run → Chooser
choice_of mode run lists s =
    decision (view_of run s) lists.inputs lists.outputs (option_map (λ typed. typed.1) lists.items)
    mode

-- the state where the tasks of a bucket begin: they see of the type its items that are out of date
abbrev pub on_old : Option (Name × List Item) → List Item → State → State
on_old None old s = s
on_old (Some typed) old s = on_part typed.0 old s

-- the children under what is decided: where there is nothing to do they are passed over
abbrev pub treated : Run → Choice → Option (Name × List Item) → State
    → Work (Result State Stopped)
treated run RunAll items s = children run RunAll s
treated run Skip items s = children run Skip s
treated run Nothing items s = done (Ok s)
treated run (Part old) items s = children run (Part old) (on_old items old s)

-- the word for it in the record
abbrev pub number_of : Option (Name × List Item) → ℕ
number_of None = 0
number_of (Some typed) = length typed.1

abbrev pub word_of : Choice → Option (Name × List Item) → Decision
word_of RunAll items = Ran
word_of Skip items = UpToDate
word_of Nothing items = NothingToDo
word_of (Part old) items = InPart (length old) (number_of items)

-- the children, then the items that are returned, and the word
abbrev pub decided : Run → Bucket → Choice → Option (Name × List Item) → State
    → Work (Result State Stopped)
decided run bucket choice items s =
    and_then (treated run choice items s)
    (λ end. done (map_ok (with_decision (word_of choice items)) (returned run bucket end)))

-- A bucket with its lists, from the state in which it begins. Where the target has Inputs and
-- Outputs it is done as is chosen; a bucket of any other target runs.
abbrev pub chosen_or_run : Chooser → Run → Bucket → State → Option Lists →
    Work (Result State Stopped)
chosen_or_run choose run bucket s None = decided run bucket RunAll None s
chosen_or_run choose run bucket s (Some lists) = decided run bucket (choose lists s) lists.items s

-- the word for a bucket in which the run has stopped
abbrev pub as_failed : Stopped → Stopped
as_failed (faulted p) = faulted (record p { decisions = p.decisions ++ Failed ∷ [] })
as_failed (failed s) = failed (with_decision Failed s)

abbrev pub or_failed : {X : Type 0} → Result X Stopped → Result X Stopped
or_failed (Ok x) = Ok x
or_failed (Err stop) = Err (as_failed stop)

-- a bucket that has begun
abbrev pub in_bucket : Chooser → Run → Bucket → State → Work (Result State Stopped)
in_bucket choose run bucket s =
    followed_by
    (unless_stopped (or_stop s (lists_at run bucket s)) (chosen_or_run choose run bucket s))
    (λ end. done (or_failed end))

-- it sees the scope as the target found it
abbrev pub bucket_by : Chooser → Run → Scope → Bucket → State → Work (Result State Stopped)
bucket_by choose run scope bucket s = in_bucket choose run bucket (entered scope bucket s)
