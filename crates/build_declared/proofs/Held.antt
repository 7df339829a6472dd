-- An answer to a task leaves a state as it is, but for the journal and what was written.
use Rattle.std.proofs.Common.{
  ◌≡◌,
  ℕ,
  Bool,
  true,
  false,
  List,
  [],
  ◌∷◌,
  length,
  Option,
  None,
  Some,
  refl,
  ap,
  sym,
  subst,
}
use Rattle.std.specs.Prelude.{Result, Ok, Err, codes}
use Rattle.std.specs.Str.{bytes_eq}
use Rattle.msb_values.specs.declared.act.Act.{Act}
use Rattle.msb_expand.specs.Reserved.{folder_of}
use Rattle.result_cache.specs.declared.run.RunId.{RunId}
use Rattle.result_cache.specs.Journal.{Journal, add, acted}
use Rattle.build_world.specs.Elements.{At}
use Rattle.task_trait.specs.Failures.{failed as failed_output}
use Rattle.task_trait.specs.declared.failures.Failure.{Failure}
use Rattle.task_trait.specs.declared.failures.Failure.TheVariants.{UnknownTask}
use Rattle.task_trait.specs.declared.tools.Param.{Param}
use Rattle.task_trait.specs.declared.tools.TaskOutput.{TaskOutput}
use Rattle.task_trait.specs.declared.tools.ToolAnswer.{ToolAnswer}
use Rattle.task_trait.specs.declared.tools.ToolAnswer.TheVariants.{Unknown, Made as MadeBy}
use Rattle.task_trait.specs.declared.tools.ToolInput.{ToolInput}
use Rattle.task_kit.specs.Foreign.{foreign_input, foreign_output}
use Rattle.task_kit.specs.Tasks.{answer}
use Rattle.target_texts.specs.Inferred.{task_of}
use Rattle.target_body.specs.Work.{Work, done}
use Rattle.target_body.specs.States.{Run, State, with_act, view_of}
use Rattle.target_body.specs.Answers.{all_acted, given, msbuild, tool, not_built_in, answered_by}
use Rattle.target_body.specs.Tasks.{answered_if}
use Rattle.build_declared.specs.Ends.{End, end_of}
use Rattle.build_declared.proofs.Alones.{some-same, end-bound, msbuild-end, uncalled}

-- a state without its journal and what was written
abbrev pub bare : State → State
bare s = record s { journal = []; written = 0 }

module _ (tools : List ℕ → ToolInput → ToolAnswer) (id : RunId) (run : Run) where
  abbrev Leaves : State → Work (State × TaskOutput) → Type 0
  Leaves s v = (j : Journal) (ps : List Act) (E : End (State × TaskOutput)) →
      end_of tools id v j ps ≡ Some E → bare E.value.0 ≡ bare s

  acted-leaves : (acts : List Act) (s : State) (j : Journal) (ps : List Act) (E : End State) →
      end_of tools id (all_acted acts s) j ps ≡ Some E → bare E.value ≡ bare s
  acted-leaves [] s j ps E e =
      let same : record { value = s; journal = j; acts = ps } ≡ E =
      some-same (record { value = s; journal = j; acts = ps }) E e in
      ap (λ (z : End State). bare z.value) (sym same)
  acted-leaves (act ∷ acts) s j ps E e =
      let n : Journal = add j (acted id (length ps) act) in
      acted-leaves acts (with_act act n s) n (act ∷ ps) E e

  done-leaves : {R : Type 0} (get : R → State) (s : State) (r : R) → bare (get r) ≡ bare s →
      (j : Journal) (ps : List Act) (E : End R) → end_of tools id (done r) j ps ≡ Some E →
      bare (get E.value) ≡ bare s
  done-leaves get s r h j ps E e =
      let same : record { value = r; journal = j; acts = ps } ≡ E =
      some-same (record { value = r; journal = j; acts = ps }) E e in
      subst (λ (z : End _). bare (get z.value) ≡ bare s) same h

  given-leaves : (output : TaskOutput) (s : State) → Leaves s (given s output)
  given-leaves output s j ps E e =
      let x = end-bound tools id (all_acted output.acts s)
      (λ after. done (after, output)) j ps E e in
      done-leaves (λ (r : State × TaskOutput). r.0) s (x.0.value, output)
      (acted-leaves output.acts s j ps x.0 x.1) x.0.journal x.0.acts E x.2

  msbuild-leaves : (params : List Param) (s : State) → Leaves s (msbuild run s params)
  msbuild-leaves params s j ps E e =
      done-leaves (λ (r : State × TaskOutput). r.0) s (s, uncalled run params) refl j ps E
      (msbuild-end tools id run s params j ps E e)

  tool-leaves : (name : List ℕ) (s : State) (x : Result ToolInput Failure) →
      Leaves s (tool name s x)
  tool-leaves name s (Ok input) = λ j ps E e. given-leaves
      (foreign_output name s.written (tools name input)) s j ps E e
  tool-leaves name s (Err failure) = done-leaves (λ (r : State × TaskOutput). r.0) s (
    s,
    failed_output name failure,
  ) refl

  built-leaves : (b : Bool) (name : List ℕ) (params : List Param) (s : State) →
      Leaves s (not_built_in b run s name params)
  built-leaves true name params s = msbuild-leaves params s
  built-leaves false name params s = tool-leaves name s (foreign_input (folder_of run.instance.path)
      (view_of run s) params)

  by-answer : (x : ToolAnswer) (name : List ℕ) (params : List Param) (s : State) →
      Leaves s (answered_by x run s name params)
  by-answer (MadeBy output) name params s = given-leaves output s
  by-answer Unknown name params s = built-leaves (bytes_eq name (codes "msbuild")) name params s

  pub if-leaves : (name : Option (List ℕ)) (e : At) (params : List Param) (s : State) →
      Leaves s (answered_if name run s e params)
  if-leaves (Some name) e params s = by-answer (answer name (folder_of run.instance.path)
      (view_of run s) params s.written) name params s
  if-leaves None e params s = done-leaves (λ (r : State × TaskOutput). r.0) s (
    s,
    failed_output (task_of e) UnknownTask,
  ) refl
