-- Parts of a run that call nothing, one after the other.
use Rattle.std.proofs.Common.{
  ◌≡◌,
  ◌∙◌,
  ℕ,
  zero,
  suc,
  List,
  [],
  ◌∷◌,
  ◌++◌,
  length,
  Some,
  refl,
  ap,
  subst,
  append-nil,
}
use Rattle.std.specs.Prelude.{Result, Ok, Err}
use Rattle.msb_values.specs.declared.note.Note.{Note}
use Rattle.msb_values.specs.declared.act.Act.{Act}
use Rattle.msb_expand.specs.Reserved.{folder_of}
use Rattle.result_cache.specs.Lists.{In}
use Rattle.result_cache.specs.declared.request.RequestKey.{RequestKey}
use Rattle.result_cache.specs.declared.request.RequestResult.{RequestResult}
use Rattle.result_cache.specs.declared.run.RunId.{RunId}
use Rattle.result_cache.specs.Journal.{Journal, acted, add}
use Rattle.build_meaning.specs.Walk.{Outcome}
use Rattle.build_incremental.specs.Alone.{alone}
use Rattle.task_trait.specs.declared.tools.Param.{Param}
use Rattle.task_trait.specs.declared.tools.TaskOutput.{TaskOutput}
use Rattle.task_trait.specs.declared.tools.ToolAnswer.{ToolAnswer}
use Rattle.task_trait.specs.declared.tools.ToolInput.{ToolInput}
use Rattle.task_msbuild.specs.Gathered.{gathered}
use Rattle.task_msbuild.specs.Plans.{next_calls, plan_of}
use Rattle.task_msbuild.specs.declared.plans.Plan.{Plan}
use Rattle.target_body.specs.Answers.{call_at_once, make_calls, msbuild}
use Rattle.target_body.specs.Work.{
  Work,
  done,
  does,
  uses,
  calls,
  followed_by,
  unless_stopped,
  and_then,
  each_in_turn,
  body_of,
}
use Rattle.target_body.specs.States.{Run, State, Stopped}
use Rattle.build_declared.proofs.PartEnds.{progress_in}
use Rattle.build_declared.specs.Ends.{End, end_of}

pub some-same : {X : Type 0} (x y : X) → Some x ≡ Some y → x ≡ y
some-same x y h = cc

-- what an MSBuild task gives that calls nothing
abbrev pub uncalled : Run → List Param → TaskOutput
uncalled run params =
    gathered (plan_of run.files (folder_of run.instance.path) run.instance.globals params) []

-- the end of a part with another value
abbrev pub with_value : {R S : Type 0} → (R → S) → End R → End S
with_value f E = record { value = f E.value; journal = E.journal; acts = E.acts }

module _ (tools : List ℕ → ToolInput → ToolAnswer) (id : RunId) where
  -- a part and the next one
  pub end-bound : {R S : Type 0} (v : Work R) (next : R → Work S) (j : Journal) (ps : List Act)
      (E : End S) → end_of tools id (followed_by v next) j ps ≡ Some E →
      (F : End R) × (end_of tools id v j ps ≡ Some F)
      × (end_of tools id (next F.value) F.journal F.acts ≡ Some E)
  end-bound (done x) next j ps E h = (record { value = x; journal = j; acts = ps }, refl, h)
  end-bound (does act go) next j ps E h = let n : Journal = add j (acted id (length ps) act) in
      end-bound (go n) next n (act ∷ ps) E h
  end-bound (uses name input go) next j ps E h = end-bound (go (tools name input)) next j ps E h
  end-bound (calls key keys go) next j ps E h = absurd (cc)

  -- a part whose end is looked at
  pub end-mapped : {R S : Type 0} (v : Work R) (f : R → S) (j : Journal) (ps : List Act)
      (E : End S) → end_of tools id (followed_by v (λ x. done (f x))) j ps ≡ Some E →
      (F : End R) × (end_of tools id v j ps ≡ Some F) × (with_value f F ≡ E)
  end-mapped v f j ps E h =
      let x = end-bound v (λ x. done (f x)) j ps E h in
      (x.0, x.1, some-same (with_value f x.0) E x.2)

  pub bound-end : {R S : Type 0} (v : Work R) (next : R → Work S) (j : Journal) (ps : List Act)
      (F : End R) → end_of tools id v j ps ≡ Some F →
      end_of tools id (followed_by v next) j ps ≡ end_of tools id (next F.value) F.journal F.acts
  bound-end (done x) next j ps F h =
      let e : record { value = x; journal = j; acts = ps } ≡ F =
      some-same (record { value = x; journal = j; acts = ps }) F h in
      ap (λ (z : End _). end_of tools id (next z.value) z.journal z.acts) e
  bound-end (does act go) next j ps F h = let n : Journal = add j (acted id (length ps) act) in
      bound-end (go n) next n (act ∷ ps) F h
  bound-end (uses name input go) next j ps F h = bound-end (go (tools name input)) next j ps F h
  bound-end (calls key keys go) next j ps F h = absurd (cc)

  -- calls that are over have called nothing
  none-called : (rounds : ℕ) (plan : Plan) (answers : List RequestResult) (s : State) (j : Journal)
      (ps : List Act) (E : End (State × List RequestResult)) →
      end_of tools id (make_calls rounds plan answers s) j ps ≡ Some E →
      make_calls rounds plan answers s ≡ done (s, answers)
  none-called zero plan answers s j ps E e = refl
  none-called (suc rounds) plan answers s j ps E e = go (next_calls plan answers)
      (λ more h. none-called rounds plan more s j ps E h) e
    where
      go : (keys : List RequestKey) → ((more : List RequestResult) →
          end_of tools id (make_calls rounds plan more s) j ps ≡ Some E →
          make_calls rounds plan more s ≡ done (s, more)) →
          end_of tools id (followed_by (call_at_once keys s)
          (λ x. make_calls rounds plan (answers ++ x.1) x.0)) j ps ≡ Some E →
          followed_by (call_at_once keys s) (λ x. make_calls rounds plan (answers ++ x.1) x.0)
          ≡ done (s, answers)
      go [] rest h = rest (answers ++ []) h
          ∙ ap (λ (results : List RequestResult). done (s, results)) (append-nil answers)
      go (key ∷ keys) rest h = absurd (cc)

  pub msbuild-end : (run : Run) (s : State) (params : List Param) (j : Journal) (ps : List Act)
      (E : End (State × TaskOutput)) → end_of tools id (msbuild run s params) j ps ≡ Some E →
      end_of tools id (done (s, uncalled run params)) j ps ≡ Some E
  msbuild-end run s params j ps E e =
      let plan : Plan = plan_of run.files (folder_of run.instance.path) run.instance.globals params
      in
      let x = end-bound (make_calls (length plan.calls) plan [] s)
      (λ x. done (x.0, gathered plan x.1)) j ps E e in
      subst (λ (v : Work (State × List RequestResult)).
      end_of tools id (followed_by v (λ x. done (x.0, gathered plan x.1))) j ps ≡ Some E)
      (none-called (length plan.calls) plan [] s j ps x.0 x.1) e

  -- as the body of a run
  pub alone-end : (v : Work Outcome) (j : Journal) (ps : List Act) (E : End Outcome) →
      end_of tools id v j ps ≡ Some E → alone tools id (body_of v) j ps ≡ Some (E.value, E.acts)
  alone-end (done x) j ps E h =
      let e : record { value = x; journal = j; acts = ps } ≡ E =
      some-same (record { value = x; journal = j; acts = ps }) E h in
      ap (λ (z : End Outcome). Some (z.value, z.acts)) e
  alone-end (does act go) j ps E h = let n : Journal = add j (acted id (length ps) act) in
      alone-end (go n) n (act ∷ ps) E h
  alone-end (uses name input go) j ps E h = alone-end (go (tools name input)) j ps E h
  alone-end (calls key keys go) j ps E h = absurd (cc)

  -- notes stay
  abbrev pub KeepsNotes : State → Work (Result State Stopped) → Type 0
  KeepsNotes s v = (j : Journal) (ps : List Act) (E : End (Result State Stopped)) →
      end_of tools id v j ps ≡ Some E → (note : Note) → In note s.notes →
      In note (progress_in E.value).notes

  pub keeps-then : (s : State) (v : Work (Result State Stopped)) (next : State →
      Work (Result State Stopped)) → KeepsNotes s v → ((t : State) → KeepsNotes t (next t)) →
      KeepsNotes s (and_then v next)
  keeps-then s v next f g j ps E h note i =
      let x = end-bound v (λ end. unless_stopped end next) j ps E h in
      go x.0.value x.0.journal x.0.acts x.2 (f j ps x.0 x.1 note i)
    where
      go : (r : Result State Stopped) (l : Journal) (qs : List Act) →
          end_of tools id (unless_stopped r next) l qs ≡ Some E → In note (progress_in r).notes →
          In note (progress_in E.value).notes
      go (Ok t) l qs e u = g t l qs E e note u
      go (Err d) l qs e u =
          let same : record { value = Err d; journal = l; acts = qs } ≡ E =
          some-same (record { value = Err d; journal = l; acts = qs }) E e in
          subst (λ (z : End (Result State Stopped)). In note (progress_in z.value).notes) same u

  pub keeps-each : {X : Type 0} (part : X → State → Work (Result State Stopped)) →
      ((x : X) (s : State) → KeepsNotes s (part x s)) → (xs : List X) (s : State) →
      KeepsNotes s (each_in_turn part xs s)
  keeps-each part f [] s = λ j ps E h note i.
      let same : record { value = Ok s; journal = j; acts = ps } ≡ E =
      some-same (record { value = Ok s; journal = j; acts = ps }) E h in
      subst (λ (z : End (Result State Stopped)). In note (progress_in z.value).notes) same i
  keeps-each part f (x ∷ xs) s = keeps-then s (part x s) (each_in_turn part xs) (f x s)
      (keeps-each part f xs)
