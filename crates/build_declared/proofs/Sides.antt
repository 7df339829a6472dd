-- A build and the clean build of the same files go side by side, where the runs of targets with
-- Inputs and Outputs do.
use Rattle.std.proofs.Common.{
  ◌≡◌,
  ℕ,
  Bool,
  true,
  false,
  List,
  Option,
  None,
  Some,
  refl,
  sym,
  ◌∙◌,
  subst,
}
use Rattle.std.specs.Prelude.{Result, Ok, Err, codes}
use Rattle.msb_values.specs.Acts.{act_path}
use Rattle.msb_values.specs.declared.mode.Mode.TheVariants.{Incremental, Clean}
use Rattle.msb_values.specs.declared.act.Act.{Act}
use Rattle.msb_values.specs.declared.scope.Scope.{Scope}
use Rattle.file_store.specs.declared.tree.File.{File}
use Rattle.target_order.specs.Visit.{order}
use Rattle.build_world.specs.Elements.{attribute_of}
use Rattle.build_world.specs.Instances.{Instance, UsedTarget}
use Rattle.build_world.specs.declared.fault.EvalFault.{EvalFault}
use Rattle.result_cache.specs.Lists.{In}
use Rattle.result_cache.specs.Journal.{Journal}
use Rattle.result_cache.specs.declared.run.RunId.{RunId}
use Rattle.result_cache.specs.declared.record.Record.{Record}
use Rattle.result_cache.specs.declared.record.Segment.TheVariants.{File as OnFile}
use Rattle.result_cache.specs.declared.request.RequestKey.{RequestKey}
use Rattle.build_meaning.specs.Walk.{Reply}
use Rattle.build_meaning.specs.World.{World}
use Rattle.build_incremental.specs.Alike.{AlikeJournals}
use Rattle.build_incremental.specs.SideBySide.{
  HasNotActed,
  AlikeRuns,
  step_by_step,
  AlikeWalks,
  SideBySide,
}
use Rattle.build_incremental.proofs.Entries.{none-some}
use Rattle.task_trait.specs.declared.tools.ToolAnswer.{ToolAnswer}
use Rattle.task_trait.specs.declared.tools.ToolInput.{ToolInput}
use Rattle.element_texts.specs.Contexts.{ElementContext}
use Rattle.target_texts.specs.Lists.{Lists, lists_by}
use Rattle.target_texts.specs.Returned.{in_target}
use Rattle.target_body.specs.Bodies.{body}
use Rattle.target_body.specs.States.{Run, context_in, run_at}
use Rattle.target_body.specs.Pieces.{lists_at, choice_of}
use Rattle.request_machine.specs.Requests.{Project, all_targets, target_at, has_no_targets}
use Rattle.request_machine.specs.Walk.{run_of, nothing_ran, Site, walk_unless}
use Rattle.request_machine.specs.Worlds.{body_at, bodies_at, request_by}
use Rattle.build_declared.specs.Written.{bytes_in}
use Rattle.build_declared.specs.Builds.{world_by}
use Rattle.build_declared.specs.Skipped.{TakesLists}
use Rattle.build_declared.proofs.Looks.{looks-same}
use Rattle.build_declared.proofs.SameRuns.{body-twin, ChooseSame}
use Rattle.build_declared.proofs.WalksGo.{walks-go}

-- the lists of a target that has not both Inputs and Outputs
pub no-lists : (p : ElementContext) (target : UsedTarget) (i o : Option (List ℕ)) →
    attribute_of (codes "Inputs") target.element ≡ i →
    attribute_of (codes "Outputs") target.element ≡ o → (TakesLists target → ⊥) →
    lists_by p target.element i o ≡ Ok None
no-lists p target (Some i) (Some o) e f n = absurd
    (n (record { inputs = i; outputs = o; has_inputs = e; has_outputs = f }))
no-lists p target (Some i) None e f n = refl
no-lists p target None o e f n = refl

-- whether it has
pub takes : (target : UsedTarget) (i o : Option (List ℕ)) →
    attribute_of (codes "Inputs") target.element ≡ i →
    attribute_of (codes "Outputs") target.element ≡ o →
    (lists : Bool) × (lists ≡ true → TakesLists target) × (lists ≡ false → TakesLists target → ⊥)
takes target (Some i) (Some o) e f = (
  true,
  (λ h. record {
    inputs = i;
    outputs = o;
    has_inputs =
        e;
    has_outputs = f;
  }),
  λ h. absurd (cc),
)
takes target (Some i) None e f = (
  false,
  (λ h. absurd (cc)),
  λ h t. none-some (attribute_of (codes "Outputs") target.element) f t.has_outputs,
)
takes target None o e f = (
  false,
  (λ h. absurd (cc)),
  λ h t. none-some (attribute_of (codes "Inputs") target.element) e t.has_inputs,
)

module _ (tools : List ℕ → ToolInput → ToolAnswer) (files : List File) (W : List ℕ → Type 0)
    (Q' Q : Site → RunId → Journal → Record → Type 0)
    (may : (site : Site) (id : RunId) (k : Journal) (made : Record) → Q site id k made →
    ((target : UsedTarget) → site.target ≡ Some target → TakesLists target → ⊥) → (act : Act) →
    In (OnFile act) made.segments → W (act_path act))
    (said : (site : Site) (id : RunId) (j k : Journal) (made : Record) →
    AlikeJournals (bytes_in files) W j k → Q site id k made →
    ((target : UsedTarget) → site.target ≡ Some target → TakesLists target → ⊥) →
    Q' site id j made)
    (with_lists : (target : UsedTarget) (scope : Scope) (id : RunId) (j k : Journal)
    (made : Record) → AlikeJournals (bytes_in files) W j k →
    Q (record { target = Some target; scope = scope }) id k made → TakesLists target →
    HasNotActed id j → HasNotActed id k →
    AlikeRuns (bytes_in files) W tools id j k
    (body Incremental (run_at files id target) scope j)
    (body Clean (run_at files id target) scope k) made
    (Q' (record { target = Some target; scope = scope }) id j)) where
  without-lists : (target : UsedTarget) (scope : Scope) (id : RunId) (j k : Journal)
      (made : Record) → AlikeJournals (bytes_in files) W j k →
      Q (record { target = Some target; scope = scope }) id k made → (TakesLists target → ⊥) →
      AlikeRuns (bytes_in files) W tools id j k (body Incremental (run_at files id target) scope j)
      (body Clean (run_at files id target) scope k) made
      (Q' (record { target = Some target; scope = scope }) id j)
  without-lists target scope id j k made a q n =
      let run : Run = run_at files id target in
      let none : (target' : UsedTarget) → Some target ≡ Some target' → TakesLists target' → ⊥ =
      λ target' e t. n (subst TakesLists (sym (let same : target ≡ target' = cc in same)) t) in
      let agree : ChooseSame run W (looks-same files W) (choice_of Incremental run)
      (choice_of Clean run) = λ bucket lists s t h e.
      absurd (never (lists_at run bucket s) lists
      (no-lists (in_target (context_in run s s.scope) bucket) target
      (attribute_of (codes "Inputs") target.element)
      (attribute_of (codes "Outputs") target.element) refl refl n) e) in
      step_by_step (body-twin run W (looks-same files W) (choice_of Incremental run)
      (choice_of Clean run) agree scope j k a)
      (may (record { target = Some target; scope = scope }) id k made q none)
      (said (record { target = Some target; scope = scope }) id j k made a q none)
    where
      never : (x : Result (Option Lists) EvalFault) (lists : Lists) → x ≡ Ok None →
          x ≡ Ok (Some lists) → ⊥
      never x lists e f = let g : Ok None ≡ Ok (Some lists) = sym e ∙ f in cc

  each-run : (o : Option UsedTarget) (scope : Scope) (id : RunId) (j k : Journal) →
      AlikeJournals (bytes_in files) W j k → (made : Record) →
      Q (record { target = o; scope = scope }) id k made → HasNotActed id j → HasNotActed id k →
      AlikeRuns (bytes_in files) W tools id j k (body_at files Incremental id o scope j)
      (body_at files Clean id o scope k) made (Q' (record { target = o; scope = scope }) id j)
  each-run None scope id j k a made q fw fc =
      let none : (target : UsedTarget) → None ≡ Some target → TakesLists target → ⊥ =
      λ target e t. absurd (cc) in
      step_by_step refl (may (record { target = None; scope = scope }) id k made q none)
      (said (record { target = None; scope = scope }) id j k made a q none)
  each-run (Some target) scope id j k a made q fw fc =
      let t = takes target (attribute_of (codes "Inputs") target.element)
      (attribute_of (codes "Outputs") target.element) refl refl in
      go t.0 t.1 t.2
    where
      go : (b : Bool) → (b ≡ true → TakesLists target) → (b ≡ false → TakesLists target → ⊥) →
          AlikeRuns (bytes_in files) W tools id j k
          (body Incremental (run_at files id target) scope j)
          (body Clean (run_at files id target) scope k) made
          (Q' (record { target = Some target; scope = scope }) id j)
      go true y n = with_lists target scope id j k made a q (y refl) fw fc
      go false y n = without-lists target scope id j k made a q (n refl)

  module _ (root : RequestKey) (instances : RequestKey → Result Instance Reply) where
    abbrev pub incremental : World Site ToolInput ToolAnswer
    incremental = world_by tools files root instances Incremental

    abbrev pub clean : World Site ToolInput ToolAnswer
    clean = world_by tools files root instances Clean

    requests : (key : RequestKey) (j k : Journal) → AlikeJournals (bytes_in files) W j k →
        (x : Result Instance Reply) →
        AlikeWalks (bytes_in files) W Q' Q tools (request_by files Incremental key j x)
        (request_by files Clean key k x) j k
    requests key j k a (Err reply) = refl
    requests key j k a (Ok instance) =
        let p : Project = record { files = files; key = key.instance; instance = instance } in
        go p (has_no_targets instance key)
      where
        go : (p : Project) (b : Bool) → let q : Project = record p { files = files } in
            AlikeWalks (bytes_in files) W Q' Q tools
            (walk_unless q key (bodies_at files Incremental q) b j)
            (walk_unless q key (bodies_at files Clean q) b k) j k
        go p true = refl
        go p false =
            let q : Project = record p { files = files } in
            walks-go q key W Q' Q tools (bodies_at files Incremental q) (bodies_at files Clean q)
            (λ name scope i l b made h fw fc. each-run (target_at q name) scope
            (run_of q.key name) i l b made h fw fc)
            (order q.instance.rows (all_targets q.instance key)) (nothing_ran q) j k a

    pub sides : SideBySide (bytes_in files) W Q' Q incremental clean
    sides = record {
      root = refl;
      tools = refl;
      walks = λ key j k a. requests key j k a (instances key);
    }
