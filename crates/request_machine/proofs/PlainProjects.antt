-- Between its runs a request of a project without Exists asks the same whatever its journal is.
use Rattle.std.proofs.Common.{
  ◌≡◌,
  ℕ,
  Bool,
  true,
  false,
  not,
  ◌||◌,
  ◌&&◌,
  List,
  [],
  ◌∷◌,
  map,
  codes,
  Option,
  None,
  Some,
  Result,
  Ok,
  Err,
  refl,
  sym,
  ap,
  ◌∙◌,
  cond,
  subst,
}
use Rattle.std.specs.List.{find, flat_map, list_any}
use Rattle.std.specs.Str.{bytes_eq}
use Rattle.std.specs.Prelude.{IfSome}
use Rattle.msb_laws.specs.Asking.{Asking, gives as ends, asks}
use Rattle.msb_laws.specs.Results.{all_ok, and_then, map_ok}
use Rattle.msb_values.specs.declared.mode.Mode.{Mode}
use Rattle.msb_values.specs.declared.scope.Scope.{Scope}
use Rattle.file_store.specs.declared.tree.File.{File}
use Rattle.msb_elements.specs.Nodes.{Node, children_in, name_of}
use Rattle.request_machine.proofs.FilesSeen.{conditions_see_files_by_exists}
use Rattle.element_texts.specs.Contexts.{view_in}
use Rattle.target_order.specs.Visit.{Question, condition, depends, body, End, order}
use Rattle.target_order.specs.declared.asks.OrderAnswer.{OrderAnswer}
use Rattle.target_order.specs.declared.asks.OrderAnswer.TheVariants.{Truth, Failed}
use Rattle.build_world.specs.Elements.{At, at, attribute_of, or_fault}
use Rattle.build_world.specs.Instances.{Instance, UsedTarget}
use Rattle.build_world.specs.declared.fault.EvalFault.{EvalFault}
use Rattle.build_world.specs.declared.world.World.{World as Given}
use Rattle.result_cache.specs.Journal.{Journal}
use Rattle.result_cache.specs.declared.request.RequestKey.{RequestKey}
use Rattle.task_trait.specs.declared.tools.ToolAnswer.{ToolAnswer}
use Rattle.task_trait.specs.declared.tools.ToolInput.{ToolInput}
use Rattle.build_meaning.specs.Plain.{AskAlike, IsPlain}
use Rattle.build_meaning.specs.Walk.{Body, Reply, Walk}
use Rattle.request_machine.specs.Plain.{
  IsPlainProject,
  element_asks,
  error_asks,
  is_plain,
  project_asks,
  target_asks,
}
use Rattle.request_machine.specs.Requests.{
  Project,
  all_targets,
  context_at,
  errors_at,
  errors_by,
  errors_if,
  has_no_targets,
  holds_at,
  holds_of,
  on_error,
  target_at,
}
use Rattle.request_machine.specs.Walk.{
  RequestScope,
  after_run,
  run_answer,
  condition_answer,
  depends_answer,
  nothing_ran,
  or_failed,
  walk,
  walk_unless,
}
use Rattle.request_machine.specs.Worlds.{bodies_at, instances_of, request_by, world_of}

none-left : (a b : Bool) → (a || b) ≡ false → a ≡ false
none-left true b e = e
none-left false b e = refl

none-right : (a b : Bool) → (a || b) ≡ false → b ≡ false
none-right true b e = absurd (let x : true ≡ false = e in cc)
none-right false b e = e

-- what is found is one of those of which none passes
pick : {X : Type 0} (test : X → Bool) (b : Bool) (x : X) (o : Option X) → test x ≡ false →
    IfSome o (λ y. test y ≡ false) → IfSome (cond b (Some x) o) (λ y. test y ≡ false)
pick test true x o e h = e
pick test false x o e h = h

found-none : {X : Type 0} (test by : X → Bool) (all : List X) → list_any test all ≡ false →
    IfSome (find by all) (λ x. test x ≡ false)
found-none test by [] e = tt
found-none test by (x ∷ all) e =
    pick test (by x) x (find by all) (none-left (test x) (list_any test all) e)
    (found-none test by all (none-right (test x) (list_any test all) e))

module _ (p : Project) (scope : Scope) (j k : Journal) where
  -- the Condition of an element that does not ask for files
  elements-alike : (e : At) → element_asks e.node ≡ false →
      holds_at p scope j e ≡ holds_at p scope k e
  elements-alike e none =
      ap (or_fault e) (conditions_see_files_by_exists (view_in (context_at p scope j) e.file)
      (view_in (context_at p scope k) e.file) (attribute_of (codes "Condition") e) none refl)

  targets-alike : (o : Option UsedTarget) → IfSome o (λ t. target_asks t ≡ false) →
      holds_of p scope j o ≡ holds_of p scope k o
  targets-alike None none = refl
  targets-alike (Some t) none =
      elements-alike t.element (none-left (element_asks t.element.node)
      (list_any error_asks (children_in t.element.node)) none)

  error-by : (b : Bool) (e : At) → (b && element_asks e.node) ≡ false →
      errors_by b p scope j e ≡ errors_by b p scope k e
  error-by true e none =
      ap (λ holds. and_then holds (λ b. errors_if b p scope e)) (elements-alike e none)
  error-by false e none = refl

  errors-alike : (file : List ℕ) (nodes : List Node) → list_any error_asks nodes ≡ false →
      all_ok (errors_at p scope j) (map (at file) nodes)
      ≡ all_ok (errors_at p scope k) (map (at file) nodes)
  errors-alike file [] none = refl
  errors-alike file (child ∷ children) none =
      let first = error-by (bytes_eq (name_of child) (codes "OnError")) (at file child)
      (none-left (error_asks child) (list_any error_asks children) none) in
      let rest = errors-alike file children
      (none-right (error_asks child) (list_any error_asks children) none) in
      (λ i. and_then (first i) (λ names. map_ok (λ more. names ∷ more) (rest i)))

  on_errors-alike : (o : Option UsedTarget) → IfSome o (λ t. target_asks t ≡ false) →
      on_error p scope j o ≡ on_error p scope k o
  on_errors-alike None none = refl
  on_errors-alike (Some t) none =
      ap (map_ok (flat_map (λ names. names))) (errors-alike t.element.file
      (children_in t.element.node) (none-right (element_asks t.element.node)
      (list_any error_asks (children_in t.element.node)) none))

  answers-alike : (ok : Bool) (name : List ℕ) (s : RequestScope) → s.scope ≡ scope →
      IfSome (target_at p name) (λ t. target_asks t ≡ false) →
      run_answer p ok s j name ≡ run_answer p ok s k name
  answers-alike true name s is none = refl
  answers-alike false name s is none =
      ap (λ x. map_ok Failed (on_error p x j (target_at p name))) is
      ∙ (ap (map_ok Failed) (on_errors-alike (target_at p name) none)
      ∙ ap (λ x. map_ok Failed (on_error p x k (target_at p name))) (sym is))

-- a fault is replied alike, and a value is gone on with alike
faults-alike : {P I A X : Type 0} (a : Result X EvalFault) (f g : X → Walk P I A) →
    ((x : X) → AskAlike (f x) (g x)) → AskAlike (or_failed a f) (or_failed a g)
faults-alike (Ok x) f g h = h x
faults-alike (Err fault) f g h = refl

or-alike : {P I A X : Type 0} (a b : Result X EvalFault) → a ≡ b → (f g : X → Walk P I A) →
    ((x : X) → AskAlike (f x) (g x)) → AskAlike (or_failed a f) (or_failed b g)
or-alike a b e f g h = subst (λ c. AskAlike (or_failed a f) (or_failed c g)) e
    (faults-alike a f g h)

module _ {I A : Type 0} (p : Project) (key : RequestKey)
    (body_of : List ℕ → Scope → Journal → Body I A)
    (none : project_asks p.instance ≡ false) where
  asks-none : (name : List ℕ) → IfSome (target_at p name) (λ t. target_asks t ≡ false)
  asks-none name = found-none target_asks (λ t. bytes_eq t.name name) p.instance.targets none

  walks-alike : (x : Asking Question OrderAnswer End) (s : RequestScope) (j k : Journal) →
      AskAlike (walk p key body_of x s j) (walk p key body_of x s k)
  walks-alike (ends end) s j k = refl
  walks-alike (asks (condition name) go) s j k =
      or-alike (condition_answer p s j name) (condition_answer p s k name)
      (ap (map_ok Truth) (targets-alike p s.scope j k (target_at p name) (asks-none name)))
      (λ answer. walk p key body_of (go answer) s j)
      (λ answer. walk p key body_of (go answer) s k)
      (λ answer. walks-alike (go answer) s j k)
  walks-alike (asks (depends name) go) s j k =
      faults-alike (depends_answer p s name)
      (λ answer. walk p key body_of (go answer) s j)
      (λ answer. walk p key body_of (go answer) s k)
      (λ answer. walks-alike (go answer) s j k)
  walks-alike (asks (body name) go) s j k = (
    refl,
    λ made next other.
        let after : RequestScope = after_run s name made in
        or-alike (run_answer p made.ok after next name) (run_answer p made.ok after other name)
        (answers-alike p after.scope next other made.ok name after refl (asks-none name))
        (λ answer. walk p key body_of (go answer) after next)
        (λ answer. walk p key body_of (go answer) after other)
        (λ answer. walks-alike (go answer) after next other),
  )

  requests-alike : (no_targets : Bool) (j k : Journal) →
      AskAlike (walk_unless p key body_of no_targets j) (walk_unless p key body_of no_targets k)
  requests-alike true j k = refl
  requests-alike false j k =
      walks-alike (order p.instance.rows (all_targets p.instance key)) (nothing_ran p) j k

not-true : (b : Bool) → not b ≡ true → b ≡ false
not-true true e = sym e
not-true false e = refl

by-instance : (files : List File) (mode : Mode) (key : RequestKey) (j k : Journal)
    (found : Result Instance Reply) → is_plain found ≡ true →
    AskAlike (request_by files mode key j found) (request_by files mode key k found)
by-instance files mode key j k (Ok instance) plain =
    let p : Project = record { files = files; key = key.instance; instance = instance } in
    requests-alike p key (bodies_at files mode p) (not-true (project_asks instance) plain)
    (has_no_targets instance key) j k
by-instance files mode key j k (Err reply) plain = refl

pub plain_projects_ask_alike : (answer : List ℕ → ToolInput → ToolAnswer) (w : Given)
    (key : RequestKey) → IsPlainProject w.tree.files key → IsPlain (world_of answer w) key
plain_projects_ask_alike answer w key plain j k =
    by-instance w.tree.files w.mode key j k (instances_of w.tree.files key) plain
