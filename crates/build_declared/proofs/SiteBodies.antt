-- Each run that a request of a build wants has the body of its target, in the scope of its site.
use Rattle.std.proofs.Common.{ℕ, Bool, true, false, List, refl}
use Rattle.std.specs.Prelude.{Result, Ok, Err}
use Rattle.msb_laws.specs.Asking.{Asking, gives as ends, asks}
use Rattle.msb_values.specs.declared.mode.Mode.{Mode}
use Rattle.msb_values.specs.declared.scope.Scope.{Scope}
use Rattle.file_store.specs.declared.tree.File.{File}
use Rattle.target_order.specs.Visit.{Question, condition, depends, body, End, order}
use Rattle.target_order.specs.declared.asks.OrderAnswer.{OrderAnswer}
use Rattle.build_world.specs.Instances.{Instance}
use Rattle.build_world.specs.declared.fault.EvalFault.{EvalFault}
use Rattle.result_cache.specs.declared.run.RunId.{RunId}
use Rattle.result_cache.specs.declared.request.RequestKey.{RequestKey}
use Rattle.result_cache.specs.Journal.{Journal}
use Rattle.build_meaning.specs.Walk.{Walk, Body, Reply}
use Rattle.build_incremental.proofs.BodyFacts.{HasBody}
use Rattle.build_incremental.proofs.Demands.{Tells}
use Rattle.task_trait.specs.declared.tools.ToolAnswer.{ToolAnswer}
use Rattle.task_trait.specs.declared.tools.ToolInput.{ToolInput}
use Rattle.request_machine.specs.Requests.{
  Project,
  target_at,
  all_targets,
  has_no_targets,
}
use Rattle.request_machine.specs.Walk.{
  RequestScope,
  run_of,
  run_answer,
  condition_answer,
  depends_answer,
  after_run,
  nothing_ran,
  Site,
  or_failed,
  walk,
  walk_unless,
}
use Rattle.request_machine.specs.Worlds.{body_at, bodies_at, request_by}
use Rattle.build_declared.specs.Builds.{world_by}

-- what is said of each body that a request wants
module _ (B : Site → RunId → Journal → Body ToolInput ToolAnswer → Type 0) (p : Project)
    (key : RequestKey) (bodies : List ℕ → Scope → Journal → Body ToolInput ToolAnswer)
    (each : (name : List ℕ) (scope : Scope) (j : Journal) →
    B (record { target = target_at p name; scope = scope }) (run_of p.key name) j
    (bodies name scope j)) where
  or-tells : {X : Type 0} (x : Result X EvalFault) (next : X → Walk Site ToolInput ToolAnswer)
      (j : Journal) → ((z : X) → Tells B (next z) j) → Tells B (or_failed x next) j
  or-tells (Ok z) next j h = h z
  or-tells (Err fault) next j h = tt

  pub walk-tells : (tree : Asking Question OrderAnswer End) (s : RequestScope) (j : Journal) →
      Tells B (walk p key bodies tree s j) j
  walk-tells (ends end) s j = tt
  walk-tells (asks (condition name) go) s j =
      or-tells (condition_answer p s j name) (λ answer. walk p key bodies (go answer) s j) j
      (λ answer. walk-tells (go answer) s j)
  walk-tells (asks (depends name) go) s j =
      or-tells (depends_answer p s name) (λ answer. walk p key bodies (go answer) s j) j
      (λ answer. walk-tells (go answer) s j)
  walk-tells (asks (body name) go) s j = (
    each name s.scope j,
    λ made then.
        let after : RequestScope = after_run s name made in
        or-tells (run_answer p made.ok after then name)
        (λ answer. walk p key bodies (go answer) after then) then
        (λ answer. walk-tells (go answer) after then),
  )

module _ (files : List File) (mode : Mode) where
  -- the body of a run at its site
  abbrev pub bodies_of : Site → RunId → Journal → Body ToolInput ToolAnswer
  bodies_of site id journal = body_at files mode id site.target site.scope journal

  unless-tells : (b : Bool) (p : Project) (key : RequestKey) (j : Journal) →
      Tells (HasBody bodies_of) (walk_unless p key (bodies_at files mode p) b j) j
  unless-tells true p key j = tt
  unless-tells false p key j = walk-tells (HasBody bodies_of) p key (bodies_at files mode p)
      (λ name scope j. refl) (order p.instance.rows (all_targets p.instance key)) (nothing_ran p) j

  by-tells : (key : RequestKey) (j : Journal) (x : Result Instance Reply) →
      Tells (HasBody bodies_of) (request_by files mode key j x) j
  by-tells key j (Err reply) = tt
  by-tells key j (Ok instance) =
      let p : Project = record { files = files; key = key.instance; instance = instance } in
      unless-tells (has_no_targets instance key) p key j

  pub world-tells : (tools : List ℕ → ToolInput → ToolAnswer) (root : RequestKey)
      (instances : RequestKey → Result Instance Reply) (key : RequestKey) (j : Journal) →
      Tells (HasBody bodies_of) ((world_by tools files root instances mode).walks key j) j
  world-tells tools root instances key j = by-tells key j (instances key)
