-- How a request begins, and where it stands then.
use Rattle.std.proofs.Common.{◌≡◌, Option, Some, None, Result, sym, ap, ◌∙◌}
use Rattle.file_store.specs.Files.{file_at}
use Rattle.file_store.specs.declared.tree.File.{File}
use Rattle.msb_laws.specs.Asking.{Asking}
use Rattle.target_order.specs.Progress.{Progress}
use Rattle.target_order.specs.Visit.{Question, End}
use Rattle.target_order.specs.declared.asks.OrderAnswer.{OrderAnswer}
use Rattle.build_world.specs.Faults.{not_found_text}
use Rattle.build_world.specs.Instances.{Instance, seen_instance}
use Rattle.build_world.specs.declared.instance.Instance.{Instance as Made}
use Rattle.build_world.specs.declared.fault.EvalFault.{EvalFault}
use Rattle.build_world.specs.declared.world.World.{World as Given}
use Rattle.msb_instance.specs.Evaluated.{evaluated}
use Rattle.result_cache.specs.Journal.{Journal}
use Rattle.result_cache.specs.declared.request.RequestKey.{RequestKey}
use Rattle.result_cache.specs.declared.run.RunId.{RunId}
use Rattle.task_trait.specs.declared.tools.ToolAnswer.{ToolAnswer}
use Rattle.task_trait.specs.declared.tools.ToolInput.{ToolInput}
use Rattle.build_meaning.specs.State.{walking}
use Rattle.build_meaning.specs.Walk.{Walk, Reply, gives}
use Rattle.request_machine.specs.Requests.{Project, unevaluated}
use Rattle.request_machine.specs.NextStops.{StandsNext}
use Rattle.request_machine.specs.Walk.{RequestScope, Site, walk}
use Rattle.request_machine.specs.Worlds.{
  bodies_of,
  instance_by,
  instance_if,
  project_of,
  request_by,
  walk_of,
  Bodies,
}
use Rattle.request_machine.specs.Positions.{place_at, place_of}
use Rattle.request_machine.specs.Stages.{
  IsReady,
  StandsAt,
  StandsBy,
  instance_in,
  is_between_runs,
  is_wanted,
  left_by,
}
use Rattle.request_machine.specs.declared.order.NextStop.{NextStop}
use Rattle.request_machine.specs.declared.order.NextStop.TheVariants.{Wants, Over as IsOver}
use Rattle.request_machine.specs.declared.stage.Stage.{Stage}
use Rattle.request_machine.specs.declared.stage.Stage.TheVariants.{Over, Visits}
use Rattle.request_machine.specs.declared.stage.RunState.TheVariants.{Wanted}
use Rattle.request_machine.specs.declared.stage.Visit.{Visit}

abbrev W : Type 0
W = Walk Site ToolInput ToolAnswer

-- a request that is over
pub over_stands : {T : Type 0} (w : Given) (key : RequestKey) (journal : Journal) (reply : Reply)
    (tree : W) (stage : Stage T) → stage ≡ Over reply → tree ≡ gives reply
    → StandsAt w key journal tree stage
over_stands w key journal reply tree stage is same = record {
  between = ap is_between_runs is;
  own = ap (instance_in key.instance) is;
  stands = λ calls.
      ap (place_of calls w key journal) is ∙ ap walking (sym same);
}

pub tree_stands : {T : Type 0} (w : Given) (key : RequestKey) (journal : Journal) (tree other : W)
    (stage : Stage T) → tree ≡ other → StandsAt w key journal tree stage
    → StandsAt w key journal other stage
tree_stands w key journal tree other stage same stands = record {
  between = stands.between;
  own = stands.own;
  stands = λ calls. stands.stands calls
      ∙ ap walking same;
}

abbrev walk_by : Given → RequestKey → Journal → Result Instance Reply → W
walk_by w key journal = request_by w.tree.files w.mode key journal

abbrev walk_if : Given → RequestKey → Journal → Option File → W
walk_if w key journal file = walk_by w key journal (instance_if w.tree.files key file)

pub no_file : (w : Given) (key : RequestKey) (journal : Journal)
    → file_at key.instance.path w.tree.files ≡ None
    → walk_of w key journal ≡ gives (unevaluated (not_found_text key.instance.path))
no_file w key journal none = ap (walk_if w key journal) none

pub at_file : (w : Given) (key : RequestKey) (journal : Journal) (file : File)
    (r : Result Instance EvalFault) → file_at key.instance.path w.tree.files ≡ Some file
    → evaluated w.tree.files key.instance ≡ r
    → walk_of w key journal ≡ walk_by w key journal (instance_by r)
at_file w key journal file r found is = ap (walk_if w key journal) found
    ∙ ap (λ x. walk_by w key journal (instance_by x)) is

-- what is left of a request whose order has been answered so far
pub next_left : (p : Project) (key : RequestKey) (s : RequestScope) (journal : Journal)
    (tree : Asking Question OrderAnswer End) (next_stop : NextStop) (order : Progress)
    → StandsNext p key s journal tree next_stop order → (bodies : Bodies) →
    walk p key bodies tree s journal ≡ left_by p key bodies s order journal next_stop
next_left p key s journal tree (Wants name) order next bodies = next.1 bodies
next_left p key s journal tree (IsOver reply) order next bodies = next bodies

pub next_ready : (p : Project) (key : RequestKey) (s : RequestScope) (journal : Journal)
    (tree : Asking Question OrderAnswer End) (next_stop : NextStop) (order : Progress)
    → StandsNext p key s journal tree next_stop order → IsReady next_stop order
next_ready p key s journal tree (Wants name) order next = next.0
next_ready p key s journal tree (IsOver reply) order next = tt

-- a request that wants a run
pub wants_stands : {T : Type 0} (key : RequestKey) (v : Visit T) (instance : Made)
    (s : RequestScope)
    (order : Progress) (run : RunId) (next_stop : NextStop) → v.instance ≡ instance → v.state ≡ s
    → v.order ≡ order → v.run ≡ run → v.at ≡ Wanted →
    next_stop ≡ Wants run.target → run.instance ≡ key.instance
    → StandsBy key (seen_instance instance) s order next_stop (Visits v)
wants_stands key v instance s order run next_stop i t o r a is its = λ w journal. record {
  between = ap is_wanted a;
  own = ap (λ x. x.instance) r ∙ its;
  stands = λ calls.
      let p : Project = project_of w key (seen_instance instance) in
      ap (place_at calls w key v journal) a
      ∙ (ap
      (λ x.
      walking
      (left_by (project_of w key (seen_instance x)) key
      (bodies_of w (project_of w key (seen_instance x))) v.state v.order journal
      (Wants v.run.target))) i
      ∙ (ap (λ x. walking (left_by p key (bodies_of w p) x v.order journal (Wants v.run.target))) t
      ∙ (ap (λ x. walking (left_by p key (bodies_of w p) s x journal (Wants v.run.target))) o
      ∙ (ap (λ x. walking (left_by p key (bodies_of w p) s order journal (Wants x.target))) r
      ∙ ap (λ x. walking (left_by p key (bodies_of w p) s order journal x)) (sym is)))));
}
