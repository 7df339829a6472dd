-- One request of a build, as a tree of the runs that it wants: the order of targets, answered by
-- the project. (Target build order; OnError element)
use Rattle.std.specs.Prelude.{
  List,
  [],
  ◌∷◌,
  ◌++◌,
  Bool,
  true,
  false,
  Option,
  Some,
  None,
  Result,
  Ok,
  Err,
  codes,
}
use Rattle.std.specs.List.{flat_map}
use Rattle.msb_laws.specs.Asking.{Asking, gives as ends, asks}
use Rattle.msb_laws.specs.Results.{map_ok}
use Rattle.msb_laws.specs.Words.{Name, Text}
use Rattle.msb_values.specs.declared.key.InstanceKey.{InstanceKey}
use Rattle.msb_values.specs.declared.scope.Scope.{Scope}
use Rattle.target_order.specs.Visit.{
  Question,
  condition,
  depends,
  body,
  End,
  finished,
  stopped,
  circle,
  unknown,
  order,
}
use Rattle.target_order.specs.declared.asks.OrderAnswer.{OrderAnswer}
use Rattle.target_order.specs.declared.asks.OrderAnswer.TheVariants.{
  Truth,
  Names,
  Ok as Ran,
  Failed,
}
use Rattle.build_world.specs.Faults.{fault_text}
use Rattle.build_world.specs.declared.fault.EvalFault.{EvalFault}
use Rattle.build_world.specs.Instances.{UsedTarget}
use Rattle.msb_values.specs.Changes.{all_applied}
use Rattle.result_cache.specs.Journal.{Journal}
use Rattle.result_cache.specs.declared.run.RunId.{RunId}
use Rattle.result_cache.specs.declared.record.Record.{Record}
use Rattle.result_cache.specs.declared.request.RequestKey.{RequestKey}
use Rattle.result_cache.specs.declared.request.Returned.{Returned}
use Rattle.build_meaning.specs.Walk.{Walk, gives, wants, Body, Reply}
use Rattle.request_machine.specs.Requests.{
  Project,
  holds_of,
  depends_of,
  on_error,
  target_at,
  all_targets,
  succeeded,
  failed,
  has_no_targets,
}

-- where a request stands between its runs: the scope with their changes, and what their targets
-- have returned
pub record RequestScope : Type 0 where
  pub scope : Scope
  pub returned : List Returned

-- a target has run
abbrev pub after_run : RequestScope → Name → Record → RequestScope
after_run s name made = record {
  scope = all_applied made.changes s.scope;
  returned = s.returned
      ++ record { target = name; items = made.items } ∷ [];
}

-- the one run of a target of an instance
abbrev pub run_of : InstanceKey → Name → RunId
run_of key name = record { instance = key; target = name }

-- the error texts of a circle of targets, and of a name without a target
abbrev pub circle_text : List Name → Text
circle_text names = codes "circular targets" ++ flat_map (λ name. 32 ∷ name) names

abbrev pub unknown_text : Name → Text
unknown_text name = codes "unknown target " ++ name

-- a fault in a Condition or a list is the request's error
abbrev pub faulted : EvalFault → Reply
faulted fault = failed (Some (fault_text fault))

-- a fault is replied
abbrev pub or_failed : {P I A X : Type 0} → Result X EvalFault → (X → Walk P I A) → Walk P I A
or_failed (Ok x) next = next x
or_failed (Err fault) next = gives (faulted fault)

-- how the order has ended
abbrev pub reply_of : Project → RequestKey → End → RequestScope → Reply
reply_of p key finished s = succeeded p.instance key s.returned
reply_of p key stopped s = failed None
reply_of p key (circle names) s = failed (Some (circle_text names))
reply_of p key (unknown name) s = failed (Some (unknown_text name))

-- what the project answers where the order asks for a Condition or a DependsOnTargets, in the scope
-- and by the files of that moment
abbrev pub condition_answer : Project → RequestScope → Journal → Name → Result OrderAnswer
    EvalFault
condition_answer p s journal name = map_ok Truth (holds_of p s.scope journal (target_at p name))

abbrev pub depends_answer : Project → RequestScope → Name → Result OrderAnswer EvalFault
depends_answer p s name = map_ok Names (depends_of p s.scope (target_at p name))

-- a run has succeeded, or has failed: then the OnError elements of its target are read in the scope
-- that it leaves
abbrev pub run_answer : Project → Bool → RequestScope → Journal → Name → Result OrderAnswer
    EvalFault
run_answer p true s journal name = Ok Ran
run_answer p false s journal name = map_ok Failed (on_error p s.scope journal (target_at p name))

-- what follows a run, by its record and the journal then, where the order goes on so
abbrev pub after_target : {P I A : Type 0} → Project →
    (OrderAnswer → RequestScope → Journal → Walk P I A) → RequestScope → Name → Record → Journal →
    Walk P I A
after_target p next s name made journal =
    let after : RequestScope = after_run s name made in
    or_failed (run_answer p made.ok after journal name) (λ answer. next answer after journal)

-- at the beginning nothing has run
abbrev pub nothing_ran : Project → RequestScope
nothing_ran p = record { scope = p.instance.scope; returned = [] }

-- ---- the walk of a request

-- where a run is made: the target of that name, if the project has it, and the scope
pub record Site : Type 0 where
  pub target : Option UsedTarget
  pub scope : Scope

module _ {I A : Type 0} (p : Project) (key : RequestKey)
    (body_of : Name → Scope → Journal → Body I A) where
  -- what the order asks is answered by the project; a body is a run that is wanted
  abbrev pub walk : Asking Question OrderAnswer End → RequestScope → Journal → Walk Site I A
  walk (ends end) s journal = gives (reply_of p key end s)
  walk (asks (condition name) go) s journal =
      or_failed (condition_answer p s journal name) (λ answer. walk (go answer) s journal)
  walk (asks (depends name) go) s journal =
      or_failed (depends_answer p s name) (λ answer. walk (go answer) s journal)
  walk (asks (body name) go) s journal =
      wants (record { target = target_at p name; scope = s.scope }) (run_of p.key name)
      (body_of name s.scope journal) (after_target p (λ answer. walk (go answer)) s name)

  abbrev pub walk_unless : (no_targets : Bool) → Journal → Walk Site I A
  walk_unless true journal = gives (failed (Some (codes "no targets")))
  walk_unless false journal =
      walk (order p.instance.rows (all_targets p.instance key)) (nothing_ran p) journal

  -- a request of a project that was evaluated
  abbrev pub walk_in : Journal → Walk Site I A
  walk_in journal = walk_unless (has_no_targets p.instance key) journal
