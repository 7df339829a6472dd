-- What the build of the worked project means, and what is printed of it, computed.
use Rattle.std.proofs.Common.{
  ◌≡◌,
  ◌≤◌,
  ℕ,
  inl,
  inr,
  List,
  [],
  ◌∷◌,
  length,
  Option,
  None,
  Some,
  false,
  refl,
  ap,
  sym,
  ◌∙◌,
  subst,
  arith,
}
use Rattle.std.specs.Prelude.{Ok, Result, codes}
use Rattle.std.specs.Fmt.{digits}
use Rattle.std.specs.Str.{chars}
use Rattle.caseless.specs.Caseless.{default_case_fold as fold_case}
use Rattle.ucd_case.specs.CaseFolding.{full_folding as folding}
use Rattle.ucd_table.specs.Rows.{value_in}
use Rattle.ucd_case.specs.FullFoldingRows.{full_folding_rows as rows}
use Rattle.file_store.specs.Entries.{entries_of}
use Rattle.file_store.specs.Limits.{limit_fault}
use Rattle.msb_paths.specs.Refused.{normal_path}
use Rattle.msb_expression.specs.Machine.{run as read_on}
use Rattle.target_order.specs.Visit.{visit, order}
use Rattle.build_world.specs.Instances.{Instance}
use Rattle.build_world.specs.declared.fault.EvalFault.{EvalFault}
use Rattle.result_cache.specs.declared.record.Record.{Record}
use Rattle.result_cache.specs.declared.request.RequestResult.{RequestResult}
use Rattle.result_cache.specs.declared.run.RunId.{RunId}
use Rattle.result_cache.specs.Journal.{Journal}
use Rattle.result_cache.specs.Lists.{In}
use Rattle.result_cache.specs.Same.{same_run, same_instance}
use Rattle.build_meaning.specs.Meaning.{
  requested,
  built,
  Given,
  containing,
  deepest,
  most_instances,
  walk,
  request,
  meaning,
}
use Rattle.build_meaning.specs.Walk.{Walk}
use Rattle.build_meaning.specs.Demand.{IsWhole, IsSteady, distinct, instances}
use Rattle.build_meaning.specs.SoFar.{ToolUse}
use Rattle.build_report.specs.Shown.{shown_text}
use Rattle.build_outcome.specs.Outcomes.{built as comes_of}
use Rattle.task_trait.specs.declared.tools.ToolAnswer.{ToolAnswer}
use Rattle.task_trait.specs.declared.tools.ToolInput.{ToolInput}
use Rattle.request_machine.specs.Walk.{Site}
use Rattle.request_machine.specs.Worlds.{world_of, request_by, instance_by}
use Rattle.msb_words.specs.Given.{taken_all}
use Rattle.msb_words.specs.Options.{options_in}
use Rattle.msb_words.specs.declared.options.Action.TheVariants.{Build as ToBuild}
use Rattle.msb_words.specs.declared.options.Options.{Options}
use Rattle.msb_outcomes.specs.Outcomes.{IsAsked, IsWorkAt, IsWorkOfInstance, key_at}
use Rattle.msb_outcomes.specs.declared.work.Work.TheVariants.{Build}
use Rattle.msb_program.specs.Meanings.{IsAskedOf, Means}
use Rattle.message_witness.proofs.Evaluated.{evaluates}
use Rattle.message_witness.specs.OneMessage.{
  project,
  files,
  build,
  root,
  instance,
  made,
  journal,
  root_result,
  given,
  printed,
  outcome,
}

-- ---- the meaning

module _ (tools : List ℕ → ToolInput → ToolAnswer) (stamp : ℕ) where
  -- the walk of the root request, by what its project is evaluated to
  abbrev walk_by : Result Instance EvalFault → Walk Site ToolInput ToolAnswer
  walk_by result =
      request_by (build stamp).tree.files (build stamp).mode root [] (instance_by result)

  -- it is that of the project as it is evaluated
  walk-so : (world_of tools (build stamp)).walks root []
      ≡ walk_by (Ok instance)
  walk-so = ap walk_by (evaluates stamp)

  -- what the root request gives by its walk
  abbrev given_by : Walk Site ToolInput ToolAnswer → Option (Given Site ToolInput RequestResult)
  given_by root_walk =
      containing (requested root)
      (walk (world_of tools (build stamp)) (request (world_of tools (build stamp)) 127) []
      root_walk [] [])

  begins : meaning (world_of tools (build stamp))
      ≡ given_by (walk_by (Ok instance))
  unfolding deepest
  begins = ap given_by walk-so

  goes-on : given_by (walk_by (Ok instance)) ≡ Some given
  unfolding same_run same_instance deepest read_on visit order fold_case folding value_in rows chars
  goes-on = refl

  pub means : meaning (world_of tools (build stamp)) ≡ Some given
  means = begins ∙ goes-on

few : length (distinct (instances given.demand)) ≤ most_instances
unfolding same_instance most_instances
few = omega arith

pub whole : (tools : List ℕ → ToolInput → ToolAnswer) (stamp : ℕ) →
    IsWhole (world_of tools (build stamp)) given
whole tools stamp = record { means = means tools stamp; few = few }

-- the one run has one record
made-so : (p : Site) (id : RunId) (from : Journal) (other : Record)
    (used : List (ToolUse ToolInput)) → In (built p id from other used) given.demand →
    made ≡ other
made-so p id from other used (inl e) = absurd (cc)
made-so p id from other used (inr (inl e)) = let same : made ≡ other = cc in same
made-so p id from other used (inr (inr i)) = absurd i

pub steady : IsSteady given.demand
steady id first second i j =
    sym (made-so i.0 id i.1 first i.2.0 i.2.1) ∙ made-so j.0 id j.1 second j.2.0 j.2.1

-- ---- what is printed

pub shows : shown_text root_result journal false ≡ printed
unfolding digits
shows = refl

-- ---- the words

abbrev options : Options
options = record {
  action = ToBuild;
  project = project;
  targets = [];
  globals = [];
  nodes = 1;
  clean = false;
  low = false;
  size = 0;
  seed = 0;
}

asks : options_in (codes "build" ∷ codes "a.proj" ∷ []) ≡ Some options
unfolding taken_all
asks = refl

within : (stamp : ℕ) → limit_fault (entries_of (files stamp)) ≡ None
within stamp = refl

path-so : normal_path [] project ≡ Ok project
path-so = refl

is-asked : (stamp : ℕ) → IsAsked options (key_at project options) (files stamp) (build stamp)
is-asked stamp =
    record { tree = refl; root = refl; globals = refl; targets = refl; mode = refl }

work-so : (stamp : ℕ) →
    IsWorkAt options (files stamp) (normal_path [] project) (Build (build stamp))
work-so stamp =
    subst (λ (evaluates_to : Result Instance EvalFault).
    IsWorkOfInstance options (key_at project options) (files stamp) evaluates_to
    (Build (build stamp))) (sym (evaluates stamp)) (is-asked stamp)

asked-of : (stamp : ℕ) →
    IsAskedOf (codes "build" ∷ codes "a.proj" ∷ []) (Some (files stamp)) (build stamp)
asked-of stamp = record {
  options = options;
  asked = asks;
  files = files stamp;
  told_are = refl;
  within = within stamp;
  is = work-so stamp;
}

comes-so : outcome ≡ comes_of false given.value given.journal
comes-so = ap (λ text. record { status = 0; text = text; commit = []; runs = 1 }) (sym shows)

pub words-mean : (tools : List ℕ → ToolInput → ToolAnswer) (stamp : ℕ) →
    Means tools (codes "build" ∷ codes "a.proj" ∷ []) (Some (files stamp)) outcome
words-mean tools stamp = record {
  given = build stamp;
  build = asked-of stamp;
  out = given;
  whole = whole tools stamp;
  steady = steady;
  is = comes-so;
}
