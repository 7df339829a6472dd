-- What the words of the command line ask for. (MSBuild command-line reference.)
use Rattle.std.specs.Prelude.{
  ℕ,
  List,
  [],
  ◌∷◌,
  ◌&&◌,
  Bool,
  not,
  Option,
  None,
  Some,
  is_some,
  if◌then◌else◌,
  codes,
  option_map,
  option_and_then,
}
use Rattle.msb_laws.specs.Words.{Text}
use Rattle.msb_values.specs.Pairs.{value_at}
use Rattle.msb_words.specs.Given.{Given, given_in}
use Rattle.msb_words.specs.Values.{targets_if, globals_if, nodes_if, low_if, size_if, seed_in}
use Rattle.msb_words.specs.declared.options.Options.{Options}
use Rattle.msb_words.specs.declared.options.Action.{Action}
use Rattle.msb_words.specs.declared.options.Action.TheVariants.{Build, Check, Eval, Targets, Trial}

-- the names, as they have to be written
abbrev pub actions : List (Text × Action)
actions = (codes "build", Build) ∷ (codes "check", Check) ∷ (codes "eval", Eval)
    ∷ (codes "targets", Targets) ∷ (codes "trial", Trial) ∷ []

abbrev pub action_of : Text → Option Action
action_of word = value_at word actions

-- there is no option but `--property`
abbrev pub for_show : Given → Bool
for_show given = not (is_some given.target) && not (is_some given.nodes) && not given.clean
    && not (is_some given.show) && not (is_some given.size)

-- there is no `--nodes`, `--show` or `--size`
abbrev pub for_check : Given → Bool
for_check given = not (is_some given.nodes) && not (is_some given.show) && not (is_some given.size)

-- there is `--size`, and no other option but `--nodes`
abbrev pub for_trial : Given → Bool
for_trial given = is_some given.size && not (is_some given.target) && not (is_some given.property)
    && not given.clean && not (is_some given.show)

-- the options that each action has
abbrev pub has_options : Action → Given → Bool
has_options Build given = not (is_some given.size)
has_options Check given = for_check given
has_options Eval given = for_show given
has_options Targets given = for_show given
has_options Trial given = for_trial given

-- how many nodes build where the option is left out
abbrev pub nodes_without : Action → ℕ
nodes_without Build = 1
nodes_without Check = 1
nodes_without Eval = 1
nodes_without Targets = 1
nodes_without Trial = 4

-- a trial has a seed in the place of a project
abbrev pub seed_for : Action → Text → Option ℕ
seed_for Build project = Some 0
seed_for Check project = Some 0
seed_for Eval project = Some 0
seed_for Targets project = Some 0
seed_for Trial seed = seed_in seed

abbrev pub options_for : Given → Action → Option Options
options_for given action =
    if has_options action given then
    option_and_then (λ targets.
    option_and_then (λ globals.
    option_and_then (λ nodes.
    option_and_then (λ low.
    option_and_then (λ size.
    option_map (λ seed. record {
      action = action;
      project = given.project;
      targets = targets;
      globals = globals;
      nodes = nodes;
      clean = given.clean;
      low = low;
      size = size;
      seed = seed;
    })
    (seed_for action given.project))
    (size_if given.size))
    (low_if given.show))
    (nodes_if (nodes_without action) given.nodes))
    (globals_if given.property))
    (targets_if given.target)
    else None

abbrev pub options_of : Given → Option Options
options_of given = option_and_then (options_for given) (action_of given.action)

-- none where the words are outside the grammar
abbrev pub options_in : List Text → Option Options
options_in words = option_and_then options_of (given_in words)
