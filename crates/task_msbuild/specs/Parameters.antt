-- The parameters of the MSBuild task as it uses them, or why it can't. (MSBuild task)
use Rattle.std.specs.Prelude.{ℕ, List, [], ◌∷◌, Option, option_map, Result, codes}
use Rattle.std.specs.Result.{result_ok}
use Rattle.msb_laws.specs.Results.{and_then, map_ok}
use Rattle.msb_laws.specs.Traverse.{traverse}
use Rattle.msb_laws.specs.Words.{Text, Name, Path, Pairs}
use Rattle.msb_paths.specs.Refused.{normal_path}
use Rattle.msb_values.specs.Keys.{key_if}
use Rattle.msb_values.specs.Names.{bad_place, is_target_byte}
use Rattle.msb_values.specs.declared.item.Item.{Item}
use Rattle.task_trait.specs.Params.{
  idents,
  items_of,
  check_known,
  unless,
  needed_items,
  or_bad,
  truth_at,
}
use Rattle.task_trait.specs.declared.failures.Failure.{Failure}
use Rattle.task_trait.specs.declared.tools.Param.{Param}
use Rattle.task_msbuild.specs.declared.project.ProjectItem.{ProjectItem}
use Rattle.task_msbuild.specs.declared.project.Project.{Project}
use Rattle.task_msbuild.specs.declared.parameters.Parameters.{Parameters}
use Rattle.task_msbuild.specs.GlobalProperties.{additional_of, properties_of, removed_of}

-- a project item, with the properties of its metadata AdditionalProperties
abbrev pub project_item : Item → Option ProjectItem
project_item item = option_map (λ additional. record { text = item.ident; additional = additional })
    (additional_of item)

-- the project that it names, whose path is on the folder of the caller
abbrev pub project_of : Path → ProjectItem → Option Project
project_of dir item = option_map (λ path. record { item = item; path = path })
    (result_ok (normal_path dir item.text))

-- the name of a target, if the text is one (MSBuild targets)
abbrev pub target_name : Text → Option Name
target_name text = key_if (bad_place is_target_byte text) text

-- the project items, the first in byte order of names that can be bad, as `additionalproperties`
abbrev pub asked_of : List Item → Result (List ProjectItem) Failure
asked_of items = or_bad (codes "additionalproperties") (traverse project_item items)

abbrev pub projects_of : Path → List ProjectItem → Result (List Project) Failure
projects_of dir items = or_bad (codes "projects") (traverse (project_of dir) items)

abbrev pub given_properties : List Param → Result Pairs Failure
given_properties params = or_bad (codes "properties")
    (properties_of (idents (items_of (codes "properties") params)))

abbrev pub removed_properties : List Param → Result (List Name) Failure
removed_properties params = or_bad (codes "removeproperties")
    (removed_of (idents (items_of (codes "removeproperties") params)))

abbrev pub given_targets : List Param → Result (List Name) Failure
given_targets params = or_bad (codes "targets")
    (traverse target_name (idents (items_of (codes "targets") params)))

-- the values of the parameters, each of which must be one that can be used, in byte order of their
-- names
abbrev pub values_of : Path → List Param → List Item → Result Parameters Failure
values_of dir params items =
    and_then (asked_of items) (λ asked.
    and_then (truth_at (codes "buildinparallel") params) (λ parallel.
    and_then (projects_of dir asked) (λ projects.
    and_then (given_properties params) (λ properties.
    and_then (removed_properties params) (λ removed.
    and_then (truth_at (codes "runeachtargetseparately") params) (λ separately.
    and_then (truth_at (codes "skipnonexistentprojects") params) (λ skip_missing.
    and_then (truth_at (codes "stoponfirstfailure") params) (λ stop_first.
    map_ok (λ targets. record {
      projects = projects;
      targets = targets;
      properties = properties;
      removed = removed;
      parallel = parallel;
      separately = separately;
      skip_missing = skip_missing;
      stop_first = stop_first;
    }) (given_targets params)))))))))

-- a parameter that the task does not have comes first, and then Projects, which must be given
abbrev pub parameters_of : Path → List Param → Result Parameters Failure
parameters_of dir params =
    unless (check_known (codes "msbuild") params)
    (and_then (needed_items (codes "projects") params) (values_of dir params))
