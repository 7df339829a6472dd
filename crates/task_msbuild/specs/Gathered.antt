-- What the MSBuild task gives, when the results of its calls have come. (MSBuild task:
-- TargetOutputs)
use Rattle.std.specs.Prelude.{
  ℕ,
  List,
  [],
  ◌∷◌,
  ◌++◌,
  Bool,
  ◌&&◌,
  map,
  Option,
  Some,
  None,
  codes,
  if◌then◌else◌,
}
use Rattle.std.specs.List.{flat_map, list_all, zip}
use Rattle.msb_laws.specs.Words.{Text, Name, Pairs}
use Rattle.msb_expand.specs.Reserved.{from_root}
use Rattle.msb_values.specs.Changes.{with_metadata}
use Rattle.msb_values.specs.InstanceKeys.{key_text}
use Rattle.msb_values.specs.declared.item.Item.{Item}
use Rattle.msb_values.specs.declared.note.Note.{Note}
use Rattle.msb_values.specs.declared.note.Note.TheVariants.{Fail}
use Rattle.result_cache.specs.declared.request.RequestKey.{RequestKey}
use Rattle.result_cache.specs.declared.request.RequestResult.{RequestResult}
use Rattle.result_cache.specs.declared.request.Returned.{Returned}
use Rattle.task_trait.specs.Escaping.{handed_item}
use Rattle.task_trait.specs.declared.tools.Param.{Param}
use Rattle.task_trait.specs.declared.tools.TaskOutput.{TaskOutput}
use Rattle.task_msbuild.specs.declared.plans.Plan.{Plan}

-- where an item comes from, which a target of a project has returned
abbrev pub source_of : RequestKey → Name → Pairs
source_of key target = (codes "msbuildsourceprojectfile", from_root key.instance.path)
    ∷ (codes "msbuildsourcetargetname", target) ∷ []

-- the items that a target has returned, as a task is handed items, with this as metadata
abbrev pub output_items : RequestKey → Returned → List Item
output_items key returned = map (with_metadata (source_of key returned.target))
    (map handed_item returned.items)

-- the items of a call; a failed call gives none
abbrev pub call_items : RequestKey × RequestResult → List Item
call_items (key, result) = if result.ok then flat_map (output_items key) result.returned else []

-- what is said of a request
abbrev pub said_of : RequestKey → Text → Text
said_of key text = key_text key.instance ++ codes ": " ++ text

-- why a call has failed: the error of the request, or the fault of a project that did not evaluate,
-- or nothing more than that it failed
abbrev pub failure_text : RequestKey → Bool → Option Name → Text
failure_text key evaluated (Some text) = if evaluated then said_of key text else text
failure_text key evaluated None = said_of key (codes "request failed")

abbrev pub call_notes : RequestKey × RequestResult → List Note
call_notes (key, result) = if result.ok then [] else Fail
    (failure_text key result.evaluated result.error) ∷ []

abbrev pub target_outputs : List Item → List Param
target_outputs items = record { name = codes "targetoutputs"; items = items } ∷ []

-- by the plan and the results of its first calls, in order
abbrev pub gathered : Plan → List RequestResult → TaskOutput
gathered plan results = record {
  ok = plan.ok && list_all (λ result. result.ok) results;
  outputs = target_outputs (flat_map call_items (zip plan.calls results));
  acts = [];
  notes = plan.notes ++ flat_map call_notes (zip plan.calls results);
}
