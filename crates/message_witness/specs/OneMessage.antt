-- A worked project: one target with one Message. (MSBuild project file schema; Message task)
use Rattle.std.specs.Prelude.{ℕ, false, true, List, [], ◌∷◌, ◌++◌, None, Some, codes, refl}
use Rattle.msb_laws.specs.Words.{Path, Text}
use Rattle.msb_values.specs.declared.mode.Mode.TheVariants.{Incremental}
use Rattle.msb_values.specs.declared.note.Note.TheVariants.{Message}
use Rattle.msb_values.specs.declared.scope.Scope.{Scope}
use Rattle.msb_elements.specs.Nodes.{Node, node, no_nodes, more}
use Rattle.file_store.specs.declared.tree.File.{File}
use Rattle.build_world.specs.Elements.{at}
use Rattle.build_world.specs.Instances.{Instance, UsedTarget}
use Rattle.build_world.specs.declared.world.World.{World as Build}
use Rattle.result_cache.specs.declared.record.Decision.TheVariants.{Ran}
use Rattle.result_cache.specs.declared.record.Record.{Record}
use Rattle.result_cache.specs.declared.request.RequestKey.{RequestKey}
use Rattle.result_cache.specs.declared.request.RequestResult.{RequestResult}
use Rattle.result_cache.specs.declared.run.RunId.{RunId}
use Rattle.result_cache.specs.Journal.{Journal, ended}
use Rattle.build_meaning.specs.Meaning.{Given, requested, built}
use Rattle.build_report.specs.Line.{line}
use Rattle.build_outcome.specs.declared.outcome.Outcome.{Outcome}
use Rattle.task_trait.specs.declared.tools.ToolInput.{ToolInput}
use Rattle.request_machine.specs.Walk.{Site}

-- ---- the project's file, the one file that there is

abbrev pub project : Path
project = codes "a.proj"

abbrev pub target_text : Text
target_text =
    codes "{\"e\":\"Target\",\"a\":{\"Name\":\"Build\"},\"c\":["
    ++ codes "{\"e\":\"Message\",\"a\":{\"Text\":\"hi\"}}]}"

abbrev pub project_bytes : Text
project_bytes = codes "{\"e\":\"Project\",\"c\":[" ++ target_text ++ codes "]}"

abbrev pub files : ℕ → List File
files stamp = record { path = project; bytes = project_bytes; stamp = stamp } ∷ []

-- the build of it, without a word of targets or properties
abbrev pub build : ℕ → Build
build stamp = record {
  tree = record { files = files stamp; in_order = refl };
  root = project;
  globals = [];
  targets = [];
  mode = Incremental;
}

abbrev pub root : RequestKey
root = record {
  instance = record { path = project; globals = [] };
  targets = [];
  named = false;
}

-- ---- the project, as it is evaluated

abbrev pub message_element : Node
message_element = node (0 ∷ 0 ∷ []) (codes "Message") ((codes "Text", codes "hi") ∷ []) [] no_nodes

abbrev pub target_element : Node
target_element =
    node (0 ∷ []) (codes "Target") ((codes "Name", codes "Build") ∷ []) []
    (more message_element no_nodes)

abbrev pub target : UsedTarget
target = record {
  name = codes "build";
  element = at project target_element;
  file_has_returns = false;
}

abbrev pub scope : Scope
scope = record { globals = []; props = []; items = []; defaults = [] }

abbrev pub instance : Instance
instance = record {
  scope = scope;
  rows = record { name = codes "build"; before = []; after = [] } ∷ [];
  targets = target ∷ [];
  initial = [];
  default = codes "build" ∷ [];
  duplicates = [];
}

-- ---- what the build comes to

abbrev pub run : RunId
run = record { instance = record { path = project; globals = [] }; target = codes "build" }

-- the run says one thing, and acts on no file
abbrev pub made : Record
made = record {
  ok = true;
  decisions = Ran ∷ [];
  items = [];
  changes = [];
  notes = Message (codes "hi") ∷ [];
  segments = [];
}

abbrev pub journal : Journal
journal = ended run made ∷ []

abbrev pub root_result : RequestResult
root_result = record {
  ok = true;
  evaluated = true;
  returned = record { target = codes "build"; items = [] } ∷ [];
  runs = run ∷ [];
  error = None;
}

-- where the run is made
abbrev pub site : Site
site = record { target = Some target; scope = scope }

abbrev pub given : Given Site ToolInput RequestResult
given = record {
  value = root_result;
  journal = journal;
  demand = requested root ∷ built site run [] made [] ∷ [];
}

-- ---- what is printed

abbrev pub printed : Text
printed =
    line (codes "a.proj : build ran") ++ line (codes "  hi") ++ line (codes "returned 0")
    ++ line (codes "build succeeded")

abbrev pub outcome : Outcome
outcome = record { status = 0; text = printed; commit = []; runs = 1 }
