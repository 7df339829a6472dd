-- A worked set of projects: one target copies three sources one by one. The second source is newer
-- than its output; the other outputs are newer than their sources, and have their bytes. (How to
-- build incrementally)
use Rattle.std.specs.Prelude.{
  ℕ,
  true,
  false,
  List,
  [],
  ◌∷◌,
  ◌++◌,
  None,
  Some,
  codes,
  refl,
}
use Rattle.msb_laws.specs.Words.{Text, Name, Path}
use Rattle.msb_values.specs.declared.act.Act.{Act}
use Rattle.msb_values.specs.declared.act.Act.TheVariants.{Write}
use Rattle.msb_values.specs.declared.change.Change.TheVariants.{AddItems}
use Rattle.msb_values.specs.declared.item.Item.{Item}
use Rattle.msb_values.specs.declared.mode.Mode.{Mode}
use Rattle.msb_values.specs.declared.scope.Scope.{Scope}
use Rattle.msb_elements.specs.Nodes.{Node, node, no_nodes, more}
use Rattle.file_store.specs.declared.tree.File.{File}
use Rattle.file_store.specs.declared.tree.Tree.{Tree}
use Rattle.build_world.specs.Elements.{at}
use Rattle.build_world.specs.Instances.{Instance, UsedTarget}
use Rattle.build_world.specs.declared.world.World.{World as Build}
use Rattle.result_cache.specs.declared.record.Decision.{Decision}
use Rattle.result_cache.specs.declared.record.Decision.TheVariants.{Ran, Part}
use Rattle.result_cache.specs.declared.record.Record.{Record}
use Rattle.result_cache.specs.declared.record.Segment.{Segment}
use Rattle.result_cache.specs.declared.record.Segment.TheVariants.{File as OnFile}
use Rattle.result_cache.specs.declared.request.RequestKey.{RequestKey}
use Rattle.result_cache.specs.declared.request.RequestResult.{RequestResult}
use Rattle.result_cache.specs.declared.run.RunId.{RunId}
use Rattle.result_cache.specs.Journal.{Journal, acted, ended}
use Rattle.build_meaning.specs.Meaning.{Given, requested, built}
use Rattle.build_meaning.specs.World.{World}
use Rattle.task_trait.specs.declared.tools.ToolAnswer.{ToolAnswer}
use Rattle.task_trait.specs.declared.tools.ToolInput.{ToolInput}
use Rattle.request_machine.specs.Walk.{Site}
use Rattle.request_machine.specs.Worlds.{instances_of}
use Rattle.build_declared.specs.Builds.{world_by}
use Rattle.build_declared.specs.Occurrences.{Occurrence}

-- ---- the project, as it is evaluated

abbrev pub project : Path
project = codes "a.proj"

abbrev pub item : Text → Item
item name = record { ident = name; recursive = []; meta = [] }

abbrev pub sources : List Item
sources = item (codes "1.c") ∷ item (codes "2.c") ∷ item (codes "3.c") ∷ []

abbrev pub objects : List Item
objects = item (codes "o/1.o") ∷ item (codes "o/2.o") ∷ item (codes "o/3.o") ∷ []

-- the texts of the lists
abbrev pub all_sources : Text
all_sources = codes "@(C)"

abbrev pub all_objects : Text
all_objects = codes "@(C->'o/%(Filename).o')"

-- each source is copied to its object
abbrev pub copy_element : Node
copy_element = node (1 ∷ 0 ∷ []) (codes "Copy")
    ((codes "DestinationFiles", all_objects) ∷ (codes "SourceFiles", all_sources) ∷ []) []
    no_nodes

-- the objects are the items of a list that is returned
abbrev pub list_element : Node
list_element = node (1 ∷ 1 ∷ 0 ∷ []) (codes "O") ((codes "Include", all_objects) ∷ []) [] no_nodes

abbrev pub group_element : Node
group_element = node (1 ∷ 1 ∷ []) (codes "ItemGroup") [] [] (more list_element no_nodes)

abbrev pub target_element : Node
target_element = node (1 ∷ []) (codes "Target")
    ((codes "Inputs", all_sources) ∷ (codes "Name", codes "Build")
    ∷ (codes "Outputs", all_objects) ∷ (codes "Returns", codes "@(O)") ∷ []) []
    (more copy_element (more group_element no_nodes))

abbrev pub target : UsedTarget
target = record {
  name = codes "build";
  element = at project target_element;
  file_has_returns = true;
}

abbrev pub scope : Scope
scope = record { globals = []; props = []; items = (codes "c", sources) ∷ []; defaults = [] }

abbrev pub instance : Instance
instance = record {
  scope = scope;
  rows = record { name = codes "build"; before = []; after = [] } ∷ [];
  targets = target ∷ [];
  initial = [];
  default = codes "build" ∷ [];
  duplicates = [];
}

-- ---- the project's file

abbrev pub items_text : Text
items_text = codes "{\"e\":\"ItemGroup\",\"c\":[{\"e\":\"C\",\"a\":{\"Include\":\"1.c;2.c;3.c\"}}]}"

abbrev pub copy_text : Text
copy_text = codes "{\"e\":\"Copy\",\"a\":{\"DestinationFiles\":\"" ++ all_objects
    ++ codes "\",\"SourceFiles\":\"@(C)\"}}"

abbrev pub group_text : Text
group_text = codes "{\"e\":\"ItemGroup\",\"c\":[{\"e\":\"O\",\"a\":{\"Include\":\"" ++ all_objects
    ++ codes "\"}}]}"

abbrev pub target_text : Text
target_text = codes "{\"e\":\"Target\",\"a\":{\"Inputs\":\"@(C)\",\"Name\":\"Build\",\"Outputs\":\""
    ++ all_objects ++ codes "\",\"Returns\":\"@(O)\"},\"c\":[" ++ copy_text ++ codes ","
    ++ group_text ++ codes "]}"

abbrev pub project_bytes : Text
project_bytes = codes "{\"e\":\"Project\",\"c\":[" ++ items_text ++ codes "," ++ target_text
    ++ codes "]}"

-- ---- the files, and what is asked for

abbrev pub file : Path → Text → ℕ → File
file path bytes stamp = record { path = path; bytes = bytes; stamp = stamp }

-- the object of the second source has these bytes and this stamp
abbrev pub files_with : Text → ℕ → List File
files_with bytes stamp =
    file (codes "1.c") (codes "one") 5 ∷ file (codes "2.c") (codes "two") 9
    ∷ file (codes "3.c") (codes "three") 5 ∷ file project project_bytes 1
    ∷ file (codes "o/1.o") (codes "one") 7 ∷ file (codes "o/2.o") bytes stamp
    ∷ file (codes "o/3.o") (codes "three") 7 ∷ []

-- the files as they stand, and as the build leaves them
abbrev pub files : List File
files = files_with (codes "old") 7

abbrev pub files_left : List File
files_left = files_with (codes "two") 10

-- the default targets of the project
abbrev pub root : RequestKey
root = record {
  instance = record { path = project; globals = [] };
  targets = [];
  named = false;
}

abbrev pub tree_left : Tree
tree_left = record { files = files_left; in_order = refl }

-- the build of the project over the files as they stand
abbrev pub build : Mode → Build
build mode = record {
  tree = record { files = files; in_order = refl };
  root = project;
  globals = [];
  targets = [];
  mode = mode;
}

-- the world of a build over some files
abbrev pub world : (Name → ToolInput → ToolAnswer) → List File → Mode →
    World Site ToolInput ToolAnswer
world tools tree mode = world_by tools tree root (instances_of tree) mode

-- ---- what a build comes to

abbrev pub run : RunId
run = record { instance = record { path = project; globals = [] }; target = codes "build" }

abbrev pub site : Site
site = record { target = Some target; scope = scope }

abbrev pub first_act : Act
first_act = Write (record { path = codes "o/1.o"; bytes = codes "one" })

abbrev pub second_act : Act
second_act = Write (record { path = codes "o/2.o"; bytes = codes "two" })

abbrev pub third_act : Act
third_act = Write (record { path = codes "o/3.o"; bytes = codes "three" })

-- the record of a run that was decided so and did this
abbrev pub recorded_as : Decision → List Segment → Record
recorded_as decision segments = record {
  ok = true;
  decisions = decision ∷ [];
  items = objects;
  changes = AddItems (codes "o") objects ∷ [];
  notes = [];
  segments = segments;
}

-- a clean build copies all of them
abbrev pub clean_record : Record
clean_record = recorded_as Ran (OnFile first_act ∷ OnFile second_act ∷ OnFile third_act ∷ [])

abbrev pub clean_journal : Journal
clean_journal = ended run clean_record ∷ acted run 2 third_act ∷ acted run 1 second_act
    ∷ acted run 0 first_act ∷ []

-- an incremental build copies the second one
abbrev pub part_record : Record
part_record = recorded_as (Part 1 3) (OnFile second_act ∷ [])

abbrev pub part_journal : Journal
part_journal = ended run part_record ∷ acted run 0 second_act ∷ []

abbrev pub result : RequestResult
result = record {
  ok = true;
  evaluated = true;
  returned = record { target = codes "build"; items = objects } ∷ [];
  runs = run ∷ [];
  error = None;
}

abbrev pub given : Record → Journal → Given Site ToolInput RequestResult
given made journal = record {
  value = result;
  journal = journal;
  demand = requested root ∷ built site run [] made [] ∷ [];
}

abbrev pub clean_given : Given Site ToolInput RequestResult
clean_given = given clean_record clean_journal

abbrev pub part_given : Given Site ToolInput RequestResult
part_given = given part_record part_journal

-- the one body that a build contains
abbrev pub body_of : Record → Occurrence
body_of made = record { site = site; run = run; from = []; made = made }
