-- The projects of a set, as their files' texts. (MSBuild task; WriteLinesToFile task)
use Rattle.std.specs.Prelude.{ℕ, List, [], ◌∷◌, ◌++◌, codes}
use Rattle.std.specs.Fmt.{decimal}
use Rattle.std.specs.List.{flat_map}
use Rattle.msb_laws.specs.Words.{Text, Name, Path, Pairs}
use Rattle.trial_set.specs.Elements.{element_text}

-- the name of project i
abbrev pub name_of : ℕ → Name
name_of i = codes "p" ++ decimal i

-- its file
abbrev pub file_of : ℕ → Path
file_of i = name_of i ++ codes ".proj"

-- the file that it writes
abbrev pub output_of : ℕ → Path
output_of i = codes "out/" ++ name_of i ++ codes ".txt"

abbrev pub next_file : ℕ → Text
next_file i = codes ";" ++ file_of i

-- files of projects as a list
abbrev pub file_list : List ℕ → Text
file_list [] = []
file_list (i ∷ is) = file_of i ++ flat_map next_file is

-- a task that calls projects at once, with perhaps an Output
abbrev pub call_text : List ℕ → List Text → Text
call_text calls outputs = element_text (codes "MSBuild")
    ((codes "BuildInParallel", codes "true") ∷ (codes "Projects", file_list calls) ∷ []) outputs

-- what the projects return goes to the item O
abbrev pub output_text : Text
output_text = element_text (codes "Output")
    ((codes "ItemName", codes "O") ∷ (codes "TaskParameter", codes "TargetOutputs") ∷ []) []

-- the call of the projects that a project calls, if there are any
abbrev pub calls_text : List ℕ → List Text
calls_text [] = []
calls_text (i ∷ is) = call_text (i ∷ is) (output_text ∷ []) ∷ []

-- a task that writes lines to a file
abbrev pub lines_text : Path → Text → Text
lines_text file lines =
    element_text (codes "WriteLinesToFile")
    ((codes "File", file) ∷ (codes "Lines", lines) ∷ (codes "Overwrite", codes "true") ∷ []) []

-- the project's name and what was returned are written to its file
abbrev pub write_text : ℕ → Text
write_text i = lines_text (output_of i) (name_of i ++ codes ";@(O)")

abbrev pub target_text : Pairs → List Text → Text
target_text attributes tasks = element_text (codes "Project") []
    (element_text (codes "Target") attributes tasks ∷ [])

-- the target Build, which writes this file
abbrev pub build_text : Path → List Text → Text
build_text file tasks = target_text ((codes "Name", codes "Build") ∷ (codes "Outputs", file) ∷ [])
    tasks

-- project i, which calls these
abbrev pub project_text : ℕ → List ℕ → Text
project_text i calls = build_text (output_of i) (calls_text calls ++ write_text i ∷ [])

-- the project that calls all
abbrev pub root_text : List ℕ → Text
root_text all = target_text ((codes "Name", codes "Build") ∷ []) (call_text all [] ∷ [])
