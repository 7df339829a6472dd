-- The calls of projects all of which are there.
use Rattle.std.proofs.Common.{
  ◌≡◌,
  ◌++◌,
  ◌==◌,
  ◌∙◌,
  ℕ,
  suc,
  List,
  [],
  ◌∷◌,
  Bool,
  true,
  false,
  ◌&&◌,
  ◌||◌,
  Result,
  Ok,
  Err,
  IfOk,
  ap,
  arith,
  eqb-true,
  length,
  map,
  not,
  refl,
  sym,
  if◌then◌else◌,
}
use Rattle.std.specs.List.{flat_map, list_all}
use Rattle.msb_laws.specs.Words.{Name, Pairs}
use Rattle.file_store.specs.declared.tree.File.{File}
use Rattle.msb_values.specs.declared.note.Note.{Note}
use Rattle.result_cache.specs.declared.request.RequestKey.{RequestKey}
use Rattle.task_msbuild.specs.Calls.{
  all_calls,
  calls_of,
  instance_of,
  is_there,
  looked_up,
  request_of,
  target_lists,
}
use Rattle.task_msbuild.specs.GlobalProperties.{shared_globals}
use Rattle.task_msbuild.specs.Plans.{all_missing_notes, missing_notes, note_of}
use Rattle.task_msbuild.specs.declared.parameters.Parameters.{Parameters}
use Rattle.task_msbuild.specs.declared.project.Project.{Project}
use Rattle.task_trait.specs.declared.failures.Failure.TheVariants.{NoProject}

-- no note is made of a project, and none of those behind it
there_by : (there others : Bool) (note : Note) (notes : List Note)
    → (if there || false then [] else note ∷ []) ++ notes ≡ [] → (notes ≡ [] → others ≡ true)
    → (there && others) ≡ true
there_by true others note notes none more = more none
there_by false others note notes none more = cc

-- where no note is made, all projects are there
all_there : (files : List File) (projects : List Project)
    → flat_map (missing_notes files false) projects ≡ []
    → list_all (is_there files) projects ≡ true
all_there files [] none = refl
all_there files (project ∷ projects) none = there_by (is_there files project)
    (list_all (is_there files) projects) (note_of (NoProject project.item.text))
    (flat_map (missing_notes files false) projects) none (all_there files projects)

not_true : false ≡ true → ⊥
not_true is = cc

first_so : (a b : Bool) → (a && b) ≡ true → a ≡ true
first_so true b is = refl
first_so false b is = cc

not_shown : (skip_missing : Bool) (n : ℕ) → ((suc n == 0) && not skip_missing) ≡ true → ⊥
not_shown skip_missing n is = omega (
  arith,
  eqb-true (suc n) 0 (first_so (suc n == 0) (not skip_missing) is),
)

shown_by : (files : List File) (projects : List Project) (skip_missing : Bool) (notes : List Note)
    → notes ≡ flat_map (missing_notes files skip_missing) projects
    → ((length notes == 0) && not skip_missing) ≡ true → list_all (is_there files) projects ≡ true
shown_by files projects false [] is none = all_there files projects (sym is)
shown_by files projects false (first ∷ rest) is none = absurd (not_shown false (length rest) none)
shown_by files projects true [] is none = absurd (not_true none)
shown_by files projects true (first ∷ rest) is none = absurd (not_shown true (length rest) none)

-- where there is no note and none is passed over
pub all_shown : (files : List File) (p : Parameters) (notes : List Note) (all : Bool)
    → notes ≡ all_missing_notes files p → all ≡ ((length notes == 0) && not p.skip_missing)
    → all ≡ true → list_all (is_there files) (looked_up files p) ≡ true
all_shown files p notes all is shown none = shown_by files (looked_up files p) p.skip_missing notes
    is (sym shown ∙ none)

called_by : (there others : Bool) (calls some all : List RequestKey) → (there && others) ≡ true
    → (others ≡ true → some ≡ all) → (if there then calls else []) ++ some ≡ calls ++ all
called_by true others calls some all is same = ap (λ (l : List RequestKey). calls ++ l) (same is)
called_by false others calls some all is same = cc

-- and all are called
all_called : (files : List File) (shared : Pairs) (lists : List (List Name))
    (projects : List Project) → list_all (is_there files) projects ≡ true
    → flat_map (calls_of files shared lists) projects
    ≡ flat_map (λ project. map (request_of (instance_of shared project)) lists) projects
all_called files shared lists [] all = refl
all_called files shared lists (project ∷ projects) all = called_by (is_there files project)
    (list_all (is_there files) projects) (map (request_of (instance_of shared project)) lists)
    (flat_map (calls_of files shared lists) projects)
    (flat_map (λ project. map (request_of (instance_of shared project)) lists) projects) all
    (all_called files shared lists projects)

-- as the code calls them
pub all_called_so : {E : Type 0} (files : List File) (globals : Pairs) (p : Parameters)
    (shared : Pairs) (lists slice : List (List Name)) (projects : List Project)
    (r : Result (List RequestKey) E)
    → shared ≡ shared_globals p.removed p.properties globals
    → lists ≡ target_lists p.separately p.targets → slice ≡ lists
    → projects ≡ looked_up files p → list_all (is_there files) (looked_up files p) ≡ true
    → IfOk r (λ calls. calls
    ≡ flat_map (λ project. map (request_of (instance_of shared project)) slice) projects)
    → IfOk r (λ calls. calls ≡ all_calls files globals p)
all_called_so files globals p shared lists slice projects (Ok calls) shared_so lists_so slice_so
    projects_so all is =
    let shared_by : Pairs = shared_globals p.removed p.properties globals in
    let lists_by : List (List Name) = target_lists p.separately p.targets in
    is
    ∙ ap (λ (s : Pairs). flat_map (λ project. map (request_of (instance_of s project)) slice)
    projects) shared_so
    ∙ ap (λ (l : List (List Name)). flat_map
    (λ project. map (request_of (instance_of shared_by project)) l) projects) (slice_so ∙ lists_so)
    ∙ ap (λ (l : List Project). flat_map
    (λ project. map (request_of (instance_of shared_by project)) lists_by) l) projects_so
    ∙ sym (all_called files shared_by lists_by (looked_up files p) all)
all_called_so files globals p shared lists slice projects (Err error) shared_so lists_so slice_so
    projects_so all is = is
