-- A task does the same by views that have the same files.
use Rattle.std.proofs.Common.{
  ◌≡◌,
  ℕ,
  ◌==◌,
  ◌&&◌,
  not,
  Bool,
  true,
  List,
  [],
  ◌∷◌,
  ◌++◌,
  length,
  Option,
  None,
  Some,
  refl,
  ap,
  ◌∙◌,
  zip,
}
use Rattle.std.specs.Prelude.{Result, Ok, Err, codes, if◌then◌else◌, map, fold, is_some}
use Rattle.msb_laws.specs.Results.{and_then, map_ok, all_ok}
use Rattle.msb_values.specs.Changes.{with_metadata}
use Rattle.msb_values.specs.Pairs.{value_at}
use Rattle.msb_values.specs.declared.act.Act.{Act}
use Rattle.msb_values.specs.declared.act.Act.TheVariants.{Remove}
use Rattle.msb_values.specs.declared.item.Item.{Item}
use Rattle.msb_files.specs.Views as views
use Rattle.msb_files.specs.Views.{View, content}
use Rattle.task_trait.specs.Params.{
  items_of,
  text_of,
  check_known,
  truth_at,
  unless,
  needed_text,
  needed_items,
}
use Rattle.task_trait.specs.declared.failures.Failure.{Failure}
use Rattle.task_trait.specs.declared.tools.Param.{Param}
use Rattle.task_trait.specs.declared.tools.ToolAnswer.TheVariants.{Made as MadeBy}
use Rattle.task_kit.specs.Copies.{
  with_item,
  item_copied,
  is_unchanged,
  written_at,
  copied_from,
  copied,
  output_copied,
  all_copied,
  copied_to,
  copy,
  named_at,
  all_below,
  source_at,
  chosen,
  counted,
}
use Rattle.task_kit.specs.Progress.{with_file, made_by, started, kept_by, output_with, succeeded}
use Rattle.task_kit.specs.Lines.{written_lines, output_written, write_lines, text_after}
use Rattle.task_kit.specs.Included.{create_item, metadata_in, include_output, items_created}
use Rattle.task_kit.specs.Read.{read_lines, lines_read}
use Rattle.task_kit.specs.Removed.{delete, path_at, is_acted, with_removed, removed, output_removed}
use Rattle.task_kit.specs.Foreign.{file_at as file_in, foreign_input}
use Rattle.task_kit.specs.Paths.{path_in}
use Rattle.task_kit.specs.Tasks.{built_in, done, output_of, answer_of, answer}
use Rattle.task_kit.specs.declared.copies.Source.{Source}
use Rattle.task_kit.specs.declared.copies.Destination.{Destination}
use Rattle.task_kit.specs.declared.progress.TaskProgress.{TaskProgress}
use Rattle.task_kit.specs.declared.tasks.BuiltIn.{BuiltIn}
use Rattle.task_kit.specs.declared.tasks.BuiltIn.TheVariants.{
  Message,
  Warning,
  Error,
  Copy,
  WriteLinesToFile,
  ReadLinesFromFile,
  Delete,
  CreateItem,
  CreateProperty,
}

-- ---- functions that are equal everywhere

ext : {X Y : Type 0} (f g : X → Y) → ((x : X) → f x ≡ g x) → f ≡ g
ext f g h = λ i. λ x. h x i

module _ (v u : View) (seen-same : (path : List ℕ) → content v path ≡ content u path)
    (paths-same : views.paths v ≡ views.paths u) where
  -- ---- Copy

  written-at : (skip : Bool) (bytes : List ℕ) (to : Destination) (progress : TaskProgress) →
      written_at v skip bytes to progress ≡ written_at u skip bytes to progress
  written-at skip bytes to progress = ap (λ c. if skip
      && is_unchanged c bytes then Ok progress else with_file to.text (record {
        path = to.path;
        bytes =
            bytes;
      }) progress) (seen-same to.path)

  copied-from : (x : Option (List ℕ)) (skip : Bool) (progress : TaskProgress)
      (c : Source × Destination) →
      copied_from x v skip progress c ≡ copied_from x u skip progress c
  copied-from None skip progress c = refl
  copied-from (Some bytes) skip progress c = ap (map_ok (with_item (item_copied c.0 c.1)))
      (written-at skip bytes c.1 progress)

  copied-same : (skip : Bool) (progress : TaskProgress) (c : Source × Destination) →
      copied v skip progress c ≡ copied u skip progress c
  copied-same skip progress c = copied-from (content v c.0.path) skip progress c
      ∙ ap (λ x. copied_from x u skip progress c) (seen-same c.0.path)

  copied-all : (skip : Bool) → copied v skip ≡ copied u skip
  copied-all skip = ext (copied v skip) (copied u skip)
      (λ progress. ext (copied v skip progress) (copied u skip progress)
      (copied-same skip progress))

  all-copied : (skip : Bool) (written : ℕ) (sources : List Source) →
      all_copied v skip written sources ≡ all_copied u skip written sources
  all-copied skip written sources =
      ext (all_copied v skip written sources) (all_copied u skip written sources)
      (λ to. ap (λ f. output_copied (made_by f (started written) (zip sources to)))
      (copied-all skip))

  copied-to : (skip : Bool) (written : ℕ) (sources : List Source)
      (to : Result (List Destination) Failure) → copied_to v skip written sources to
      ≡ copied_to u skip written sources to
  copied-to skip written [] to = ap (λ f. Ok (f [])) (all-copied skip written [])
  copied-to skip written (source ∷ sources) to =
      ap (λ f. map_ok f (and_then to (counted (length (source ∷ sources)))))
      (all-copied skip written (source ∷ sources))

  -- under what is read before
  and-same : {X Y : Type 0} (x : Result X Failure) (f g : X → Result Y Failure) →
      ((y : X) → f y ≡ g y) → and_then x f ≡ and_then x g
  and-same (Ok y) f g h = h y
  and-same (Err failure) f g h = refl

  copy-same : (dir : List ℕ) (params : List Param) (written : ℕ) →
      copy dir v params written ≡ copy dir u params written
  copy-same dir params written =
      ap (unless (check_known (codes "copy") params))
      (and-same (all_ok (named_at dir) (items_of (codes "destinationfiles") params)) _ _ (λ named.
      and-same (all_below dir (text_of (codes "destinationfolder") params)
      (items_of (codes "sourcefiles") params)) _ _ (λ below.
      and-same (truth_at (codes "skipunchangedfiles") params) _ _ (λ skip.
      and-same (all_ok (source_at dir) (items_of (codes "sourcefiles") params)) _ _ (λ sources.
      copied-to skip written sources (chosen named
      (not (length (text_of (codes "destinationfolder") params) == 0)) below))))))

  -- ---- WriteLinesToFile

  lines-same : (file path : List ℕ) (overwrite : Bool) (lines : List Item) (progress : TaskProgress)
      →
      written_lines v file path overwrite lines progress
      ≡ written_lines u file path overwrite lines progress
  lines-same file path overwrite lines progress =
      ap (λ c. if not overwrite && length lines == 0 then Ok progress else with_file file
      (record { path = path; bytes = text_after overwrite c lines }) progress) (seen-same path)

  map-same : {X Y : Type 0} (f g : X → Y) (x : Result X Failure) → ((y : X) → f y ≡ g y) →
      map_ok f x ≡ map_ok g x
  map-same f g (Ok y) h = ap Ok (h y)
  map-same f g (Err failure) h = refl

  write-same : (dir : List ℕ) (params : List Param) (written : ℕ) →
      write_lines dir v params written ≡ write_lines dir u params written
  write-same dir params written =
      ap (unless (check_known (codes "writelinestofile") params))
      (and-same (needed_text (codes "file") params) _ _ (λ file.
      and-same (path_in dir (codes "file") file) _ _ (λ path.
      map-same (λ overwrite. output_written v file path overwrite
      (items_of (codes "lines") params) written)
      (λ overwrite. output_written u file path overwrite
      (items_of (codes "lines") params) written)
      (truth_at (codes "overwrite") params)
      (λ overwrite. ap (λ x. output_with (codes "writelinestofile") (succeeded [])
      (kept_by (started written) x)) (lines-same file path overwrite
      (items_of (codes "lines") params) (started written))))))

  -- ---- CreateItem

  create-same : (dir : List ℕ) (params : List Param) →
      create_item dir v params ≡ create_item dir u params
  create-same dir params =
      ap (unless (check_known (codes "createitem") params))
      (and-same (needed_items (codes "include") params) _ _ (λ entries.
      and-same (all_ok metadata_in (items_of (codes "additionalmetadata") params)) _ _ (λ metadata.
      ap (λ ps. map_ok (λ items. succeeded (include_output (map (with_metadata metadata) items)
      ∷ [])) (items_created dir ps entries (items_of (codes "exclude") params))) paths-same)))

  -- ---- ReadLinesFromFile

  read-same : (dir : List ℕ) (params : List Param) →
      read_lines dir v params ≡ read_lines dir u params
  read-same dir params =
      ap (unless (check_known (codes "readlinesfromfile") params))
      (and-same (needed_text (codes "file") params) _ _ (λ file.
      and-same (path_in dir (codes "file") file) _ _ (λ path.
      ap (lines_read file) (seen-same path))))

  -- ---- Delete

  with-removed : (acts : List Act) (path : List ℕ) →
      with_removed v acts path ≡ with_removed u acts path
  with-removed acts path =
      ap (λ c. if is_some c && not (is_acted acts path) then acts ++ Remove path ∷ [] else acts)
      (seen-same path)

  all-removed : (paths : List (List ℕ)) → removed v paths ≡ removed u paths
  all-removed paths = ap (λ f. fold f [] paths)
      (ext (with_removed v) (with_removed u)
      (λ acts. ext (with_removed v acts) (with_removed u acts) (with-removed acts)))

  delete-same : (dir : List ℕ) (params : List Param) → delete dir v params ≡ delete dir u params
  delete-same dir params =
      ap (unless (check_known (codes "delete") params))
      (and-same (needed_items (codes "files") params) _ _ (λ items.
      map-same (output_removed v items) (output_removed u items) (all_ok (path_at dir) items)
      (λ paths. ap (λ acts. record {
        ok = true;
        outputs = record { name = codes "deletedfiles"; items = items } ∷ [];
        acts = acts;
        notes = [];
      }) (all-removed paths))))

  -- ---- all tasks

  done-same : (task : BuiltIn) (dir : List ℕ) (params : List Param) (written : ℕ) →
      done task dir v params written ≡ done task dir u params written
  done-same Message dir params written = refl
  done-same Warning dir params written = refl
  done-same Error dir params written = refl
  done-same Copy dir params written = copy-same dir params written
  done-same WriteLinesToFile dir params written = write-same dir params written
  done-same ReadLinesFromFile dir params written = read-same dir params
  done-same Delete dir params written = delete-same dir params
  done-same CreateItem dir params written = create-same dir params
  done-same CreateProperty dir params written = refl

  answer-same : (o : Option BuiltIn) (name dir : List ℕ) (params : List Param) (written : ℕ) →
      answer_of o name dir v params written ≡ answer_of o name dir u params written
  answer-same None name dir params written = refl
  answer-same (Some task) name dir params written =
      ap (λ x. MadeBy (output_of name x)) (done-same task dir params written)

  file-same : (dir : List ℕ) (item : Item) → file_in dir v item ≡ file_in dir u item
  file-same dir item = map-same (λ path. record { path = path; content = content v path })
      (λ path. record { path = path; content = content u path })
      (path_in dir (codes "sources") item.ident)
      (λ path. ap (λ c. record { path = path; content = c }) (seen-same path))

  pub input-same : (dir : List ℕ) (params : List Param) →
      foreign_input dir v params ≡ foreign_input dir u params
  input-same dir params =
      ap (λ f. map_ok (λ files. record { params = params; files = files })
      (all_ok f (items_of (codes "sources") params)))
      (ext (file_in dir v) (file_in dir u) (file-same dir))

  pub answers-same : (name dir : List ℕ) (params : List Param) (written : ℕ) →
      answer name dir v params written ≡ answer name dir u params written
  answers-same name dir params written = answer-same
      (value_at name built_in) name dir params written
