-- Copy: each source's content to its destination. (Copy task)
use Rattle.std.specs.Prelude.{
  ℕ,
  Bool,
  true,
  false,
  ◌&&◌,
  not,
  ◌==◌,
  List,
  [],
  ◌∷◌,
  ◌++◌,
  length,
  Option,
  Some,
  None,
  Result,
  Ok,
  Err,
  codes,
  if◌then◌else◌,
}
use Rattle.std.specs.List.{zip}
use Rattle.std.specs.Str.{bytes_eq}
use Rattle.msb_laws.specs.Results.{and_then, map_ok, all_ok}
use Rattle.msb_laws.specs.Words.{Text, Name, Path}
use Rattle.msb_paths.specs.Join.{joined}
use Rattle.msb_paths.specs.Parts.{filename, extension}
use Rattle.msb_values.specs.declared.item.Item.{Item}
use Rattle.msb_files.specs.Views.{View, content}
use Rattle.task_trait.specs.Params.{items_of, text_of, check_known, unless, truth_at}
use Rattle.task_trait.specs.declared.failures.Failure.{Failure}
use Rattle.task_trait.specs.declared.failures.Failure.TheVariants.{
  MissingSource,
  Counts,
  Destinations,
}
use Rattle.task_trait.specs.declared.tools.Param.{Param}
use Rattle.task_trait.specs.declared.tools.TaskOutput.{TaskOutput}
use Rattle.task_kit.specs.Progress.{started, with_file, made_by, made_in, succeeded, output_with}
use Rattle.task_kit.specs.Paths.{path_in}
use Rattle.task_kit.specs.declared.copies.Source.{Source}
use Rattle.task_kit.specs.declared.copies.Destination.{Destination}
use Rattle.task_kit.specs.declared.progress.TaskProgress.{TaskProgress}

-- a source and a destination with their normal paths
abbrev pub source_at : Path → Item → Result Source Failure
source_at dir item = map_ok (λ path. record { item = item; path = path })
    (path_in dir (codes "sourcefiles") item.ident)

abbrev pub destination_at : Path → Name → Text → Result Destination Failure
destination_at dir name text = map_ok (λ path. record { text = text; path = path })
    (path_in dir name text)

-- a destination of its own for a source
abbrev pub named_at : Path → Item → Result Destination Failure
named_at dir item = destination_at dir (codes "destinationfiles") item.ident

-- the destination that a folder gives a source: the file's Filename and Extension in the folder
abbrev pub text_below : Text → Text → Text
text_below folder source = joined folder (filename source ++ extension source)

abbrev pub below_at : Path → Text → Item → Result Destination Failure
below_at dir folder source = destination_at dir (codes "destinationfolder")
    (text_below folder source.ident)

abbrev pub all_below : Path → Text → List Item → Result (List Destination) Failure
all_below dir folder sources = if length folder == 0 then Ok [] else all_ok (below_at dir folder)
    sources

-- just one of DestinationFiles and DestinationFolder is given
abbrev pub chosen : List Destination → Bool → List Destination → Result (List Destination) Failure
chosen [] true below = Ok below
chosen [] false below = Err Destinations
chosen (named ∷ more) true below = Err Destinations
chosen (named ∷ more) false below = Ok (named ∷ more)

-- as many as there are sources
abbrev pub counted : ℕ → List Destination → Result (List Destination) Failure
counted sources destinations = if length destinations == sources then Ok destinations else Err
    (Counts sources (length destinations))

-- the source's item at its destination, which is given as copied
abbrev pub item_copied : Source → Destination → Item
item_copied source destination = record
    { ident = destination.text; recursive = source.item.recursive; meta = source.item.meta }

abbrev pub with_item : Item → TaskProgress → TaskProgress
with_item item progress = record
    { written = progress.written; acts = progress.acts; items = progress.items ++ item ∷ [] }

-- a destination that has these bytes already
abbrev pub is_unchanged : Option Text → Text → Bool
is_unchanged (Some held) bytes = bytes_eq held bytes
is_unchanged None bytes = false

-- bytes at their destination, unless it is left as it is
abbrev pub written_at : View → Bool → Text → Destination → TaskProgress
    → Result TaskProgress Failure
written_at view skip bytes to progress =
    if skip && is_unchanged (content view to.path) bytes then Ok progress else with_file to.text
    (record { path = to.path; bytes = bytes }) progress

-- a file is copied from the view as it was before the task
abbrev pub copied_from : Option Text → View → Bool → TaskProgress → Source × Destination
    → Result TaskProgress Failure
copied_from None view skip progress c = Err (MissingSource c.0.item.ident)
copied_from (Some bytes) view skip progress c = map_ok (with_item (item_copied c.0 c.1))
    (written_at view skip bytes c.1 progress)

abbrev pub copied : View → Bool → TaskProgress → Source × Destination → Result TaskProgress Failure
copied view skip progress c = copied_from (content view c.0.path) view skip progress c

abbrev pub copy_outputs : List Item → List Param
copy_outputs items = record { name = codes "destinationfiles"; items = items }
    ∷ record { name = codes "copiedfiles"; items = items } ∷ []

abbrev pub output_copied : Result TaskProgress (TaskProgress × Failure) → TaskOutput
output_copied progress = output_with (codes "copy")
    (succeeded (copy_outputs (made_in progress).items)) progress

abbrev pub all_copied : View → Bool → ℕ → List Source → List Destination → TaskOutput
all_copied view skip written sources destinations = output_copied
    (made_by (copied view skip) (started written) (zip sources destinations))

-- without sources nothing is copied, wherever to
abbrev pub copied_to : View → Bool → ℕ → List Source → Result (List Destination) Failure
    → Result TaskOutput Failure
copied_to view skip written [] destinations = Ok (all_copied view skip written [] [])
copied_to view skip written (source ∷ sources) destinations =
    map_ok (all_copied view skip written (source ∷ sources))
    (and_then destinations (counted (length (source ∷ sources))))

abbrev pub copy : Path → View → List Param → ℕ → Result TaskOutput Failure
copy dir view params written =
    let items = items_of (codes "sourcefiles") params in
    let folder = text_of (codes "destinationfolder") params in
    unless (check_known (codes "copy") params)
    (and_then (all_ok (named_at dir) (items_of (codes "destinationfiles") params)) (λ named.
    and_then (all_below dir folder items) (λ below.
    and_then (truth_at (codes "skipunchangedfiles") params) (λ skip.
    and_then (all_ok (source_at dir) items) (λ sources.
    copied_to view skip written sources (chosen named (not (length folder == 0)) below))))))
