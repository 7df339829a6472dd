-- Each output against the newest input, which tells the same as every pair.
use Rattle.std.specs.Prelude.{ℕ, max, List, [], ◌∷◌, Bool, true, false, Option, Some, None}
use Rattle.std.specs.List.{list_any}
use Rattle.msb_laws.specs.Words.{Path}
use Rattle.msb_files.specs.Views.{View, written, stamp}
use Rattle.target_incremental.specs.Ages.{is_missing_or_older}

-- the stamp of a file that is there and that the request's journal has neither written nor removed
abbrev pub unless_written : Bool → Option ℕ → Option ℕ
unless_written true stamp = None
unless_written false stamp = stamp

abbrev pub settled_stamp : View → Path → Option ℕ
settled_stamp view path = unless_written (written view path) (stamp view path)

-- the greatest stamp of some files and of a number, if each file has one
abbrev pub newest_from : View → ℕ → List Path → Option ℕ
newest_from view newest [] = Some newest
newest_from view newest (path ∷ paths) = elim (settled_stamp view path)
    [ None ↦ None | Some stamp ↦ newest_from view (max newest stamp) paths ]

abbrev pub newest_of : View → List Path → Option ℕ
newest_of view paths = newest_from view 0 paths

-- an output is out of date against it
abbrev pub any_older : View → Option ℕ → (outputs : List Path) → Bool
any_older view newest outputs = list_any
    (λ output. is_missing_or_older newest (settled_stamp view output)) outputs
