use Rattle.std.proofs.Common.{ℕ, ◌+◌, ◌≡◌, List, true, length, Result, Ok, Err, IfOk, IfErr, rules}
use Rattle.std.proofs.lemmas.Fn.{always_returns_same}
use Rattle.std.specs.List.Sorted.{IsSearchInRange, IsBinarySearchResult}
use Rattle.file_store.specs.Files.{are_in_order}
use Rattle.file_store.specs.Writes.{IsPlace}
use Rattle.file_store.specs.declared.tree.File.{File}
use Rattle.file_store.proofs.Lookups.{order_at, searchable}
use Rattle.file_store.proofs.Places.{met_place, missing_place}
use Rattle.file_store.proofs.tree.place_of.Goals as goal

there : (path : List ℕ) (fs : List File) (r : Result ℕ ℕ) → are_in_order fs ≡ true
    → IsSearchInRange r (length fs) → IsBinarySearchResult (order_at path) fs r
    → IfOk r (λ at. IsPlace path fs at (at + 1))
there path fs (Ok i) h within met = met_place path fs i h within met
there path fs (Err i) h within met = tt

missing : (path : List ℕ) (fs : List File) (r : Result ℕ ℕ) → are_in_order fs ≡ true
    → IsSearchInRange r (length fs) → IsBinarySearchResult (order_at path) fs r
    → IfErr r (λ at. IsPlace path fs at at)
missing path fs (Ok i) h within met = tt
missing path fs (Err i) h within met = missing_place path fs i within (met (searchable path fs h))

pub returns : goal.returns
returns c =
    let path = c.args.path.now in
    let met = c.binary_search_by.ensures.position (order_at path)
    (always_returns_same _ _ _ (λ a r g k. (search rules, search rules))) in
    record {
      there = there path c.args.files.now c.binary_search_by.result c.requires
          c.binary_search_by.ensures.bound met;
      missing = missing path c.args.files.now c.binary_search_by.result c.requires
          c.binary_search_by.ensures.bound met;
    }
