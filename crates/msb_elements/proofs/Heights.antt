-- How deep a tree is.
use Rattle.std.proofs.Common.{◌≡◌, ℕ, suc, ◌<◌, List, max, Some, arith}
use Rattle.msb_elements.specs.Trees.{
  Tree,
  no_element,
  element,
  Trees,
  no_trees,
  further,
  as_element,
}
use Rattle.msb_elements.specs.Checks.{Pair}

abbrev mutual
  pub height : Tree → ℕ
  height no_element = 0
  height (element name attributes text entries) = suc (heights entries)

  pub heights : Trees → ℕ
  heights no_trees = 0
  heights (further t ts) = max (height t) (heights ts)

-- what stands below an element is less deep
pub height_below : (t : Tree) (name text : List ℕ) (attributes : List Pair) (entries : Trees)
    → as_element t ≡ Some (element name attributes text entries) → heights entries < height t
height_below no_element name text attributes entries is = absurd (cc)
height_below (element own_name own_attributes own_text own_entries) name text attributes entries is
    = let same : own_entries ≡ entries = cc in rw same (omega arith)
