-- What an index of names by their numbers keeps.
use Rattle.std.specs.Prelude.{◌≡◌, ℕ, List}
use Rattle.std.specs.Ordering.{nat_cmp}
use Rattle.std.specs.Cmp.Lexicographic.{slice_cmp}
use Rattle.std.specs.BTreeMap.{BTreeMap, get}
use Rattle.msb_laws.specs.Words.{Name}
use Rattle.target_order.specs.Progress.{number_of}

pub record IsNumbered (names : List Name) (numbers : BTreeMap Name ℕ) : Type 0 where
  pub finds : (t : Name) → get (slice_cmp nat_cmp) numbers t ≡ number_of names t
