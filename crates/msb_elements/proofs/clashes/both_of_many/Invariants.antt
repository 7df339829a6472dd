use Rattle.std.proofs.Common.{◌≡◌, ◌≤◌, ℕ, List, length, drop}
use Rattle.std.specs.BTreeMap.{get}
use Rattle.std.specs.Cmp.Lexicographic.{slice_cmp}
use Rattle.std.specs.Option.{option_copied}
use Rattle.std.specs.Ordering.{nat_cmp}
use Rattle.msb_elements.specs.Checks.{are_apart, first_two, names_of}
use Rattle.msb_elements.proofs.Twos.{first_called}
use Rattle.msb_elements.proofs.clashes.both_of_many.Given as goal

abbrev pub decreases-loop-at : goal.decreases-loop-at
decreases-loop-at l = l.at

abbrev pub invariant-loop-at : goal.invariant-loop-at
invariant-loop-at l = record {
  within : l.at ≤ length l.attributes;
  found : names_of l.found ≡ first_two (are_apart l.kind l.attributes) (drop l.at l.attributes);
  later : (key : List ℕ) → option_copied (get (slice_cmp nat_cmp) l.later key)
      ≡ first_called l.kind key (drop l.at l.attributes);
}
