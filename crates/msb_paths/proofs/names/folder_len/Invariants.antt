use Rattle.std.proofs.Common.{◌≡◌, ℕ, ◌<◌, ◌≤◌, false, length, get_or}
use Rattle.msb_paths.specs.Segments.{is_separator}
use Rattle.msb_paths.proofs.names.folder_len.Given as goal

-- no separator from `end` on
abbrev pub invariant-loop-end : goal.invariant-loop-end
invariant-loop-end l = (l.end ≤ length l.text)
    × ((k : ℕ) → l.end ≤ k → k < length l.text → is_separator (get_or l.text k 0) ≡ false)

abbrev pub decreases-loop-end : goal.decreases-loop-end
decreases-loop-end l = l.end
