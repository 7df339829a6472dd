-- The open visits of a walk, the outer ones in chunks.
use Rattle.std.specs.Prelude.{◌≡◌, ℕ, List, ◌++◌, ◌<◌, length}
use Rattle.target_order.specs.declared.visits.OpenVisit.{OpenVisit}
use Rattle.target_order.specs.Chunks.{joined, AreOf}

-- how many of them stand in a chunk
abbrev pub width : ℕ
width = 32

-- the chunks have one length, and the innermost visit stands behind them
pub record AreOpen (outer : List (List OpenVisit)) (inner : List OpenVisit) (count : ℕ) : Type 0
  where
    pub full : AreOf width outer
    pub counted : count ≡ length (joined outer ++ inner)
    pub some : 0 < count → 0 < length inner
