-- How an answer is the one that a definition gives, but for want of memory.
use Rattle.std.specs.Prelude.{◌≡◌, Result, Ok, Err}
use Rattle.msb_laws.specs.Words.{Path}
use Rattle.msb_paths.specs.declared.errors.PathFault.{PathFault}
use Rattle.msb_paths.specs.declared.errors.PathFault.TheVariants.{AboveRoot, Empty}
use Rattle.msb_paths.specs.declared.errors.PathFault.TheVariants as inner
use Rattle.msb_glob.specs.declared.errors.GlobFault.{GlobFault}
use Rattle.msb_glob.specs.declared.errors.GlobFault.TheVariants.{
  StarsInSegment,
  Path as BadPath,
  Memory,
}

-- a fault of the path is never want of memory
abbrev pub Gives : {T : Type 0} → Result T GlobFault → Result T GlobFault → Type 0
Gives (Ok value) answer = answer ≡ Ok value
Gives (Err StarsInSegment) answer = answer ≡ Err StarsInSegment
Gives (Err (BadPath AboveRoot)) answer = answer ≡ Err (BadPath AboveRoot)
Gives (Err (BadPath Empty)) answer = answer ≡ Err (BadPath Empty)
Gives (Err (BadPath inner.Memory)) answer = ⊥
Gives (Err Memory) answer = Unit {0}

-- the answer of a call that makes a text normal and looks at nothing else
abbrev pub GivesPath : Result Path GlobFault → Result Path PathFault → Type 0
GivesPath (Ok path) answer = answer ≡ Ok path
GivesPath (Err StarsInSegment) answer = ⊥
GivesPath (Err (BadPath AboveRoot)) answer = answer ≡ Err AboveRoot
GivesPath (Err (BadPath Empty)) answer = answer ≡ Err Empty
GivesPath (Err (BadPath inner.Memory)) answer = ⊥
GivesPath (Err Memory) answer = Unit {0}
