-- How an answer is the one that a definition gives, but for want of memory.
use Rattle.std.specs.Prelude.{◌≡◌, List, Option, Some, None, Result, Ok, Err}
use Rattle.msb_laws.specs.Words.{Text}
use Rattle.msb_paths.specs.declared.errors.PathFault.{PathFault}
use Rattle.msb_paths.specs.declared.errors.PathFault.TheVariants.{AboveRoot, Empty, Memory}

abbrev pub Gives : {T : Type 0} → Result T PathFault → Result T PathFault → Type 0
Gives (Ok value) answer = answer ≡ Ok value
Gives (Err AboveRoot) answer = answer ≡ Err AboveRoot
Gives (Err Empty) answer = answer ≡ Err Empty
Gives (Err Memory) answer = Unit {0}

-- a walk has come to the names that the view shows, or above the root
abbrev pub ComesTo : {T : Type 0} → (T → List Text) → Result T PathFault
    → Option (List Text) → Type 0
ComesTo view (Ok value) walk = walk ≡ Some (view value)
ComesTo view (Err AboveRoot) walk = walk ≡ None
ComesTo view (Err Empty) walk = ⊥
ComesTo view (Err Memory) walk = Unit {0}
