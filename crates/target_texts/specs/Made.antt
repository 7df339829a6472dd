-- Changes that a part of a target makes, up to the first fault of a text. (Task element; Output
-- element)
use Rattle.std.specs.Prelude.{List, [], ◌∷◌, ◌++◌, Option, Some, None, Result, Ok, Err}
use Rattle.msb_values.specs.declared.change.Change.{Change}
use Rattle.build_world.specs.declared.fault.EvalFault.{EvalFault}

pub record Made : Type 0 where
  pub changes : List Change
  pub fault : Option EvalFault

-- these, without a fault
abbrev pub all_made : List Change → Made
all_made changes = record { changes = changes; fault = None }

-- what a value makes, or nothing where it is a fault
abbrev pub or_fault_made : {X : Type 0} → Result X EvalFault → (X → Made) → Made
or_fault_made (Ok x) next = next x
or_fault_made (Err fault) next = record { changes = []; fault = Some fault }

-- behind a fault nothing is made
abbrev pub made_before : List Change → Option EvalFault → Made → Made
made_before changes None later = record { changes = changes ++ later.changes; fault = later.fault }
made_before changes (Some fault) later = record { changes = changes; fault = Some fault }

abbrev pub up_to_fault : {X : Type 0} → (X → Made) → List X → Made
up_to_fault of [] = all_made []
up_to_fault of (x ∷ xs) = let first = of x in made_before first.changes first.fault
    (up_to_fault of xs)
