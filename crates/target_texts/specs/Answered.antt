-- How the changes that the code makes are those of a definition, but for want of memory.
use Rattle.std.specs.Prelude.{◌≡◌, List, ◌++◌, Some, None, Result, Ok, Err}
use Rattle.msb_values.specs.Caused.{UnlessMemory}
use Rattle.msb_values.specs.declared.change.Change.{Change}
use Rattle.build_world.specs.declared.fault.EvalFault.{EvalFault}
use Rattle.target_texts.specs.Made.{Made}

-- all changes are behind those that were there, or those ahead of this fault
abbrev pub Pushes : {X : Type 0} → Result X EvalFault → List Change → List Change → Made → Type 0
Pushes (Ok x) before now expected = (now ≡ before ++ expected.changes) × (expected.fault ≡ None)
Pushes (Err fault) before now expected = UnlessMemory fault.cause
    ((now ≡ before ++ expected.changes) × (expected.fault ≡ Some fault))
