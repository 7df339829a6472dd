-- How an answer is the one that a definition gives, but for want of memory.
use Rattle.std.specs.Prelude.{◌≡◌, List, Result, Ok, Err}
use Rattle.msb_laws.specs.Words.{Path}
use Rattle.msb_expand.specs.Scenes.{scene_of}
use Rattle.msb_expand.specs.declared.lens.Lens.{Lens}
use Rattle.msb_condition.specs.declared.faults.CondFault.{CondFault}
use Rattle.msb_condition.specs.declared.faults.CondFault.TheVariants.{
  Syntax,
  NotBoolean,
  NotNumbers,
  Expand,
  Memory,
}
use Rattle.msb_condition.specs.Truth.{View}

abbrev pub Gives : {T : Type 0} → Result T CondFault → Result T CondFault → Type 0
Gives (Ok value) answer = answer ≡ Ok value
Gives (Err (Syntax place)) answer = answer ≡ Err (Syntax place)
Gives (Err (NotBoolean text)) answer = answer ≡ Err (NotBoolean text)
Gives (Err (NotNumbers left right)) answer = answer ≡ Err (NotNumbers left right)
Gives (Err (Expand fault)) answer = answer ≡ Err (Expand fault)
Gives (Err Memory) answer = Unit {0}

-- what a lens and the files of a view show
abbrev pub view_of : Lens → List Path → View
view_of lens files = record { scene = scene_of lens; folder = lens.dir.now; files = files }
