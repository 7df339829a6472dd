-- How an answer is the one that a definition gives, but for want of memory.
use Rattle.std.specs.Prelude.{◌≡◌, Result, Ok, Err}
use Rattle.msb_laws.specs.Results.{map_ok}
use Rattle.msb_batching.specs.declared.faults.BatchFault.{BatchFault}
use Rattle.msb_batching.specs.declared.faults.BatchFault.TheVariants.{
  NoList,
  NoValue,
  Expand,
  Memory,
}

abbrev pub Gives : {T : Type 0} → Result T BatchFault → Result T BatchFault → Type 0
Gives (Ok value) answer = answer ≡ Ok value
Gives (Err (NoList name)) answer = answer ≡ Err (NoList name)
Gives (Err (NoValue kind ident name)) answer = answer ≡ Err (NoValue kind ident name)
Gives (Err (Expand fault)) answer = answer ≡ Err (Expand fault)
Gives (Err Memory) answer = Unit {0}

-- the same of what the answer is seen as
abbrev pub GivesAs : {T U : Type 0} → (T → U) → Result T BatchFault → Result U BatchFault → Type 0
GivesAs view result answer = Gives (map_ok view result) answer
