-- How acts are kept.
use Rattle.std.specs.Prelude.{[], IsSome, unwrap_or}
use Rattle.msb_values.specs.declared.act.Act.{Act}
use Rattle.msb_values.specs.declared.act.Act.TheVariants.{Remove}
use Rattle.msb_files.specs.Recorded.{act_at}
use Rattle.msb_files.specs.declared.shared.KeptAct.{KeptAct}
use Rattle.msb_files.specs.declared.shared.KeptAct.TheVariants.{Own, Recorded}

-- the act, which a record that is kept for it has
abbrev pub act_kept : KeptAct → Act
act_kept (Own act) = act
act_kept (Recorded made number) = unwrap_or (act_at made number) (Remove [])

-- a record that is kept for an act has it
abbrev pub IsKept : KeptAct → Type 0
IsKept (Own act) = Unit {0}
IsKept (Recorded made number) = IsSome (act_at made number)
