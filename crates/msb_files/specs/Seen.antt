-- How entries are held and shown, as what they are.
use Rattle.std.specs.Prelude.{Option, Some, None}
use Rattle.msb_values.specs.declared.act.Act.{Act}
use Rattle.msb_values.specs.declared.act.Act.TheVariants.{Write, Remove}
use Rattle.result_cache.specs.Journal.{Entry, acted, ended}
use Rattle.msb_files.specs.declared.entry.JView.{JView}
use Rattle.msb_files.specs.declared.entry.JView.TheVariants as shown

-- the entry that is shown
abbrev pub entry_shown : JView → Entry
entry_shown (shown.Wrote run number path bytes) = acted run.now number
    (Write (record { path = path.now; bytes = bytes.now }))
entry_shown (shown.Removed run number path) = acted run.now number (Remove path.now)
entry_shown (shown.Ended run made) = ended run.now made.now

-- the act, if the entry is that of one
abbrev pub act_in : Entry → Option Act
act_in (acted run place act) = Some act
act_in (ended run made) = None
