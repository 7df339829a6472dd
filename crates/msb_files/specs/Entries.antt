-- How an entry is kept.
use Rattle.result_cache.specs.Journal.{Entry, acted, ended}
use Rattle.msb_files.specs.declared.entry.JEntry.{JEntry}
use Rattle.msb_files.specs.declared.entry.JEntry.TheVariants.{Acted, Ended}

abbrev pub entry_of : JEntry → Entry
entry_of (Acted run number act) = acted run number act
entry_of (Ended run made) = ended run made
