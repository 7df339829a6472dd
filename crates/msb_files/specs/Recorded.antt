-- What the segments of a record do to files.
use Rattle.std.specs.Prelude.{ℕ, Option, Some, None}
use Rattle.std.specs.List.{slice_get}
use Rattle.msb_values.specs.declared.act.Act.{Act}
use Rattle.result_cache.specs.declared.record.Record.{Record}
use Rattle.result_cache.specs.declared.record.Segment.{Segment}
use Rattle.result_cache.specs.declared.record.Segment.TheVariants.{File, Call}

-- the act of a segment, if it is there and no call
abbrev pub segment_act : Option Segment → Option Act
segment_act None = None
segment_act (Some (File act)) = Some act
segment_act (Some (Call key runs)) = None

-- the act of the segment of this number
abbrev pub act_at : Record → ℕ → Option Act
act_at made number = segment_act (slice_get made.segments number)
