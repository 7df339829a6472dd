use Rattle.std.proofs.Common.{◌≡◌, ◌++◌, drop, string_bytes}
use Rattle.std.specs.List.{flat_map}
use Rattle.build_report.specs.Shown.{note_line}
use Rattle.build_report.proofs.run.push_notes.Given as goal

abbrev pub invariant-loop-note : goal.invariant-loop-note
invariant-loop-note l =
    string_bytes l.shown ++ flat_map (note_line l.low)
    (drop l.note-index l.notes) ≡ string_bytes l.fn.shown ++ flat_map (note_line l.low) l.notes
