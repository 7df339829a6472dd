use Rattle.std.proofs.Common.{reverse, string_bytes}
use Rattle.msb_files.specs.Seen.{entry_shown}
use Rattle.build_report.specs.Shown.{entry_lines}
use Rattle.build_report.proofs.Walked.{entry_written}
use Rattle.build_report.proofs.build.push_journal.Goals as goal

-- src/build.rt:39:5
pub loop-at-preserved : goal.loop-at-preserved
loop-at-preserved c =
    entry_written (entry_lines c.args.low) (reverse c.args.journal.now) c.loop-at.at
    (entry_shown c.entry.result) (string_bytes c.loop-at.shown)
    (string_bytes c.push_entry.new.shown) _ c.entry.ensures c.in_ok-push_entry.ensures
    c.loop-at.invariant
