use Rattle.std.proofs.Common.{◌<◌, length, reverse, sym, ◌∙◌, arith}
use Rattle.std.proofs.lemmas.List.{length-reverse}
use Rattle.msb_files.specs.Seen.{entry_shown}
use Rattle.build_outcome.specs.Counted.{is_end}
use Rattle.build_outcome.proofs.Counting.{count_all, no_more, one_more}
use Rattle.build_outcome.proofs.counted.runs_in.Goals as goal
use Rattle.build_outcome.proofs.counted.runs_in.Goals.{then-is_end, else-is_end}

pub returns : goal.returns
returns c =
    c.loop-at.invariant.so_far ∙ count_all is_end c.args.journal.now c.loop-at.at
    (omega (arith, c.count-at-end.ensures))

pub loop-at-preserved : goal.loop-at-preserved
loop-at-preserved c =
    let entries = reverse c.args.journal.now in
    let entry = entry_shown c.entry.result in
    let so_far = c.loop-at.invariant.so_far in
    let few = c.loop-at.invariant.few in
    let inside : c.loop-at.at < length (reverse c.args.journal.now) =
    simp length-reverse (omega (arith, c.count-at-end.ensures)) in
    elim c.if-is_end.branch [
      | then-is_end w ↦
          record {
            so_far =
                w.runs-is ∙ one_more is_end entries c.loop-at.at c.loop-at.runs entry so_far inside
                c.entry.ensures (sym c.is_end.ensures ∙ w.if-is_end.true);
            few = omega (arith, w.runs-is, few);
          }
      | else-is_end w ↦
          record {
            so_far =
                w.runs-is ∙ no_more is_end entries c.loop-at.at c.loop-at.runs entry so_far inside
                c.entry.ensures (sym c.is_end.ensures ∙ w.if-is_end.false);
            few = omega (arith, w.runs-is, few);
          }
    ]
