use Rattle.msb_expression.proofs.Blanks.{cut_turn}
use Rattle.msb_expression.proofs.loose.trim_pieces.Goals as goal

pub loop-at-preserved : goal.loop-at-preserved
loop-at-preserved c =
    cut_turn c.args.pieces.now c.loop-at.at c.loop-at.kept c.push_cut.new.kept
    c.index-pieces-at.result c.loop-at-test.true
    c.index-pieces-at.is c.in_ok-push_cut.ensures c.loop-at.invariant
