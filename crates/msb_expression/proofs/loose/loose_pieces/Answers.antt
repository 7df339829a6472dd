use Rattle.std.proofs.Common.{◌∙◌, sym, ap, [], drop, arith}
use Rattle.msb_expression.specs.declared.starts.Inside.TheVariants.{Loose}
use Rattle.msb_expression.specs.declared.starts.Start.TheVariants.{Quote}
use Rattle.msb_expression.specs.Machine.{in_loose, inner, unmarked, in_text, run}
use Rattle.msb_expression.proofs.PlainPlaces.{start_is}
use Rattle.msb_expression.proofs.RunsCalls.{loose-ended}
use Rattle.msb_expression.proofs.CallPlaces.{stop_there}
use Rattle.msb_expression.proofs.loose.loose_pieces.Goals as goal

pub loop-pieces-init : goal.loop-pieces-init
loop-pieces-init c = record {
  after = omega arith;
  within = c.requires.within;
  cut = c.requires.cut;
  moves = λ s n. absurd (n s);
  goes = λ a.
      ap (λ ps. run (drop c.args.at c.args.text.now) (in_text (inner (in_loose a) ps) [] unmarked))
      (sym c.new-pieces.ensures);
}

pub piece-requires-clause-no_quote : goal.piece-requires-clause-no_quote
piece-requires-clause-no_quote c =
    λ e. (start_is Loose (drop c.loop-pieces.next c.args.text.now) Quote e).2

pub returns-in-Stop-clause-leads : goal.returns-in-Stop-clause-leads
returns-in-Stop-clause-leads c = λ a.
    let rest = drop c.loop-pieces.next c.args.text.now in
    c.loop-pieces.invariant.goes a
    ∙ loose-ended a c.loop-pieces.pieces rest (stop_there rest (sym c.in-Stop.ensures))

pub returns-in-Stop-clause-moves : goal.returns-in-Stop-clause-moves
returns-in-Stop-clause-moves c = λ n. c.loop-pieces.invariant.moves (sym c.in-Stop.ensures) n
