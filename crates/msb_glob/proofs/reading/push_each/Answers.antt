use Rattle.std.proofs.Common.{ap, sym, ◌∙◌, ◌++◌, map}
use Rattle.std.proofs.lemmas.Iterator.{YieldsList-from_chars}
use Rattle.std.proofs.lemmas.Iterator.Consumers.{YieldsList-end}
use Rattle.std.proofs.lemmas.List.{map-id}
use Rattle.msb_glob.specs.declared.pieces.Piece.TheVariants.{Character}
use Rattle.msb_glob.proofs.reading.push_each.Goals as goal

pub returns : goal.returns
returns c =
    let end = YieldsList-end
    (YieldsList-from_chars {s = c.into_iter-character-iterator.result} c.args.plain.now
    c.utf8.plain (cc)) c.loop-character.yielded _ c.loop-character.yielded_by _ _ c.in-None.is
    c.next.ensures.steps in
    c.loop-character.invariant ∙ ap (λ cs. c.args.pieces.now ++ map Character cs)
    (sym (map-id c.loop-character.yielded) ∙ end.0)
