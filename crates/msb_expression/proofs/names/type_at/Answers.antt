use Rattle.std.proofs.Common.{subst, sym}
use Rattle.msb_expression.specs.Answers.{IsNameAt}
use Rattle.msb_expression.proofs.NamePlaces.{name_cut, name_there}
use Rattle.msb_expression.proofs.names.type_at.Goals as goal

pub piece_of-requires-clause-end_cut : goal.piece_of-requires-clause-end_cut
piece_of-requires-clause-end_cut c =
    let e = c.type_end-end.ensures in
    name_cut c.args.text.now c.args.start c.type_end-end.result c.utf8.text e.bytes e.after e.within

pub returns-clause-name : goal.returns-clause-name
returns-clause-name c =
    let e = c.type_end-end.ensures in
    subst (λ name. IsNameAt c.args.text.now c.args.start name c.type_end-end.result)
    (sym c.in_ok-piece_of.ensures)
    (name_there c.args.text.now c.args.start c.type_end-end.result c.requires e.bytes e.after
    e.within)
