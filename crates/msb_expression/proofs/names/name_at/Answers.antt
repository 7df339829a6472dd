use Rattle.std.proofs.Common.{subst, sym}
use Rattle.msb_expression.specs.Answers.{IsNameAt}
use Rattle.msb_expression.proofs.NamePlaces.{name_cut, name_grows, name_there}
use Rattle.msb_expression.proofs.names.name_at.Goals as goal

pub piece_of-requires-clause-end_cut : goal.piece_of-requires-clause-end_cut
piece_of-requires-clause-end_cut c =
    let e = c.name_end-end.ensures in
    name_cut c.args.text.now c.args.start c.name_end-end.result c.utf8.text e.bytes
    (name_grows c.args.text.now c.args.start c.name_end-end.result c.requires e.over e.after)
    e.within

pub returns-clause-name : goal.returns-clause-name
returns-clause-name c =
    let e = c.name_end-end.ensures in
    subst (λ name. IsNameAt c.args.text.now c.args.start name c.name_end-end.result)
    (sym c.in_ok-piece_of.ensures)
    (name_there c.args.text.now c.args.start c.name_end-end.result c.requires e.bytes
    (name_grows c.args.text.now c.args.start c.name_end-end.result c.requires e.over e.after)
    e.within)
