use Rattle.std.proofs.Common.{◌∙◌, sym}
use Rattle.msb_expression.proofs.NamePlaces.{name_less, name_grows, no_arrow_ends, arrow_ends}
use Rattle.msb_expression.proofs.names.type_end.Goals as goal

pub returns-then-is_arrow-clause-bytes : goal.returns-then-is_arrow-clause-bytes
returns-then-is_arrow-clause-bytes c = name_less c.args.text.now c.args.start c.name_end-end.result
    c.name_end-end.ensures.bytes

pub returns-else-is_arrow-clause-ends : goal.returns-else-is_arrow-clause-ends
returns-else-is_arrow-clause-ends c =
    let e = c.name_end-end.ensures in
    no_arrow_ends c.args.text.now c.args.start c.name_end-end.result
    (name_grows c.args.text.now c.args.start c.name_end-end.result c.requires e.over e.after)
    e.within e.over
    (sym c.is_arrow.ensures ∙ c.if-is_arrow.false)

pub returns-then-is_arrow-clause-ends : goal.returns-then-is_arrow-clause-ends
returns-then-is_arrow-clause-ends c = arrow_ends _ _ (sym c.is_arrow.ensures ∙ c.if-is_arrow.true)
