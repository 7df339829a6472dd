use Rattle.std.proofs.Common.{sym, refl}
use Rattle.msb_expression.specs.declared.starts.Inside.TheVariants.{Whole}
use Rattle.msb_expression.specs.Machine.{whole}
use Rattle.msb_expression.proofs.StepPlaces.{
  leads_same,
  property_at,
  metadata_at,
  items_at,
  no_start,
}
use Rattle.msb_expression.proofs.parsing.part.Goals as goal

pub returns-in-Property-clause-leads : goal.returns-in-Property-clause-leads
returns-in-Property-clause-leads c = λ parts.
    leads_same c.args.text.now _ _ _ _
    (property_at (whole parts) Whole c.args.text.now c.args.at (sym c.in-Property.ensures))
    (c.property.ensures.leads parts)

pub returns-in-Metadata-clause-leads : goal.returns-in-Metadata-clause-leads
returns-in-Metadata-clause-leads c = λ parts.
    leads_same c.args.text.now _ _ _ _
    (metadata_at (whole parts) Whole c.args.text.now c.args.at refl (sym c.in-Metadata.ensures))
    (c.any_metadata.ensures.leads parts)

pub returns-in-Items-clause-leads : goal.returns-in-Items-clause-leads
returns-in-Items-clause-leads c = λ parts.
    leads_same c.args.text.now _ _ _ _
    (items_at parts c.args.text.now c.args.at (sym c.in-Items.ensures))
    (c.items.ensures.leads parts)

pub unreachable-requires : goal.unreachable-requires
unreachable-requires c =
    no_start c.args.text.now c.args.at c.start_at.result c.requires.within c.start_at.ensures
    c.in_default.not-Property c.in_default.not-Metadata c.in_default.not-Items
    c.in_default.not-Plain
