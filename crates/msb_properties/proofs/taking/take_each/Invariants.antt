use Rattle.msb_laws.proofs.Collecting.{IsFolded}
use Rattle.msb_laws.specs.Results.{fold_ok}
use Rattle.msb_elements.specs.View.{view}
use Rattle.build_world.specs.Elements.{at}
use Rattle.msb_properties.specs.Propertied.{with_property}
use Rattle.msb_properties.specs.Seen.{seen_setting, seen_properties, IsPlain}
use Rattle.msb_properties.proofs.taking.take_each.Given as goal

abbrev pub invariant-loop-element : goal.invariant-loop-element
invariant-loop-element l = record {
  folded : IsFolded
      (λ p element. with_property (seen_setting l.setting) p (at l.file (view element))) l.elements
      l.element-index (seen_properties l.properties)
      (fold_ok (λ p element. with_property (seen_setting l.setting) p (at l.file (view element)))
      (seen_properties l.initial.properties) l.elements);
  plain : IsPlain (seen_setting l.setting) l.properties;
}
