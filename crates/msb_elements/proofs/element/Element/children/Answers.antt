use Rattle.std.proofs.Common.{map, sym, ap, ◌∙◌}
use Rattle.msb_elements.specs.View.{view}
use Rattle.msb_elements.proofs.Views.{children_out}
use Rattle.msb_elements.proofs.element.Element.children.Goals as goal

pub returns : goal.returns
returns c = ap (map view) c.deref.ensures.value ∙ sym (children_out c.args.self.now)
