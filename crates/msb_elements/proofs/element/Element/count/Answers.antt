use Rattle.msb_elements.proofs.Views.{count_seen}
use Rattle.msb_elements.proofs.element.Element.count.Goals as goal

pub returns : goal.returns
returns c = count_seen _ _ c.children.ensures
