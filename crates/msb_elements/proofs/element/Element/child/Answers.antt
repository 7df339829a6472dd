use Rattle.msb_elements.proofs.Views.{item_copied, child_seen}
use Rattle.msb_elements.proofs.element.Element.child.Goals as goal

pub returns : goal.returns
returns c = child_seen _ _ c.args.at c.get.result c.children.ensures
    (item_copied _ _ _ c.get.ensures.lookup)
