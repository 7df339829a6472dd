use Rattle.std.proofs.Common.{sym}
use Rattle.msb_elements.proofs.Views.{children_out}
use Rattle.msb_elements.proofs.element.Element.split.Goals as goal

pub returns-clause-children : goal.returns-clause-children
returns-clause-children c = sym (children_out c.args.self)
