use Rattle.std.proofs.Common.{◌≡◌, sym, subst}
use Rattle.build_world.specs.Elements.{At, at, children_of, seen_element}
use Rattle.msb_elements.specs.Nodes.{children_in}
use Rattle.std.proofs.Common.{get_or}
use Rattle.target_body.proofs.Missing.{get_or_missing}
use Rattle.target_body.proofs.run_context.RunContext.child.Goals as goal

pub returns-in-None : goal.returns-in-None
returns-in-None c =
    let target : At = seen_element c.of-target.result in
    subst (λ (t : At). target ≡ get_or (children_of t) c.args.place t) c.of-target.ensures
    (sym
    (get_or_missing (at target.file) (children_in target.node) c.args.place target
    (sym c.in-None.ensures)))
