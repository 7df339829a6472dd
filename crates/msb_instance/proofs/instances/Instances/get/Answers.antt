use Rattle.std.proofs.Common.{◌≡◌, ◌∙◌, Ok, ap, sym, subst}
use Rattle.build_world.specs.declared.instance.Instance.{Instance}
use Rattle.msb_instance.specs.Evaluated.{evaluated, seen_instance}
use Rattle.once_table.proofs.Placing.{found-fits}
use Rattle.msb_instance.specs.Kept.{AreEvaluated, IsEvaluated, Keeps}
use Rattle.msb_instance.specs.KeyEquality.{evaluated-same, same_key, same_key-exact}
use Rattle.msb_instance.proofs.Keeping.{keeps-found}
use Rattle.msb_instance.proofs.instances.Instances.get.Goals as goal

pub returns-in-Some-clause-gives : goal.returns-in-Some-clause-gives
returns-in-Some-clause-gives c =
    let files = c.args.tree.now.files in
    let key = c.args.key.now in
    let instance = c.in-Some.instance.now in
    let es = c.self.inside.kept.entries in
    let is : evaluated files key ≡ Ok (seen_instance instance) =
    found-fits same_key (IsEvaluated files) (evaluated-same files) key instance es
    (subst (AreEvaluated files) (sym c.self.view_is) c.requires.kept).0
    (sym c.in-Some.ensures.value) in
    is ∙ ap (λ (i : Instance). Ok (seen_instance i)) (sym c.in_ok-copy.ensures)

pub returns-in-Some-clause-keeps : goal.returns-in-Some-clause-keeps
returns-in-Some-clause-keeps c =
    let key = c.args.key.now in
    let instance = c.in-Some.instance.now in
    let es = c.self.inside.kept.entries in
    let kept : Keeps key instance c.args.self.now.0 =
    subst (λ kept. Keeps key instance kept.0) c.self.view_is
    (keeps-found same_key same_key-exact key instance es (sym c.in-Some.ensures.value)) in
    subst (λ i. Keeps key i c.args.self.now.0) (sym c.in_ok-copy.ensures) kept
