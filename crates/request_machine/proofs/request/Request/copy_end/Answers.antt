use Rattle.std.proofs.Common.{ap, ◌∙◌, subst, sym}
use Rattle.request_machine.specs.Stages.{instance_in}
use Rattle.request_machine.specs.Plain.{IsPlainProject}
use Rattle.request_machine.proofs.Ending.{ended_own}
use Rattle.request_machine.proofs.request.Request.copy_end.Goals as goal

pub invariant_of-result : goal.invariant_of-result
invariant_of-result g c =
    let self = c.args.self.now in
    let key = c.in_ok-copy.field-0.instance in
    record {
      own_run = ap (instance_in key) c.in_ok-stage.ensures ∙ ended_own key self.stage;
      known = λ plain. subst (IsPlainProject self.world.now.tree.files)
          (sym c.in_ok-copy.ensures) (self.known plain);
    }
