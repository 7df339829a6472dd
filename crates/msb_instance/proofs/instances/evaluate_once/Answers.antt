use denote.Param.Send.{sendable}
use Rattle.std.proofs.Common.{◌≡◌, Err, IfErr, IfOk, List, Ok, Result, rules, subst, sym}
use Rattle.std.proofs.Math.Logic.{∥∥₁_elim}
use Rattle.file_store.specs.declared.tree.File.{File}
use Rattle.msb_values.specs.declared.key.InstanceKey.{InstanceKey}
use Rattle.build_world.specs.Answers.{GivesFault}
use Rattle.build_world.specs.declared.fault.EvalFault.{EvalFault}
use Rattle.build_world.specs.declared.instance.Instance.{Instance}
use Rattle.msb_instance.specs.Evaluated.{evaluated, seen_instance}
use Rattle.msb_instance.specs.Kept.{IsEvaluated}
use Rattle.msb_instance.specs.KeptOnce.{result-set}
use Rattle.msb_instance.proofs.Crossing.{ref-send}
use Rattle.msb_instance.proofs.instances.evaluate_once.Goals as goal

-- what is found is evaluated, and a fault is that of the evaluation
gives : {Fails : EvalFault → Type 0} (files : List File) (key : InstanceKey)
    (r : Result Instance EvalFault) → IfOk r (λ i. ∥ IsEvaluated files key i ∥₁) → IfErr r Fails →
    ((fault : EvalFault) → Fails fault →
    GivesFault seen_instance (Err fault) (evaluated files key)) →
    GivesFault seen_instance r (evaluated files key)
gives files key (Ok i) found fails is =
    ∥∥₁_elim found (result-set (evaluated files key) (Ok (seen_instance i))) (λ same. same)
gives files key (Err fault) found fails is = is fault fails

pub find_or_make-requires-send-V : goal.find_or_make-requires-send-V
find_or_make-requires-send-V c κs = search (ref-send, sendable) depth 20

pub find_or_make-requires-clause-fits : goal.find_or_make-requires-clause-fits
find_or_make-requires-clause-fits c κs within value made =
    subst (λ files. IsEvaluated files c.args.key.now value) (sym c.requires.files) (search rules)

pub returns-clause-gives : goal.returns-clause-gives
returns-clause-gives c =
    let files = c.args.tree.now.files in
    let key = c.args.key.now in
    let r = c.in_ok-find_or_make.field-0 in
    gives files key r
    (subst (λ files. IfOk r (λ i. ∥ IsEvaluated files key i ∥₁)) c.requires.files
    c.in_ok-find_or_make.ensures.fits)
    c.in_ok-find_or_make.ensures.fails (λ fault failed. search rules)
