use Rattle.std.proofs.Common.{false, sym, subst}
use Rattle.std.proofs.lemmas.Result.{IfOk-weaker}
use Rattle.build_engine.specs.UsedFor.{IsOutcomeOnOne, IsUsedFor}
use Rattle.build_engine.proofs.Using.{comes_on_one}
use Rattle.msb_instance.specs.Kept.{AreEvaluated}
use Rattle.msb_outcomes.specs.Calls.{as_uses}
use Rattle.request_machine.specs.Worlds.{world_of}
use Rattle.msb_outcomes.proofs.trial.build_anew.Goals as goal

pub build_world_alone-requires : goal.build_world_alone-requires
build_world_alone-requires g c =
    subst (AreEvaluated c.args.world.now.tree.files) (sym c.new.ensures) (tt, tt)

pub returns-clause-comes : goal.returns-clause-comes
returns-clause-comes g c =
    let given = world_of g.T.CountedTools.answer c.args.world.now in
    let calls = g.T.CountedTools.calls in
    let before = as_uses (calls c.args.tools.now) in
    let after = as_uses (calls c.build_world_alone.new.tools) in
    IfOk-weaker c.build_world_alone.result (λ o. ∥ IsUsedFor given false o before after ∥₁)
    (λ o. ∥ IsOutcomeOnOne given false o ∥₁)
    (λ o used. comes_on_one given false o before after used) c.build_world_alone.ensures.used
