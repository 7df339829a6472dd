use Rattle.std.proofs.Common.{◌∙◌, ap, subst, sym}
use Rattle.engine_tests.proofs.repeats.try_repeat_at.Goals as goal

pub play_until-requires : goal.play_until-requires
play_until-requires g c =
    let m = g.W.Walker in
    subst (m.Fits c.args.place.now) (sym (ap (λ core. m.world_of core.world) c.new-build.ensures
    ∙ c.in_ok-core.ensures.world)) c.requires.place
