use Rattle.std.proofs.Common.{◌∙◌, ap, subst, sym}
use Rattle.engine_tests.proofs.any_order.watch_build.Goals as goal

pub play_to_end-requires : goal.play_to_end-requires
play_to_end-requires g c =
    let m = g.W.Walker in
    subst (m.Fits c.args.place.now) (sym (ap (λ core. m.world_of core.world) c.new-build.ensures
    ∙ c.in_ok-core.ensures.world)) c.requires.place
