use Rattle.std.proofs.Common.{All, subst, sym}
use Rattle.engine_tests.proofs.refusing.build_walk.Goals as goal

pub build_with-requires-clause-fits : goal.build_with-requires-clause-fits
build_with-requires-clause-fits g c κs within =
    subst (λ w. All (λ place. g.W.Walker.Fits place w) c.args.places.items)
    (sym c.in_ok-core.ensures.world) c.requires.fits
