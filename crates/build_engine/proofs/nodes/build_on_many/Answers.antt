use Rattle.std.proofs.Common.{All, subst, sym}
use Rattle.std.specs.Prelude.{vec_len}
use Rattle.build_engine.proofs.Building.{known_statuses, outcome_of_core}
use Rattle.build_engine.proofs.ManyNodes.{outcome_on_core}
use Rattle.build_engine.proofs.nodes.build_on_many.Goals as goal

pub build_with-requires-clause-fits : goal.build_with-requires-clause-fits
build_with-requires-clause-fits g c κs within =
    subst (λ w. All (λ place. g.W.Walker.Fits place w) c.args.places.items)
    (sym c.in_ok-core.ensures.world) c.requires.fits

pub returns-clause-outcome : goal.returns-clause-outcome
returns-clause-outcome g c =
    let m = g.W.Walker in
    let core = c.in_ok-core.core in
    let built = c.in_ok-built.built in
    outcome_of_core (m.seen c.args.walk).world (m.world_of core.world) (m.world_of built.world)
    c.args.low built.history.events built.end c.of-outcome.result c.in_ok-core.ensures.world
    c.in_ok-built.ensures.world c.in_ok-built.ensures.legal c.of-outcome.ensures.outcome

pub returns-clause-nodes : goal.returns-clause-nodes
returns-clause-nodes g c =
    let m = g.W.Walker in
    let core = c.in_ok-core.core in
    let built = c.in_ok-built.built in
    outcome_on_core (m.seen c.args.walk).world (m.world_of core.world) (m.world_of built.world)
    (vec_len c.args.places) c.args.low built.history.events built.end c.of-outcome.result
    c.in_ok-core.ensures.world c.in_ok-built.ensures.world c.in_ok-built.ensures.legal
    c.in_ok-built.ensures.few c.of-outcome.ensures.outcome

pub returns-clause-status : goal.returns-clause-status
returns-clause-status g c = known_statuses c.of-outcome.result c.of-outcome.ensures.status
