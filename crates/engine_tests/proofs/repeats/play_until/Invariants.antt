use Rattle.engine_tests.proofs.repeats.play_until.Given as goal

abbrev pub invariant-loop : goal.invariant-loop
invariant-loop g l = g.W.Walker.Fits l.place (g.W.Walker.world_of l.build.core.world)
