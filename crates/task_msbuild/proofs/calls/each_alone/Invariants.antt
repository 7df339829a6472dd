use Rattle.std.proofs.Common.{◌≡◌, [], ◌∷◌, map, take}
use Rattle.task_msbuild.proofs.calls.each_alone.Given as goal

abbrev pub invariant-loop-target : goal.invariant-loop-target
invariant-loop-target l = l.lists ≡ map (λ target. target ∷ []) (take l.target-index l.targets)
