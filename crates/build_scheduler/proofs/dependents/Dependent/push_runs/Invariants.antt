use Rattle.std.proofs.Common.{◌≡◌, ◌<◌, ◌++◌, List, length}
use Rattle.result_cache.specs.declared.run.RunId.{RunId}
use Rattle.build_scheduler.specs.Dependents.{AreOver}
use Rattle.build_scheduler.proofs.dependents.Dependent.push_runs.Given as goal

abbrev pub invariant-loop-place : goal.invariant-loop-place
invariant-loop-place l = record {
  so_far : List RunId;
  pushed : l.runs.items ≡ l.fn.runs.items ++ so_far;
  over : (rest : List RunId)
      → AreOver l.self.dependents.requests.keys l.self.dependents.needs.items l.making.items l.place
      rest →
      AreOver l.self.dependents.requests.keys l.self.dependents.needs.items l.making.items
      l.self.place (so_far ++ rest);
  within : l.place < length l.self.dependents.requests.keys;
}

abbrev pub decreases-loop-place : goal.decreases-loop-place
decreases-loop-place l = l.place
