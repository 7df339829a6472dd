use Rattle.std.proofs.Common.{◌≡◌, ◌≤◌, ◌<◌, ◌-◌, ◌^◌, ℕ, Some, length}
use Rattle.build_meaning.specs.Lists.{at}
use Rattle.build_scheduler.specs.Dependents.{AreFound, AreLooked}
use Rattle.build_scheduler.proofs.dependents.search.Given as goal

abbrev pub invariant-loop-place : goal.invariant-loop-place
invariant-loop-place l = record {
  found : AreFound l.origins.items l.waiting.items l.first l.dependents.requests.keys
      l.dependents.needs.items;
  looked : AreLooked l.origins.items l.waiting.items l.dependents.requests.keys l.place;
  apart : (i : ℕ) → i < l.place → at l.dependents.requests.keys i ≡ Some l.by → ⊥;
  within : l.place ≤ length l.dependents.requests.keys;
}

abbrev pub decreases-loop-place : goal.decreases-loop-place
decreases-loop-place l = 2 ^ 63 - l.place
