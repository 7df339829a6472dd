use Rattle.std.proofs.Common.{◌≡◌, ◌⊎◌, length, None, Some}
use Rattle.build_scheduler.specs.Chain.{LeadsUp, IsThere}
use Rattle.build_scheduler.proofs.request.keys_up.Given as goal

abbrev pub invariant-loop-level : goal.invariant-loop-level
invariant-loop-level l = record {
  above : LeadsUp l.origins.items (Some l.id) l.keys.items l.next;
  whole : (l.next ≡ None) ⊎ (length l.keys.items ≡ l.level);
  there : IsThere l.origins.items l.next;
}
