use Rattle.std.proofs.Common.{◌≡◌, ◌≤◌, length, take}
use Rattle.build_meaning.specs.Meaning.{most_instances}
use Rattle.build_scheduler.specs.Instances.{with_all}
use Rattle.build_scheduler.proofs.instances.add_all.Given as goal

abbrev pub invariant-loop-call : goal.invariant-loop-call
invariant-loop-call l = record {
  grown : l.seen.keys ≡ with_all l.fn.seen.keys (take l.call-index l.calls);
  few : length l.seen.keys ≤ most_instances;
}
