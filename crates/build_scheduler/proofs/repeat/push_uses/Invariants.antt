use Rattle.std.proofs.Common.{◌≡◌, ◌+◌, ◌++◌, length}
use Rattle.build_history.specs.Repeated.{uses_of_all}
use Rattle.build_meaning.specs.History.{AreOfNodes}
use Rattle.build_scheduler.proofs.repeat.push_uses.Given as goal

abbrev pub invariant-loop-claimed : goal.invariant-loop-claimed
invariant-loop-claimed l = record {
  events : l.history.events ++ uses_of_all l.id l.claimed-iterator.rest.items
      ≡ l.fn.history.events ++ uses_of_all l.id l.fn.claims.items;
  room : l.history.room + length l.fn.claims.items
      ≡ l.fn.history.room + length l.claimed-iterator.rest.items;
  enough : length l.claimed-iterator.rest.items ≡ l.claimed-iterator.rest.len;
  nodes : l.history.nodes ≡ l.fn.history.nodes;
  active : AreOfNodes l.fn.history.nodes l.fn.history.events →
      AreOfNodes l.history.nodes l.history.events;
}
