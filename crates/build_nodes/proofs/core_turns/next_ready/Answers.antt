use Rattle.std.proofs.Common.{Some, length, ap, subst, ◌∙◌, arith}
use Rattle.turn_board.proofs.Prefixes.{prefix_trans}
use Rattle.build_scheduler.specs.Ready.{IsSomeReady}
use Rattle.build_nodes.proofs.Active.{active-same}
use Rattle.build_nodes.proofs.Marks.{none-more}
use Rattle.build_nodes.proofs.Repeats.{
  not-repeated,
  repeated-active,
  repeated-continues,
  repeated-grows,
  still-ready,
}
use Rattle.build_nodes.proofs.core_turns.next_ready.Goals as goal

pub loop-next-init : goal.loop-next-init
loop-next-init g c =
    let before = c.args.core.now in
    let after = c.next_ready-next.new.self in
    let told = c.next_ready-next.ensures in
    record {
      world = told.world;
      running = told.end ∙ c.requires.running;
      active =
          active-same c.args.node before.history.events after.history.events before.end after.end
          told.end told.history c.requires.active;
      continues =
          none-more before.history.events after.history.events before.end after.end
          c.requires.running told.history;
      nodes = told.nodes;
      ready = told.ready;
    }

pub is_repeated-requires-clause-running : goal.is_repeated-requires-clause-running
is_repeated-requires-clause-running g c = c.loop-next.invariant.running

pub is_repeated-requires-clause-ready : goal.is_repeated-requires-clause-ready
is_repeated-requires-clause-ready g c =
    let core = c.loop-next.core in
    subst (IsSomeReady (g.W.Walker.world_of core.world) core.history.events) c.in-Some.is
    c.loop-next.invariant.ready

pub loop-next-smaller : goal.loop-next-smaller
loop-next-smaller g c =
    let m = g.W.Walker in
    let before = c.loop-next.core in
    let after = c.is_repeated.new.core in
    let told = c.is_repeated.ensures in
    let grows = repeated-grows (m.world_of before.world) before.table.finished before.history.events
    after.history.events c.in-Some.id c.args.node c.is_repeated.result
    c.if-not-is_repeated.false told.repeated in
    let same = ap length c.next_ready-next-in-Some.ensures.history in
    omega (arith, grows, same, told.few)

pub loop-next-preserved : goal.loop-next-preserved
loop-next-preserved g c =
    let m = g.W.Walker in
    let was = c.loop-next.invariant in
    let before = c.loop-next.core in
    let after = c.is_repeated.new.core in
    let told = c.is_repeated.ensures in
    let is = c.if-not-is_repeated.false in
    let now = c.next_ready-next-in-Some.new.self in
    let next = c.next_ready-next-in-Some.ensures in
    let running = told.end ∙ was.running in
    record {
      world = next.world ∙ told.world ∙ was.world;
      running = next.end ∙ running;
      active =
          active-same c.args.node after.history.events now.history.events after.end now.end next.end
          next.history (repeated-active (m.world_of before.world) before.table.finished
          before.history.events after.history.events c.in-Some.id c.args.node c.is_repeated.result
          c.args.node before.end after.end is was.running running told.repeated was.active);
      continues =
          prefix_trans _ _ _ was.continues (prefix_trans _ _ _ (repeated-continues
          (m.world_of before.world) before.table.finished before.history.events after.history.events
          c.in-Some.id c.args.node c.is_repeated.result before.end after.end is was.running
          told.repeated) (none-more after.history.events now.history.events after.end now.end
          running next.history));
      nodes = next.nodes ∙ told.nodes ∙ was.nodes;
      ready = next.ready;
    }

pub returns-then-not-is_repeated-clause-world : goal.returns-then-not-is_repeated-clause-world
returns-then-not-is_repeated-clause-world g c =
    c.is_repeated.ensures.world ∙ c.loop-next.invariant.world

pub returns-then-not-is_repeated-clause-running : goal.returns-then-not-is_repeated-clause-running
returns-then-not-is_repeated-clause-running g c =
    c.is_repeated.ensures.end ∙ c.loop-next.invariant.running

pub returns-then-not-is_repeated-clause-active : goal.returns-then-not-is_repeated-clause-active
returns-then-not-is_repeated-clause-active g c =
    let m = g.W.Walker in
    let before = c.loop-next.core in
    let after = c.is_repeated.new.core in
    let told = c.is_repeated.ensures in
    active-same c.args.node before.history.events after.history.events before.end after.end told.end
    (not-repeated (m.world_of before.world) before.table.finished before.history.events
    after.history.events c.in-Some.id c.args.node c.is_repeated.result c.if-not-is_repeated.true
    told.repeated) c.loop-next.invariant.active

pub returns-then-not-is_repeated-clause-continues :
    goal.returns-then-not-is_repeated-clause-continues
returns-then-not-is_repeated-clause-continues g c =
    let m = g.W.Walker in
    let before = c.loop-next.core in
    let after = c.is_repeated.new.core in
    let told = c.is_repeated.ensures in
    let was = c.loop-next.invariant in
    prefix_trans _ _ _ was.continues (none-more before.history.events after.history.events
    before.end after.end was.running (not-repeated (m.world_of before.world) before.table.finished
    before.history.events after.history.events c.in-Some.id c.args.node c.is_repeated.result
    c.if-not-is_repeated.true told.repeated))

pub returns-then-not-is_repeated-clause-nodes : goal.returns-then-not-is_repeated-clause-nodes
returns-then-not-is_repeated-clause-nodes g c =
    c.is_repeated.ensures.nodes ∙ c.loop-next.invariant.nodes

pub returns-then-not-is_repeated-clause-ready : goal.returns-then-not-is_repeated-clause-ready
returns-then-not-is_repeated-clause-ready g c =
    let m = g.W.Walker in
    let before = c.loop-next.core in
    let after = c.is_repeated.new.core in
    let told = c.is_repeated.ensures in
    still-ready (m.world_of before.world) (m.world_of after.world) before.history.events
    after.history.events c.loop-next.next (Some c.in-Some.id) told.world (not-repeated
    (m.world_of before.world) before.table.finished before.history.events after.history.events
    c.in-Some.id c.args.node c.is_repeated.result c.if-not-is_repeated.true told.repeated)
    c.in-Some.is c.loop-next.invariant.ready
