use Rattle.std.proofs.Common.{◌∙◌, ◌≤◌, List, ap, drop, length, subst, sym}
use Rattle.result_cache.specs.declared.run.RunId.{RunId}
use Rattle.build_meaning.specs.Lists.{at}
use Rattle.build_scheduler.specs.Kept.{used_in}
use Rattle.build_scheduler.proofs.Assigning.{listed-there}
use Rattle.build_scheduler.proofs.OverAtOnce.{comes, ready-there, used-few}
use Rattle.build_scheduler.proofs.scheduler.Core.end_for.Goals as goal

pub kept_end-requires : goal.kept_end-requires
kept_end-requires g c =
    let m = g.W.Walker in
    let self = c.args.self.now in
    record {
      there = ready-there m.seen (m.world_of self.world)
          self.legal c.args.id c.requires.ready;
    }

pub runs_left-left-requires-clause-ready : goal.runs_left-left-requires-clause-ready
runs_left-left-requires-clause-ready g c =
    let m = g.W.Walker in
    let self = c.args.self.now in
    (listed-there m.seen (m.world_of self.world) c.args.id self.legal self.indexed
    c.requires.ready).1

pub runs_left-left-requires-clause-few : goal.runs_left-left-requires-clause-few
runs_left-left-requires-clause-few g c =
    let m = g.W.Walker in
    let self = c.args.self.now in
    let seen = m.seen in
    subst (λ (runs : List RunId). used_in seen (at self.slots.items c.args.id) ≤ length runs)
    (sym c.as_slice.ensures) (used-few seen (m.world_of self.world) self.legal
    self.kept c.args.id c.in-Some.kept.now self.kept_so c.requires.ready c.in-Some.ensures.so)

pub returns-clause-so : goal.returns-clause-so
returns-clause-so g c =
    let m = g.W.Walker in
    let self = c.args.self.now in
    let seen = m.seen in
    comes seen (m.world_of self.world) self.legal self.kept c.args.id
    c.in-Some.kept.now self.kept_so c.requires.ready c.in-Some.ensures.so (record {
      claims = c.in_ok-names.field-0;
      told = c.in_ok-copy.field-0;
      walk = c.in_ok-walk_at.field-0;
    }) (c.in_ok-names.ensures ∙ (c.runs_left-left.ensures
    ∙ ap (drop (used_in seen (at self.slots.items c.args.id))) c.as_slice.ensures))
    c.in_ok-copy.ensures c.in_ok-walk_at.ensures
