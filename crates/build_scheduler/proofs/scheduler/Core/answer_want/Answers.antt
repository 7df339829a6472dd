use Rattle.std.proofs.Common.{Ok, subst, sym, ◌∙◌}
use Rattle.build_scheduler.specs.Claims.{IsClaimed}
use Rattle.build_scheduler.specs.Replies.{IsStoppedBy}
use Rattle.build_scheduler.specs.declared.walker.Ask.TheVariants.{Want}
use Rattle.build_scheduler.proofs.Replying.{cycle-stops}
use Rattle.build_scheduler.proofs.scheduler.Core.answer_want.Goals as goal

pub stop-requires-clause-shown : goal.stop-requires-clause-shown
stop-requires-clause-shown g c =
    let m = g.W.Walker in
    let self = c.args.self.now in
    let next = c.claim.new.self in
    let arm = c.in-Ok-Circular in
    let told = subst (λ k. IsClaimed m.seen (m.world_of self.world) self.history.events
    next.history.events next.table.finished c.args.id c.args.run.now c.args.walk (Ok k))
    arm.field-0-is arm.ensures.claimed in
    cycle-stops (m.world_of self.world) (m.world_of next.world) self.history.events
    next.history.events c.claim.ensures.world told.0 c.args.id c.args.run.now arm.runs told.2

pub returns-in-Ok-Go-clause-reply : goal.returns-in-Ok-Go-clause-reply
returns-in-Ok-Go-clause-reply g c =
    let m = g.W.Walker in
    let self = c.args.self.now in
    let next = c.claim.new.self in
    let arm = c.in-Ok-Go in
    let told = subst (λ k. IsClaimed m.seen (m.world_of self.world) self.history.events
    next.history.events next.table.finished c.args.id c.args.run.now c.args.walk (Ok k))
    arm.field-0-is arm.ensures.claimed in
    (told.0, c.claim.ensures.end ∙ c.requires.running, told.1, told.2)

pub returns-in-Ok-Use-clause-reply : goal.returns-in-Ok-Use-clause-reply
returns-in-Ok-Use-clause-reply g c =
    let m = g.W.Walker in
    let self = c.args.self.now in
    let next = c.claim.new.self in
    let arm = c.in-Ok-Use in
    let told = subst (λ k. IsClaimed m.seen (m.world_of self.world) self.history.events
    next.history.events next.table.finished c.args.id c.args.run.now c.args.walk (Ok k))
    arm.field-0-is arm.ensures.claimed in
    (told.0, c.claim.ensures.end ∙ c.requires.running, told.1, told.2)

pub returns-in-Ok-Wait-clause-reply : goal.returns-in-Ok-Wait-clause-reply
returns-in-Ok-Wait-clause-reply g c =
    let m = g.W.Walker in
    let self = c.args.self.now in
    let next = c.claim.new.self in
    let arm = c.in-Ok-Wait in
    let told = subst (λ k. IsClaimed m.seen (m.world_of self.world) self.history.events
    next.history.events next.table.finished c.args.id c.args.run.now c.args.walk (Ok k))
    arm.field-0-is arm.ensures.claimed in
    (told, c.claim.ensures.end ∙ c.requires.running)

pub returns-in-Ok-Circular-clause-reply : goal.returns-in-Ok-Circular-clause-reply
returns-in-Ok-Circular-clause-reply g c =
    let m = g.W.Walker in
    let self = c.args.self.now in
    let next = c.claim.new.self in
    let arm = c.in-Ok-Circular in
    let told = subst (λ k. IsClaimed m.seen (m.world_of self.world) self.history.events
    next.history.events next.table.finished c.args.id c.args.run.now c.args.walk (Ok k))
    arm.field-0-is arm.ensures.claimed in (
      subst (λ end. IsStoppedBy (m.world_of self.world) self.history.events c.args.id
          (Want c.args.run.now) end) (sym c.stop.ensures.end) told.2,
      c.stop.ensures.history ∙ told.0,
    )

pub returns-clause-reply : goal.returns-clause-reply
returns-clause-reply g c =
    let claimed = c.in-Err.ensures.claimed in
    (tt, c.claim.ensures.end ∙ c.requires.running, claimed.1, claimed.0)
