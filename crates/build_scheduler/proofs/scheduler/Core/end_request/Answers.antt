use Rattle.std.proofs.Common.{List, ap, subst, ◌∙◌, ◌++◌, ◌∷◌, []}
use Rattle.result_cache.specs.Table.{TableRuns}
use Rattle.build_meaning.specs.World.{World}
use Rattle.build_meaning.specs.declared.event.Event.{Event}
use Rattle.build_meaning.specs.declared.event.Event.TheVariants.{Done}
use Rattle.build_scheduler.specs.declared.walker.Ask.TheVariants.{Done as IsOver}
use Rattle.build_scheduler.specs.HandedBack.{IsHandedBack}
use Rattle.build_scheduler.specs.History.{History}
use Rattle.build_scheduler.proofs.SameShown.{asks-kept, own-kept}
use Rattle.build_scheduler.proofs.scheduler.Core.end_request.Goals as goal

pub finish_request-requires-clause-own : goal.finish_request-requires-clause-own
finish_request-requires-clause-own g c =
    let m = g.W.Walker in
    let now = c.args.self.now in
    let kept = c.keep.new.self in
    let told = c.keep.ensures in
    own-kept (m.world_of now.world) (m.world_of kept.world) now.history.events kept.history.events
    now.table.finished kept.table.finished c.args.id (m.seen c.args.walk) told.world
    (ap (λ (history : History). history.events) told.history)
    (ap (λ (table : TableRuns). table.finished)
    told.table) c.requires.own

pub finish_request-requires-clause-asks : goal.finish_request-requires-clause-asks
finish_request-requires-clause-asks g c =
    let m = g.W.Walker in
    let now = c.args.self.now in
    let kept = c.keep.new.self in
    let told = c.keep.ensures in
    asks-kept (m.world_of now.world) (m.world_of kept.world) now.history.events kept.history.events
    now.table.finished c.args.id (m.seen c.args.walk) (IsOver c.args.request_result) told.world
    (ap (λ (history : History). history.events) told.history) c.requires.asks c.requires.own

pub returns-clause-history : goal.returns-clause-history
returns-clause-history g c =
    c.finish_request.ensures.history
    ∙ ap (λ (history : History). history.events ++ Done c.args.id ∷ []) c.keep.ensures.history

pub returns-clause-left : goal.returns-clause-left
returns-clause-left g c =
    let m = g.W.Walker in
    let kept = c.keep.new.self in
    subst
    (λ (w : World m.Site m.Input m.Output).
    IsHandedBack w c.args.self.now.history.events c.args.id c.args.walk c.finish_request.result)
    c.keep.ensures.world
    (subst
    (λ (events : List Event).
    IsHandedBack (m.world_of kept.world) events c.args.id c.args.walk c.finish_request.result)
    (ap (λ (history : History). history.events) c.keep.ensures.history)
    c.finish_request.ensures.left)
