use Rattle.std.proofs.Common.{◌≡◌, Some, ap, sym, ◌∙◌, ◌++◌, slice_get, [], ◌∷◌}
use Rattle.std.proofs.lemmas.List.{append-nil}
use Rattle.std.proofs.lemmas.Option.{get_or_from_slice_get, slice_get_within}
use Rattle.result_cache.specs.Kept.{records_of}
use Rattle.result_cache.specs.Table.{found, FinishedRun}
use Rattle.result_cache.proofs.LayerSteps.{next_run, next_absent}
use Rattle.result_cache.proofs.layer.Layer.push_all.Goals as goal

pub loop-at-init : goal.loop-at-init
loop-at-init c =
    ap records_of c.reserve.ensures.entries
    ∙ (c.self.view_is ∙ sym (append-nil c.args.self.now))

pub push-requires : goal.push-requires
push-requires c =
    let more = c.args.more.now in
    let i = c.loop-at.at in
    let f : FinishedRun = record { run = c.in-Some.run'.now; made = c.in-Some.made.now } in
    let at : slice_get more i ≡ Some f = sym c.in-Some.ensures in
    ap (λ l. found l f.run) c.loop-at.invariant
    ∙ next_absent c.args.self.now more i f (slice_get_within more i f at)
    (sym (get_or_from_slice_get more i f f at)) c.requires

pub loop-at-preserved : goal.loop-at-preserved
loop-at-preserved c =
    let more = c.args.more.now in
    let i = c.loop-at.at in
    let f : FinishedRun = record { run = c.in-Some.run'.now; made = c.in-Some.made.now } in
    let at : slice_get more i ≡ Some f = sym c.in-Some.ensures in
    c.in_ok-push.ensures
    ∙ (ap (λ l. l ++ f ∷ []) c.loop-at.invariant
    ∙ next_run c.args.self.now more i f (slice_get_within more i f at)
    (sym (get_or_from_slice_get more i f f at)))
