use Rattle.std.proofs.lemmas.Result.{err_from_is_err_and}
use Rattle.msb_laws.proofs.Collecting.{fold_step, fold_stop, fold_end}
use Rattle.task_trait.proofs.Stopping.{unless}
use Rattle.task_kit.proofs.Acting.{goes_on, stops}
use Rattle.task_kit.proofs.Pairing.{zip_at, zip_ends, zip_within}
use Rattle.task_kit.proofs.copies.CopyContext.copy_each.Goals as goal

pub returns-in_err-copy_one : goal.returns-in_err-copy_one
returns-in_err-copy_one c =
    let p = err_from_is_err_and c.from_residual.result c.from_residual.ensures.1 in
    let sources = c.args.sources.now in
    let destinations = c.args.destinations.now in
    let within = zip_within sources destinations c.loop-at.at c.requires c.loop-at-test.true in
    let pair = zip_at sources destinations c.loop-at.at _ _ c.requires c.loop-at-test.true
    c.index-sources-at.is c.index-destinations-at.is in
    let failure = c.in_err-copy_one.field-0.0 in
    rw (p.1, p.2)
    (unless failure
    (λ both. fold_stop _ _ _ _ _ _ _ c.loop-at.invariant within pair
    (stops c.loop-at.progress c.copy_one.new.progress _ failure both)) c.in_err-copy_one.ensures)

pub loop-at-preserved : goal.loop-at-preserved
loop-at-preserved c =
    let sources = c.args.sources.now in
    let destinations = c.args.destinations.now in
    let within = zip_within sources destinations c.loop-at.at c.requires c.loop-at-test.true in
    let pair = zip_at sources destinations c.loop-at.at _ _ c.requires c.loop-at-test.true
    c.index-sources-at.is c.index-destinations-at.is in
    fold_step _ _ _ _ _ _ _ c.loop-at.invariant within pair (goes_on _ _ _ c.in_ok-copy_one.ensures)

pub returns : goal.returns
returns c = fold_end _ _ _ _ _ c.loop-at.invariant
    (zip_ends c.args.sources.now c.args.destinations.now c.loop-at.at c.requires
    c.loop-at-test.false)
