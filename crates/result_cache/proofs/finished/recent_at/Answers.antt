use Rattle.std.proofs.Common.{Some, ap, sym, ◌∙◌}
use Rattle.std.proofs.lemmas.Option.{slice_get-get_or}
use Rattle.result_cache.proofs.finished.recent_at.Goals as goal

pub returns-then-at-recent : goal.returns-then-at-recent
returns-then-at-recent c =
    ap Some (c.finish.view_is ∙ c.index-recent-at.is)
    ∙ sym (slice_get-get_or c.args.recent.now c.args.at _ c.if-at-recent.true)
