use Rattle.std.proofs.Common.{◌∙◌, sym}
use Rattle.result_cache.proofs.Closed.{replay-has}
use Rattle.msb_files.proofs.journal.Journal.replay.Goals as goal

pub returns-then-has_ended-clause-ok : goal.returns-then-has_ended-clause-ok
returns-then-has_ended-clause-ok c = replay-has c.args.table.now.finished c.args.run.now
    c.args.self.now (sym c.has_ended.ensures ∙ c.if-has_ended.true)
