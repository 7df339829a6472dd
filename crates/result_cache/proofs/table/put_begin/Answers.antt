use Rattle.std.proofs.Common.{Some, ◌∙◌}
use Rattle.indexmap.proofs.CallerLemmas.{insert_entry-new}
use Rattle.result_cache.specs.Same.{same_run}
use Rattle.result_cache.proofs.table.put_begin.Goals as goal

pub returns-clause-entries : goal.returns-clause-entries
returns-clause-entries c =
    c.in-Ok.ensures.entries
    ∙ insert_entry-new same_run c.args.begun.now c.args.run (Some c.args.begin) c.requires.absent
