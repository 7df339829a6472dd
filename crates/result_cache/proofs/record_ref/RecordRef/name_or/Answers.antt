use Rattle.std.proofs.Common.{◌≡◌, true, sym, ◌∙◌}
use Rattle.result_cache.specs.Same.{same_run}
use Rattle.result_cache.proofs.RunTests.{same_run-true}
use Rattle.result_cache.proofs.record_ref.RecordRef.name_or.Goals as goal

pub returns-in-Ok : goal.returns-in-Ok
returns-in-Ok c =
    let told : same_run c.in-Some.kept c.args.run ≡ true = sym c.eq.ensures ∙ c.if-eq.true in
    c.in-Ok.ensures ∙ same_run-true c.in-Some.kept c.args.run told
