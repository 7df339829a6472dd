use Rattle.std.proofs.Common.{◌≡◌, true, Result, Ok, Err, IfOk, ◌∙◌, rules}
use Rattle.msb_values.specs.declared.errors.NoMemory.{NoMemory}
use Rattle.result_cache.specs.declared.run.RunId.{RunId}
use Rattle.result_cache.specs.Same.{same_run}
use Rattle.result_cache.proofs.RunTests.{same_run-true}
use Rattle.result_cache.proofs.record_ref.RecordRef.name.Goals as goal

if_this : (r : Result RunId NoMemory) (a b : RunId) → IfOk r (λ x. x ≡ a) → a ≡ b
    → IfOk r (λ x. x ≡ b)
if_this (Ok x) a b is same = is ∙ same
if_this (Err fault) a b is same = is

pub returns-in-Some : goal.returns-in-Some
returns-in-Some c =
    let kept = c.in-Some.kept in
    let run = c.args.run.now in
    let told : same_run kept run ≡ true = search rules in
    if_this c.copy.result kept run (search rules) (same_run-true kept run told)
