use Rattle.std.proofs.Common.{◌≡◌, ◌++◌, length, min, arith, sym, ap, ◌∙◌}
use Rattle.std.specs.List.{flat_map}
use Rattle.std.proofs.lemmas.Grind.{common_steps}
use Rattle.std.proofs.lemmas.List.{append-nil}
use Rattle.std.proofs.lemmas.Slice.Zip.{zip_end}
use Rattle.task_msbuild.specs.Gathered.{call_notes}
use Rattle.task_msbuild.proofs.Zipped.{zip-past}
use Rattle.task_msbuild.proofs.gathering.failures.Goals as goal

pub returns : goal.returns
returns c =
    let n = length c.loop-key.yielded in
    let calls = c.args.calls.now in
    let results = c.args.results.now in
    let first : c.into_iter-key-iterator.result.a.rest.now ≡ calls = grind (arith, common_steps) in
    let second : c.into_iter-key-iterator.result.b.rest.now
    ≡ results = grind (arith, common_steps) in
    let end : n ≡ min (length calls) (length results) = zip_end calls results _ _ _ c.next.new.self
    _ first second c.loop-key.yielded_by c.in-None.is c.next.ensures.steps in
    sym (ap (λ pairs. c.loop-key.notes ++ flat_map call_notes pairs) (zip-past n calls results end)
    ∙ append-nil c.loop-key.notes) ∙ c.loop-key.invariant
