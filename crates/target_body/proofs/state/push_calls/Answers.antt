use Rattle.std.proofs.Common.{◌≡◌, ◌++◌, length, min, arith, sym, ap, ◌∙◌}
use Rattle.std.specs.List.{flat_map}
use Rattle.std.proofs.lemmas.Grind.{common_steps}
use Rattle.std.proofs.lemmas.List.{append-nil}
use Rattle.std.proofs.lemmas.Slice.Zip.{zip_end}
use Rattle.task_msbuild.proofs.Zipped.{zip-past}
use Rattle.target_body.specs.Seen.{call_segment}
use Rattle.target_body.proofs.Pushing.{called_pairs}
use Rattle.target_body.proofs.state.push_calls.Goals as goal

pub returns : goal.returns
returns c =
    let n = length c.loop-key.yielded in
    let keys = c.args.keys.now in
    let results = c.args.results.now in
    let first : c.into_iter-key-iterator.result.a.rest.now ≡ keys = grind (arith, common_steps) in
    let second : c.into_iter-key-iterator.result.b.rest.now
    ≡ results = grind (arith, common_steps) in
    let end : n ≡ min (length keys) (length results) = zip_end keys results _ _ _ c.next.new.self _
    first second c.loop-key.yielded_by c.in-None.is c.next.ensures.steps in
    sym
    (ap (λ pairs. c.loop-key.segments ++ flat_map call_segment pairs)
    (zip-past n keys results end) ∙ append-nil c.loop-key.segments)
    ∙ c.loop-key.invariant
    ∙ ap (λ more. c.args.segments.now ++ more) (called_pairs keys results)
