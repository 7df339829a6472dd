use Rattle.std.proofs.Common.{◌≡◌, ◌++◌, length, min, arith, sym, ap, ◌∙◌}
use Rattle.std.proofs.lemmas.Grind.{common_steps}
use Rattle.std.proofs.lemmas.List.{append-nil}
use Rattle.std.proofs.lemmas.Slice.Zip.{zip_end}
use Rattle.msb_batching.proofs.Spreading.{values_end}
use Rattle.msb_batching.proofs.filling.values.Goals as goal

pub returns : goal.returns
returns c =
    let n = length c.loop-reference.yielded in
    let refs = c.args.references.now in
    let tuple = c.args.tuple.now in
    let first : c.into_iter-reference-iterator.result.a.rest.now
    ≡ refs = grind (arith, common_steps) in
    let second : c.into_iter-reference-iterator.result.b.rest.now
    ≡ tuple = grind (arith, common_steps) in
    let end : n ≡ min (length refs) (length tuple) = zip_end refs tuple _ _ _ c.next.new.self _
    first second c.loop-reference.yielded_by c.in-None.is c.next.ensures.steps in
    sym (ap (λ l. c.loop-reference.values ++ l) (values_end n refs tuple end)
    ∙ append-nil c.loop-reference.values) ∙ c.loop-reference.invariant
