use Rattle.std.specs.List.{flat_map}
use Rattle.std.proofs.lemmas.Result.{err_from_is_err_and}
use Rattle.msb_expand.specs.Limits.{grown_by}
use Rattle.msb_expand.specs.Scenes.{scene_of}
use Rattle.msb_expand.specs.Tokens.{part_tokens}
use Rattle.msb_expand.specs.Values.{token_text}
use Rattle.msb_expand.proofs.Growing.{part_grown}
use Rattle.msb_expand.proofs.Turns.{goes_on, stops}
use Rattle.msb_expand.proofs.texts.push_parts.Goals as goal

pub returns-in_err-push_part : goal.returns-in_err-push_part
returns-in_err-push_part c =
    let scene = scene_of c.args.lens.now in
    let p = err_from_is_err_and c.from_residual.result c.from_residual.ensures.1 in
    rw (p.1, p.2)
    (stops _ (λ parts text. grown_by (token_text scene) text (flat_map (part_tokens scene) parts))
    (λ text part. grown_by (token_text scene) text (part_tokens scene part))
    (part_grown scene) c.args.parts.now c.loop-part.part-index c.part-item.result c.loop-part.text _
    (c.loop-part-test.true, c.part-item.is) c.loop-part.invariant
    c.in_err-push_part.ensures)

pub loop-part-preserved : goal.loop-part-preserved
loop-part-preserved c =
    let scene = scene_of c.args.lens.now in
    goes_on (λ parts text. grown_by (token_text scene) text (flat_map (part_tokens scene) parts))
    (λ text part. grown_by (token_text scene) text (part_tokens scene part))
    (part_grown scene) c.args.parts.now c.loop-part.part-index c.part-item.result c.loop-part.text _
    _ (c.loop-part-test.true, c.part-item.is) c.loop-part.invariant
    c.in_ok-push_part.ensures
