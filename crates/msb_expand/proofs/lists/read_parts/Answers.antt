use Rattle.std.specs.List.{flat_map}
use Rattle.std.proofs.lemmas.Result.{err_from_is_err_and}
use Rattle.msb_expand.specs.Entries.{reading_of, with_tokens}
use Rattle.msb_expand.specs.Scenes.{scene_of}
use Rattle.msb_expand.specs.Tokens.{part_tokens}
use Rattle.msb_expand.proofs.Listing.{part_read}
use Rattle.msb_expand.proofs.Turns.{goes_on, stops}
use Rattle.msb_expand.proofs.lists.read_parts.Goals as goal

pub returns-in_err-read_part : goal.returns-in_err-read_part
returns-in_err-read_part c =
    let scene = scene_of c.args.lens.now in
    let p = err_from_is_err_and c.from_residual.result c.from_residual.ensures.1 in
    rw (p.1, p.2)
    (stops _ (λ parts r. with_tokens scene r (flat_map (part_tokens scene) parts))
    (λ r part. with_tokens scene r (part_tokens scene part))
    (part_read scene) c.args.parts.now c.loop-part.part-index c.part-item.result
    (reading_of c.loop-part.reading) _ (c.loop-part-test.true, c.part-item.is)
    c.loop-part.invariant
    c.in_err-read_part.ensures)

pub loop-part-preserved : goal.loop-part-preserved
loop-part-preserved c =
    let scene = scene_of c.args.lens.now in
    goes_on (λ parts r. with_tokens scene r (flat_map (part_tokens scene) parts))
    (λ r part. with_tokens scene r (part_tokens scene part))
    (part_read scene) c.args.parts.now c.loop-part.part-index c.part-item.result
    (reading_of c.loop-part.reading) _ _ (c.loop-part-test.true, c.part-item.is)
    c.loop-part.invariant
    c.in_ok-read_part.ensures
