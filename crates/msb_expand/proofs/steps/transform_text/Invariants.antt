use Rattle.std.proofs.Common.{◌≡◌, [], drop}
use Rattle.msb_expand.specs.Limits.{grown_by}
use Rattle.msb_expand.specs.Scenes.{scene_of}
use Rattle.msb_expand.specs.Functions.{piece_value}
use Rattle.msb_expand.specs.Seen.{seen_item}
use Rattle.msb_expand.proofs.steps.transform_text.Given as goal

abbrev pub invariant-loop-piece : goal.invariant-loop-piece
invariant-loop-piece l = grown_by (piece_value (scene_of l.lens) (seen_item l.item)) l.text
    (drop l.piece-index l.pieces) ≡ grown_by (piece_value (scene_of l.lens) (seen_item l.item)) []
    l.pieces
