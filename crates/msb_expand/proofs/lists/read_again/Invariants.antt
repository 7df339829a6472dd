use Rattle.std.proofs.Common.{◌≡◌, map, drop}
use Rattle.msb_expand.specs.Entries.{reading_of, with_tokens}
use Rattle.msb_expand.specs.Scenes.{scene_of}
use Rattle.msb_expand.specs.Tokens.{again_token}
use Rattle.msb_expand.proofs.lists.read_again.Given as goal

abbrev pub invariant-loop-part : goal.invariant-loop-part
invariant-loop-part l =
    with_tokens (scene_of l.lens) (reading_of l.reading)
    (map again_token (drop l.part-index l.parts))
    ≡ with_tokens (scene_of l.lens) (reading_of l.initial.reading) (map again_token l.parts)
