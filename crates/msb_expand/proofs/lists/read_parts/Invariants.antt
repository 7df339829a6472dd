use Rattle.std.proofs.Common.{◌≡◌, drop}
use Rattle.std.specs.List.{flat_map}
use Rattle.msb_expand.specs.Entries.{reading_of, with_tokens}
use Rattle.msb_expand.specs.Scenes.{scene_of}
use Rattle.msb_expand.specs.Tokens.{part_tokens}
use Rattle.msb_expand.proofs.lists.read_parts.Given as goal

abbrev pub invariant-loop-part : goal.invariant-loop-part
invariant-loop-part l =
    with_tokens (scene_of l.lens) (reading_of l.reading)
    (flat_map (part_tokens (scene_of l.lens)) (drop l.part-index l.parts))
    ≡ with_tokens (scene_of l.lens) (reading_of l.initial.reading)
    (flat_map (part_tokens (scene_of l.lens)) l.parts)
