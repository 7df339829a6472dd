use Rattle.std.proofs.Common.{◌≡◌, drop}
use Rattle.std.specs.List.{flat_map}
use Rattle.msb_expand.specs.Limits.{grown_by}
use Rattle.msb_expand.specs.Scenes.{scene_of}
use Rattle.msb_expand.specs.Tokens.{part_tokens}
use Rattle.msb_expand.specs.Values.{token_text}
use Rattle.msb_expand.proofs.texts.push_parts.Given as goal

abbrev pub invariant-loop-part : goal.invariant-loop-part
invariant-loop-part l =
    grown_by (token_text (scene_of l.lens)) l.text
    (flat_map (part_tokens (scene_of l.lens)) (drop l.part-index l.parts))
    ≡ grown_by (token_text (scene_of l.lens)) l.initial.text
    (flat_map (part_tokens (scene_of l.lens)) l.parts)
