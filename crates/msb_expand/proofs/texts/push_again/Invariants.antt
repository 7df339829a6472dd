use Rattle.std.proofs.Common.{◌≡◌, map, drop}
use Rattle.msb_expand.specs.Limits.{grown_by}
use Rattle.msb_expand.specs.Scenes.{scene_of}
use Rattle.msb_expand.specs.Tokens.{again_token}
use Rattle.msb_expand.specs.Values.{token_text}
use Rattle.msb_expand.proofs.texts.push_again.Given as goal

abbrev pub invariant-loop-part : goal.invariant-loop-part
invariant-loop-part l =
    grown_by (token_text (scene_of l.lens)) l.text (map again_token (drop l.part-index l.parts))
    ≡ grown_by (token_text (scene_of l.lens)) l.initial.text (map again_token l.parts)
