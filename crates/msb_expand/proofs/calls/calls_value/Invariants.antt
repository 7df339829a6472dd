use Rattle.std.proofs.Common.{◌≡◌, drop}
use Rattle.msb_expand.specs.Calls.{calls_value}
use Rattle.msb_expand.specs.Scenes.{scene_of}
use Rattle.msb_expand.proofs.calls.calls_value.Given as goal

abbrev pub invariant-loop-call : goal.invariant-loop-call
invariant-loop-call l =
    calls_value (scene_of l.lens) l.value (drop l.call-index l.calls) ≡ calls_value
    (scene_of l.lens) l.fn.subject l.calls
