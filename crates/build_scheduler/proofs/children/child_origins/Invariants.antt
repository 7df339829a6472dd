use Rattle.std.proofs.Common.{◌≡◌, map, take}
use Rattle.build_scheduler.specs.Children.{child_origin}
use Rattle.build_scheduler.proofs.children.child_origins.Given as goal

abbrev pub invariant-loop-key : goal.invariant-loop-key
invariant-loop-key l = l.origins.items ≡ map (child_origin l.caller l.depth)
    (take l.key-index l.calls)
