use Rattle.std.proofs.Common.{◌≡◌, ◌++◌, drop, length}
use Rattle.std.specs.List.{flat_map, zip}
use Rattle.target_body.specs.Seen.{call_segment}
use Rattle.target_body.proofs.state.push_calls.Given as goal

abbrev pub invariant-loop-key : goal.invariant-loop-key
invariant-loop-key l =
    l.segments
    ++ flat_map call_segment
    (zip (drop (length l.yielded) l.keys) (drop (length l.yielded) l.results))
    ≡ l.initial.segments ++ flat_map call_segment (zip l.keys l.results)
