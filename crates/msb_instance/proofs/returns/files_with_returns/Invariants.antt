use Rattle.std.proofs.Common.{◌≡◌, ◌||◌, ℕ, List, map, drop}
use Rattle.std.specs.List.{list_any}
use Rattle.std.specs.Str.{bytes_eq}
use Rattle.build_world.specs.Elements.{seen_placed}
use Rattle.msb_instance.specs.Targets.{file_has_returns}
use Rattle.msb_instance.proofs.returns.files_with_returns.Given as goal

abbrev pub invariant-loop-placed : goal.invariant-loop-placed
invariant-loop-placed l = (file : List ℕ) → list_any (bytes_eq file) l.files.keys
    || file_has_returns (map seen_placed (drop l.placed-index l.elements)) file
    ≡ file_has_returns (map seen_placed l.elements) file
