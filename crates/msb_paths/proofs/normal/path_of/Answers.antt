use Rattle.std.proofs.Common.{ℕ, List, Bor, sym, ap, map, ◌∙◌}
use Rattle.std.specs.List.{join_with_byte}
use Rattle.msb_paths.proofs.NormalLaws.{join-first}
use Rattle.msb_paths.proofs.normal.path_of.Goals as goal

pub loop-name-init : goal.loop-name-init
loop-name-init c =
    rw c.in_ok-path.ensures
    (sym (join-first c.in-Some.first.now.now (map (λ name. name.now) c.in-Some.rest.now))
    ∙ ap (λ (names : List (Bor (List ℕ))). join_with_byte 47 (map (λ name. name.now) names))
    (sym c.in-Some.ensures.cases.0))
