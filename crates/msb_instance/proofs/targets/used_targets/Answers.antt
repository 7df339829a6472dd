use Rattle.std.proofs.Common.{ℕ, List, map, ap, ◌∙◌}
use Rattle.build_world.specs.Elements.{seen_placed}
use Rattle.msb_instance.specs.Targets.{file_has_returns}
use Rattle.msb_instance.specs.Evaluated.{used, seen_target}
use Rattle.msb_instance.specs.Made.{target_seen}
use Rattle.msb_instance.proofs.Placing.{made_names, made_used, if_ok}
use Rattle.msb_instance.proofs.targets.used_targets.Goals as goal

pub returns-clause-targets : goal.returns-clause-targets
returns-clause-targets c =
    if_ok (λ made is. ap (map target_seen) is
    ∙ made_names c.in_ok-returning.returning.keys c.in_ok-last.last.entries
    ∙ c.in_ok-last.ensures)
    c.with_returns.result c.with_returns.ensures

pub returns-clause-used : goal.returns-clause-used
returns-clause-used c =
    let elements = map seen_placed c.args.elements.items in
    let same = λ (file : List ℕ). c.in_ok-returning.ensures file
    ∙ ap (λ items. file_has_returns (map seen_placed items) file) c.deref.ensures.value in
    if_ok (λ made is. ap (map seen_target) is
    ∙ made_used c.in_ok-returning.returning.keys elements same c.in_ok-last.last.entries
    ∙ ap (map (used elements)) c.in_ok-last.ensures)
    c.with_returns.result c.with_returns.ensures
