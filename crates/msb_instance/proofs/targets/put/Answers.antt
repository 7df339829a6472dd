use Rattle.std.proofs.Common.{map, sym, ap, ◌∙◌}
use Rattle.build_world.specs.Elements.{seen_placed}
use Rattle.msb_instance.specs.Targets.{put_if}
use Rattle.msb_instance.specs.Made.{target_in}
use Rattle.msb_instance.proofs.Placing.{inserted}
use Rattle.msb_instance.proofs.targets.put.Goals as goal

pub returns-in_ok-insert : goal.returns-in_ok-insert
returns-in_ok-insert c =
    let e = seen_placed c.args.placed in
    ap (map target_in) c.in_ok-insert.ensures.entries
    ∙ inserted c.args.last.now.entries c.in-Some.name c.args.placed
    ∙ ap (λ name. put_if (map target_in c.args.last.now.entries) name e)
    (sym c.in-Some.is ∙ c.in_ok-name.ensures)
