use Rattle.std.proofs.Common.{◌++◌, sym, ap, ◌∙◌}
use Rattle.msb_laws.specs.Results.{map_ok, all_ok}
use Rattle.msb_instance.specs.Made.{row_for, seen_context}
use Rattle.msb_instance.proofs.Rowing.{rows_seen, map_ok-same}
use Rattle.msb_instance.proofs.rows.rows.Goals as goal

pub loop-target-init : goal.loop-target-init
loop-target-init c =
    let all = all_ok (row_for (seen_context c.args.context.now)) c.args.targets.now in
    record {
      is = rows_seen (seen_context c.args.context.now) c.args.targets.now
          ∙ sym (map_ok-same all) ∙ ap (λ front. map_ok (λ ys. front ++ ys) all)
          (sym c.new-rows.ensures);
    }
