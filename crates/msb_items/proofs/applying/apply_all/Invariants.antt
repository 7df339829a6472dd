use Rattle.std.proofs.Common.{◌≡◌, drop}
use Rattle.msb_values.specs.Changes.{all_applied}
use Rattle.msb_items.proofs.applying.apply_all.Given as goal

abbrev pub invariant-loop-change : goal.invariant-loop-change
invariant-loop-change l = all_applied (drop l.change-index l.changes) l.scope
    ≡ all_applied l.changes l.initial.scope
