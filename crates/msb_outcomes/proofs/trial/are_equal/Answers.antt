use Rattle.std.proofs.Common.{sym, ap₂, ◌∙◌}
use Rattle.std.specs.Cmp.Lexicographic.{pointwise}
use Rattle.std.specs.Str.{bytes_eq}
use Rattle.result_cache.specs.SameRecords.{same_act}
use Rattle.msb_outcomes.proofs.Compared.{equal_if_same}
use Rattle.msb_outcomes.proofs.trial.are_equal.Goals as goal

pub returns-then-eq : goal.returns-then-eq
returns-then-eq c =
    equal_if_same c.args.one.now c.args.other.now c.are_same.result
    (sym (ap₂ bytes_eq c.as_bytes.ensures c.as_bytes-2.ensures) ∙ (sym c.eq.ensures ∙ c.if-eq.true))
    (c.are_same.ensures ∙ ap₂ (pointwise same_act) c.as_slice.ensures c.as_slice-then-eq.ensures)
