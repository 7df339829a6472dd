use Rattle.std.proofs.Common.{sym, ap, ◌∙◌}
use Rattle.msb_values.specs.Escapes.{number_at}
use Rattle.msb_values.proofs.Escaping.{boundary_after_digits}
use Rattle.msb_values.proofs.escapes.escaped_character.Goals as goal

pub range_from-requires : goal.range_from-requires
range_from-requires c = λ _. boundary_after_digits _ _ c.utf8.text
    (sym (c.in-Some.ensures ∙ ap number_at c.as_bytes.ensures.value))
