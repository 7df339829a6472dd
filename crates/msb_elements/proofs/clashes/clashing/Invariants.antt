use Rattle.std.proofs.Common.{◌≡◌, drop}
use Rattle.std.specs.List.{list_any}
use Rattle.msb_elements.specs.Checks.{is_clash, first_other}
use Rattle.msb_elements.specs.Rows.{row_of}
use Rattle.msb_elements.proofs.clashes.clashing.Given as goal

abbrev pub invariant-loop-other : goal.invariant-loop-other
invariant-loop-other l =
    first_other (λ other. list_any (is_clash l.attributes l.name other) (row_of l.kind).clashes)
    l.rest
    ≡ first_other
    (λ other. list_any (is_clash l.attributes l.name other) (row_of l.kind).clashes)
    (drop l.other-index l.rest)
