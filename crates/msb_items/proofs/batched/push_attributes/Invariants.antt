use Rattle.std.proofs.Common.{◌++◌, map}
use Rattle.msb_laws.proofs.Collecting.{IsFolded}
use Rattle.msb_laws.specs.Results.{map_ok}
use Rattle.msb_items.specs.Batched.{attribute_read, joined_ok}
use Rattle.msb_items.specs.ReadTexts.{exprs_in}
use Rattle.msb_items.proofs.batched.push_attributes.Given as goal

abbrev pub invariant-loop-attribute : goal.invariant-loop-attribute
invariant-loop-attribute l =
    let ignored = map (λ name. name.now) l.ignored in
    IsFolded (λ s pair. map_ok (λ more. s ++ more) (attribute_read ignored pair)) l.attribute-items
    l.attribute-index (exprs_in l.read.items)
    (map_ok (λ more. exprs_in l.initial.read.items ++ more)
    (joined_ok (attribute_read ignored) l.attribute-items))
