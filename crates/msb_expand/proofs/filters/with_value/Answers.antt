use Rattle.std.proofs.Common.{◌≡◌, ap, map}
use Rattle.msb_values.specs.Same.{is_same_text}
use Rattle.msb_expand.specs.Functions.{filtered}
use Rattle.msb_expand.specs.Seen.{seen_item}
use Rattle.msb_expand.specs.Wanted.{passes}
use Rattle.msb_expand.proofs.Giving.{gives_same}
use Rattle.msb_expand.proofs.filters.with_value.Goals as goal

pub returns : goal.returns
returns c =
    let same : passes c.in_ok-wanted.wanted ≡ is_same_text c.args.value.now = λ i text.
    c.in_ok-wanted.ensures text i in
    gives_same _ _ _
    (ap
    (λ test. filtered c.args.project.now c.args.of.now test (map seen_item c.args.items.items))
    same) c.filter.ensures
