use Rattle.std.proofs.Common.{ap, ◌∙◌, map}
use Rattle.msb_expand.specs.Seen.{seen_item}
use Rattle.msb_expand.proofs.Reversing.{map-reverse}
use Rattle.msb_expand.proofs.kept.reverse.Goals as goal

pub returns : goal.returns
returns c = ap (map seen_item) c.reverse.ensures.items ∙ map-reverse seen_item c.args.items.items
