use Rattle.std.proofs.Common.{rules, tests, lit<}
use Rattle.std.proofs.lemmas.Iterator.Search.{any_from_yields_List}
use Rattle.std.proofs.lemmas.Iterator.Splits.{YieldsList-from_str_split}
use Rattle.msb_glob.specs.Parsed.{has_stars_inside}
use Rattle.msb_glob.proofs.reading.has_stars_inside_part.Goals as goal

pub returns : goal.returns
returns c =
    any_from_yields_List has_stars_inside _ _ _ c.any.ensures.ran
    (YieldsList-from_str_split {s = c.split.result} 92 c.args.part.now (lit< tt) (cc) (cc) (cc))
    (λ x b q k. search (rules, tests))
