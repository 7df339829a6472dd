use Rattle.std.proofs.Common.{rules, tests, lit<}
use Rattle.std.proofs.lemmas.Iterator.Search.{all_from_yields_List}
use Rattle.std.proofs.lemmas.Iterator.Splits.{YieldsList-from_str_split}
use Rattle.msb_paths.specs.Segments.{is_normal_segment}
use Rattle.msb_paths.proofs.normal.is_normal.Goals as goal

pub returns : goal.returns
returns c =
    all_from_yields_List is_normal_segment _ _ _ c.all.ensures.ran
    (YieldsList-from_str_split {s = c.split.result} 47 c.args.path.now (lit< tt) (cc) (cc) (cc))
    (λ x b q k. search (rules, tests))
