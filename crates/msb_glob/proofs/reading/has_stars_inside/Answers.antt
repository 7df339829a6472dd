use Rattle.std.proofs.Common.{rules, tests, lit<, ap, ◌∙◌}
use Rattle.std.specs.List.{list_any, slice_split}
use Rattle.std.proofs.lemmas.Iterator.Search.{any_from_yields_List}
use Rattle.std.proofs.lemmas.Iterator.Splits.{YieldsList-from_str_split}
use Rattle.msb_paths.specs.Segments.{is_slash, is_backslash}
use Rattle.msb_paths.proofs.Walks.{cut, flat_map-cut}
use Rattle.msb_glob.specs.Parsed.{has_stars_inside}
use Rattle.msb_glob.proofs.Segments.{list_any-flat_map}
use Rattle.msb_glob.proofs.reading.has_stars_inside.Goals as goal

pub returns : goal.returns
returns c =
    any_from_yields_List (λ part. list_any has_stars_inside (slice_split is_backslash part)) _ _ _
    c.any.ensures.ran
    (YieldsList-from_str_split {s = c.split.result} 47 c.args.text.now (lit< tt) (cc) (cc) (cc))
    (λ x b q k. search (rules, tests))
    ∙ list_any-flat_map has_stars_inside cut (slice_split is_slash c.args.text.now)
    ∙ ap (list_any has_stars_inside) (flat_map-cut c.args.text.now)
