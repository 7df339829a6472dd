use Rattle.std.proofs.Common.{map, sym, ap, ◌∙◌, drop, option_copied}
use Rattle.std.specs.List.{list_all}
use Rattle.std.proofs.lemmas.List.{drop-map, take_rest}
use Rattle.std.proofs.lemmas.List.Folds.{list_all-map}
use Rattle.msb_glob.specs.Match.{segment_token, segments_left}
use Rattle.msb_glob.specs.Search.{is_gap}
use Rattle.msb_glob.proofs.Searches.{searching_ends}
use Rattle.msb_glob.proofs.parts.fits_left.Goals as goal

pub returns : goal.returns
returns c =
    let place = c.loop-segment.place in
    let tokens = map segment_token c.args.parts.now in
    c.are_gaps.ensures
    ∙ ap (list_all (λ part. is_gap (segment_token part))) (take_rest c.args.parts.now place.at)
    ∙ sym
    (searching_ends tokens (segments_left (option_copied c.args.left)) place.at
    (segments_left (option_copied place.rest)) place.star
    (segments_left (option_copied place.from))
    c.in_default.ensures c.loop-segment.invariant
    ∙ ap (list_all is_gap) (drop-map segment_token place.at c.args.parts.now)
    ∙ list_all-map is_gap segment_token (drop place.at c.args.parts.now))
