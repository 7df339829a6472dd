use Rattle.std.proofs.Common.{map, sym, ap, ◌∙◌, drop}
use Rattle.std.specs.List.{list_all}
use Rattle.std.specs.Str.{chars}
use Rattle.std.proofs.lemmas.List.{drop-map, take_rest}
use Rattle.std.proofs.lemmas.List.Folds.{list_all-map}
use Rattle.msb_glob.specs.Match.{character_token}
use Rattle.msb_glob.specs.Search.{is_gap}
use Rattle.msb_glob.proofs.Searches.{searching_ends}
use Rattle.msb_glob.proofs.pieces.fits_segment.Goals as goal

pub returns : goal.returns
returns c =
    let place = c.loop-character.place in
    let tokens = map character_token c.args.pieces.now in
    c.are_gaps.ensures
    ∙ ap (list_all (λ piece. is_gap (character_token piece))) (take_rest c.args.pieces.now place.at)
    ∙ sym
    (searching_ends tokens (chars c.args.segment.now) place.at (chars place.rest.now) place.star
    (chars place.from.now) c.in_default.ensures c.loop-character.invariant
    ∙ ap (list_all is_gap) (drop-map character_token place.at c.args.pieces.now)
    ∙ list_all-map is_gap character_token (drop place.at c.args.pieces.now))
