use Rattle.std.proofs.Common.{drop, ◌≡◌, map, option_copied, false, sym, ◌∙◌, ap, arith}
use Rattle.msb_glob.specs.Match.{segment_token, segments_left}
use Rattle.msb_glob.specs.Search.{is_gap}
use Rattle.msb_glob.specs.Tokens.{fits, passes}
use Rattle.msb_glob.proofs.Searches.{
  turn_at_gap,
  turn_at_one,
  turn_fails_at,
  turn_fails_past,
  turn_back,
  never_short,
  stuck,
}
use Rattle.msb_glob.proofs.parts.next_place.Goals as goal
use Rattle.msb_glob.proofs.parts.next_place.Goals.{
  then-at-parts+else-is_gap+else-passes,
  else-at-parts,
}

pub returns-then-is_gap : goal.returns-then-is_gap
returns-then-is_gap c = λ entries s.
    turn_at_gap segment_token c.args.parts.now entries c.args.place.at _
    (segments_left (option_copied c.args.place.rest)) c.args.place.star
    (segments_left (option_copied c.args.place.from))
    c.if-at-parts.true (ap (λ part. is_gap (segment_token part)) (sym c.index-parts-at.is)
    ∙ sym c.is_gap.ensures ∙ c.if-is_gap.true) s

pub returns-then-passes : goal.returns-then-passes
returns-then-passes c = λ entries s.
    turn_at_one segment_token c.args.parts.now entries c.args.place.at _
    (segments_left (option_copied c.args.place.rest)) c.args.place.star
    (segments_left (option_copied c.args.place.from)) c.args.segment.now
    (segments_left (option_copied c.args.behind))
    c.if-at-parts.true
    (ap (λ part. passes (segment_token part) c.args.segment.now) (sym c.index-parts-at.is)
    ∙ sym c.passes.ensures ∙ c.if-passes.true) c.requires.next s

pub returns-then-star-eq0 : goal.returns-then-star-eq0
returns-then-star-eq0 c = λ entries s.
    let tokens = map segment_token c.args.parts.now in
    let fails : fits (drop c.args.place.at tokens) (segments_left (option_copied c.args.place.rest))
    ≡ false =
    elim c.if-at-parts.branch [
      | then-at-parts+else-is_gap+else-passes w ↦ turn_fails_at segment_token c.args.parts.now
          c.args.place.at _ c.args.segment.now _ _
          w.if-at-parts.true (ap (λ part. is_gap (segment_token part)) (sym w.index-parts-at.is)
          ∙ sym w.is_gap.ensures ∙ w.if-is_gap.false)
          (ap (λ part. passes (segment_token part) c.args.segment.now) (sym w.index-parts-at.is)
          ∙ sym w.passes.ensures ∙ w.if-passes.false) c.requires.next
      | else-at-parts w ↦ turn_fails_past segment_token c.args.parts.now c.args.place.at
          c.args.segment.now _ _ w.if-at-parts.false c.requires.next
    ] in
    stuck tokens entries c.args.place.at (segments_left (option_copied c.args.place.rest))
    c.args.place.star (segments_left (option_copied c.args.place.from)) c.if-star-eq0.true fails
    s

pub returns-in_err-from : goal.returns-in_err-from
returns-in_err-from c = λ entries s.
    absurd
    (never_short segment_token c.args.parts.now entries c.args.place.at
    (segments_left (option_copied c.args.place.rest)) c.args.place.star
    (segments_left (option_copied c.args.place.from)) _ _
    c.requires.next c.in_err-from.ensures s)

pub returns : goal.returns
returns c = λ entries s.
    let tokens = map segment_token c.args.parts.now in
    let fails : fits (drop c.args.place.at tokens) (segments_left (option_copied c.args.place.rest))
    ≡ false =
    elim c.if-at-parts.branch [
      | then-at-parts+else-is_gap+else-passes w ↦ turn_fails_at segment_token c.args.parts.now
          c.args.place.at _ c.args.segment.now _ _
          w.if-at-parts.true (ap (λ part. is_gap (segment_token part)) (sym w.index-parts-at.is)
          ∙ sym w.is_gap.ensures ∙ w.if-is_gap.false)
          (ap (λ part. passes (segment_token part) c.args.segment.now) (sym w.index-parts-at.is)
          ∙ sym w.passes.ensures ∙ w.if-passes.false) c.requires.next
      | else-at-parts w ↦ turn_fails_past segment_token c.args.parts.now c.args.place.at
          c.args.segment.now _ _ w.if-at-parts.false c.requires.next
    ] in
    turn_back segment_token c.args.parts.now entries c.args.place.at
    (segments_left (option_copied c.args.place.rest)) c.args.place.star
    (segments_left (option_copied c.args.place.from)) _ _
    (omega arith) fails c.in_ok-from.ensures s
