use Rattle.std.proofs.Common.{drop, ◌≡◌, map, false, sym, ◌∙◌, arith}
use Rattle.std.specs.Str.{chars}
use Rattle.msb_glob.specs.Match.{character_token}
use Rattle.msb_glob.specs.Tokens.{fits}
use Rattle.msb_glob.proofs.Searches.{
  turn_at_gap,
  turn_at_one,
  turn_fails_at,
  turn_fails_past,
  turn_back,
  never_short,
  stuck,
}
use Rattle.msb_glob.proofs.pieces.next_place.Goals as goal
use Rattle.msb_glob.proofs.pieces.next_place.Goals.{
  then-at-pieces+else-is_gap+else-passes,
  else-at-pieces,
}

pub returns-then-is_gap : goal.returns-then-is_gap
returns-then-is_gap c = λ entries s.
    turn_at_gap character_token c.args.pieces.now entries c.args.place.at _
    (chars c.args.place.rest.now) c.args.place.star (chars c.args.place.from.now)
    c.if-at-pieces.true (sym c.is_gap.ensures ∙ c.if-is_gap.true) s

pub returns-then-passes : goal.returns-then-passes
returns-then-passes c = λ entries s.
    turn_at_one character_token c.args.pieces.now entries c.args.place.at _
    (chars c.args.place.rest.now) c.args.place.star (chars c.args.place.from.now)
    c.args.character (chars c.args.behind.now)
    c.if-at-pieces.true (sym c.passes.ensures ∙ c.if-passes.true) c.requires.next s

pub returns-then-star-eq0 : goal.returns-then-star-eq0
returns-then-star-eq0 c = λ entries s.
    let tokens = map character_token c.args.pieces.now in
    let fails : fits (drop c.args.place.at tokens) (chars c.args.place.rest.now) ≡ false =
    elim c.if-at-pieces.branch [
      | then-at-pieces+else-is_gap+else-passes w ↦ turn_fails_at character_token c.args.pieces.now
          c.args.place.at _ c.args.character _ _
          w.if-at-pieces.true (sym w.is_gap.ensures ∙ w.if-is_gap.false)
          (sym w.passes.ensures ∙ w.if-passes.false) c.requires.next
      | else-at-pieces w ↦ turn_fails_past character_token c.args.pieces.now c.args.place.at
          c.args.character _ _ w.if-at-pieces.false c.requires.next
    ] in
    stuck tokens entries c.args.place.at (chars c.args.place.rest.now) c.args.place.star
    (chars c.args.place.from.now) c.if-star-eq0.true fails s

pub returns-in_err-from : goal.returns-in_err-from
returns-in_err-from c = λ entries s.
    absurd
    (never_short character_token c.args.pieces.now entries c.args.place.at
    (chars c.args.place.rest.now) c.args.place.star (chars c.args.place.from.now) _ _
    c.requires.next c.in_err-from.ensures s)

pub returns : goal.returns
returns c = λ entries s.
    let tokens = map character_token c.args.pieces.now in
    let fails : fits (drop c.args.place.at tokens) (chars c.args.place.rest.now) ≡ false =
    elim c.if-at-pieces.branch [
      | then-at-pieces+else-is_gap+else-passes w ↦ turn_fails_at character_token c.args.pieces.now
          c.args.place.at _ c.args.character _ _
          w.if-at-pieces.true (sym w.is_gap.ensures ∙ w.if-is_gap.false)
          (sym w.passes.ensures ∙ w.if-passes.false) c.requires.next
      | else-at-pieces w ↦ turn_fails_past character_token c.args.pieces.now c.args.place.at
          c.args.character _ _ w.if-at-pieces.false c.requires.next
    ] in
    turn_back character_token c.args.pieces.now entries c.args.place.at
    (chars c.args.place.rest.now) c.args.place.star (chars c.args.place.from.now) _ _
    (omega arith) fails c.in_ok-from.ensures s
