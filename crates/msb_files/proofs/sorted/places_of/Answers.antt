use Rattle.std.proofs.Common.{◌+◌, ◌++◌, Some, None, drop, reverse, sym, ap, ◌∙◌, arith}
use Rattle.std.proofs.lemmas.List.{append-nil, drop_all, length-reverse}
use Rattle.msb_files.specs.Places.{places_of}
use Rattle.msb_files.proofs.Placed.{place_more}
use Rattle.msb_files.proofs.sorted.places_of.Goals as goal
use Rattle.msb_files.proofs.sorted.places_of.Goals.{in-Some+in_ok-push, in_default}

pub loop-at-preserved : goal.loop-at-preserved
loop-at-preserved c =
    let entries = c.args.entries.now in
    let at = c.loop-at.at in
    let e = c.index-entries-place.result in
    let items = c.loop-at.places.items in
    let rest = places_of (drop (at + 1) (reverse entries)) in
    elim c.match-act.branch [
      | in-Some+in_ok-push w ↦ ap (λ v. v.items ++ rest) w.places-is
          ∙ (ap (λ ps. ps ++ rest) w.in_ok-push.ensures.items
          ∙ (place_more entries at e (Some w.in-Some.field-0.now)
          items c.loop-at-test.true c.index-entries-place.is w.in-Some.ensures
          ∙ c.loop-at.invariant))
      | in_default w ↦ ap (λ v. v.items ++ rest) w.places-is
          ∙ (ap (λ ps. ps ++ rest) (sym (append-nil items))
          ∙ (place_more entries at e None items c.loop-at-test.true c.index-entries-place.is
          w.in_default.ensures ∙ c.loop-at.invariant))
    ]

pub returns : goal.returns
returns c =
    let entries = c.args.entries.now in
    let items = c.loop-at.places.items in
    let gone = drop_all c.loop-at.at (reverse entries) (omega (arith, length-reverse entries)) in
    sym (append-nil items) ∙ (ap (λ es. items ++ places_of es) (sym gone) ∙ c.loop-at.invariant)
