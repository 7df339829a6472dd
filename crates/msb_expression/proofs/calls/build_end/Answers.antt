use Rattle.std.proofs.Common.{◌≡◌, ◌∙◌, [], sym, ap, refl, ◌≤◌, arith, drop}
use Rattle.std.proofs.lemmas.List.{drop_all}
use Rattle.msb_expression.specs.Machine.{run, build_begun}
use Rattle.msb_expression.proofs.NamePlaces.{Refuses-same}
use Rattle.msb_expression.proofs.Places.{has_byte}
use Rattle.msb_expression.proofs.Marker.{marker, byte_there, marker_goes, marker_stops}
use Rattle.msb_expression.proofs.calls.build_end.Goals as goal

pub loop-expected-init : goal.loop-expected-init
loop-expected-init c =
    let b = has_byte c.args.text.now c.args.at (λ k. let z = sym c.requires ∙ k in cc) in
    record { at = omega arith; within = omega (arith, b.within); goes = λ parts. refl }

pub loop-expected-preserved : goal.loop-expected-preserved
loop-expected-preserved c =
    let l = c.loop-expected in
    let i = l.invariant in
    let e = sym c.is_lower_at.ensures ∙ c.if-is_lower_at.true in
    let b = byte_there c.args.text.now l.end _ e in
    record {
      at = omega (arith, i.at);
      within = omega (arith, b.0);
      goes =
          λ parts. i.goes parts
          ∙ marker_goes parts c.args.text.now l.end l.expected-index c.loop-expected-test.true e;
    }

pub returns-else-is_lower_at : goal.returns-else-is_lower_at
returns-else-is_lower_at c =
    let l = c.loop-expected in
    let i = l.invariant in
    record {
      goes = λ parts.
          Refuses-same c.args.text.now _ _ _
          (i.goes parts
          ∙ marker_stops parts c.args.text.now c.args.at l.end l.expected-index i.at c.requires
          c.loop-expected-test.true (sym c.is_lower_at.ensures ∙ c.if-is_lower_at.false))
          c.refusal.ensures;
      after = tt;
      within = tt;
    }

pub returns : goal.returns
returns c =
    let l = c.loop-expected in
    let i = l.invariant in
    let past : 11 ≤ l.expected-index = c.loop-expected-test.false in
    let none : drop l.expected-index marker ≡ [] = drop_all l.expected-index marker past in
    record {
      goes =
          λ parts. i.goes parts
          ∙ ap (λ left. run (drop l.end c.args.text.now) (build_begun parts left)) none;
      after = omega (arith, i.at, past);
      within = i.within;
    }
