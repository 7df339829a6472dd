use Rattle.std.proofs.Common.{◌≡◌, ◌+◌, ◌-◌, ◌∷◌, length, take, drop, arith, sym, ap, ◌∙◌}
use Rattle.std.proofs.lemmas.List.{take_rest}
use Rattle.std.specs.BTreeMap.{get}
use Rattle.std.specs.Cmp.Lexicographic.{slice_cmp}
use Rattle.std.specs.List.{list_any}
use Rattle.std.specs.Option.{option_copied}
use Rattle.std.specs.Ordering.{nat_cmp}
use Rattle.msb_elements.specs.Checks.{is_clash, are_apart, first_other}
use Rattle.msb_elements.specs.Rows.{row_of}
use Rattle.msb_elements.proofs.Twos.{
  drop_front,
  other_named,
  other_known,
  two_step,
  later_named,
  later_known,
}
use Rattle.msb_elements.proofs.clashes.both_of_many.Goals as goal
use Rattle.msb_elements.proofs.clashes.both_of_many.Goals.{
  in-Named+in_ok-lower-in-Named+in_ok-other-in-Named,
  in_default,
}

pub loop-at-preserved : goal.loop-at-preserved
loop-at-preserved c =
    let n = c.loop-at.at in
    let kind = c.args.kind in
    let attributes = c.args.attributes.now in
    let pair = c.index-attributes-at.result in
    let name = c.as_str-name.result.now in
    let all : drop (n - 1) c.args.attributes.now
    ≡ pair ∷ drop n c.args.attributes.now = drop_front c.args.attributes.now (n - 1) n pair
    (omega arith) (omega arith) c.index-attributes-at.is in
    let called : name ≡ pair.0 = c.as_str-name.ensures
    ∙ ap (λ p. p.0) (sym c.index-attributes-at.is) in
    let back : n - 1 + 1 ≡ n = omega arith in
    let other : option_copied c.match-role.other
    ≡ first_other (are_apart c.args.kind c.args.attributes.now name)
    (drop n c.args.attributes.now) =
    elim c.match-role.branch [
      | in-Named+in_ok-lower-in-Named+in_ok-other-in-Named w ↦
          let named = sym c.role.ensures ∙ w.in-Named.is in
          ap option_copied (w.other-is ∙ w.in_ok-other-in-Named.ensures.old
          ∙ ap (get (slice_cmp nat_cmp) c.loop-at.later) w.in_ok-lower-in-Named.ensures)
          ∙ c.loop-at.invariant.later _ ∙ other_named kind attributes name _ named
      | in_default w ↦
          let first : option_copied w.clashing-other.result
          ≡ first_other
          (λ other. list_any (is_clash attributes name other) (row_of kind).clashes)
          (take (length attributes - (n - 1 + 1)) (drop (n - 1 + 1) attributes)) =
          w.clashing-other.ensures in
          ap option_copied w.other-is ∙ first
          ∙ ap
          (first_other
          (λ other. list_any (is_clash attributes name other) (row_of kind).clashes))
          (take_rest attributes (n - 1 + 1))
          ∙ ap
          (λ i.
          first_other (λ other. list_any (is_clash attributes name other) (row_of kind).clashes)
          (drop i attributes)) back
          ∙ other_known kind attributes name _ (λ is. w.in_default.not-Named (c.role.ensures ∙ is))
    ] in
    record {
      within = omega arith;
      found = c.first_of-found.ensures ∙ two_step (are_apart c.args.kind c.args.attributes.now) _ _
          pair name _ _ all called other c.loop-at.invariant.found;
      later = λ key.
          elim c.match-role.branch [
            | in-Named+in_ok-lower-in-Named+in_ok-other-in-Named w ↦
                later_named kind key _ _ _ pair c.as_str-name.result _ _ all called
                w.in_ok-lower-in-Named.ensures (sym c.role.ensures ∙ w.in-Named.is)
                (ap (λ map. get (slice_cmp nat_cmp) map key) w.later-is
                ∙ w.in_ok-other-in-Named.ensures.updates.0 key) (c.loop-at.invariant.later key)
            | in_default w ↦
                ap (λ map. option_copied (get (slice_cmp nat_cmp) map key)) w.later-is
                ∙ later_known kind key _ _ pair name _ all called
                (λ is. w.in_default.not-Named (c.role.ensures ∙ is))
                (c.loop-at.invariant.later key)
          ];
    }
