use Rattle.std.proofs.Common.{◌≡◌, ℕ, List, true, string_bytes, subst, sym, ap, ◌∙◌}
use Rattle.serde_json.specs.View.{members_view}
use Rattle.msb_elements.specs.Forms.{is_element_key}
use Rattle.msb_elements.specs.Sorted.{with_member}
use Rattle.msb_elements.specs.declared.parts.Values.{Values}
use Rattle.msb_elements.proofs.Fronts.{Entry}
use Rattle.msb_elements.proofs.Sorting.{AreSoFar, values_step}
use Rattle.msb_elements.proofs.parts.sort.Goals as goal

pub loop-key-preserved : goal.loop-key-preserved
loop-key-preserved c =
    let e : Entry = (c.in-Some.key, c.in-Some.value) in
    let known : is_element_key (string_bytes e.0)
    ≡ true = sym (c.if-not-is_key_of_element.ensures ∙ ap is_element_key c.as_str.ensures.value)
    in
    let next : c.with-values.result ≡ with_member (string_bytes e.0) e.1 c.loop-key.values =
    c.with-values.ensures
    ∙ ap (λ (key : List ℕ). with_member key c.in-Some.value c.loop-key.values)
    c.as_str-in-loop-key.ensures.value in
    let P : Values → Type 0 = λ (values : Values).
    AreSoFar values c.next.new.self (members_view c.args.members.entries) in
    subst P (sym next)
    (values_step c.loop-key.values c.loop-key.key-iterator c.next.new.self e
    (members_view c.args.members.entries) c.in-Some.ensures.steps known c.loop-key.invariant)
