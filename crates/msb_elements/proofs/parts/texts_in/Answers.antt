use Rattle.std.proofs.Common.{◌≡◌, Some, string_bytes, sym, ap, ◌∙◌}
use Rattle.serde_json.specs.Find.{as_str}
use Rattle.serde_json.specs.View.{view as value_of}
use Rattle.msb_elements.proofs.Fronts.{Entry, texts_step, text_of_string}
use Rattle.msb_elements.proofs.parts.texts_in.Goals as goal

pub loop-key-preserved : goal.loop-key-preserved
loop-key-preserved c =
    let e : Entry = (c.in-Some.key, c.in-Some.value) in
    let key : c.from.result ≡ string_bytes e.0 = c.from.ensures in
    let text : as_str (value_of e.1) ≡ Some c.from-in-loop-key.result = rw c.in-String.is
    (text_of_string _ ∙ ap Some (sym c.from-in-loop-key.ensures)) in
    rw (c.in_ok-push.ensures.items, key)
    (texts_step c.loop-key.key-iterator e c.next.new.self c.loop-key.texts.items
    c.from-in-loop-key.result _ c.in-Some.ensures.steps c.loop-key.invariant text)
