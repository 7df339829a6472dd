use Rattle.std.proofs.Common.{◌≡◌, ◌∙◌, ap, sym}
use Rattle.std.specs.Str.{chars, encode_utf8_all}
use Rattle.std.proofs.lemmas.Iterator.{YieldsList-from_chars}
use Rattle.std.proofs.lemmas.Iterator.Consumers.{YieldsList-end, YieldsList-at}
use Rattle.std.proofs.lemmas.Str.{encodes-chars}
use Rattle.std.proofs.lemmas.List.{map-id}
use Rattle.msb_values.specs.Escapes.{escaped, unescaped}
use Rattle.msb_values.proofs.Escaping.{escaped_more, unescaped-escaped}
use Rattle.msb_values.proofs.escapes.escape.Goals as goal

pub loop-character-preserved : goal.loop-character-preserved
loop-character-preserved c =
    escaped_more c.loop-character.yielded c.in-Some.character _ _ c.loop-character.invariant
    c.in_ok-push_escaped.ensures

pub returns-clause-back : goal.returns-clause-back
returns-clause-back c =
    let text = c.args.text.now in
    let characters = YieldsList-at c.into_iter-character-iterator.ensures.into_iter_gives
    (YieldsList-from_chars text c.utf8.text c.chars-character-items.ensures.rest) in
    let all = YieldsList-end characters c.loop-character.yielded _ c.loop-character.yielded_by _ _
    c.in-None.is c.next.ensures.steps in
    let yielded : c.loop-character.yielded ≡ chars text = sym (map-id c.loop-character.yielded)
    ∙ all.0 in
    ap unescaped (c.from.ensures ∙ c.loop-character.invariant
    ∙ ap (λ cs. escaped (encode_utf8_all cs)) yielded
    ∙ ap escaped (encodes-chars text c.utf8.text))
    ∙ unescaped-escaped text
