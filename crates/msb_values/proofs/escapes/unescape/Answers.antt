use Rattle.std.proofs.Common.{◌∙◌, ◌++◌, ap, sym, lit<, string_bytes}
use Rattle.std.proofs.lemmas.Str.Pattern.{split_parts}
use Rattle.msb_values.specs.Escapes.{unescaped}
use Rattle.msb_values.proofs.Escaping.{read_percent, unescaped_none}
use Rattle.msb_values.proofs.escapes.unescape.Goals as goal

pub loop-before-preserved : goal.loop-before-preserved
loop-before-preserved c =
    let rest = c.loop-before.rest.now in
    let before = c.in-Some.before.now in
    let after = c.in-Some.after.now in
    let parts = rw c.in-Some.is at
    (split_parts 37 rest c.split_once.result c.split_once.ensures.cases (lit< tt)) in
    record {
      utf8 = c.in_ok-rest.ensures.utf8;
      so_far =
          c.in_ok-rest.ensures.read
          ∙ read_percent (string_bytes c.loop-before.plain) (string_bytes c.push_str.new.self) rest
          before after (unescaped c.args.text.now)
          c.loop-before.invariant.so_far parts c.in_ok-push_str.ensures.bytes;
    }

pub returns : goal.returns
returns c =
    let parts = split_parts 37 c.loop-before.rest.now c.split_once.result c.split_once.ensures.cases
    (lit< tt) in
    let none = rw c.in_default.is at parts in
    c.from.ensures
    ∙ c.in_ok-push_str-2.ensures.bytes
    ∙ ap (λ t. string_bytes c.loop-before.plain ++ t)
    (sym (unescaped_none c.loop-before.rest.now none))
    ∙ c.loop-before.invariant.so_far
