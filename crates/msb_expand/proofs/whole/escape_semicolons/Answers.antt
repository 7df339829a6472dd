use Rattle.std.proofs.Common.{lit<, rules}
use Rattle.std.proofs.lemmas.Str.Pattern.{split_parts}
use Rattle.msb_expand.proofs.Uncut.{uncut_turn, uncut_end}
use Rattle.msb_expand.proofs.whole.escape_semicolons.Goals as goal

pub loop-before-preserved : goal.loop-before-preserved
loop-before-preserved c =
    let parts = rw c.in-Some.is at
    (split_parts 59 c.loop-before.rest.now c.split_once.result c.split_once.ensures.cases
    (lit< tt)) in
    record {
      utf8 = search rules;
      so_far = uncut_turn c.loop-before.written _ _ c.loop-before.rest.now c.in-Some.before.now
          c.in-Some.after.now _ parts c.in_ok-push_str.ensures.ok c.in_ok-push_str-2.ensures.ok
          c.loop-before.invariant.so_far;
    }

pub returns : goal.returns
returns c =
    let none = rw c.in_default.is at
    (split_parts 59 c.loop-before.rest.now c.split_once.result c.split_once.ensures.cases
    (lit< tt)) in
    uncut_end c.loop-before.written _ c.loop-before.rest.now _ none c.in_ok-push_str-3.ensures.ok
    c.loop-before.invariant.so_far
