use Rattle.std.proofs.Common.{lit<}
use Rattle.std.proofs.lemmas.Str.Pattern.{split_parts}
use Rattle.msb_words.proofs.Cuts.{cut_is}
use Rattle.msb_words.proofs.globals.cut_at_equals.Goals as goal

pub returns : goal.returns
returns c =
    cut_is c.args.text.now c.split_once.result
    (split_parts 61 c.args.text.now c.split_once.result c.split_once.ensures.cases (lit< tt))
