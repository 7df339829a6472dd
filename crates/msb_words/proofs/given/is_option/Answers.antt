use Rattle.std.proofs.Common.{ap, None, lit<, ◌∙◌}
use Rattle.std.specs.Prelude.{not}
use Rattle.std.proofs.lemmas.Str.Pattern.{split_parts}
use Rattle.msb_words.proofs.Cuts.{no_equals}
use Rattle.msb_words.proofs.given.is_option.Goals as goal

pub returns-in-None : goal.returns-in-None
returns-in-None c = ap not c.is_empty.ensures
    ∙ no_equals c.args.text.now
    (split_parts 61 c.args.text.now None c.in-None.ensures.cases (lit< tt))
