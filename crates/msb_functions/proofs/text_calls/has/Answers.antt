use Rattle.std.proofs.lemmas.Str.Pattern.{contains_text}
use Rattle.msb_functions.proofs.Containing.{contains_is}
use Rattle.msb_functions.proofs.text_calls.has.Goals as goal

pub returns : goal.returns
returns c = contains_is _ _ _ (contains_text _ _ _ c.contains.ensures.cases)
