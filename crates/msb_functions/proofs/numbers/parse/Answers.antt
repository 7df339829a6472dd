use Rattle.std.proofs.Common.{sym}
use Rattle.msb_functions.proofs.NumberLaws.{number_over}
use Rattle.msb_functions.proofs.numbers.parse.Goals as goal

pub returns-in-Err : goal.returns-in-Err
returns-in-Err c =
    sym (number_over _ c.args.text.now c.in-Err.field-0 c.requires c.in-Err.ensures.value.0)
