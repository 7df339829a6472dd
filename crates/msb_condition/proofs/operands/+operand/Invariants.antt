use Rattle.std.proofs.Common.{◌+◌, ◌*◌}
use Rattle.msb_condition.proofs.operands.+operand.Given as goal

abbrev pub decreases-operand : goal.decreases-operand
decreases-operand l = 5 * l.room + 4

abbrev pub decreases-operand_of : goal.decreases-operand_of
decreases-operand_of l = 5 * l.room + 3

abbrev pub decreases-word : goal.decreases-word
decreases-word l = 5 * l.room + 2

abbrev pub decreases-function_at : goal.decreases-function_at
decreases-function_at l = 5 * l.room + 1

abbrev pub decreases-call : goal.decreases-call
decreases-call l = 5 * l.room + 0
