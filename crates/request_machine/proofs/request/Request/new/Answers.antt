use Rattle.std.proofs.Common.{refl}
use Rattle.request_machine.proofs.request.Request.new.Goals as goal

pub invariant_of-result : goal.invariant_of-result
invariant_of-result g c = record { own_run = refl; known = λ e. absurd (cc) }
