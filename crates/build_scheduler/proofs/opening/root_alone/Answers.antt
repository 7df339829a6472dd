use Rattle.std.proofs.Common.{◌||◌, ◌==◌, ◌∙◌, ap}
use Rattle.std.proofs.Math.Bool.{or-false}
use Rattle.build_scheduler.specs.Numbers.{among}
use Rattle.build_scheduler.proofs.opening.root_alone.Goals as goal

pub returns : goal.returns
returns c = λ n.
    c.insert.ensures.numbers n
    ∙ (ap (λ xs. (0 == n) || among n xs) (c.in_ok-reserve.ensures.numbers
    ∙ c.new-ready.ensures.numbers) ∙ or-false (0 == n))
