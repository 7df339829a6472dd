use Rattle.std.proofs.Common.{◌≡◌, length, subst, sym, ap, rules}
use Rattle.std.specs.Prelude.{IsSome, ◌↔◌, ◌<◌, option_copied}
use Rattle.std.specs.VecDeque.{deque_len}
use Rattle.build_scheduler.specs.Numbers.{IsLeast}
use Rattle.build_scheduler.proofs.RisingNumbers.{least-front}
use Rattle.build_scheduler.proofs.request_set.RequestSet.least.Goals as goal

pub returns : goal.returns
returns c =
    let numbers = c.self.inside.numbers in
    let n : deque_len numbers ≡ length numbers.items = search rules in
    subst (IsLeast c.args.self.now.numbers) (sym c.copied.ensures)
    (subst (λ xs. IsLeast xs (option_copied c.front.result)) (ap (λ v. v.numbers) c.self.view_is)
    (least-front numbers.items c.front.result c.self.invariant.0
    (subst (λ k. IsSome c.front.result ↔ (0 < k)) n c.front.ensures.variant)
    c.front.ensures.lookup))
