use Rattle.std.proofs.Common.{rules, ◌≡◌, length, subst, ap, arith}
use Rattle.std.specs.Prelude.{IsSome, ◌↔◌, ◌<◌}
use Rattle.std.specs.VecDeque.{deque_len}
use Rattle.build_scheduler.specs.Numbers.{AreRising, IsPopped}
use Rattle.build_scheduler.proofs.RisingNumbers.{rising-front, popped-is, shorter-front}
use Rattle.build_scheduler.proofs.request_set.RequestSet.pop.Goals as goal

pub invariant_of-self : goal.invariant_of-self
invariant_of-self c =
    let old = c.self.inside.numbers in
    let new = c.pop_back.new.self in
    let o : deque_len old ≡ length old.items = search rules in
    let n : deque_len new ≡ length new.items = search rules in (
      rising-front new.items _ (subst AreRising c.pop_back.ensures.items c.self.invariant.0),
      omega (
        arith,
        o,
        n,
        shorter-front old.items new.items _ c.pop_back.ensures.items,
        c.pop_back.ensures.capacity,
        c.self.invariant.1,
      ),
    )

pub returns : goal.returns
returns c =
    let old = c.self.inside.numbers in
    let new = c.pop_back.new.self in
    let n : deque_len old ≡ length old.items = search rules in
    subst (λ xs. IsPopped xs new.items c.pop_back.result) (ap (λ v. v.numbers) c.self.view_is)
    (popped-is old.items new.items c.pop_back.result c.self.invariant.0 c.pop_back.ensures.items
    (subst (λ k. IsSome c.pop_back.result ↔ (0 < k)) n c.pop_back.ensures.variant))
