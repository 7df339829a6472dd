use Rattle.std.proofs.Common.{◌≡◌, length, subst, sym, refl, ◌∙◌, ap, arith, rules, ◌&&◌, ◌==◌, not}
use Rattle.std.proofs.lemmas.Bool.{true≢false}
use Rattle.std.specs.VecDeque.{deque_len}
use Rattle.build_scheduler.specs.Numbers.{among, AreRising}
use Rattle.build_scheduler.proofs.RisingNumbers.{
  found-among,
  gap-at,
  rising-remove,
  among-remove,
  absent-between,
}
use Rattle.build_scheduler.proofs.request_set.RequestSet.remove.Goals as goal

pub unreachable-requires-in-Err : goal.unreachable-requires-in-Err
unreachable-requires-in-Err c =
    let numbers = c.self.inside.numbers.items in
    let f = gap-at numbers numbers c.args.number c.in-Err.field-0 refl c.self.invariant.0
    c.in-Err.ensures.position in
    absent-between numbers c.args.number c.in-Err.field-0 f.1 f.2
    (ap (λ v. among c.args.number v.numbers) c.self.view_is ∙ c.requires.present)

pub unreachable-requires : goal.unreachable-requires
unreachable-requires c =
    let numbers = c.self.inside.numbers in
    let n : deque_len numbers ≡ length numbers.items = search rules in
    let f = found-among numbers.items numbers.items c.args.number c.in-Ok.at refl
    c.self.invariant.0 c.in-Ok.ensures.position in
    true≢false (sym (c.in-None.ensures.variant.1 (omega (arith, f.0, n))))

pub invariant_of-self : goal.invariant_of-self
invariant_of-self c = (
  subst AreRising (sym c.in-Some.ensures.items)
      (rising-remove c.self.inside.numbers.items c.in-Ok.at c.self.invariant.0),
  omega
      (arith, c.in-Some.ensures.len, c.remove.ensures.capacity, c.self.invariant.1),
)

pub returns-clause-numbers : goal.returns-clause-numbers
returns-clause-numbers c n =
    let numbers = c.self.inside.numbers.items in
    let f = found-among numbers numbers c.args.number c.in-Ok.at refl c.self.invariant.0
    c.in-Ok.ensures.position in
    ap (among n) c.in-Some.ensures.items
    ∙ (among-remove numbers c.in-Ok.at c.args.number n c.self.invariant.0
    f.0 f.1 ∙ ap (λ v. not (c.args.number == n) && among n v.numbers) c.self.view_is)
