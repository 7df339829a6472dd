use Rattle.std.proofs.Common.{subst, sym, refl, ◌∙◌, ap, arith, ◌<◌, ◌||◌, ◌==◌}
use Rattle.std.proofs.lemmas.Bool.{true≢false}
use Rattle.build_scheduler.specs.Numbers.{among, AreRising}
use Rattle.build_scheduler.proofs.RisingNumbers.{
  found-among,
  gap-at,
  among-at,
  rising-insert,
  among-insert,
}
use Rattle.build_scheduler.proofs.request_set.RequestSet.insert.Goals as goal

pub unreachable-requires : goal.unreachable-requires
unreachable-requires c =
    let f = found-among c.self.inside.numbers.items c.self.inside.numbers.items c.args.number
    c.in-Ok.field-0
    refl c.self.invariant.0 c.in-Ok.ensures.position in
    true≢false (sym (among-at c.self.inside.numbers.items c.args.number c.in-Ok.field-0 f.0 f.1)
    ∙ (ap (λ v. among c.args.number v.numbers) c.self.view_is ∙ c.requires.absent))

pub invariant_of-self : goal.invariant_of-self
invariant_of-self c =
    let f = gap-at c.self.inside.numbers.items c.self.inside.numbers.items c.args.number c.in-Err.at
    refl c.self.invariant.0 c.in-Err.ensures.position in (
      subst AreRising (sym c.in-Ok-insert.ensures.items)
          (rising-insert c.self.inside.numbers.items c.in-Err.at c.args.number c.self.invariant.0
          f.1 f.2 f.0),
      (let a : 0 < c.self.inside.room = subst (λ v. 0 < v.room) (sym c.self.view_is) c.requires.room
          in omega (
            arith,
            c.in-Ok-insert.ensures.len,
            c.in-Ok-insert.ensures.capacity,
            c.self.invariant.1,
            a,
          )),
    )

pub returns-clause-numbers : goal.returns-clause-numbers
returns-clause-numbers c n =
    ap (among n) c.in-Ok-insert.ensures.items
    ∙ (among-insert c.self.inside.numbers.items c.in-Err.at c.args.number n
    ∙ ap (λ v. (c.args.number == n) || among n v.numbers) c.self.view_is)
