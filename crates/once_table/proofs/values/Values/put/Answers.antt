use Rattle.std.proofs.Common.{ap, subst, sym}
use Rattle.std.proofs.Math.Logic.{∥∥₁_map}
use Rattle.once_table.proofs.Placing.{fit-after}
use Rattle.once_table.proofs.values.Values.put.Goals as goal

pub invariant_of-self-2 : goal.invariant_of-self-2
invariant_of-self-2 g c =
    let before = c.give_up.new.self in
    let world = before.world.value in
    let key = c.args.key.now in
    let value = c.args.value.now in
    let fits = subst (λ (w : g.row.W.Denot). g.F.Fits.fits w key value)
    (sym (ap (λ s. s.value) c.give_up.ensures)) c.requires in
    record {
      fit = ∥∥₁_map before.fit (λ fit. fit-after g.K.PartialEq.eq (g.F.Fits.fits world)
          (g.met.F.Fits.equal_keys world) key value before.made.entries
          c.insert.new.self.entries c.in_ok-copy.field-0 c.in_ok-copy-2.field-0 c.insert.result
          c.in_ok-copy.ensures c.in_ok-copy-2.ensures c.insert.ensures.entries
          c.insert.ensures.err fit fits);
    }
