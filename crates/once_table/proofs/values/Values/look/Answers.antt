use Rattle.std.proofs.Common.{subst, sym}
use Rattle.std.proofs.Math.Logic.{∥∥₁_map}
use Rattle.once_table.proofs.Placing.{found-fits}
use Rattle.once_table.proofs.values.Values.look.Goals as goal

pub returns-in-Some-clause-fits : goal.returns-in-Some-clause-fits
returns-in-Some-clause-fits g c =
    let world = c.args.self.now.world.value in
    let key = c.args.key.now in
    ∥∥₁_map c.args.self.now.fit
    (λ fit. subst (g.F.Fits.fits world key) (sym {b = c.in-Some.value.now} c.in_ok-copy.ensures)
    (found-fits g.K.PartialEq.eq (g.F.Fits.fits world) (g.met.F.Fits.equal_keys world) key
    c.in-Some.value.now c.args.self.now.made.entries fit (sym c.in-Some.ensures.value)))
