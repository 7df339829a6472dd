use Rattle.std.proofs.Common.{refl, sym, subst}
use Rattle.msb_outcomes.specs.Outcomes.{IsAsked}
use Rattle.msb_outcomes.proofs.work.world_for.Goals as goal

pub returns : goal.returns
returns c =
    subst (IsAsked c.args.options.now c.args.key c.args.tree.files) (sym c.of.ensures)
    (record {
      tree = refl;
      root = refl;
      globals = refl;
      targets = c.in_ok-copy.ensures;
      mode = c.mode_of.ensures;
    })
