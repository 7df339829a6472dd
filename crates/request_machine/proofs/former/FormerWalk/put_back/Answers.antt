use Rattle.std.proofs.Common.{refl, ◌∙◌}
use Rattle.std.proofs.Math.Logic.{∥∥₁_elim, ∥∥₁_map}
use Rattle.build_scheduler.proofs.HistoryFacts.{truth-prop}
use Rattle.request_machine.proofs.former.FormerWalk.put_back.Goals as goal

pub put_back-requires : goal.put_back-requires
put_back-requires g c = ∥∥₁_map c.requires (λ b. b.fits)

pub returns : goal.returns
returns g c = record {
  stands = c.put_back.ensures.stands;
  asked = refl;
  begun = ∥∥₁_elim c.requires (truth-prop _ _) (λ b. c.put_back.ensures.begun ∙ b.begun);
  world = c.put_back.ensures.world;
}
