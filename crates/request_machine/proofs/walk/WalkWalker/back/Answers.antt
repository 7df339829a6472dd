use Rattle.std.proofs.Common.{◌==◌, not, Some, IfSome, option_map, sym, ap, ◌∙◌, subst, refl}
use Rattle.request_machine.specs.Former.{IsBefore, position_before}
use Rattle.request_machine.specs.Replayed.{IsReplayed}
use Rattle.request_machine.specs.WalkPosition.{request_position}
use Rattle.request_machine.specs.Worlds.{world_of}
use Rattle.request_machine.proofs.walk.WalkWalker.back.Goals as goal

pub put_back-self-requires : goal.put_back-self-requires
put_back-self-requires g c = subst (λ o. ∥ IfSome o (IsBefore c.args.self.now.request) ∥₁)
    (sym c.replace.ensures.value ∙ c.in-Some.is) c.args.self.now.fits

pub invariant_of-self : goal.invariant_of-self
invariant_of-self g c = record {
  begun = c.put_back-self.ensures.begun ∙ ap (λ n. not (n == 0))
      (sym c.put_back-self.ensures.asked);
  fits = subst (λ o. ∥ IfSome o (IsBefore c.put_back-self.new.request) ∥₁)
      (sym c.replace.ensures.after) ∣ tt ∣₁;
  known = subst
      (λ o.
      ∥ IfSome o (IsReplayed c.args.self.now.learnt.finished c.put_back-self.new.request.journal)
      ∥₁) (sym c.replace-replayed.ensures.after) ∣ tt ∣₁;
}

pub returns : goal.returns
returns g c =
    let calls = g.T.CountedTools.calls in
    let before = c.in-Some.before in
    let e = c.put_back-self.ensures in
    record {
      stands =
          ap (option_map (λ b. (position_before calls c.args.self.now.request b.former, b.asked)))
          (sym c.replace.ensures.value ∙ c.in-Some.is)
          ∙ (ap (λ p. Some (p, before.asked)) (sym e.stands)
          ∙ ap (λ n. Some (request_position calls c.put_back-self.new.request, n))
          (sym e.asked));
      earlier = ap
          (option_map (λ b. (position_before calls c.put_back-self.new.request b.former, b.asked)))
          c.replace.ensures.after;
      world = ap (λ world. world_of g.T.CountedTools.answer world.now) e.world;
      learnt = refl;
    }
