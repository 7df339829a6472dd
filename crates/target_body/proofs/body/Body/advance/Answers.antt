use Rattle.std.proofs.Common.{
  ◌≡◌,
  ◌∙◌,
  Option,
  Some,
  None,
  Bor,
  IfSome,
  IsSome,
  ap,
  option_copied,
  option_map,
  subst,
  sym,
}
use Rattle.build_world.specs.Instances.{UsedTarget, seen_instance, seen_target}
use Rattle.build_world.specs.declared.instance.UsedTarget.{UsedTarget as MadeTarget}
use Rattle.build_world.specs.declared.world.World.{World}
use Rattle.result_cache.specs.declared.run.RunId.{RunId}
use Rattle.target_body.specs.Pieces.{choice_of}
use Rattle.target_body.specs.Standings.{
  Fits,
  Goes,
  Standing,
  body_in,
  run_with,
  standing_by,
  standing_in,
}
use Rattle.target_body.specs.States.{Run, target_named}
use Rattle.target_body.specs.declared.body.Stand.{Stand}
use Rattle.target_body.proofs.body.Body.advance.Goals as goal

abbrev standing_on : World → RunId → UsedTarget → Stand → Standing
standing_on world id target =
    let run : Run = run_with world id target in
    standing_by (choice_of world.mode run) run

pub unreachable-requires : goal.unreachable-requires
unreachable-requires g c =
    let none : target_named (seen_instance c.args.instance.now).targets
    c.args.self.now.run.target ≡ None =
    ap (λ (id : RunId). target_named (seen_instance c.args.instance.now).targets id.target)
    (sym c.get.ensures) ∙ sym c.find.ensures
    ∙ ap (λ (found : Option (Bor MadeTarget)). option_map seen_target (option_copied found))
    c.in_default.is in
    cc (subst (λ (found : Option UsedTarget). IsSome found) none c.requires.target)

pub advance-requires : goal.advance-requires
advance-requires g c =
    let w = c.args.world.now in
    let id = c.args.self.now.run in
    let named : target_named (seen_instance c.args.instance.now).targets id.target
    ≡ Some (seen_target c.in-Some.target.now) =
    ap (λ (id : RunId). target_named (seen_instance c.args.instance.now).targets id.target)
    (sym c.get.ensures) ∙ sym c.find.ensures
    ∙ ap (λ (found : Option (Bor MadeTarget)). option_map seen_target (option_copied found))
    c.in-Some.is in
    subst (λ (stand : Stand). Fits (standing_on w id (seen_target c.in-Some.target.now) stand)
    c.args.results.now)
    (sym c.replace-stand.ensures.value)
    (subst (λ (found : Option UsedTarget). IfSome found
    (λ target. Fits (standing_in w id target c.args.self.now) c.args.results.now))
    named c.requires.fits)

pub returns-clause-goes : goal.returns-clause-goes
returns-clause-goes g c =
    let w = c.args.world.now in
    let id = c.args.self.now.run in
    let named : target_named (seen_instance c.args.instance.now).targets id.target
    ≡ Some (seen_target c.in-Some.target.now) =
    ap (λ (id : RunId). target_named (seen_instance c.args.instance.now).targets id.target)
    (sym c.get.ensures) ∙ sym c.find.ensures
    ∙ ap (λ (found : Option (Bor MadeTarget)). option_map seen_target (option_copied found))
    c.in-Some.is in
    let before : UsedTarget → Stand → Type 0 = λ target stand.
    Goes g.T.CountedTools.answer id (body_in w id target) (standing_on w id target stand)
    c.args.results.now c.args.journal.now c.advance.new.journal
    (g.T.CountedTools.calls c.args.tools.now) (g.T.CountedTools.calls c.advance.new.tools)
    c.in_ok-ask.ask (standing_on w id target c.in_ok-ask.stand) in
    subst (λ (found : Option UsedTarget). IfSome found
    (λ target. before target c.args.self.now.stand)) (sym named)
    (subst (λ (stand : Stand). before (seen_target c.in-Some.target.now) stand)
    c.replace-stand.ensures.value c.in_ok-ask.ensures.goes)
