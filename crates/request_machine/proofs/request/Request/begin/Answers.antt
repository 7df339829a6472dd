use Rattle.std.proofs.Common.{◌≡◌, [], sym, ap, ◌∙◌, subst}
use Rattle.build_meaning.specs.World.{World}
use Rattle.build_scheduler.specs.Position.{used_between}
use Rattle.build_scheduler.specs.declared.walker.Answer.TheVariants.{First}
use Rattle.task_trait.specs.declared.tools.ToolAnswer.{ToolAnswer}
use Rattle.task_trait.specs.declared.tools.ToolInput.{ToolInput}
use Rattle.request_machine.specs.Answered.{Advances}
use Rattle.request_machine.specs.Positions.{position_of}
use Rattle.request_machine.specs.Walk.{Site}
use Rattle.request_machine.specs.Worlds.{world_of}
use Rattle.request_machine.proofs.OtherWorlds.{stands_alike}
use Rattle.request_machine.proofs.PlacesAnswered.{first_goes, first_used, between_begun}
use Rattle.request_machine.proofs.PutBack.{unbegun_is}
use Rattle.request_machine.proofs.request.Request.begin.Goals as goal

pub invariant_of-self : goal.invariant_of-self
invariant_of-self g c =
    let e = c.in_ok-stage.ensures in
    record {
      own_run = e.stands.own;
      known = λ plain. sym e.plain ∙ plain;
    }

pub returns : goal.returns
returns g c =
    let answer = g.T.CountedTools.answer in
    let calls = g.T.CountedTools.calls in
    let r = c.args.self.now in
    let w = r.world.now in
    let there = c.args.world.now in
    let unbegun = c.requires.unbegun in
    let begun = c.in_ok-stage.field-0 in
    let e = c.in_ok-stage.ensures in
    let same : world_of answer w ≡ world_of answer there = c.requires.world in
    let alike =
    stands_alike answer calls there w r.key r.journal r.runs r.stage (sym same) unbegun in
    let new = position_of calls there r.key r.journal r.runs begun.stage in
    record {
      kept = c.ask_first.ensures.kept;
      goes = λ table. subst (λ p. Advances (world_of answer w) table p new First begun.ask) alike
          (subst (λ (x : World Site ToolInput ToolAnswer). Advances x table
          (position_of calls there r.key r.journal r.runs r.stage) new First begun.ask) (sym same)
          (first_goes answer calls there r.key table r.journal r.runs r.stage begun.stage unbegun
          e.stands begun.ask e.asks));
      used = ap (λ p. used_between p.place new.place) (sym alike)
          ∙ first_used answer calls there r.key [] r.journal r.runs r.stage begun.stage unbegun
          e.stands;
      begun = between_begun begun.stage e.stands.between;
      world = sym same;
      former = record {
        fits = tt;
        begun = unbegun;
        stood =
            ap (position_of calls there r.key r.journal r.runs) (unbegun_is r.stage unbegun)
            ∙ alike;
      };
      err = tt;
    }
