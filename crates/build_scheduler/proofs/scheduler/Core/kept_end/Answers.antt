use Rattle.std.proofs.Common.{◌∙◌, Some, ap, refl, sym}
use Rattle.build_scheduler.proofs.OverAtOnce.{body-there, kept-there, none-of}
use Rattle.build_scheduler.proofs.SlotNumbers.{at-get}
use Rattle.build_scheduler.proofs.scheduler.Core.kept_end.Goals as goal

pub has_key_of-requires-clause-other : goal.has_key_of-requires-clause-other
has_key_of-requires-clause-other g c =
    let m = g.W.Walker in
    let self = c.args.self.now in
    kept-there m.seen (m.world_of self.world) self.legal self.kept c.args.id c.in_ok-kept.kept.now
    self.kept_so (sym c.in_ok-kept.ensures)

pub returns-then-is_alike-clause-so : goal.returns-then-is_alike-clause-so
returns-then-is_alike-clause-so g c =
    let m = g.W.Walker in
    let self = c.args.self.now in
    let there = body-there m.seen (m.world_of self.world) self.legal c.args.id c.requires.there in
    record {
      called = c.if-not-is_called.ensures.0 refl;
      free = at-get self.making.items c.args.id c.index.result.now there
          ∙ ap Some (sym c.index.ensures
          ∙ none-of c.index.result.now (sym c.is_some.ensures ∙ c.if-is_some.false));
      there = sym c.in_ok-kept.ensures;
      one_key = c.if-has_key_of.ensures.0 refl;
      alike = c.if-is_alike.ensures.0 refl;
    }
