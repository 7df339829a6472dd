use Rattle.std.proofs.Common.{◌∙◌, Some, ap, sym}
use Rattle.build_scheduler.proofs.Served.{key-if}
use Rattle.build_scheduler.proofs.SlotNumbers.{at-get}
use Rattle.build_scheduler.proofs.scheduler.Core.has_key_of.Goals as goal

pub returns : goal.returns
returns g c =
    let self = c.args.self.now in
    let here = at-get self.origins.items c.args.id c.index.result.now c.requires.there
    ∙ ap Some (sym c.index.ensures) in
    let there = at-get self.origins.items c.args.other c.index-2.result.now c.requires.other
    ∙ ap Some (sym c.index-2.ensures) in
    key-if self.origins.items c.args.id c.index.result.now here c.args.other
    c.index-2.result.now there c.eq.result c.eq.ensures
