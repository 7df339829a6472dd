use Rattle.std.proofs.Common.{ap, ◌∙◌, rules}
use Rattle.msb_files.specs.Indices.{last_act}
use Rattle.msb_files.specs.Layers.{all_of}
use Rattle.msb_files.proofs.PartSteps.{act_in_front, act_behind}
use Rattle.msb_files.proofs.journal.Journal.last_act.Goals as goal

pub returns-in-Some : goal.returns-in-Some
returns-in-Some c =
    let path = c.args.path.now in
    act_in_front c.self.inside.part (all_of c.self.inside.layers) path c.in-Some.act.now
    c.in-Some.ensures ∙ ap (λ j. last_act j path) c.self.view_is

pub returns-in-None : goal.returns-in-None
returns-in-None c =
    let path = c.args.path.now in
    act_behind c.self.inside.part (all_of c.self.inside.layers) path _ c.in-None.ensures
    (search rules) ∙ ap (λ j. last_act j path) c.self.view_is
