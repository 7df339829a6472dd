use Rattle.std.proofs.Common.{ap, ◌∙◌}
use Rattle.target_incremental.specs.Newest.{any_older}
use Rattle.target_incremental.proofs.Newest.{all_pairs}
use Rattle.target_incremental.proofs.ages.any_is_old.Goals as goal

pub returns : goal.returns
returns c =
    c.any_older.ensures
    ∙ ap (λ newest. any_older c.args.view.now newest c.args.outputs.now) c.newest_of-newest.ensures
    ∙ all_pairs c.args.view.now c.args.inputs.now c.args.outputs.now c.requires
