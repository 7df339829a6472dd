use Rattle.std.proofs.Common.{eqb, ap, ◌∙◌}
use Rattle.std.specs.List.{starts_with}
use Rattle.std.proofs.lemmas.Str.Pattern.{starts_text}
use Rattle.msb_glob.proofs.sorted.begins_with.Goals as goal

pub returns : goal.returns
returns g c =
    starts_text c.starts_with.result c.args.front.now c.path.result.now c.starts_with.ensures.cases
    ∙ ap (λ path. starts_with eqb path c.args.front.now) c.path.ensures
