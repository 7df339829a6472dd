use Rattle.std.proofs.Common.{false, eqb, ap, ◌∙◌}
use Rattle.std.proofs.lemmas.Str.Pattern.{starts_text}
use Rattle.std.specs.List.{starts_with}
use Rattle.msb_glob.proofs.Fronts.{not_below}
use Rattle.msb_glob.proofs.expansion.is_below.Goals as goal

pub returns-then-not-starts_with : goal.returns-then-not-starts_with
returns-then-not-starts_with c =
    not_below c.args.pattern.now.parts c.args.path.now
    (starts_text false c.args.front.now c.args.path.now c.if-not-starts_with.ensures.cases
    ∙ ap (starts_with eqb c.args.path.now) c.requires)
