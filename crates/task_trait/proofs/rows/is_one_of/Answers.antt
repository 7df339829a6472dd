use Rattle.std.proofs.Common.{◌∙◌, sym}
use Rattle.std.specs.Str.{bytes_eq}
use Rattle.task_trait.proofs.Finding.{any_of_map}
use Rattle.task_trait.proofs.rows.is_one_of.Goals as goal

pub returns : goal.returns
returns c =
    c.any_is.ensures ∙ sym (any_of_map (bytes_eq c.args.name.now) (λ one. one.now) c.args.names.now)
