use Rattle.std.proofs.Common.{◌∙◌, sym}
use Rattle.std.specs.Str.{bytes_eq}
use Rattle.msb_items.proofs.Plain.{any_mapped}
use Rattle.msb_items.proofs.batched.is_ignored.Goals as goal

pub returns : goal.returns
returns c = c.is_any.ensures
    ∙ sym (any_mapped (bytes_eq c.args.name.now) (λ other. other.now) c.args.ignored.now)
