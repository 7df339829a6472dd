use Rattle.msb_values.proofs.Spaces.{start_boundary}
use Rattle.msb_values.proofs.lists.trim_start.Goals as goal

pub range_from-requires : goal.range_from-requires
range_from-requires c = λ _. start_boundary _ _ _ c.spaces_at_start-spaces.ensures
    c.as_bytes.ensures.value c.utf8.text
