use Rattle.std.proofs.Common.{arith, ◌∙◌, ap}
use Rattle.std.specs.List.{suffix_len}
use Rattle.std.proofs.lemmas.List.Sums.{suffix_len-le-length}
use Rattle.msb_values.specs.Lists.{is_list_space}
use Rattle.msb_values.proofs.Spaces.{end_boundary}
use Rattle.msb_values.proofs.lists.trim_end.Goals as goal

pub overflow_sub-end : goal.overflow_sub-end
overflow_sub-end c =
    let text = c.args.text.now in
    let counted = c.spaces_at_end-spaces.ensures
    ∙ ap (suffix_len is_list_space) c.as_bytes.ensures.value in
    omega (arith, counted, suffix_len-le-length is_list_space text)

pub range-requires-clause-end_boundary : goal.range-requires-clause-end_boundary
range-requires-clause-end_boundary c = end_boundary _ _ _ c.spaces_at_end-spaces.ensures
    c.as_bytes.ensures.value
