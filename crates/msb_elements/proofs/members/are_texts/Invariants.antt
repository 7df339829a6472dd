use Rattle.std.proofs.Common.{◌≡◌, is_some}
use Rattle.serde_json.specs.View.{members_view}
use Rattle.msb_elements.specs.Forms.{texts_of}
use Rattle.msb_elements.proofs.members.are_texts.Given as goal

abbrev pub invariant-loop-value : goal.invariant-loop-value
invariant-loop-value l = is_some (texts_of (members_view l.members.entries))
    ≡ is_some (texts_of (members_view l.value-iterator))
