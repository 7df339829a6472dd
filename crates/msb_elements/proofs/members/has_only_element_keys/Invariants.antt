use Rattle.std.proofs.Common.{◌≡◌}
use Rattle.serde_json.specs.View.{members_view}
use Rattle.msb_elements.specs.Forms.{has_element_keys}
use Rattle.msb_elements.proofs.members.has_only_element_keys.Given as goal

abbrev pub invariant-loop-key : goal.invariant-loop-key
invariant-loop-key l = has_element_keys (members_view l.members.entries)
    ≡ has_element_keys (members_view l.key-iterator)
