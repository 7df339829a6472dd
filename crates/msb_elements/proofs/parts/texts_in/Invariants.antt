use Rattle.std.proofs.Common.{◌≡◌, ◌++◌, option_map}
use Rattle.serde_json.specs.View.{members_view}
use Rattle.msb_elements.specs.Forms.{texts_of}
use Rattle.msb_elements.proofs.parts.texts_in.Given as goal

abbrev pub invariant-loop-key : goal.invariant-loop-key
invariant-loop-key l = texts_of (members_view l.fn.members.entries)
    ≡ option_map (λ texts. l.texts.items ++ texts) (texts_of (members_view l.key-iterator))
