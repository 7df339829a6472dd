use Rattle.serde_json.specs.View.{members_view}
use Rattle.msb_elements.proofs.Sorting.{AreSoFar}
use Rattle.msb_elements.proofs.parts.sort.Given as goal

abbrev pub invariant-loop-key : goal.invariant-loop-key
invariant-loop-key l = AreSoFar l.values l.key-iterator (members_view l.fn.members.entries)
