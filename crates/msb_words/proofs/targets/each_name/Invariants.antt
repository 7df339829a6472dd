use Rattle.msb_laws.proofs.Loops.{IsFront}
use Rattle.msb_laws.specs.Traverse.{traverse}
use Rattle.msb_words.specs.Values.{target_name}
use Rattle.msb_words.proofs.targets.each_name.Given as goal

abbrev pub invariant-loop-entry : goal.invariant-loop-entry
invariant-loop-entry l =
    IsFront target_name l.entries l.entry-index l.names (traverse target_name l.entries)
