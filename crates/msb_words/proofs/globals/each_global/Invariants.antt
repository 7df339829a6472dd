use Rattle.std.proofs.Common.{◌≡◌, [], drop}
use Rattle.msb_words.specs.Values.{globals_after}
use Rattle.msb_words.proofs.globals.each_global.Given as goal

abbrev pub invariant-loop-entry : goal.invariant-loop-entry
invariant-loop-entry l =
    globals_after l.globals (drop l.entry-index l.entries) ≡ globals_after [] l.entries
