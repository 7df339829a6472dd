-- What a store and a sink tell before and after, from both.
use Rattle.std.proofs.Common.{List}
use Rattle.msb_laws.specs.Words.{Text}
use Rattle.file_store.specs.Seen.{SinkSeen, StoreSeen}
use Rattle.msb_program.specs.Endings.{SinkChange, StoreChange}
use Rattle.msb_program.specs.Invocation.{Invocation}

abbrev pub stores : StoreSeen → StoreSeen → StoreChange
stores before after = record { before = before; after = after }

abbrev pub sinks : SinkSeen → SinkSeen → SinkChange
sinks before after = record { before = before; after = after }

abbrev pub invocation_of : List Text → StoreChange → SinkChange → Invocation
invocation_of words s p = record { words = words; store = s; sink = p }
