-- One invocation of the program. (MSBuild command-line reference)
use Rattle.std.specs.Prelude.{List, String, map, string_bytes}
use Rattle.msb_laws.specs.Words.{Text}
use Rattle.file_store.specs.Seen.{SinkSeen, StoreSeen}
use Rattle.msb_program.specs.Endings.{SinkChange, StoreChange, sink_change, store_change}

-- its words, and what the store and the sink tell before and after it
pub record Invocation : Type 0 where
  pub words : List Text
  pub store : StoreChange
  pub sink : SinkChange

-- by what the types of the store and the sink tell of their values
abbrev pub invocation : {S K A : Type 0} → (S → StoreSeen) → (K → SinkSeen) →
    List (String A) → S → S → K → K → Invocation
invocation store sink words store_old store_new sink_old sink_new = record {
  words = map string_bytes words;
  store = store_change store store_old store_new;
  sink = sink_change sink sink_old sink_new;
}
