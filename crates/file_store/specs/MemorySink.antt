-- What a sink in memory does at a call.
use Rattle.std.specs.Prelude.{
  ◌≡◌,
  ◌<◌,
  ◌+◌,
  ◌⊎◌,
  ℕ,
  [],
  length,
  Option,
  Some,
  Bool,
  if◌then◌else◌,
}
use Rattle.msb_laws.specs.Words.{Text}
use Rattle.file_store.specs.Memory.{one_more}
use Rattle.file_store.specs.declared.memory_sink.TheConstants.{ROOM}
use Rattle.file_store.specs.declared.memory_sink.MemSink.{MemSink}

-- the bytes that it holds
abbrev pub bytes_in : MemSink → Text
bytes_in sink = sink.bytes.items

-- it has no bytes, no call has come, and this one is to fail
pub record IsNewSink (to_fail : Option ℕ) (sink : MemSink) : Type 0 where
  pub bytes : bytes_in sink ≡ []
  pub fail_at : sink.fail_at ≡ to_fail
  pub calls : sink.calls ≡ 0
  pub faults : sink.faults ≡ 0

-- the call is the one that is to fail, or its piece doesn't fit
abbrev pub IsRefused : MemSink → Text → Type 0
IsRefused sink piece = (sink.fail_at ≡ Some sink.calls)
    ⊎ (ROOM < length (bytes_in sink) + length piece)

-- the call has its number, and only a failed one is a fault; which call is to fail stays
pub record CountsWrite (failed : Bool) (before after : MemSink) : Type 0 where
  pub fail_at : after.fail_at ≡ before.fail_at
  pub calls : after.calls ≡ one_more before.calls
  pub faults : after.faults ≡ (if failed then one_more before.faults else before.faults)
