use denote.Builtin.{unit}
use denote.Struct.Declared as Struct
use denote.Param.Send.{IsSend, recorded_send, sendable, struct_send}
use Rattle.std.proofs.Crossing.{crosses as owned}
use Rattle.msb_values.proofs.text.Text.TheSendSync as text
use Rattle.once_table.specs.contracts.tests.Asker as Asker
use Rattle.once_table.proofs.Crossing.{table-send}
use Rattle.once_table.proofs.tests.Any.TheSendSync as any
use Rattle.once_table.proofs.tests.Maker.TheSendSync as maker
use Rattle.once_table.proofs.tests.threads_make_each_value_once.Goals as goal

asker-send : IsSend Asker.the_row
asker-send = recorded_send _ _ _ Asker.the_type.to_one (struct_send (Struct.shape Asker.the_type) (
  table-send _ _ unit _ _ _ _ text.the_send maker.the_send any.the_send _,
  (search (owned, sendable) depth 20, (search sendable, tt)),
))

pub for_each_mut-requires-send-T : goal.for_each_mut-requires-send-T
for_each_mut-requires-send-T g c κs = search (asker-send, sendable) depth 20
