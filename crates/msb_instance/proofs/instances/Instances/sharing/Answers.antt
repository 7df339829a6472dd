use denote.Param.Send.{sendable}
use Rattle.msb_instance.proofs.Crossing.{ref-send}
use Rattle.msb_instance.proofs.instances.Instances.sharing.Goals as goal

pub open-requires-send-V : goal.open-requires-send-V
open-requires-send-V c κs = search (ref-send, sendable) depth 20

pub put_all-requires-send-V : goal.put_all-requires-send-V
put_all-requires-send-V c κs = search (ref-send, sendable) depth 20
