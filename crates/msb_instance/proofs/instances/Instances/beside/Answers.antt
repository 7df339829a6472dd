use denote.Param.Send.{sendable}
use Rattle.msb_instance.proofs.Crossing.{ref-send}
use Rattle.msb_instance.proofs.instances.Instances.beside.Goals as goal

pub split-requires-send-V : goal.split-requires-send-V
split-requires-send-V c κs = search (ref-send, sendable) depth 20
