-- What requests and records are made of may cross threads.
use denote.RattleType.{RattleType}
use denote.Param.Send.{IsSend}
use Rattle.msb_values.proofs.key.InstanceKey.TheSendSync as key
use Rattle.msb_values.proofs.list.List.TheSendSync as list
use Rattle.msb_values.specs.contracts.key.InstanceKey as InstanceKey
use Rattle.msb_values.specs.contracts.list.List as Entries
use Rattle.result_cache.proofs.request.RequestKey.TheSendSync as request
use Rattle.result_cache.proofs.request.RequestResult.TheSendSync as result
use Rattle.result_cache.proofs.run.RunId.TheSendSync as run
use Rattle.result_cache.proofs.table.Table.TheSendSync as table
use Rattle.result_cache.specs.contracts.request.RequestKey as RequestKey
use Rattle.result_cache.specs.contracts.request.RequestResult as RequestResult
use Rattle.result_cache.specs.contracts.run.RunId as RunId
use Rattle.result_cache.specs.contracts.table.Table as Table

pub Entries-send : (T : RattleType) → IsSend T → IsSend (Entries.the_row T)
Entries-send T s = list.the_send T s

pub key-send : IsSend InstanceKey.the_field.row
key-send = key.the_field_send

pub InstanceKey-send : IsSend InstanceKey.the_row
InstanceKey-send = key.the_send

pub run-send : IsSend RunId.the_field.row
run-send = run.the_field_send

pub RunId-send : IsSend RunId.the_row
RunId-send = run.the_send

pub request-send : IsSend RequestKey.the_field.row
request-send = request.the_field_send

pub RequestKey-send : IsSend RequestKey.the_row
RequestKey-send = request.the_send

pub told-send : IsSend RequestResult.the_field.row
told-send = result.the_field_send

pub RequestResult-send : IsSend RequestResult.the_row
RequestResult-send = result.the_send

pub Table-send : IsSend Table.the_row
Table-send = table.the_send
