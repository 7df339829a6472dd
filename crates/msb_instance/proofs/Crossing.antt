-- An evaluated project may be shared by threads. What holds elements is shown here, since they hold
-- one another.
use denote.Struct.Declared as Struct
use denote.Param.Send.{
  IsSend,
  IsSync,
  sendable,
  recorded_send,
  recorded_sync,
  struct_send,
  struct_sync,
  view_send,
  view_sync,
}
use Rattle.std.proofs.Crossing.{crosses as owned}
use Rattle.std.proofs.alloc.Global.TheSendSync as heap
use Rattle.std.proofs.collections.HashMap.TheSendSync as map
use Rattle.std.proofs.string.String.TheSendSync as string
use Rattle.std.proofs.hash.BuildHasherDefault.TheSendSync as hasher
use Rattle.std.proofs.hash.FoldHasher.TheSendSync as folds
use Rattle.std.below.std_heap.proofs.GlobalAllocator.TheSendSync as allocator
use Rattle.msb_values.proofs.list.List.TheSendSync as list
use Rattle.msb_values.proofs.name.Name.TheSendSync as name
use Rattle.msb_values.proofs.scope.Scope.TheSendSync as scope
use Rattle.msb_values.proofs.shared.Shared.TheSendSync as arc
use Rattle.msb_values.proofs.text.Text.TheSendSync as text
use Rattle.msb_values.specs.contracts.name.Name as Name
use Rattle.msb_values.specs.contracts.text.Text as Text
use Rattle.msb_elements.proofs.element.Element.TheLaws.TheKnot as knot
use Rattle.msb_elements.specs.contracts.element.Element as Element
use Rattle.target_order.proofs.row.TargetRow.TheSendSync as row
use Rattle.target_order.specs.contracts.row.TargetRow as TargetRow
use Rattle.build_world.specs.contracts.instance.Instance as Instance
use Rattle.build_world.specs.contracts.instance.UsedTarget as UsedTarget
use Rattle.build_world.specs.contracts.laid_out.Placed as Placed
use Rattle.build_world.specs.contracts.used_targets.UsedTargets as UsedTargets
use Rattle.build_world.specs.contracts.used_targets.UsedTargets.TheInside as Inside
use Rattle.msb_instance.specs.contracts.instances.InstanceRef as InstanceRef
use Rattle.msb_instance.specs.contracts.instances.InstanceRef.TheInside as RefInside

pub element-send : IsSend Element.the_field.row
element-send = search (owned, knot.crosses, sendable) depth 60 fits 20000

pub element-sync : IsSync Element.the_field.row
element-sync = search (owned, knot.crosses, sendable) depth 60 fits 20000

placed-send : IsSend Placed.the_field.row
placed-send = struct_send (Struct.shape Placed.the_type) (text.the_send, (element-send, tt))

placed-sync : IsSync Placed.the_field.row
placed-sync = struct_sync (Struct.shape Placed.the_type) (text.the_sync, (element-sync, tt))

used-send : IsSend UsedTarget.the_field.row
used-send = struct_send (Struct.shape UsedTarget.the_type)
    (name.the_send, (placed-send, (search sendable, tt)))

used-sync : IsSync UsedTarget.the_field.row
used-sync = struct_sync (Struct.shape UsedTarget.the_type)
    (name.the_sync, (placed-sync, (search sendable, tt)))

UsedTarget-send : IsSend UsedTarget.the_row
UsedTarget-send = recorded_send _ _ _ UsedTarget.the_type.to_one used-send

UsedTarget-sync : IsSync UsedTarget.the_row
UsedTarget-sync = recorded_sync _ _ _ UsedTarget.the_type.to_one used-sync

inside-send : IsSend Inside.the_row
inside-send = recorded_send _ _ _ Inside.the_type.to_one
    (struct_send (Struct.shape Inside.the_type) (
      list.the_send UsedTarget.the_row UsedTarget-send,
      (
        search (
          map.the_send,
          string.the_send,
          hasher.the_send,
          folds.the_send,
          heap.the_send,
          allocator.the_frees,
          owned,
          sendable,
        ) depth 60 fits 20000,
        tt,
      ),
    ))

inside-sync : IsSync Inside.the_row
inside-sync = recorded_sync _ _ _ Inside.the_type.to_one
    (struct_sync (Struct.shape Inside.the_type) (
      list.the_sync UsedTarget.the_row UsedTarget-sync,
      (
        search (
          map.the_sync,
          string.the_sync,
          hasher.the_sync,
          folds.the_sync,
          heap.the_sync,
          owned,
          sendable,
        ) depth 60 fits 20000,
        tt,
      ),
    ))

targets-send : IsSend UsedTargets.the_row
targets-send = view_send _ _ _ _ _ inside-send

targets-sync : IsSync UsedTargets.the_row
targets-sync = view_sync _ _ _ _ _ inside-sync

instance-send : IsSend Instance.the_field.row
instance-send = struct_send (Struct.shape Instance.the_type) (
  scope.the_field_send,
  (
    list.the_send TargetRow.the_row row.the_send,
    (
      targets-send,
      (
        list.the_send Name.the_row name.the_send,
        (
          list.the_send Name.the_row name.the_send,
          (list.the_send Text.the_row text.the_send, tt),
        ),
      ),
    ),
  ),
)

instance-sync : IsSync Instance.the_field.row
instance-sync = struct_sync (Struct.shape Instance.the_type) (
  scope.the_field_sync,
  (
    list.the_sync TargetRow.the_row row.the_sync,
    (
      targets-sync,
      (
        list.the_sync Name.the_row name.the_sync,
        (
          list.the_sync Name.the_row name.the_sync,
          (list.the_sync Text.the_row text.the_sync, tt),
        ),
      ),
    ),
  ),
)

Instance-send : IsSend Instance.the_row
Instance-send = recorded_send _ _ _ Instance.the_type.to_one instance-send

Instance-sync : IsSync Instance.the_row
Instance-sync = recorded_sync _ _ _ Instance.the_type.to_one instance-sync

-- an instance is shared among threads
ref-inside-send : IsSend RefInside.the_row
ref-inside-send = recorded_send _ _ _ RefInside.the_type.to_one
    (struct_send (Struct.shape RefInside.the_type)
    (arc.the_send Instance.the_row Instance-send Instance-sync, tt))

pub ref-send : IsSend InstanceRef.the_row
ref-send = view_send _ _ _ _ _ ref-inside-send
