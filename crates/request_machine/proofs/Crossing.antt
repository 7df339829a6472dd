-- The walk of a request may go to another thread where its tools may.
use denote.RattleType.{RattleType}
use denote.Builtin.{unit}
use denote.Ref.{NamedLft}
use denote.Struct.Declared as Struct
use denote.Enum.Declared as Enum
use denote.Param.Send.{
  IsSend,
  IsSync,
  sendable,
  recorded_send,
  recorded_sync,
  struct_send,
  struct_sync,
  enum_send,
  view_send,
}
use Rattle.std.specs.contracts.option.Option as Option
use Rattle.std.proofs.Crossing.{crosses as owned}
use Rattle.std.proofs.alloc.Global.TheSendSync as heap
use Rattle.std.proofs.hash.BuildHasherDefault.TheSendSync as hasher
use Rattle.std.proofs.hash.FoldHasher.TheSendSync as folds
use Rattle.std.below.std_heap.proofs.GlobalAllocator.TheSendSync as allocator
use Rattle.indexmap.proofs.map.IndexMap.TheSendSync as index
use Rattle.msb_values.proofs.key.InstanceKey.TheSendSync as instance_key
use Rattle.msb_values.proofs.name.Name.TheSendSync as name
use Rattle.msb_values.proofs.shared.Shared.TheSendSync as arc
use Rattle.msb_values.proofs.text.Text.TheSendSync as text
use Rattle.msb_values.proofs.text8.Text8.TheSendSync as text8
use Rattle.msb_values.specs.contracts.list.List as List
use Rattle.msb_values.specs.contracts.shared.Shared as Arc
use Rattle.msb_values.specs.contracts.key.InstanceKey as InstanceKey
use Rattle.msb_values.specs.contracts.key.InstanceKeyPartialEq.TheImpl as equal
use Rattle.msb_values.specs.contracts.key.InstanceKeyHash.TheImpl as hashed
use Rattle.msb_values.specs.contracts.key.InstanceKeyEq.TheImpl as same
use Rattle.once_table.proofs.Crossing.{table-send}
use Rattle.once_table.specs.contracts.table.OnceTable as OnceTable
use Rattle.msb_instance.specs.contracts.instances.InstanceRef as InstanceRef
use Rattle.msb_instance.specs.contracts.instances.EvaluationFitsInstanceKeyInstanceRefFiles as fits
use Rattle.target_order.proofs.walk.OrderWalk.TheSendSync as order
use Rattle.build_world.proofs.world.World.TheSendSync as world
use Rattle.msb_files.proofs.journal.Journal.TheSendSync as journal
use Rattle.msb_instance.proofs.Crossing.{element-send, element-sync, ref-send}
use Rattle.file_store.specs.contracts.tree.File as File
use Rattle.msb_instance.below.msb_properties.specs.contracts.trees.AnyPath as AnyPath
use Rattle.msb_instance.below.msb_properties.specs.contracts.trees.ElementTrees as ElementTrees
use Rattle.msb_instance.below.msb_properties.specs.contracts.trees.KeptTree as KeptTree
use Rattle.msb_instance.specs.contracts.instances.Evaluation as Evaluation
use Rattle.msb_instance.specs.contracts.instances.Instances as Instances
use Rattle.msb_instance.specs.contracts.instances.Instances.TheInside as KeptInside
use Rattle.result_cache.proofs.request.RequestKey.TheSendSync as key
use Rattle.result_cache.proofs.run.RunId.TheSendSync as run
use Rattle.result_cache.proofs.run_ref.RunRef.TheSendSync as run_ref
use Rattle.result_cache.proofs.table.Table.TheSendSync as table
use Rattle.result_cache.specs.contracts.run_ref.RunRef as RunRef
use Rattle.result_cache.specs.contracts.table.Table as Table
use Rattle.request_machine.proofs.stage.RunState.TheSendSync as at
use Rattle.request_machine.proofs.reply.Reply.TheSendSync as reply
use Rattle.request_machine.proofs.replayed.Replayed.TheSendSync as replayed
use Rattle.request_machine.proofs.shared.SharedList.TheSendSync as shared
use Rattle.request_machine.proofs.stage.RequestScope.TheSendSync as state
use Rattle.request_machine.specs.contracts.former.FormerWalk as FormerWalk
use Rattle.request_machine.specs.contracts.former.Former as Former
use Rattle.request_machine.specs.contracts.former.FormerVisit as FormerVisit
use Rattle.request_machine.specs.contracts.former.VisitParts as VisitParts
use Rattle.request_machine.specs.contracts.request.Request as Request
use Rattle.request_machine.specs.contracts.replayed.Replayed as Replayed
use Rattle.request_machine.specs.contracts.walk.NodeContext as NodeContext
use Rattle.request_machine.specs.contracts.stage.Stage as Stage
use Rattle.request_machine.specs.contracts.stage.Visit as Visit
use Rattle.request_machine.specs.contracts.walk.Walk as Walk

-- the element trees that are kept are shared among threads
KeptTree-send : IsSend KeptTree.the_row
KeptTree-send = recorded_send _ _ _ KeptTree.the_type.to_one
    (struct_send (Struct.shape KeptTree.the_type) (text8.the_send, (element-send, tt)))

KeptTree-sync : IsSync KeptTree.the_row
KeptTree-sync = recorded_sync _ _ _ KeptTree.the_type.to_one
    (struct_sync (Struct.shape KeptTree.the_type) (text8.the_sync, (element-sync, tt)))

option-send : (T : RattleType) → IsSend T → IsSend (Option.the_field T).row
option-send T s = enum_send (Enum.shape (Option.the_type T)) (tt, ((s, tt), tt))

kept_tree-send : IsSend (Arc.the_row KeptTree.the_row)
kept_tree-send = arc.the_send KeptTree.the_row KeptTree-send KeptTree-sync

any_path-send : IsSend AnyPath.the_row
any_path-send = search (owned, sendable) depth 20

trees-send : IsSend ElementTrees.the_field.row
trees-send = struct_send (Struct.shape ElementTrees.the_type) (
  search (
    index.the_send,
    kept_tree-send,
    text.the_send,
    hasher.the_send,
    folds.the_send,
    heap.the_send,
    allocator.the_frees,
    owned,
    sendable,
  ) depth 60 fits 20000,
  (
    option-send _
        (table-send _ _ unit _ _ _ _ text.the_send kept_tree-send any_path-send _),
    tt,
  ),
)

evaluation-send : IsSend Evaluation.the_row
evaluation-send = search (owned, sendable) depth 20

shared_instances-send : IsSend (OnceTable.the_row InstanceKey.the_row InstanceRef.the_row
    (List.the_row File.the_row) Evaluation.the_row equal.ghosts hashed.ghosts fits.TheImpl.ghosts
    same.ghosts)
shared_instances-send = table-send InstanceKey.the_row InstanceRef.the_row
    (List.the_row File.the_row) Evaluation.the_row equal.ghosts hashed.ghosts fits.TheImpl.ghosts
    instance_key.the_send ref-send evaluation-send same.ghosts

-- what a node has for its walks goes to its thread, where its tools may
kept-inside-send : IsSend KeptInside.the_row
kept-inside-send = recorded_send _ _ _ KeptInside.the_type.to_one
    (struct_send (Struct.shape KeptInside.the_type) (
      search (
        index.the_send,
        instance_key.the_send,
        ref-send,
        hasher.the_send,
        folds.the_send,
        heap.the_send,
        allocator.the_frees,
        owned,
        sendable,
      ) depth 60 fits 20000,
      (
        option-send _ shared_instances-send,
        (trees-send, tt),
      ),
    ))

instances-send : IsSend Instances.the_row
instances-send = view_send _ _ _ _ _ kept-inside-send

pub NodeContext-send : (T : RattleType) → IsSend T → (a : NamedLft) → IsSend
    (NodeContext.the_row a T)
NodeContext-send T s a = recorded_send _ _ _ (NodeContext.the_type a T).to_one
    (struct_send (Struct.shape (NodeContext.the_type a T))
    (search (world.the_sync, sendable), (s, (instances-send, tt))))

learnt_before-send : IsSend (Option.the_field Table.the_row).row
learnt_before-send =
    enum_send (Enum.shape (Option.the_type Table.the_row)) (tt, ((table.the_send, tt), tt))

replayed-send : IsSend (Option.the_field Replayed.the_row).row
replayed-send =
    enum_send (Enum.shape (Option.the_type Replayed.the_row)) (tt, ((replayed.the_send, tt), tt))

module _ (T : RattleType) (s : IsSend T) where
  visit-send : IsSend (Visit.the_field T).row
  visit-send = struct_send (Struct.shape (Visit.the_type T)) (
    ref-send,
    (state.the_send, (order.the_send, (run.the_field_send, (at.the_field_send T s, tt)))),
  )

  stage-send : IsSend (Stage.the_field T).row
  stage-send = enum_send (Enum.shape (Stage.the_type T))
      (tt, ((visit-send, tt), ((reply.the_send, tt), tt)))

  parts-send : IsSend (VisitParts.the_field T).row
  parts-send = struct_send (Struct.shape (VisitParts.the_type T))
      (state.the_send, (order.the_send, (name.the_send, (at.the_field_send T s, tt))))

  former_visit-send : IsSend (FormerVisit.the_field T).row
  former_visit-send = enum_send (Enum.shape (FormerVisit.the_type T))
      ((stage-send, tt), ((parts-send, tt), tt))

  former-send : IsSend (Former.the_field T).row
  former-send = enum_send (Enum.shape (Former.the_type T)) (
    tt,
    (
      (at.the_field_send T s, (journal.the_send, tt)),
      (
        (
          former_visit-send,
          (
            journal.the_send,
            (shared.the_send RunRef.the_row run_ref.the_send run_ref.the_sync, tt),
          ),
        ),
        tt,
      ),
    ),
  )

  FormerWalk-send : IsSend (FormerWalk.the_row T)
  FormerWalk-send = recorded_send _ _ _ (FormerWalk.the_type T).to_one
      (struct_send (Struct.shape (FormerWalk.the_type T)) (former-send, (search sendable, tt)))

  former_walk-send : IsSend (Option.the_field (FormerWalk.the_row T)).row
  former_walk-send = enum_send (Enum.shape (Option.the_type (FormerWalk.the_row T)))
      (tt, ((FormerWalk-send, tt), tt))

  module _ (a : NamedLft) where
    request-send : IsSend (Request.the_field a T).row
    request-send = struct_send (Struct.shape (Request.the_type a T)) (
      heap.the_field_send,
      (
        search (world.the_sync, sendable),
        (
          key.the_field_send,
          (
            journal.the_send,
            (
              shared.the_send RunRef.the_row run_ref.the_send run_ref.the_sync,
              (stage-send, (search sendable, tt)),
            ),
          ),
        ),
      ),
    )

    pub Walk-send : IsSend (Walk.the_row a T)
    Walk-send = recorded_send _ _ _ (Walk.the_type a T).to_one
        (struct_send (Struct.shape (Walk.the_type a T)) (
          request-send,
          (
            table.the_send,
            (learnt_before-send, (search sendable, (former_walk-send, (replayed-send, tt)))),
          ),
        ))
