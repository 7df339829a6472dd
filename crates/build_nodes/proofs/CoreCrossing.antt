-- A core, and what its nodes share, may cross threads where its walks and the origin of its world
-- may.
use mathlib.Core.List.{[], ◌∷◌}
use mir.Syntax.{Sym, Ty}
use denote.RattleType.{RattleType}
use denote.Exit.{no}
use denote.Param.{arg, param}
use denote.Struct.Declared as Struct
use denote.Struct.Tuple.{TupleAt, type_at}
use denote.Enum.Declared as Enum
use denote.Param.Send.{
  IsSend,
  IsSync,
  sendable,
  view_send,
  view_sync,
  recorded_send,
  recorded_sync,
  arg_send,
  param_send,
  struct_send,
  struct_sync,
  enum_send,
}
use Rattle.std.specs.contracts.alloc.Global as Heap
use Rattle.std.specs.contracts.impls.GlobalAllocator.TheImpl.{ghosts as heap}
use Rattle.std.specs.contracts.option.Option as Option
use Rattle.std.proofs.Crossing.{send, sync, frees, Vec-send, crosses as owned}
use Rattle.result_cache.specs.contracts.request.RequestKey as RequestKey
use Rattle.result_cache.specs.contracts.request.RequestResult as RequestResult
use Rattle.result_cache.specs.contracts.run.RunId as RunId
use Rattle.build_meaning.specs.contracts.event.Event as Event
use Rattle.build_scheduler.specs.contracts.instances.Instances as Instances
use Rattle.build_scheduler.specs.contracts.kept.InstanceEnd as InstanceEnd
use Rattle.build_scheduler.specs.contracts.kept.Kept as Kept
use Rattle.build_scheduler.specs.contracts.kept.KeptEnds as KeptEnds
use Rattle.build_scheduler.specs.contracts.history.History as History
use Rattle.build_scheduler.specs.contracts.released.Released as Released
use Rattle.build_scheduler.specs.contracts.request_set.RequestSet as RequestSet
use Rattle.build_scheduler.specs.contracts.preferred.InstanceRequests as InstanceRequests
use Rattle.build_scheduler.specs.contracts.preferred.Preferred as Preferred
use Rattle.build_scheduler.specs.contracts.slot.Calls as Calls
use Rattle.build_scheduler.specs.contracts.slot.End as End
use Rattle.build_scheduler.specs.contracts.slot.Origin as Origin
use Rattle.build_scheduler.specs.contracts.slot.Slot as Slot
use Rattle.build_scheduler.specs.contracts.scheduler.Core as Core
use Rattle.build_scheduler.specs.declared.walker.Walker as Walker
use Rattle.atomic_table.specs.declared.shared.TableRule as TableRule
use Rattle.atomic_table.specs.contracts.owned.Table as Table
use Rattle.atomic_table.proofs.send_lease.SendLease.TheSendSync as lease
use Rattle.atomic_table.proofs.shared.Seat.TheSendSync as seat
use Rattle.atomic_table.proofs.shared.Shared.TheSendSync as shared
use Rattle.crossbeam_utils.proofs.sync.event_count.EventCount.TheSendSync as waits
use Rattle.turn_board.specs.declared.histories.Histories as Histories
use Rattle.turn_board.specs.contracts.board.Board as Board
use Rattle.turn_board.specs.contracts.board.Board.TheInside as board_inside
use Rattle.turn_board.specs.contracts.seat.Seat as Seat
use Rattle.turn_board.specs.contracts.seat.Seat.TheInside as seat_inside
use Rattle.build_nodes.specs.contracts.nodes.Node as Node
use Rattle.build_nodes.specs.contracts.shared.Shared as Shared
use Rattle.build_nodes.specs.contracts.shared.SharedHistories.TheImpl as histories
use Rattle.build_scheduler.specs.contracts.walker.Answer as Answer
use Rattle.build_nodes.proofs.Crossing.{
  Entries-send,
  key-send,
  InstanceKey-send,
  run-send,
  RunId-send,
  request-send,
  RequestKey-send,
  told-send,
  RequestResult-send,
  Table-send,
}

-- a closure may cross where the three values that it has may
pub captured-send : (name : Sym) (A B C : RattleType) → IsSend A → IsSend B → IsSend C
    → IsSend (TupleAt name (A ∷ B ∷ C ∷ []))
captured-send name A B C a b c =
    let captures = type_at name (A ∷ B ∷ C ∷ []) in
    recorded_send _ _ _ captures.to_one (struct_send (Struct.shape captures) (a, (b, (c, tt))))

Event-send : IsSend Event.the_row
Event-send = recorded_send _ _ _ Event.the_type.to_one (enum_send (Enum.shape Event.the_type) (
  (search sendable, (search sendable, tt)),
  (
    (search sendable, (run-send, (search sendable, tt))),
    (
      (search sendable, (Entries-send RequestKey.the_row RequestKey-send, tt)),
      (
        (search sendable, (run-send, tt)),
        ((search sendable, tt), ((search sendable, (search sendable, tt)), tt)),
      ),
    ),
  ),
))

History-send : IsSend History.the_row
History-send = search (Event-send, owned, sendable) depth 20

RequestSet-send : IsSend RequestSet.the_row
RequestSet-send = search (owned, sendable) depth 20

Origin-send : IsSend Origin.the_row
Origin-send = recorded_send _ _ _ Origin.the_type.to_one
    (struct_send (Struct.shape Origin.the_type)
    (request-send, (search (owned, sendable) depth 20, (search sendable, tt))))

Instances-send : IsSend Instances.the_row
Instances-send = search (InstanceKey-send, owned, sendable) depth 30

End-send : IsSend End.the_row
End-send = recorded_send _ _ _ End.the_type.to_one (enum_send (Enum.shape End.the_type) (
  (told-send, tt),
  (
    (Entries-send RunId.the_row RunId-send, tt),
    ((Entries-send RequestKey.the_row RequestKey-send, tt), ((key-send, tt), (tt, tt))),
  ),
))

answer-send : IsSend Answer.the_field.row
answer-send = enum_send (Enum.shape Answer.the_type)
    (tt, (tt, (tt, ((Entries-send RequestResult.the_row RequestResult-send, tt), tt))))

calls-send : (W : RattleType) → IsSend W → IsSend (Calls.the_field W).row
calls-send W s = struct_send (Struct.shape (Calls.the_type W)) (
  s,
  (search sendable, (search sendable, (Vec-send RequestResult.the_row RequestResult-send, tt))),
)

Slot-send : (W : RattleType) → IsSend W → IsSend (Slot.the_row W)
Slot-send W s =
    recorded_send _ _ _ (Slot.the_type W).to_one
    (enum_send (Enum.shape (Slot.the_type W)) (
      (s, (answer-send, tt)),
      ((search sendable, tt), ((s, (search sendable, tt)), ((calls-send W s, tt), (tt, tt)))),
    ))

some-send : (S : RattleType) → IsSend S → IsSend (Option.the_row S)
some-send S s =
    recorded_send _ _ _ (Option.the_type S).to_one (enum_send (Enum.shape (Option.the_type S))
    (tt, ((s, tt), tt)))

Kept-send : (W : RattleType) → IsSend W → IsSend (Kept.the_row W)
Kept-send W s =
    recorded_send _ _ _ (Kept.the_type W).to_one (struct_send (Struct.shape (Kept.the_type W))
    (search sendable, (told-send, (s, (search sendable, (search sendable, tt))))))

instance-send : (W : RattleType) → IsSend W → IsSend (InstanceEnd.the_row W)
instance-send W s =
    recorded_send _ _ _ (InstanceEnd.the_type W).to_one
    (struct_send (Struct.shape (InstanceEnd.the_type W)) (
      search sendable,
      (
        enum_send (Enum.shape (Option.the_type (Kept.the_row W))) (tt, ((Kept-send W s, tt), tt)),
        tt,
      ),
    ))

ends-send : (W : RattleType) → IsSend W → IsSend (KeptEnds.the_field W).row
ends-send W s = struct_send (Struct.shape (KeptEnds.the_type W)) (
  search (owned, sendable) depth 20,
  (Vec-send (InstanceEnd.the_row W) (instance-send W s), tt),
)

released-send : (W : RattleType) → IsSend W → IsSend (Released.the_field W).row
released-send W s = struct_send (Struct.shape (Released.the_type W))
    (Vec-send (Kept.the_row W) (Kept-send W s), (Vec-send W s, tt))

InstanceRequests-send : IsSend InstanceRequests.the_row
InstanceRequests-send = recorded_send _ _ _ InstanceRequests.the_type.to_one
    (struct_send (Struct.shape InstanceRequests.the_type)
    (search sendable, (search (owned, sendable) depth 20, tt)))

preferred-send : IsSend Preferred.the_field.row
preferred-send = struct_send (Struct.shape Preferred.the_type) (
  search (owned, sendable) depth 20,
  (Vec-send InstanceRequests.the_row InstanceRequests-send, tt),
)

module _ (S V K P : RattleType) (g : TableRule.Ghosts P.Denot S.Denot V.Denot K.Denot)
    (s : IsSend S) where
  table-sync : IsSync (Table.the_field S V K P Heap.the_row g heap).row
  table-sync = struct_sync (Struct.shape (Table.the_type S V K P Heap.the_row g heap)) (
    shared.the_sync S V K P g s,
    (
      search sendable,
      (
        search sendable,
        (
          search (send, frees, lease.the_sync),
          (search (send, frees, lease.the_sync), (sync, tt)),
        ),
      ),
    ),
  )

-- a board may be shared, and its seats may cross, where its state may
module _ (S T E : RattleType) (h : Histories.Ghosts S.Denot T.Denot E.Denot) (s : IsSend S) where
  slot-send : IsSend (Option.the_row S)
  slot-send = some-send S s

  seat-send : IsSend (Seat.the_row S T E h)
  seat-send =
      let I = seat_inside.the_type S T E h in view_send (seat_inside.the_row S T E h) _ _ _ _
      (recorded_send _ _ _ I.to_one
      (struct_send (Struct.shape I) (seat.the_send (Option.the_row S) _ slot-send, tt)))

  board-sync : IsSync (Board.the_row S T E h)
  board-sync =
      let I = board_inside.the_type S T E h in
      view_sync (board_inside.the_row S T E h) _ _ _ _
      (recorded_sync _ _ _ I.to_one (struct_sync (Struct.shape I)
      (search (table-sync, slot-send), (waits.the_field_sync, (waits.the_field_sync, tt)))))

module _ (W P O : RattleType) (g : Walker.Ghosts W.Denot P.Denot O.Denot) (s : IsSend W)
    (o : IsSend O) where
  core-send : IsSend (Core.the_field W P O g).row
  core-send = struct_send (Struct.shape (Core.the_type W P O g)) (
    o,
    (
      History-send,
      (
        Table-send,
        (
          Vec-send Origin.the_row Origin-send,
          (
            Vec-send (Slot.the_row W) (Slot-send W s),
            (
              search (RunId-send, owned, sendable) depth 20,
              (
                RequestSet-send,
                (
                  Vec-send RequestSet.the_row RequestSet-send,
                  (
                    Instances-send,
                    (
                      search (End-send, owned, sendable) depth 20,
                      (ends-send W s, (released-send W s, (preferred-send, tt))),
                    ),
                  ),
                ),
              ),
            ),
          ),
        ),
      ),
    ),
  )

  Shared-send : IsSend (Shared.the_row W P O g)
  Shared-send = recorded_send _ _ _ (Shared.the_type W P O g).to_one
      (struct_send (Struct.shape (Shared.the_type W P O g)) (core-send, (search owned, tt)))

  -- as a board's calls ask it
  pub shared-crosses : (δ : Ty) → IsSend (param 0 (arg δ no (Shared.the_row W P O g)))
  shared-crosses δ = param_send 0 _ (arg_send δ no _ Shared-send)

  pub Node-send : IsSend P → IsSend (Node.the_row W P O g)
  Node-send p = recorded_send _ _ _ (Node.the_type W P O g).to_one
      (struct_send (Struct.shape (Node.the_type W P O g)) (
        search sendable,
        (
          seat-send (Shared.the_row W P O g) (Core.the_row W P O g) (Option.the_row Event.the_row)
              (histories.ghosts W P O g histories.no_dict histories.no_dict histories.no_dict)
              Shared-send,
          (p, tt),
        ),
      ))

  pub board-crosses : IsSync
      (Board.the_row (Shared.the_row W P O g) (Core.the_row W P O g) (Option.the_row Event.the_row)
      (histories.ghosts W P O g histories.no_dict histories.no_dict histories.no_dict))
  board-crosses = board-sync (Shared.the_row W P O g) (Core.the_row W P O g)
      (Option.the_row Event.the_row)
      (histories.ghosts W P O g histories.no_dict histories.no_dict histories.no_dict) Shared-send
