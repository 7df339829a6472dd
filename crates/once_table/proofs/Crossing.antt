-- A table may go to another thread where its keys and values may.
use denote.Builtin.{unit}
use denote.RattleType.{RattleType}
use denote.Struct.Declared as Struct
use denote.Param.Send.{IsSend, sendable, view_send, recorded_send, struct_send}
use Rattle.std.proofs.Crossing.{crosses as owned}
use Rattle.std.proofs.alloc.Global.TheSendSync as heap
use Rattle.std.proofs.collections.HashSet.TheSendSync as set
use Rattle.std.proofs.hash.BuildHasherDefault.TheSendSync as hasher
use Rattle.std.proofs.hash.FoldHasher.TheSendSync as folds
use Rattle.std.proofs.marker.PhantomData.TheSendSync as phantom
use Rattle.std.specs.contracts.hash.FoldHasher as Fold
use Rattle.std.specs.declared.cmp.Eq as Eq
use Rattle.std.specs.declared.cmp.PartialEq as PartialEq
use Rattle.std.specs.declared.hash.Hash as Hash
use Rattle.std.below.std_heap.proofs.GlobalAllocator.TheSendSync as allocator
use Rattle.indexmap.proofs.map.IndexMap.TheSendSync as map
use Rattle.msb_values.proofs.shared.Shared.TheSendSync as arc
use Rattle.turn_board.proofs.board.Board.TheSendSync as board
use Rattle.turn_board.proofs.seat.Seat.TheSendSync as seat
use Rattle.once_table.specs.declared.fits.Fits as Fits
use Rattle.once_table.specs.contracts.table.OnceTable as OnceTable
use Rattle.once_table.specs.contracts.table.OnceTable.TheInside as Inside
use Rattle.once_table.specs.contracts.values.Values as Values
use Rattle.once_table.specs.contracts.values.ValuesHistories.TheImpl as histories

module _ (K V W F : RattleType) (equal : PartialEq.Ghosts K.Denot) (hashed : Hash.Ghosts K.Denot)
    (fits : Fits.Ghosts F.Denot K.Denot V.Denot W.Denot) (k : IsSend K) (v : IsSend V)
    (f : IsSend F) where
  values-send : IsSend (Values.the_row K V W F equal hashed fits)
  values-send =
      let type = Values.the_type K V W F equal hashed fits in
      let hash = hasher.the_send _ folds.the_send in
      recorded_send _ _ _ type.to_one (struct_send (Struct.shape type) (
        map.the_send _ _ _ _ Fold.the_row _ _ _ _ _ k v hash heap.the_send allocator.the_frees,
        (
          set.the_send _ _ _ Fold.the_row _ _ _ _ _ k hash heap.the_send allocator.the_frees,
          (search (owned, sendable), (search (owned, sendable), tt)),
        ),
      ))

  pub table-send : (eq : Eq.Ghosts K.Denot) →
      IsSend (OnceTable.the_row K V W F equal hashed fits eq)
  table-send eq =
      let type = Inside.the_type K V W F equal hashed fits eq in
      let values = Values.the_row K V W F equal hashed fits in
      let none = histories.no_dict in
      view_send (Inside.the_row K V W F equal hashed fits eq) _ _ _ _
      (recorded_send _ _ _ type.to_one (struct_send (Struct.shape type) (
        arc.the_send _ (board.the_send values W unit _ values-send)
            (board.the_sync values W unit _ values-send),
        (
          seat.the_send values W unit
              (histories.ghosts K V W F eq none equal none hashed none fits none none none)
              values-send,
          (search (owned, sendable), (search sendable, tt)),
        ),
      )))
