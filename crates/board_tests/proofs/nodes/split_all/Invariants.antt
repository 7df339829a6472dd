use Rattle.std.proofs.Common.{◌≡◌, ◌-◌, vec_len, vec_capacity, All}
use Rattle.board_tests.specs.Ready.{IsReady}
use Rattle.board_tests.proofs.nodes.split_all.Given as goal

abbrev pub invariant-loop : goal.invariant-loop
invariant-loop l = (l.seat ≡ record l.initial.seat { share = l.initial.seat.share - l.counter })
    × (vec_len l.all ≡ l.counter) × (vec_capacity l.all ≡ vec_capacity l.initial.all)
    × All (IsReady l.initial.seat.board) l.all.items
