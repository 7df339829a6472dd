use Rattle.std.proofs.Common.{◌≡◌, ◌+◌, ◌&&◌, ◌||◌, ℕ, nat_lt}
use Rattle.std.specs.Prelude.{nat_le}
use Rattle.build_scheduler.specs.Numbers.{among}
use Rattle.build_scheduler.proofs.request.list_new.Given as goal

abbrev pub invariant-loop-i : goal.invariant-loop-i
invariant-loop-i l = record {
  listed : (n : ℕ)
      → among n l.ready.numbers
      ≡ ((nat_le l.first n && nat_lt n (l.first + l.i)) || among n l.fn.ready.numbers);
  room : l.fn.ready.room ≡ l.ready.room + l.i;
}
