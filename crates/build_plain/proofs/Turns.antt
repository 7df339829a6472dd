-- What becomes of the request with the node by an event of its own.
use Rattle.std.proofs.Common.{◌≡◌, ◌-◌, ◌^◌, ℕ, suc, List, [], ◌∷◌, ◌++◌, Option, None}
use Rattle.result_cache.specs.Table.{Records}
use Rattle.build_meaning.specs.declared.event.Event.{Event}
use Rattle.build_meaning.specs.World.{World}
use Rattle.build_meaning.specs.Step.{whose}
use Rattle.build_scheduler.specs.declared.walker.Answer.{Answer}
use Rattle.build_scheduler.specs.declared.slot.End.{End}
use Rattle.build_scheduler.specs.Own.{Seen, IsOut}
use Rattle.build_plain.specs.declared.alone.Turn.{Turn}
use Rattle.build_plain.specs.declared.alone.Turn.TheVariants.{GoesOn, Over}
use Rattle.build_plain.specs.Driven.{OnlyAssigned, IsFree, IsTurn}
use Rattle.build_scheduler.specs.Drivers.{IsLegal}
use Rattle.build_plain.proofs.OneAtATime.{one-stays, none-stays, free-of}
use Rattle.build_plain.proofs.RequestsMove.{Leaves}

-- how many more events there may be while the request goes on
abbrev pub left_of : {W : Type 0} → ℕ → Turn W → ℕ
left_of count (GoesOn walk answer) = suc (2 ^ 63 - count)
left_of count Over = 0

module _ {P I A : Type 0} (w : World P I A) (before after : List Event) (event : Event)
    (legal : ∥ IsLegal w before ∥₁) (e : after ≡ before ++ event ∷ []) (id : ℕ)
    (mine : whose event ≡ id) (only : OnlyAssigned w before id) where
  pub goes-on : {W : Type 0} (seen : W → Seen P I A) (table : Records) (end : Option End) (walk : W)
      (answer : Answer) → end ≡ None → ∥ IsOut w after table id (seen walk) answer ∥₁
      → IsTurn seen w after table end id (GoesOn walk answer)
  goes-on seen table end walk answer running out =
      (running, out, one-stays w before after event legal e id mine only)

  pub leaves-node : (end : Option End) → Leaves event → IsFree w after end
  leaves-node end leaves = free-of w after end
      (none-stays w before after event legal e id mine leaves only)
