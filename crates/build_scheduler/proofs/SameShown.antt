-- A walk is its request's own in each core that shows the same.
use Rattle.std.proofs.Common.{◌≡◌, ℕ, List, sym, subst}
use Rattle.std.proofs.Math.Logic.{∥∥₁_map}
use Rattle.result_cache.specs.Table.{Records}
use Rattle.build_meaning.specs.declared.event.Event.{Event}
use Rattle.build_meaning.specs.World.{World}
use Rattle.build_scheduler.specs.declared.walker.Ask.{Ask}
use Rattle.build_scheduler.specs.Own.{Asks, IsOwn, Seen}
use Rattle.build_scheduler.specs.Position.{ask_of}

module _ {P I A : Type 0} (w v : World P I A) (before now : List Event) where
  pub own-kept : (table after : Records) (id : ℕ) (walk : Seen P I A) → v ≡ w → now ≡ before →
      after ≡ table → ∥ IsOwn w before table id walk ∥₁ → ∥ IsOwn v now after id walk ∥₁
  own-kept table after id walk e f g h =
      subst (λ (u : World P I A). ∥ IsOwn u now after id walk ∥₁) (sym e)
      (subst (λ es. ∥ IsOwn w es after id walk ∥₁) (sym f)
      (subst (λ t. ∥ IsOwn w before t id walk ∥₁) (sym g) h))

  pub asks-kept : (table : Records) (id : ℕ) (walk : Seen P I A) (ask : Ask) → v ≡ w →
      now ≡ before → ask_of walk.position ≡ ask → ∥ IsOwn w before table id walk ∥₁ →
      ∥ Asks v now id ask ∥₁
  asks-kept table id walk ask e f asks h =
      subst (λ (u : World P I A). ∥ Asks u now id ask ∥₁) (sym e)
      (subst (λ es. ∥ Asks w es id ask ∥₁) (sym f)
      (∥∥₁_map h (λ o. record { position = walk.position; stands = o.stands; asks = asks })))
