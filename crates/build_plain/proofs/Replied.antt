-- What becomes of the request with the node by how it is answered.
use Rattle.std.proofs.Common.{
  ◌≡◌,
  ◌<◌,
  ℕ,
  List,
  [],
  length,
  Option,
  None,
  Some,
  refl,
}
use Rattle.result_cache.specs.Table.{Records}
use Rattle.build_meaning.specs.declared.event.Event.{Event}
use Rattle.build_meaning.specs.declared.event.Event.TheVariants.{
  Claim,
  Request,
  Result,
  Done as IsDone,
}
use Rattle.build_meaning.specs.declared.event.ClaimKind.TheVariants.{Wait as Awaits}
use Rattle.build_meaning.specs.World.{World}
use Rattle.build_scheduler.specs.declared.slot.End.{End}
use Rattle.build_scheduler.specs.declared.slot.End.TheVariants.{Circular, TooDeep, TooMany}
use Rattle.build_scheduler.specs.declared.walker.Answer.{Answer}
use Rattle.build_scheduler.specs.declared.walker.Ask.{Ask}
use Rattle.build_scheduler.specs.declared.walker.Ask.TheVariants.{Want, Call, Finished, Done}
use Rattle.build_scheduler.specs.Drivers.{IsLegal}
use Rattle.build_scheduler.specs.Own.{Seen, IsOut, IsOwn}
use Rattle.build_scheduler.specs.Replies.{IsOver, IsStoppedBy, IsWait}
use Rattle.build_scheduler.proofs.Replying.{IsOwnEvent, OwnEvent, own-whose}
use Rattle.build_plain.specs.declared.alone.Turn.TheVariants.{GoesOn}
use Rattle.build_plain.specs.Driven.{Drives, IsFree, IsTurn, OnlyAssigned, TakesLeast}
use Rattle.build_plain.specs.Used.{Uses, due}
use Rattle.build_plain.proofs.Driving.{drives-one, one-longer}
use Rattle.build_plain.proofs.Turns.{goes-on, leaves-node}
use Rattle.build_plain.proofs.Using.{away-uses, goes-uses}

module _ {P I A : Type 0} (w : World P I A) (before after : List Event) (id : ℕ) where
  own-least : (event : Event) → IsOwnEvent id event → TakesLeast w before event
  own-least (Claim own run kind) e = tt
  own-least (Request own calls) e = tt
  own-least (Result own run) e = tt
  own-least (IsDone own) e = tt
  own-least _ e = absurd e

  pub own-drives : OwnEvent before after id → Drives w before after
  own-drives x = drives-one w before after x.event x.comes (own-least x.event x.own)

  pub own-grows : OwnEvent before after id → length before < length after
  own-grows x = one-longer before after x.event x.comes

  -- where the build is stopped, a request may be with the node
  pub stopped-free : (ask : Ask) (end : Option End) → IsStoppedBy w before id ask end
      → IsFree w after end
  stopped-free (Want run) (Some (Circular runs)) h = tt
  stopped-free (Want run) _ h = absurd h
  stopped-free (Call calls) (Some (TooDeep keys)) h = tt
  stopped-free (Call calls) (Some (TooMany instance)) h = tt
  stopped-free (Call calls) _ h = absurd h
  stopped-free (Finished run made) end h = absurd h
  stopped-free (Done told) end h = absurd h

  module _ (legal : ∥ IsLegal w before ∥₁) (only : OnlyAssigned w before id) where
    pub own-turn : OwnEvent before after id → {W : Type 0} (seen : W → Seen P I A)
        (table : Records) (end : Option End) (walk : W) (answer : Answer) → end ≡ None
        → ∥ IsOut w after table id (seen walk) answer ∥₁
        → IsTurn seen w after table end id (GoesOn walk answer)
    own-turn x = goes-on w before after x.event legal x.comes id (own-whose id x.event x.own) only

    pub wait-free : (ask : Ask) → IsWait before after id ask → (end : Option End)
        → IsFree w after end
    wait-free (Want run) e end =
        leaves-node w before after (Claim id run Awaits) legal e id refl only end tt
    wait-free (Call calls) e end =
        leaves-node w before after (Request id calls) legal e id refl only end tt
    wait-free (Finished run made) e end = absurd e
    wait-free (Done told) e end = absurd e

    pub over-free : (ask : Ask) (end : Option End) → IsOver before after id ask end
        → IsFree w after end
    over-free (Done told) end e =
        leaves-node w before after (IsDone id) legal e.0 id refl only end tt
    over-free (Want run) end e = absurd e
    over-free (Call calls) end e = absurd e
    over-free (Finished run made) end e = absurd e

  module _ (table : Records) (walk : Seen P I A) (own : ∥ IsOwn w before table id walk ∥₁) where
    pub own-uses : OwnEvent before after id → (records : Records) (answer : Answer)
        → ∥ IsOut w after records id walk answer ∥₁
        → ∥ Uses w before after [] (due w records walk answer) ∥₁
    own-uses x records answer out =
        goes-uses w before after x.event id table records walk answer
        (own-whose id x.event x.own) x.comes own out

    pub wait-uses : (ask : Ask) → IsWait before after id ask → ∥ IsLegal w after ∥₁
        → ∥ Uses w before after [] [] ∥₁
    wait-uses (Want run) e legal =
        away-uses w before after (Claim id run Awaits) id table walk refl (λ a. a) e own legal
    wait-uses (Call calls) e legal =
        away-uses w before after (Request id calls) id table walk refl (λ a. a) e own legal
    wait-uses (Finished run made) e legal = absurd e
    wait-uses (Done told) e legal = absurd e

    pub over-uses : (ask : Ask) (end : Option End) → IsOver before after id ask end
        → ∥ IsLegal w after ∥₁ → ∥ Uses w before after [] [] ∥₁
    over-uses (Done told) end e legal =
        away-uses w before after (IsDone id) id table walk refl (λ a. a) e.0 own legal
    over-uses (Want run) end e legal = absurd e
    over-uses (Call calls) end e legal = absurd e
    over-uses (Finished run made) end e legal = absurd e
