-- By what event of its own a request is answered, and what a stop tells.
use Rattle.std.proofs.Common.{
  ◌≡◌,
  ℕ,
  List,
  true,
  Option,
  None,
  Some,
  refl,
  sym,
  subst,
}
use Rattle.std.proofs.Math.Logic.{∥∥₁_map}
use Rattle.std.specs.Prelude.{is_some}
use Rattle.msb_values.specs.declared.key.InstanceKey.{InstanceKey}
use Rattle.result_cache.specs.declared.run.RunId.{RunId}
use Rattle.result_cache.specs.declared.request.RequestKey.{RequestKey}
use Rattle.result_cache.specs.Table.{Records}
use Rattle.build_meaning.specs.declared.event.Event.{Event}
use Rattle.build_meaning.specs.declared.event.Event.TheVariants.{
  Claim,
  Request,
  Result,
  Done as IsDone,
}
use Rattle.build_meaning.specs.declared.event.ClaimKind.TheVariants.{
  Go as Begins,
  Use as Takes,
  Wait as Awaits,
}
use Rattle.build_meaning.specs.World.{World}
use Rattle.build_meaning.specs.Step.{whose}
use Rattle.build_scheduler.specs.declared.slot.End.{End}
use Rattle.build_scheduler.specs.declared.slot.End.TheVariants.{
  Circular,
  TooDeep,
  TooMany,
  NoMemory,
}
use Rattle.build_scheduler.specs.declared.walker.Answer.{Answer}
use Rattle.build_scheduler.specs.declared.walker.Answer.TheVariants.{Go, Use}
use Rattle.build_scheduler.specs.declared.walker.Ask.{Ask}
use Rattle.build_scheduler.specs.declared.walker.Ask.TheVariants.{Want, Call, Finished, Done}
use Rattle.build_scheduler.specs.Claims.{ClosesCycle}
use Rattle.build_scheduler.specs.Ends.{IsStop}
use Rattle.build_scheduler.specs.Requests.{AreTooMany, IsTooDeep}
use Rattle.build_scheduler.specs.Replies.{
  Comes,
  IsClaim,
  IsOver,
  IsResult,
  IsStoppedBy,
  IsWait,
  TakesMemory,
  records_with,
}

-- an event of the request by which no node takes one or retires
abbrev pub IsOwnEvent : ℕ → Event → Type 0
IsOwnEvent id (Claim own run kind) = own ≡ id
IsOwnEvent id (Request own calls) = own ≡ id
IsOwnEvent id (Result own run) = own ≡ id
IsOwnEvent id (IsDone own) = own ≡ id
IsOwnEvent id event = ⊥

pub own-whose : (id : ℕ) (event : Event) → IsOwnEvent id event → whose event ≡ id
own-whose id (Claim own run kind) e = e
own-whose id (Request own calls) e = e
own-whose id (Result own run) e = e
own-whose id (IsDone own) e = e
own-whose id _ e = absurd e

module _ (events after : List Event) (id : ℕ) where
  -- one such event came
  pub record OwnEvent : Type 0 where
    pub event : Event
    pub comes : Comes events after event
    pub own : IsOwnEvent id event

  pub claim-event : (ask : Ask) (answer : Answer) → IsClaim events after id ask answer → OwnEvent
  claim-event (Want run) Go e = record { event = Claim id run Begins; comes = e; own = refl }
  claim-event (Want run) Use e = record { event = Claim id run Takes; comes = e; own = refl }
  claim-event (Want run) _ e = absurd e
  claim-event (Call calls) answer e = absurd e
  claim-event (Finished run made) answer e = absurd e
  claim-event (Done told) answer e = absurd e

  pub result-event : (ask : Ask) → IsResult events after id ask → OwnEvent
  result-event (Finished run made) e = record { event = Result id run; comes = e; own = refl }
  result-event (Want run) e = absurd e
  result-event (Call calls) e = absurd e
  result-event (Done told) e = absurd e

  pub wait-event : (ask : Ask) → IsWait events after id ask → OwnEvent
  wait-event (Want run) e = record { event = Claim id run Awaits; comes = e; own = refl }
  wait-event (Call calls) e = record { event = Request id calls; comes = e; own = refl }
  wait-event (Finished run made) e = absurd e
  wait-event (Done told) e = absurd e

  pub over-event : (ask : Ask) (end : Option End) → IsOver events after id ask end → OwnEvent
  over-event (Done told) end e = record { event = IsDone id; comes = e.0; own = refl }
  over-event (Want run) end e = absurd e
  over-event (Call calls) end e = absurd e
  over-event (Finished run made) end e = absurd e

-- what takes memory leaves the records
pub same-records : (ask : Ask) (table : Records) → TakesMemory ask
    → records_with ask table ≡ table
same-records (Want run) table h = refl
same-records (Call calls) table h = refl
same-records (Finished run made) table h = absurd h
same-records (Done told) table h = absurd h

module _ {P I A : Type 0} (w : World P I A) (events : List Event) (id : ℕ) where
  -- a request that stops the build tells an end, which is not want of memory
  pub stopped-told : (ask : Ask) (end : Option End) → IsStoppedBy w events id ask end
      → is_some end ≡ true
  stopped-told (Want run) (Some end) h = refl
  stopped-told (Want run) None h = absurd h
  stopped-told (Call calls) (Some end) h = refl
  stopped-told (Call calls) None h = absurd h
  stopped-told (Finished run made) end h = absurd h
  stopped-told (Done told) end h = absurd h

  pub stopped-caused : (ask : Ask) (end : Option End) → IsStoppedBy w events id ask end
      → end ≡ Some NoMemory → ⊥
  stopped-caused ask end h e = by ask (subst (λ x. IsStoppedBy w events id ask x) e h)
    where
      by : (ask : Ask) → IsStoppedBy w events id ask (Some NoMemory) → ⊥
      by (Want run) h = h
      by (Call calls) h = h
      by (Finished run made) h = h
      by (Done told) h = h

module _ {P I A : Type 0} (w v : World P I A) (events after : List Event) (same_world : v ≡ w)
    (same_events : after ≡ events) where
  moved : (end : End) → IsStop w events end → IsStop v after end
  moved end h =
      subst (λ (u : World P I A). IsStop u after end) (sym same_world)
      (subst (λ es. IsStop w es end) (sym same_events) h)

  -- what stops a build
  pub cycle-stops : (id : ℕ) (run : RunId) (runs : List RunId)
      → ∥ ClosesCycle w events id run runs ∥₁ → IsStop v after (Circular runs)
  cycle-stops id run runs h = moved (Circular runs) (∥∥₁_map h (λ x. (id, run, x)))

  pub deep-stops : (id : ℕ) (calls keys : List RequestKey)
      → ∥ IsTooDeep w events id calls keys ∥₁ → IsStop v after (TooDeep keys)
  deep-stops id calls keys h = moved (TooDeep keys) (∥∥₁_map h (λ x. (id, calls, x)))

  pub many-stops : (id : ℕ) (calls : List RequestKey) (instance : InstanceKey)
      → ∥ AreTooMany w events id calls instance ∥₁ → IsStop v after (TooMany instance)
  many-stops id calls instance h = moved (TooMany instance) (∥∥₁_map h (λ x. (id, calls, x)))
