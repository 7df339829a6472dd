-- How what a request asks is answered, and what becomes of its walk. (Target build order; MSBuild
-- task)
use Rattle.std.specs.Prelude.{◌≡◌, ℕ, List, [], ◌∷◌, ◌++◌, Option, None, Some}
use Rattle.result_cache.specs.Table.{Records}
use Rattle.build_meaning.specs.declared.event.Event.{Event}
use Rattle.build_meaning.specs.declared.event.Event.TheVariants.{
  Claim,
  Request,
  Result,
  Done as IsDone,
}
use Rattle.build_meaning.specs.declared.event.ClaimKind.TheVariants.{
  Go as Begins,
  Use as Takes,
  Wait as Awaits,
}
use Rattle.build_meaning.specs.World.{World}
use Rattle.build_scheduler.specs.declared.reply.Reply.{Reply}
use Rattle.build_scheduler.specs.declared.reply.Reply.TheVariants.{
  GoesOn,
  UsesOwn,
  Waits,
  Over,
  Stopped,
  NoMemory,
}
use Rattle.build_scheduler.specs.declared.slot.End.{End}
use Rattle.build_scheduler.specs.declared.slot.End.TheVariants.{Root, Circular, TooDeep, TooMany}
use Rattle.build_scheduler.specs.declared.walker.Answer.{Answer}
use Rattle.build_scheduler.specs.declared.walker.Answer.TheVariants.{Go, Use}
use Rattle.build_scheduler.specs.declared.walker.Ask.{Ask}
use Rattle.build_scheduler.specs.declared.walker.Ask.TheVariants.{Want, Call, Finished, Done}
use Rattle.build_scheduler.specs.Claims.{ClosesCycle}
use Rattle.build_scheduler.specs.Drivers.{AreAlike}
use Rattle.build_scheduler.specs.HandedBack.{IsHandedBack}
use Rattle.build_scheduler.specs.Own.{Seen, IsOut}
use Rattle.build_scheduler.specs.Requests.{AreTooMany, IsTooDeep}

-- the records once the ask is answered
abbrev pub records_with : Ask → Records → Records
records_with (Finished run made) table = record { run = run; made = made } ∷ table
records_with ask table = table

-- one event came
abbrev pub Comes : List Event → List Event → Event → Type 0
Comes events after event = after ≡ events ++ event ∷ []

module _ (events after : List Event) (id : ℕ) where
  -- the request has claimed the run that it wants, and goes on
  abbrev pub IsClaim : Ask → Answer → Type 0
  IsClaim (Want run) Go = Comes events after (Claim id run Begins)
  IsClaim (Want run) Use = Comes events after (Claim id run Takes)
  IsClaim ask answer = ⊥

  -- the run whose body has ended in it is finished
  abbrev pub IsResult : Ask → Type 0
  IsResult (Finished run made) = Comes events after (Result id run)
  IsResult ask = ⊥

  -- it waits for the run that it wants, or for its calls
  abbrev pub IsWait : Ask → Type 0
  IsWait (Want run) = Comes events after (Claim id run Awaits)
  IsWait (Call calls) = Comes events after (Request id calls)
  IsWait ask = ⊥

  -- it is over, and with the root the build
  abbrev pub IsOver : Ask → Option End → Type 0
  IsOver (Done told) end = Comes events after (IsDone id) × (id ≡ 0 → end ≡ Some (Root told))
      × ((id ≡ 0 → ⊥) → end ≡ None)
  IsOver ask end = ⊥

-- it can't be answered, and so the build ends: its wait would close a cycle of runs, or its calls
-- pass a limit
abbrev pub IsStoppedBy : {P I A : Type 0} → World P I A → List Event → ℕ → Ask → Option End
    → Type 0
IsStoppedBy w events id (Want run) (Some (Circular runs)) = ∥ ClosesCycle w events id run runs ∥₁
IsStoppedBy w events id (Call calls) (Some (TooDeep keys)) = ∥ IsTooDeep w events id calls keys ∥₁
IsStoppedBy w events id (Call calls) (Some (TooMany instance)) = ∥ AreTooMany w events id calls
    instance ∥₁
IsStoppedBy w events id ask end = ⊥

-- it takes memory to answer it
abbrev pub TakesMemory : Ask → Type 0
TakesMemory (Want run) = Unit {0}
TakesMemory (Call calls) = Unit {0}
TakesMemory ask = ⊥

-- the events, the records and the end once the ask is answered, and what is said of the walk
module _ {W P I A : Type 0} (seen : W → Seen P I A) (w : World P I A) (events after : List Event)
    (table : Records) (end : Option End) (id : ℕ) (walk : W) (ask : Ask) where
  abbrev pub IsReply : Reply W → Type 0
  IsReply (GoesOn back answer) = IsClaim events after id ask answer × (end ≡ None)
      × (back ≡ walk) × ∥ IsOut w after table id (seen back) answer ∥₁
  IsReply (UsesOwn back) = IsResult events after id ask × (end ≡ None)
      × (back ≡ walk) × ∥ IsOut w after table id (seen back) Use ∥₁
      × AreAlike (seen back).world (seen back).learnt table (seen back).position Use
  IsReply Waits = IsWait events after id ask × (end ≡ None)
  IsReply (Over left) = IsOver events after id ask end × IsHandedBack w events id walk left
  IsReply Stopped = IsStoppedBy w events id ask end × (after ≡ events)
  IsReply (NoMemory back) = TakesMemory ask × (end ≡ None) × (back ≡ walk) × (after ≡ events)
