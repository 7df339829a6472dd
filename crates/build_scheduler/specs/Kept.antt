-- How requests have ended, which is kept for others of their keys.
-- (MSBuild task: a target is run once)
use Rattle.std.specs.Prelude.{
  ◌≡◌,
  ◌⊎◌,
  ◌↔◌,
  ◌+◌,
  ◌≤◌,
  ℕ,
  length,
  drop,
  Bool,
  true,
  false,
  IsTrue,
  List,
  [],
  ◌∷◌,
  ◌++◌,
  Option,
  None,
  Some,
}
use Rattle.result_cache.specs.declared.run.RunId.{RunId}
use Rattle.result_cache.specs.declared.request.RequestKey.{RequestKey}
use Rattle.result_cache.specs.declared.request.RequestResult.{RequestResult}
use Rattle.result_cache.specs.Journal.{Journal}
use Rattle.result_cache.specs.Replay.{replay_all}
use Rattle.result_cache.specs.Table.{Records}
use Rattle.build_meaning.specs.declared.event.Event.{Event}
use Rattle.build_meaning.specs.declared.event.Event.TheVariants.{Assign, Done}
use Rattle.build_meaning.specs.Lists.{at}
use Rattle.build_meaning.specs.Plain.{IsPlain}
use Rattle.build_meaning.specs.World.{World}
use Rattle.build_meaning.specs.Walk.{Walk, Reply, gives}
use Rattle.build_meaning.specs.SoFar.{result_of}
use Rattle.build_meaning.specs.ByTable.{walk_by, request_by}
use Rattle.build_meaning.specs.State.{walking, ready, RequestState, State}
use Rattle.build_meaning.specs.History.{IsHistory}
use Rattle.build_history.specs.Began.{GivesJournal}
use Rattle.build_history.specs.Repeated.{uses_of_all}
use Rattle.build_scheduler.specs.declared.walker.Answer.{Answer}
use Rattle.build_scheduler.specs.declared.walker.Answer.TheVariants.{Use}
use Rattle.build_scheduler.specs.declared.kept.InstanceEnd.{InstanceEnd}
use Rattle.build_scheduler.specs.declared.kept.Kept.{Kept}
use Rattle.build_scheduler.specs.declared.kept.KeptEnds.{KeptEnds}
use Rattle.build_scheduler.specs.declared.repeat.AtOnce.{AtOnce}
use Rattle.build_scheduler.specs.declared.slot.Origin.{Origin}
use Rattle.build_scheduler.specs.declared.slot.Slot.{Slot}
use Rattle.build_scheduler.specs.declared.slot.Slot.TheVariants.{Calling, Ready}
use Rattle.build_scheduler.specs.KeptEnds.{IsAmong, IsPut, IsWanted, kept_for}
use Rattle.build_scheduler.specs.History.{History}
use Rattle.build_scheduler.specs.Own.{Seen}
use Rattle.build_scheduler.specs.Slots.{owed_by}

-- a request that is called by another one
pub record IsCalled (origins : List Origin) (id : ℕ) : Type 0 where
  pub origin : Origin
  pub caller : ℕ
  pub own : at origins id ≡ Some origin
  pub by : origin.parent ≡ Some caller

-- two requests of one key
pub record HaveOneKey (origins : List Origin) (id other : ℕ) : Type 0 where
  pub mine : Origin
  pub its : Origin
  pub own : at origins id ≡ Some mine
  pub whose : at origins other ≡ Some its
  pub same : its.key ≡ mine.key

-- a request of a key of which a walk knows that its requests are plain
pub record IsKnownPlain (knows : RequestKey → Bool) (origins : List Origin) (id : ℕ) : Type 0 where
  pub origin : Origin
  pub own : at origins id ≡ Some origin
  pub plain : knows origin.key ≡ true

module _ {W P I A : Type 0} (seen : W → Seen P I A) where
  -- a walk that has come to its end with this journal, these runs and this reply
  abbrev pub IsAtEnd : World P I A → Journal → List RunId → Reply → W → Type 0
  IsAtEnd w last runs reply walk = seen walk ≡ record {
    world = w;
    position = record { journal = last; runs = runs; place = walking (gives reply) };
    asked = 1;
    learnt = [];
  }

  -- this is how a request ends that has the key of that one and begins with this journal, as the
  -- table tells it; the walk stands there
  pub record IsKept (w : World P I A) (table : Records) (origins : List Origin)
      (kept : Kept W) : Type 0 where
    pub origin : Origin
    pub whose : at origins kept.id ≡ Some origin
    pub first : Journal
    pub last : Journal
    pub told : request_by w table first origin.key ≡ Some (kept.result, last)
    pub nothing : kept.from_nothing ≡ true → first ≡ []
    pub plain : kept.plain ≡ true → IsPlain w origin.key
    pub reply : Reply
    pub result : result_of reply kept.result.runs ≡ kept.result
    pub walk : IsAtEnd w last kept.result.runs reply kept.walk

  abbrev pub AreKept : World P I A → Records → List Origin → List (InstanceEnd W) → Type 0
  AreKept w table origins all =
      (kept : Kept W) → IsAmong all kept → IsKept w table origins kept

  -- a caller with an empty journal: its calls begin with nothing
  abbrev pub KnowsNothing : Option (Slot W) → Type 0
  KnowsNothing (Some (Calling calls)) = (seen calls.walk).position.journal ≡ []
  KnowsNothing slot = ⊥

  -- a request that is called, and begins with nothing
  pub record BeganWithNothing (slots : List (Slot W)) (origins : List Origin)
      (id : ℕ) : Type 0 where
    pub origin : Origin
    pub caller : ℕ
    pub own : at origins id ≡ Some origin
    pub called : origin.parent ≡ Some caller
    pub nothing : KnowsNothing (at slots caller)

  -- the end of a request that is called may serve others: one of its instance is not done, and this
  -- one began with nothing, or it is plain
  pub record MayServe (slots : List (Slot W)) (origins : List Origin) (ends : KeptEnds W)
      (id : ℕ) (knows : RequestKey → Bool) : Type 0 where
    pub called : IsCalled origins id
    pub wanted : IsWanted ends id
    pub either : BeganWithNothing slots origins id ⊎ IsKnownPlain knows origins id

  -- how this request ends, whose walk this is
  pub record IsEndOf (slots : List (Slot W)) (origins : List Origin) (id : ℕ) (walk : W)
      (knows : RequestKey → Bool) (told : RequestResult) (end : Kept W) : Type 0 where
    pub whose : end.id ≡ id
    pub result : end.result ≡ told
    pub stands : seen end.walk ≡ record {
      world = (seen walk).world;
      position = (seen walk).position;
      asked = 1;
      learnt = [];
    }
    pub nothing : IsTrue end.from_nothing ↔ BeganWithNothing slots origins id
    pub plain : IsTrue end.plain ↔ IsKnownPlain knows origins id

  -- that is kept exactly where it may serve others, and else nothing changes
  pub record IsKeeping (slots : List (Slot W)) (origins : List Origin) (before after : KeptEnds W)
      (id : ℕ) (walk : W) (knows : RequestKey → Bool) (told : RequestResult) : Type 0 where
    pub kept : MayServe slots origins before id knows → (end : Kept W)
        × IsEndOf slots origins id walk knows told end × IsPut before after end
    pub same : (MayServe slots origins before id knows → ⊥) → after ≡ before

  -- an end of a plain key, or one of a request that began with nothing as this one does
  abbrev pub IsAlike : List (Slot W) → List Origin → ℕ → Kept W → Type 0
  IsAlike slots origins id kept =
      (kept.plain ≡ true) ⊎ ((kept.from_nothing ≡ true) × BeganWithNothing slots origins id)

  -- a request that is called and in no body is served by the end that is kept for it where that one
  -- has its key, and they are alike
  pub record Serves (slots : List (Slot W)) (origins : List Origin) (making : List (Option RunId))
      (ends : KeptEnds W) (id : ℕ) (kept : Kept W) : Type 0 where
    pub called : IsCalled origins id
    pub free : at making id ≡ Some None
    pub there : kept_for ends id ≡ Some kept
    pub one_key : HaveOneKey origins id kept.id
    pub alike : IsAlike slots origins id kept

  abbrev pub IsServed : List (Slot W) → List Origin → List (Option RunId) → KeptEnds W → ℕ → Type 0
  IsServed slots origins making ends id = (kept : Kept W) × Serves slots origins making ends id kept

  -- what is left of these runs to the walk of a ready request, replayed in its journal, gives that
  -- one
  abbrev pub LeavesJournal : Records → Option (Slot W) → List RunId → Journal → Type 0
  LeavesJournal table (Some (Ready walk answer)) runs last =
      replay_all table (drop (length (seen walk).position.runs) runs) (seen walk).position.journal
      ≡ Some last
  LeavesJournal table slot runs last = ⊥

  -- the walk of a ready request, come to the end that is kept for it, with a journal of its own
  pub record IsCome (table : Records) (slot : Option (Slot W)) (kept : Kept W)
      (walk : W) : Type 0 where
    pub leaves : LeavesJournal table slot kept.result.runs (seen walk).position.journal
    pub stands : seen walk ≡ record {
      world = (seen kept.walk).world;
      position = record {
        journal = (seen walk).position.journal;
        runs = (seen kept.walk).position.runs;
        place = (seen kept.walk).position.place;
      };
      asked = 1;
      learnt = [];
    }

-- the walk of a ready request
abbrev pub IsReadyWalk : {W : Type 0} → Option (Slot W) → W → Type 0
IsReadyWalk (Some (Ready own answer)) walk = own ≡ walk
IsReadyWalk slot walk = ⊥

-- how many runs a walk uses by its next answer
abbrev pub uses_one : Answer → ℕ
uses_one Use = 1
uses_one answer = 0

-- how many runs a ready request has made or used, by its walk and the walk's next answer
abbrev pub used_in : {W P I A : Type 0} → (W → Seen P I A) → Option (Slot W) → ℕ
used_in seen (Some (Ready walk answer)) = length (seen walk).position.runs + uses_one answer
used_in seen slot = 0

-- a request that is ready between two runs comes to its end by the records of these runs, once it
-- is with a node, and there is room for their events
pub record EndsAlike {P I A : Type 0} (w : World P I A) (core_history : History) (id node : ℕ)
    (rest : List RunId) : Type 0 where
  pub state : State P I A
  pub request : RequestState P I A
  pub walk : Walk P I A
  pub history : IsHistory w core_history.events state
  pub there : at state.requests id ≡ Some request
  pub between : request.status ≡ ready (walking walk)
  pub result : RequestResult
  pub last : Journal
  pub told : walk_by w state.table walk request.journal request.runs ≡ Some (result, last)
  pub left : result.runs ≡ request.runs ++ rest
  pub spare : owed_by state.requests + length rest ≤ core_history.room

-- a ready request, between two runs, ends so once it is with a node: with the result that the table
-- tells of a request of its key that begins with its caller's journal, by the records of the runs
-- that are left to it; the walk stands at that end
pub record IsAtOnce {W P I A : Type 0} (seen : W → Seen P I A) (w : World P I A) (table : Records)
    (events : List Event) (id : ℕ) (end : AtOnce W) : Type 0 where
  pub state : State P I A
  pub request : RequestState P I A
  pub walk : Walk P I A
  pub history : IsHistory w events state
  pub there : at state.requests id ≡ Some request
  pub between : request.status ≡ ready (walking walk)
  pub called : id ≡ 0 → ⊥
  pub first : Journal
  pub last : Journal
  pub begun : GivesJournal state request.origin.parent first
  pub told : walk_by w state.table walk request.journal request.runs ≡ Some (end.told, last)
  pub by_key : request_by w table first request.origin.key ≡ Some (end.told, last)
  pub left : end.told.runs ≡ request.runs ++ end.claims.items
  pub reply : Reply
  pub result : result_of reply end.told.runs ≡ end.told
  pub stands : IsAtEnd seen w last end.told.runs reply end.walk

-- a ready request is over at once: it goes to a node, uses the records of these runs, and is done
abbrev pub repeats : ℕ → ℕ → List RunId → List Event
repeats id node runs = Assign id node ∷ (uses_of_all id runs ++ Done id ∷ [])

-- the request is over at once, with the result that the table tells of a request of its key that
-- begins with its caller's journal: it has used the records of all runs that were left to it
pub record IsRepeat {P I A : Type 0} (w : World P I A) (table : Records) (events after : List Event)
    (id node : ℕ) : Type 0 where
  pub state : State P I A
  pub request : RequestState P I A
  pub history : IsHistory w events state
  pub there : at state.requests id ≡ Some request
  pub first : Journal
  pub begun : GivesJournal state request.origin.parent first
  pub result : RequestResult
  pub last : Journal
  pub told : request_by w table first request.origin.key ≡ Some (result, last)
  pub rest : List RunId
  pub left : result.runs ≡ request.runs ++ rest
  pub is : after ≡ events ++ repeats id node rest

abbrev pub IsRepeated : {P I A : Type 0} → World P I A → Records → List Event → List Event →
    ℕ → ℕ → Bool → Type 0
IsRepeated w table events after id node true = ∥ IsRepeat w table events after id node ∥₁
IsRepeated w table events after id node false = after ≡ events
