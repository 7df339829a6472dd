-- A walk stays its request's own through the events of others.
use Rattle.std.proofs.Common.{
  ◌≡◌,
  ℕ,
  suc,
  List,
  [],
  ◌∷◌,
  ◌++◌,
  length,
  drop,
  take,
  All,
  Bool,
  true,
  false,
  Option,
  Some,
  refl,
  ap,
  sym,
  subst,
  ◌∙◌,
  arith,
  append_assoc,
  length-append,
}
use Rattle.std.specs.List.{remove}
use Rattle.std.proofs.lemmas.List.{append-nil}
use Rattle.std.proofs.lemmas.List.Elements.{All-append, All-drop, All-take}
use Rattle.std.proofs.Math.Logic.{∥∥₁_map, ∥∥₁_map₂}
use Rattle.result_cache.specs.declared.run.RunId.{RunId}
use Rattle.result_cache.specs.Table.{Records, TableRuns, found}
use Rattle.result_cache.proofs.RunTests.{and_then-some}
use Rattle.build_meaning.specs.declared.event.Event.{Event}
use Rattle.build_meaning.specs.World.{World}
use Rattle.build_meaning.specs.State.{assigned, State, start}
use Rattle.build_meaning.specs.Step.{step, after_all}
use Rattle.build_meaning.specs.History.{IsHistory, AreOfOthers}
use Rattle.build_meaning.proofs.AssignedRequests.{stays}
use Rattle.build_meaning.proofs.EventsKeepLawful.{some-is}
use Rattle.build_meaning.proofs.OrderlyHistories.{records_stay}
use Rattle.build_scheduler.specs.declared.slot.Origin.{Origin}
use Rattle.build_scheduler.specs.declared.slot.Slot.{Slot}
use Rattle.build_scheduler.specs.declared.slot.End.{End}
use Rattle.build_scheduler.specs.Kept.{IsRepeated, repeats}
use Rattle.build_scheduler.specs.History.{History}
use Rattle.build_scheduler.specs.Own.{Seen, placed, IsOwn}
use Rattle.build_scheduler.specs.Position.{ask_of}
use Rattle.build_scheduler.specs.Shown.{Shown}
use Rattle.build_scheduler.specs.declared.walker.Ask.{Ask}
use Rattle.build_scheduler.specs.Drivers.{Continues}
use Rattle.build_scheduler.proofs.HistoryFacts.{one_state}
use Rattle.build_scheduler.proofs.Replying.{OwnEvent}
use Rattle.engine_tests.specs.Trials.{IsAsking, WasOwn}

pub drop-front : {X : Type 0} (xs ys : List X) → drop (length xs) (xs ++ ys) ≡ ys
drop-front [] ys = refl
drop-front (x ∷ xs) ys = drop-front xs ys

module _ {P I A : Type 0} (w : World P I A) where
  -- what comes behind some of the events goes on from the state after these
  goes-on : (xs ys : List Event) (s t u : State P I A) → after_all w s xs ≡ Some t →
      after_all w s (xs ++ ys) ≡ Some u → after_all w t ys ≡ Some u
  goes-on [] ys s t u h g = subst (λ (v : State P I A). after_all w v ys ≡ Some u) (some-is s t h) g
  goes-on (event ∷ xs) ys s t u h g =
      let y = and_then-some (step w s event) (λ next. after_all w next xs) t h in
      let z = and_then-some (step w s event) (λ next. after_all w next (xs ++ ys)) u g in
      let same : z.0 ≡ y.0 = some-is z.0 y.0 (sym z.1 ∙ y.1) in
      goes-on xs ys y.0 t u y.2 (subst (λ (v : State P I A). after_all w v (xs ++ ys) ≡ Some u) same
      z.2)

  own-still : (before more events : List Event) (old table : Records) (id : ℕ) (walk : Seen P I A)
      (s : State P I A) (o : IsOwn w before old id walk) → o.stands.state.table ≡ old →
      events ≡ before ++ more → AreOfOthers id more → IsHistory w events s → table ≡ s.table
      → IsOwn w events table id walk
  own-still before more events old table id walk s o was e others h is =
      let g : after_all w o.stands.state more
      ≡ Some s = goes-on before more (start w) o.stands.state s o.stands.history
      (subst (λ es. IsHistory w es s) e h) in
      record {
        stands = record {
          state = s;
          origin = o.stands.origin;
          node = o.stands.node;
          history = h;
          there = stays w o.stands.state s more id o.stands.node
              (placed o.stands.origin walk.position (assigned o.stands.node)) walk.position.place
              o.stands.there refl others g;
        };
        world = o.world;
        learnt = record {
          in_order = o.learnt.in_order;
          shared = λ run made f.
              let a = subst (λ t. found t run ≡ Some made) (sym was) (o.learnt.shared run made f) in
              subst (λ t. found t run ≡ Some made) (sym is)
              (records_stay w before more o.stands.state s o.stands.history g run made a).0;
        };
        asked = o.asked;
        few = let a = o.few in let b = ap length e in let c = length-append before more in omega
            arith;
      }

module _ {P I A : Type 0} (w : World P I A) {W : Type 0} {seen : W → Seen P I A} {history : History}
    {origins : List Origin} {slots : List (Slot W)} {making : List
    (Option RunId)} {table : TableRuns} {end : Option End} where
  asking-still : Shown seen w history origins slots making table end →
      (id number : ℕ) (walk : Seen P I A) → WasOwn w history.events id number walk →
      AreOfOthers id (drop number history.events) → IsOwn w history.events table.finished id walk
  asking-still x id number walk k others =
      let behind : drop number history.events ≡ k.more = ap (λ n. drop n history.events) k.number_is
      ∙ (ap (drop (length k.before)) k.continues ∙ drop-front k.before k.more) in
      own-still w k.before k.more history.events k.table table.finished id walk x.state k.own
      k.table_is
      k.continues (subst (AreOfOthers id) behind others) x.history x.finished

  -- the walk is its request's own now
  asking-now : Shown seen w history origins slots making table end →
      (id number : ℕ) (walk : Seen P I A) → number ≡ length history.events →
      IsOwn w history.events table.finished id walk → WasOwn w history.events id number walk
  asking-now x id number walk is o = record {
    before = history.events;
    more = [];
    table = table.finished;
    number_is = is;
    continues = sym (append-nil history.events);
    own = o;
    table_is =
        ap (λ (s : State P I A). s.table)
        (one_state w history.events o.stands.state x.state o.stands.history x.history)
        ∙ sym x.finished;
  }

  module _ (legal : ∥ Shown seen w history origins slots making table end ∥₁) (id number : ℕ)
      (walk : Seen P I A) (ask : Ask) where
    pub still-own : IsAsking w history.events id number walk ask
        → AreOfOthers id (drop number history.events)
        → ∥ IsOwn w history.events table.finished id walk ∥₁
    still-own asking others = ∥∥₁_map₂ legal asking.1
        (λ x k. asking-still x id number walk k others)

    pub asks-now : number ≡ length history.events → ask ≡ ask_of walk.position
        → ∥ IsOwn w history.events table.finished id walk ∥₁
        → IsAsking w history.events id number walk ask
    asks-now is asks own = (sym asks, ∥∥₁_map₂ legal own (λ x o. asking-now x id number walk is o))

-- a request still asks after more events, in the same world
pub asks-on : {P I A : Type 0} (w v : World P I A) (events after : List Event) (id number : ℕ)
    (walk : Seen P I A) (ask : Ask) → v ≡ w → ∥ Continues events after ∥₁ →
    IsAsking w events id number walk ask → IsAsking v after id number walk ask
asks-on w v events after id number walk ask same continues (asks, own) = (
  asks,
  subst (λ u. ∥ WasOwn u after id number walk ∥₁) (sym same)
      (∥∥₁_map₂ own continues (λ k more. record {
        before = k.before;
        more = k.more ++ more.0;
        table = k.table;
        number_is = k.number_is;
        continues = more.1
            ∙ (ap (λ l. l ++ more.0) k.continues ∙ append_assoc k.before k.more more.0);
        own = k.own;
        table_is = k.table_is;
      })),
)

-- an event by which a request is answered
pub own-continues : (events after : List Event) (id : ℕ) → OwnEvent events after id
    → Continues events after
own-continues events after id x = (x.event ∷ [], x.comes)

-- a request that is over at once adds events, and one that is not adds none
pub repeated-none : {P I A : Type 0} (w : World P I A) (table : Records) (events after : List Event)
    (id node : ℕ) (repeated : Bool) → repeated ≡ false →
    IsRepeated w table events after id node repeated → after ≡ events
repeated-none w table events after id node repeated is h =
    subst (λ (b : Bool). IsRepeated w table events after id node b) is h

pub repeated-continues : {P I A : Type 0} (w : World P I A) (table : Records)
    (events after : List Event) (id node : ℕ) (repeated : Bool) →
    IsRepeated w table events after id node repeated → ∥ Continues events after ∥₁
repeated-continues w table events after id node true h =
    ∥∥₁_map h (λ x. (repeats id node x.rest, x.is))
repeated-continues w table events after id node false h = ∣ ([], h ∙ sym (append-nil events)) ∣₁

pub assigned-continues : {P I A : Type 0} (w : World P I A) (table : Records)
    (events mid after : List Event) (id node : ℕ) (repeated : Bool) (event : Event) →
    repeated ≡ false → IsRepeated w table events mid id node repeated →
    after ≡ mid ++ event ∷ [] → ∥ Continues events after ∥₁
assigned-continues w table events mid after id node repeated event is h grown = ∣ (
  event ∷ [],
  grown ∙ ap (λ l. l ++ event ∷ []) (repeated-none w table events mid id node repeated is h),
) ∣₁

-- the events behind a place of a history, as they are looked through

pub all-removed : {X : Type 0} (P : X → Type 0) (xs : List X) (n : ℕ) → All P xs
    → All P (remove xs n)
all-removed P xs n h = All-append P (take n xs) (drop (suc n) xs) (All-take P n xs h)
    (All-drop P (suc n) xs h)
