-- What a node knows of a walk while others have the core.
use Rattle.std.proofs.Common.{
  ◌≡◌,
  ◌+◌,
  ◌<◌,
  ◌^◌,
  ℕ,
  List,
  ◌++◌,
  length,
  drop,
  false,
  Option,
  Some,
  None,
  refl,
  ap,
  sym,
  subst,
  ◌∙◌,
  arith,
  length-append,
}
use Rattle.std.proofs.Math.Logic.{∥∥₁_map₂}
use Rattle.std.proofs.Props.{props}
use Rattle.std.specs.Prelude.{is_some, IsSome}
use Rattle.result_cache.specs.declared.run.RunId.{RunId}
use Rattle.result_cache.specs.Table.{Records, TableRuns, found}
use Rattle.build_meaning.specs.declared.event.Event.{Event}
use Rattle.build_meaning.specs.World.{World}
use Rattle.build_meaning.specs.State.{assigned, State, start}
use Rattle.build_meaning.specs.Step.{after_all}
use Rattle.build_meaning.specs.History.{IsHistory, AreOfOthers}
use Rattle.build_meaning.proofs.AssignedRequests.{stays}
use Rattle.build_meaning.proofs.EventsKeepLawful.{some-is}
use Rattle.build_meaning.proofs.GrowingTables.{Newer, same_table, one_newer, newer-found}
use Rattle.build_meaning.proofs.OrderlyHistories.{all-change, records_stay}
use Rattle.build_scheduler.specs.declared.walker.Ask.{Ask}
use Rattle.build_scheduler.specs.declared.walker.Answer.{Answer}
use Rattle.build_scheduler.specs.declared.walker.Answer.TheVariants.{First, Go, Use, Results}
use Rattle.build_scheduler.specs.declared.slot.Origin.{Origin}
use Rattle.build_scheduler.specs.declared.slot.Slot.{Slot}
use Rattle.build_scheduler.specs.declared.slot.End.{End}
use Rattle.build_scheduler.specs.Learnt.{ArePartOf}
use Rattle.build_scheduler.specs.History.{History}
use Rattle.build_scheduler.specs.Own.{Seen, placed, IsOut, IsOwn}
use Rattle.build_scheduler.specs.Drivers.{AreAlike}
use Rattle.build_scheduler.specs.Position.{Position, ask_of, answered, IsInTurn}
use Rattle.build_scheduler.specs.Ready.{IsAssignedTo}
use Rattle.build_scheduler.specs.Shown.{Shown}
use Rattle.build_scheduler.proofs.GrowingAnswers.{answered-more}
use Rattle.build_scheduler.proofs.HistoryFacts.{lawful, one_state, in_order-prop}
use Rattle.build_nodes.specs.declared.turn.Asking.{Asking}
use Rattle.build_nodes.specs.declared.turn.Answered.{Answered}
use Rattle.build_nodes.specs.Leaving.{has_left}
use Rattle.build_nodes.specs.Marked.{marked}
use Rattle.build_nodes.specs.Turns.{CanGoBack, IsAnswered, IsAsking}
use Rattle.build_nodes.proofs.Here.{still-here}
use Rattle.build_nodes.proofs.HistoryParts.{goes-on}
use Rattle.build_nodes.proofs.Marks.{none-more, since}

module _ {P I A : Type 0} (w : World P I A) where
  answered-newer : {T U : Records} → Newer T U → (p next : Position P I A) (answer : Answer)
      → answered w T p answer ≡ Some next → answered w U p answer ≡ Some next
  answered-newer same_table p next answer e = e
  answered-newer (one_newer {U = U} {f = f} n g) p next answer e = answered-more w U f g p next
      answer (answered-newer n p next answer e)

  -- a walk stays its request's own through the events of others
  pub own-still : (before more events : List Event) (old table : Records) (id : ℕ)
      (walk : Seen P I A) (s : State P I A) (o : IsOwn w before old id walk)
      → o.stands.state.table ≡ old →
      events ≡ before ++ more → AreOfOthers id more → IsHistory w events s → table ≡ s.table
      → IsOwn w events table id walk
  own-still before more events old table id walk s o was e others h is =
      let g : after_all w o.stands.state more
      ≡ Some s = goes-on w before more (start w) o.stands.state s o.stands.history
      (subst (λ es. IsHistory w es s) e h) in
      record {
        stands = record {
          state = s;
          origin = o.stands.origin;
          node = o.stands.node;
          history = h;
          there = stays w o.stands.state s more id o.stands.node
              (placed o.stands.origin walk.position (assigned o.stands.node)) walk.position.place
              o.stands.there refl others g;
        };
        world = o.world;
        learnt = record {
          in_order = o.learnt.in_order;
          shared = λ run made f.
              let a = subst (λ t. found t run ≡ Some made) (sym was) (o.learnt.shared run made f) in
              subst (λ t. found t run ≡ Some made) (sym is)
              (records_stay w before more o.stands.state s o.stands.history g run made a).0;
        };
        asked = o.asked;
        few = let a = o.few in let b = ap length e in let c = length-append before more in omega
            arith;
      }

  -- and so does one with its next answer
  pub out-still : (before more events : List Event) (old table : Records) (id : ℕ)
      (walk : Seen P I A) (answer : Answer) (s : State P I A)
      (o : IsOut w before old id walk answer) → o.stands.state.table ≡ old →
      events ≡ before ++ more → AreOfOthers id more → IsHistory w events s → table ≡ s.table
      → IsOut w events table id walk answer
  out-still before more events old table id walk answer s o was e others h is =
      let g : after_all w o.stands.state more
      ≡ Some s = goes-on w before more (start w) o.stands.state s o.stands.history
      (subst (λ es. IsHistory w es s) e h) in
      let newer : Newer old table = subst (Newer old) (sym is)
      (subst (λ t. Newer t s.table) was
      (all-change w more o.stands.state s (lawful w before o.stands.state o.stands.history)
      g).stays) in
      record {
        next = o.next;
        stands = record {
          state = s;
          origin = o.stands.origin;
          node = o.stands.node;
          history = h;
          there = stays w o.stands.state s more id o.stands.node
              (placed o.stands.origin o.next (assigned o.stands.node)) o.next.place o.stands.there
              refl others g;
        };
        world = o.world;
        learnt = record {
          in_order = o.learnt.in_order;
          shared = λ run made f.
              newer-found newer run made (o.learnt.shared run made f);
        };
        goes = answered-newer newer walk.position o.next answer o.goes;
        turn = o.turn;
        few = let a = o.few in let b = ap length e in let c = length-append before more in omega
            arith;
      }

pub both-shown : {A B : Type 0} → ∥ A ∥₁ → ∥ B ∥₁ → ∥ A × B ∥₁
both-shown a b = ∥∥₁_map₂ a b (λ x y. (x, y))

-- equal in what contracts see of them
pub seen-same : {P I A : Type 0} (s t : Seen P I A) → s.world ≡ t.world → s.position ≡ t.position
    → s.asked ≡ t.asked → s.learnt ≡ t.learnt → s ≡ t
seen-same s t world position asked learnt = λ i.
    record { world = world i; position = position i; asked = asked i; learnt = learnt i }

module _ {W P I A : Type 0} (seen : W → Seen P I A) (earlier : W → Option (Position P I A × ℕ))
    (node : ℕ) (w : World P I A) where
  module _ {history : History} {origins : List Origin} {slots : List (Slot W)}
      {making : List (Option RunId)} {table : TableRuns} {end : Option End}
      (x : Shown seen w history origins slots making table end) where
    -- none of the events behind the node's own is of the request
    pub asking-still : (a : Asking W) → IsAsking seen earlier node w (marked history.events end) a
        → AreOfOthers a.id (drop a.number history.events)
        → IsOwn w history.events table.finished a.id (seen a.walk)
    asking-still a k others =
        let m = since k.events history.events end a.number k.number k.begins in
        own-still w k.events m.0 history.events k.table table.finished a.id (seen a.walk) x.state
        k.own k.table_is m.1 (subst (AreOfOthers a.id) m.2 others) x.history x.finished

    pub asking-here : (a : Asking W) → IsAsking seen earlier node w (marked history.events end) a
        → AreOfOthers a.id (drop a.number history.events) → IsAssignedTo w history.events a.id node
    asking-here a k others =
        let m = since k.events history.events end a.number k.number k.begins in
        still-here w k.events m.0 history.events a.id node x.state k.here m.1
        (subst (AreOfOthers a.id) m.2 others) x.history

    pub asking-back : (a : Asking W) → IsAsking seen earlier node w (marked history.events end) a
        → AreOfOthers a.id (drop a.number history.events)
        → CanGoBack seen earlier w history.events table.finished a.id a.walk a.answer
    asking-back a k others =
        let m = since k.events history.events end a.number k.number k.begins in
        let b = k.back in
        let table_is = ap (λ (s : State P I A). s.table)
        (one_state w k.events b.out.stands.state k.own.stands.state b.out.stands.history
        k.own.stands.history) ∙ k.table_is in
        record {
          position = b.position;
          asked = b.asked;
          stood = b.stood;
          out = out-still w k.events m.0 history.events k.table table.finished a.id _ a.answer
              x.state b.out table_is m.1 (subst (AreOfOthers a.id) m.2 others) x.history x.finished;
        }

    -- so it is with a walk that there was no memory to advance
    pub answered-still : (a : Answered W)
        → IsAnswered seen earlier node w (marked history.events end) a
        → AreOfOthers a.id (drop a.number history.events)
        → IsOut w history.events table.finished a.id (seen a.walk) a.answer
    answered-still a k others =
        let m = since k.events history.events end a.number k.number k.begins in
        out-still w k.events m.0 history.events k.table table.finished a.id (seen a.walk) a.answer
        x.state k.out k.table_is m.1 (subst (AreOfOthers a.id) m.2 others) x.history
        x.finished

    pub answered-here : (a : Answered W)
        → IsAnswered seen earlier node w (marked history.events end) a
        → AreOfOthers a.id (drop a.number history.events) → IsAssignedTo w history.events a.id node
    answered-here a k others =
        let m = since k.events history.events end a.number k.number k.begins in
        still-here w k.events m.0 history.events a.id node x.state k.here m.1
        (subst (AreOfOthers a.id) m.2 others) x.history

    -- a walk with its next answer, for which it knows enough
    pub handed : (id : ℕ) (walk : W) (answer : Answer) (number : ℕ) → end ≡ None →
        has_left node (marked history.events end) ≡ false → IsAssignedTo w history.events id node →
        IsOut w history.events table.finished id (seen walk) answer →
        number ≡ length history.events → length history.events < 2 ^ 63 →
        AreAlike (seen walk).world (seen walk).learnt table.finished (seen walk).position answer →
        IsAnswered seen earlier node w (marked history.events end)
        (record { id = id; walk = walk; answer = answer; number = number })
    handed id walk answer number none active here o n few enough =
        let enough_so : AreAlike w (seen walk).learnt table.finished (seen walk).position answer =
        subst (λ (v : World P I A).
        AreAlike v (seen walk).learnt table.finished (seen walk).position answer) o.world enough in
        let same = one_state w history.events o.stands.state x.state o.stands.history x.history in
        record {
          events = history.events;
          table = table.finished;
          number = n;
          few = few;
          begins = none-more history.events history.events None end refl refl;
          active = ap (λ o. has_left node (marked history.events o)) (sym none) ∙ active;
          here = here;
          out = o;
          table_is = ap (λ (s : State P I A). s.table) same ∙ sym x.finished;
          enough = enough_so ∙ o.goes;
        }

  -- the walk has gone on with its answer
  pub asks-next : (past : List (Option Event)) (a : Answered W) (after : W) (ask : Ask)
      → IsAnswered seen earlier node w past a → ask ≡ ask_of (seen after).position →
      answered (seen a.walk).world (seen a.walk).learnt (seen a.walk).position a.answer
      ≡ Some (seen after).position → (seen after).asked ≡ (seen a.walk).asked + 1 →
      (seen after).world ≡ (seen a.walk).world → (seen after).learnt ≡ (seen a.walk).learnt
      → earlier after ≡ Some ((seen a.walk).position, (seen a.walk).asked) →
      IsAsking seen earlier node w past
      (record { id = a.id; walk = after; answer = a.answer; ask = ask; number = a.number })
  asks-next past a after ask k asks goes_on same_asked same_world same_learnt stood =
      let goes_so : answered w (seen a.walk).learnt (seen a.walk).position a.answer
      ≡ Some (seen after).position =
      subst (λ (v : World P I A). answered v (seen a.walk).learnt (seen a.walk).position a.answer
      ≡ Some (seen after).position) k.out.world goes_on in
      let stands_so : k.out.next ≡ (seen after).position = some-is k.out.next (seen after).position
      (sym k.enough ∙ goes_so) in
      record {
        events = k.events;
        table = k.table;
        number = k.number;
        begins = k.begins;
        active = k.active;
        here = k.here;
        back = record {
          position = (seen a.walk).position;
          asked = (seen a.walk).asked;
          stood = stood;
          out = subst (λ (v : Seen P I A). IsOut w k.events k.table a.id v a.answer)
              (seen-same (seen a.walk)
              (record {
                world = (seen after).world;
                position = (seen a.walk).position;
                asked =
                    (seen a.walk).asked;
                learnt = (seen after).learnt;
              }) (sym same_world) refl refl
              (sym same_learnt)) k.out;
        };
        own = record {
          stands = record {
            state = k.out.stands.state;
            origin = k.out.stands.origin;
            node = k.out.stands.node;
            history = k.out.stands.history;
            there = k.out.stands.there
                ∙ ap
                (λ (p : Position P I A). Some
                (placed k.out.stands.origin p (assigned k.out.stands.node))) stands_so;
          };
          world = same_world ∙ k.out.world;
          learnt = subst (λ l. ArePartOf l k.table) (sym same_learnt) k.out.learnt;
          asked = omega (arith, same_asked);
          few = let b = k.out.few in omega (arith, same_asked);
        };
        table_is = k.table_is;
        asks = sym asks;
      }

  -- there was no memory to advance the walk, which stands as before
  pub refused-again : (past : List (Option Event)) (a : Answered W) (after : W)
      → IsAnswered seen earlier node w past a → (seen after).world ≡ (seen a.walk).world
      → (seen after).position ≡ (seen a.walk).position → (seen after).asked ≡ (seen a.walk).asked →
      (seen after).learnt ≡ (seen a.walk).learnt
      → IsAnswered seen earlier node w past
      (record { id = a.id; walk = after; answer = a.answer; number = a.number })
  refused-again past a after k world position asked learnt =
      let same : seen a.walk ≡ seen after = seen-same (seen a.walk) (seen after) (sym world)
      (sym position) (sym asked) (sym learnt) in
      record {
        events = k.events;
        table = k.table;
        number = k.number;
        few = k.few;
        begins = k.begins;
        active = k.active;
        here = k.here;
        out = record {
          next = k.out.next;
          stands = k.out.stands;
          world = world ∙ k.out.world;
          learnt = subst (λ l. ArePartOf l k.table) (sym learnt) k.out.learnt;
          goes = ap (λ (p : Position P I A). answered w k.table p a.answer) position ∙ k.out.goes;
          turn = subst (λ n. IsInTurn n a.answer) (sym asked) k.out.turn;
          few = subst (λ n. n < length k.events) (sym asked) k.out.few;
        };
        table_is = k.table_is;
        enough = ap (λ (v : Seen P I A). answered w v.learnt v.position a.answer) (sym same)
            ∙ k.enough;
      }

  module _ (past : List (Option Event)) (a : Answered W) (k : IsAnswered seen earlier node w past a)
    where
      pub answer-fits : IsSome
          (answered (seen a.walk).world (seen a.walk).learnt (seen a.walk).position a.answer)
      answer-fits = ap is_some
          (subst
          (λ (v : World P I A). answered v (seen a.walk).learnt (seen a.walk).position a.answer
          ≡ Some k.out.next) (sym k.out.world) k.enough)

      pub answer-in-room : (seen a.walk).asked < 2 ^ 63
      answer-in-room = let b = k.out.few in let c = k.few in omega arith

pub turn-prop : (asked : ℕ) (answer : Answer) → IsProp (IsInTurn asked answer)
turn-prop asked First = hlevel props
turn-prop asked Go = hlevel props
turn-prop asked Use = hlevel props
turn-prop asked (Results results) = hlevel props

pub ask-prop : (a b : Ask) → IsProp (a ≡ b)
ask-prop a b = hlevel props

pub part-prop : (part table : Records) (p q : ArePartOf part table) → p ≡ q
part-prop part table p q =
    let a : p.in_order ≡ q.in_order = in_order-prop part p.in_order q.in_order in
    let b : p.shared ≡ q.shared = shared-prop part table p.shared q.shared in
    λ i. record { in_order = a i; shared = b i }
  where
    shared-prop : (part table : Records)
        → IsProp ((run : RunId) (made : _) → found part run ≡ Some made
        → found table run ≡ Some made)
    shared-prop part table = hlevel props

module _ {W P I A : Type 0} (seen : W → Seen P I A) (earlier : W → Option (Position P I A × ℕ))
    (w : World P I A) where
  -- a walk that stands as before
  pub refused-out : (events : List Event) (table : Records) (id : ℕ) (walk after : W)
      (answer : Answer) → IsOut w events table id (seen walk) answer
      → (seen after).world ≡ (seen walk).world → (seen after).position ≡ (seen walk).position →
      (seen after).asked ≡ (seen walk).asked → (seen after).learnt ≡ (seen walk).learnt
      → IsOut w events table id (seen after) answer
  refused-out events table id walk after answer o world position asked learnt = subst
      (λ (v : Seen P I A). IsOut w events table id v answer)
      (seen-same (seen walk) (seen after) (sym world) (sym position) (sym asked) (sym learnt)) o

  -- a walk that has learnt records of the table
  pub learnt-out : (events : List Event) (table : Records) (id : ℕ) (walk after : W)
      (answer : Answer) → IsOut w events table id (seen walk) answer →
      ArePartOf (seen after).learnt table → (seen after).world ≡ (seen walk).world →
      (seen after).position ≡ (seen walk).position → (seen after).asked ≡ (seen walk).asked →
      IsOut w events table id (seen after) answer
  learnt-out events table id walk after answer o part world position asked = record {
    next = o.next;
    stands = o.stands;
    world = world ∙ o.world;
    learnt = part;
    goes = ap (λ (p : Position P I A). answered w table p answer) position ∙ o.goes;
    turn = subst (λ n. IsInTurn n answer) (sym asked) o.turn;
    few = let a = o.few in omega (arith, asked);
  }

  -- and knows enough then
  pub learnt-alike : (table : Records) (walk after : W) (answer : Answer) →
      AreAlike (seen walk).world (seen after).learnt table (seen walk).position answer →
      (seen after).world ≡ (seen walk).world → (seen after).position ≡ (seen walk).position →
      AreAlike (seen after).world (seen after).learnt table (seen after).position answer
  learnt-alike table walk after answer alike world position =
      let these = (seen after).learnt in
      let here = (seen walk).position in
      subst (λ (p : Position P I A). AreAlike (seen after).world these table p answer)
      (sym position)
      (subst (λ (v : World P I A). AreAlike v these table here answer) (sym world) alike)

  -- a walk whose last answer is taken back
  pub back-out : (events : List Event) (table : Records) (id : ℕ) (walk after : W) (answer : Answer)
      → CanGoBack seen earlier w events table id walk answer
      → earlier walk ≡ Some ((seen after).position, (seen after).asked) →
      (seen after).world ≡ (seen walk).world → (seen after).learnt ≡ (seen walk).learnt
      → IsOut w events table id (seen after) answer
  back-out events table id walk after answer b stood world learnt =
      let pair : (b.position, b.asked) ≡ ((seen after).position, (seen after).asked) = some-is _ _
      (sym b.stood ∙ stood) in
      subst (λ (v : Seen P I A). IsOut w events table id v answer)
      (seen-same
      (record {
        world = (seen walk).world;
        position = b.position;
        asked = b.asked;
        learnt =
            (seen walk).learnt;
      }) (seen after) (sym world) (ap (λ p. p.0) pair) (ap (λ p. p.1) pair)
      (sym learnt)) b.out

  pub back-fits : (events : List Event) (table : Records) (id : ℕ) (walk : W) (answer : Answer)
      → CanGoBack seen earlier w events table id walk answer → IsSome (earlier walk)
  back-fits events table id walk answer b = ap is_some b.stood

  pub back-kept : (v : World P I A) (events after : List Event) (table now : Records) (id : ℕ)
      (walk held : W) (answer : Answer) → v ≡ w → after ≡ events → now ≡ table → held ≡ walk →
      CanGoBack seen earlier w events table id walk answer
      → CanGoBack seen earlier v after now id held answer
  back-kept v events after table now id walk held answer same es t h b =
      subst (λ (u : World P I A). CanGoBack seen earlier u after now id held answer) (sym same)
      (subst (λ es. CanGoBack seen earlier w es now id held answer) (sym es)
      (subst (λ t. CanGoBack seen earlier w events t id held answer) (sym t)
      (subst (λ (a : W). CanGoBack seen earlier w events table id a answer) (sym h) b)))
