-- What a legal history says of its last state.
use Rattle.std.proofs.Common.{
  ◌≡◌,
  Bool,
  true,
  List,
  [],
  ◌∷◌,
  ◌++◌,
  Option,
  None,
  Some,
  refl,
  ap,
  sym,
  ◌∙◌,
}
use Rattle.std.proofs.Props.{props}
use Rattle.std.specs.Prelude.{IsSome, is_some}
use Rattle.result_cache.specs.declared.run.RunId.{RunId}
use Rattle.result_cache.specs.declared.record.Record.{Record}
use Rattle.result_cache.specs.Lists.{In}
use Rattle.result_cache.specs.Replay.{replays_run, effects_of}
use Rattle.result_cache.specs.Table.{FinishedRun, Records, found}
use Rattle.build_meaning.specs.declared.event.Event.{Event}
use Rattle.build_meaning.specs.World.{World}
use Rattle.build_meaning.specs.State.{State, start}
use Rattle.build_meaning.specs.Step.{step}
use Rattle.build_meaning.specs.History.{IsHistory}
use Rattle.build_meaning.proofs.LawfulStates.{IsOnce, IsOrdered, IsFinished, Lawful}
use Rattle.build_meaning.proofs.EventsKeepLawful.{some-is, start-lawful, all-lawful}
use Rattle.build_meaning.proofs.OpenRequests.{Kindred, start-kindred, all-kindred}
use Rattle.build_meaning.proofs.ConsistentTables.{after-more}
use Rattle.build_scheduler.specs.Learnt.{AreInOrder}

found-some : (table : Records) (run : RunId) → IsFinished table run → IsSome (found table run)
found-some table run (made, e) = ap is_some e

pub truth-prop : (a b : Bool) → IsProp (a ≡ b)
truth-prop a b = hlevel props

pub some-prop : {X : Type 0} (o : Option X) → IsProp (IsSome o)
some-prop o = truth-prop (is_some o) true

absent-prop : (o : Option Record) → IsProp (o ≡ None)
absent-prop o = hlevel props

called-prop : (table : Records) (f : FinishedRun)
    (p q : (run : RunId) → In (replays_run run) (effects_of f.run f.made)
    → IsSome (found table run)) → p ≡ q
called-prop table f = hlevel props

pub in_order-prop : (table : Records) (p q : AreInOrder table) → p ≡ q
in_order-prop [] p q = refl
in_order-prop (f ∷ table) p q =
    let a : p.0 ≡ q.0 = absent-prop (found table f.run) p.0 q.0 in
    let b : p.1 ≡ q.1 = called-prop table f p.1 q.1 in
    let c : p.2 ≡ q.2 = in_order-prop table p.2 q.2 in λ i. (a i, b i, c i)

pub ordered-in_order : (table : Records) → IsOnce table → IsOrdered table → AreInOrder table
ordered-in_order [] o h = tt
ordered-in_order (f ∷ table) o h =
    (o.0, (λ run i. found-some table run (h.0 run i)), ordered-in_order table o.1 h.1)

module _ {P I A : Type 0} (w : World P I A) where
  pub one_state : (events : List Event) (s t : State P I A) → IsHistory w events s
      → IsHistory w events t → s ≡ t
  one_state events s t h g = some-is s t (sym h ∙ g)

  pub lawful : (events : List Event) (s : State P I A) → IsHistory w events s → Lawful s
  lawful events s h = all-lawful w events (start w) s (start-lawful w) h

  pub kindred : (events : List Event) (s : State P I A) → IsHistory w events s → Kindred s
  kindred events s h = all-kindred w events (start w) s (start-lawful w) (start-kindred w) h

  pub more : (events : List Event) (event : Event) (s t : State P I A) → IsHistory w events s
      → step w s event ≡ Some t → IsHistory w (events ++ event ∷ []) t
  more events event s t h e = after-more w events event (start w) s t h e

  pub table_in_order : (events : List Event) (s : State P I A) → IsHistory w events s
      → AreInOrder s.table
  table_in_order events s h = let v = lawful events s h in ordered-in_order s.table v.once v.ordered
