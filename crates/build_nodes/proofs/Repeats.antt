-- A request that is over at once adds events to the history, and none of them is a Retire.
use Rattle.std.proofs.Common.{
  ◌≡◌,
  ◌+◌,
  ◌<◌,
  ◌||◌,
  ℕ,
  Bool,
  true,
  false,
  List,
  [],
  ◌∷◌,
  ◌++◌,
  length,
  drop,
  Option,
  None,
  refl,
  ap,
  sym,
  ◌∙◌,
  arith,
  length-append,
  subst,
}
use Rattle.std.specs.List.{list_any}
use Rattle.std.proofs.Math.Bridge.{le_prop}
use Rattle.std.proofs.Math.Logic.{∥∥₁_elim}
use Rattle.std.proofs.Props.{props}
use mathlib.Core.List.{IsPrefix}
use Rattle.result_cache.specs.declared.run.RunId.{RunId}
use Rattle.result_cache.specs.Table.{Records}
use Rattle.build_meaning.specs.declared.event.Event.{Event}
use Rattle.build_meaning.specs.declared.event.Event.TheVariants.{Done}
use Rattle.build_meaning.specs.World.{World}
use Rattle.build_history.specs.Repeated.{uses_of_all}
use Rattle.build_scheduler.specs.declared.slot.End.{End}
use Rattle.build_scheduler.specs.Kept.{IsRepeat, IsRepeated, repeats}
use Rattle.build_scheduler.specs.Ready.{IsSomeReady}
use Rattle.build_nodes.specs.Leaving.{has_left, is_retire_of}
use Rattle.build_nodes.specs.Marked.{marked}
use Rattle.build_nodes.proofs.Active.{active-all, any-append}
use Rattle.build_nodes.proofs.Marks.{ahead, drop-front}

uses-no-retire : (by id : ℕ) (runs : List RunId) →
    list_any (is_retire_of by) (uses_of_all id runs) ≡ false
uses-no-retire by id [] = refl
uses-no-retire by id (run ∷ runs) = uses-no-retire by id runs

repeats-no-retire : (by id node : ℕ) (runs : List RunId) →
    list_any (is_retire_of by) (repeats id node runs) ≡ false
repeats-no-retire by id node runs =
    any-append by (uses_of_all id runs) (Done id ∷ [])
    ∙ ap (λ b. b || list_any (is_retire_of by) (Done id ∷ [])) (uses-no-retire by id runs)

front-prop : (events after : List Event) → IsProp (after ≡ events ++ drop (length events) after)
front-prop events after = hlevel props

module _ {P I A : Type 0} (w : World P I A) (table : Records) (events after : List Event)
    (id node : ℕ) where
  is-front : IsRepeat w table events after id node → after ≡ events ++ drop (length events) after
  is-front r =
      let more = repeats id node r.rest in
      let behind : drop (length events) after ≡ more =
      ap (drop (length events)) r.is ∙ drop-front events more in
      r.is ∙ ap (λ l. events ++ l) (sym behind)

  pub repeated-grows : (b : Bool) → b ≡ true → IsRepeated w table events after id node b →
      length events < length after
  repeated-grows true e h = ∥∥₁_elim h (λ p q. le_prop p q) (λ r.
      let sum = ap length r.is ∙ length-append events (repeats id node r.rest) in omega arith)
  repeated-grows false e h = absurd (cc)

  pub repeated-continues : (b : Bool) (before now : Option End) → b ≡ true → before ≡ None →
      IsRepeated w table events after id node b → IsPrefix (marked events before) (marked after now)
  repeated-continues true before now e none h =
      ahead events after (drop (length events) after) before now none
      (∥∥₁_elim h (front-prop events after) is-front)
  repeated-continues false before now e none h = absurd (cc)

  pub repeated-active : (b : Bool) (by : ℕ) (before now : Option End) → b ≡ true →
      before ≡ None → now ≡ None → IsRepeated w table events after id node b →
      has_left by (marked events before) ≡ false → has_left by (marked after now) ≡ false
  repeated-active true by before now e none still h active =
      ∥∥₁_elim h (hlevel props) (λ r.
      active-all by events after (repeats id node r.rest) before now none still r.is
      (repeats-no-retire by id node r.rest) active)
  repeated-active false by before now e none still h active = absurd (cc)

  -- else no event has come
  pub not-repeated : (b : Bool) → b ≡ false → IsRepeated w table events after id node b →
      after ≡ events
  not-repeated true e h = absurd (cc)
  not-repeated false e h = h

-- where nothing has changed, the same request is ready
pub still-ready : {P I A : Type 0} (w v : World P I A) (events after : List Event)
    (before next : Option ℕ) → v ≡ w → after ≡ events → before ≡ next →
    IsSomeReady w events before → IsSomeReady v after next
still-ready {P} {I} {A} w v events after before next e f g h =
    subst (IsSomeReady v after) g
    (subst (λ es. IsSomeReady v es before) (sym f)
    (subst (λ (u : World P I A). IsSomeReady u events before) (sym e) h))
