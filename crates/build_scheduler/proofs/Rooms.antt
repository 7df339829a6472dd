-- A core with more room shows what it showed.
use Rattle.std.specs.Prelude.{OnOk, OnErr, Result, Ok, Err}
use Rattle.std.proofs.Common.{
  ◌≡◌,
  ◌≤◌,
  ◌+◌,
  ◌*◌,
  ℕ,
  List,
  length,
  Option,
  ap,
  sym,
  ◌∙◌,
  subst,
  arith,
}
use Rattle.std.proofs.Math.Bridge.{le_prop}
use Rattle.std.proofs.Math.Logic.{∥∥₁_elim}
use Rattle.result_cache.specs.declared.run.RunId.{RunId}
use Rattle.result_cache.specs.Table.{TableRuns}
use Rattle.build_meaning.specs.declared.event.Event.{Event}
use Rattle.build_meaning.specs.Lists.{at, Paired}
use Rattle.build_meaning.specs.World.{World}
use Rattle.build_meaning.specs.History.{IsHistory}
use Rattle.build_scheduler.specs.declared.slot.Origin.{Origin}
use Rattle.build_scheduler.specs.declared.slot.Slot.{Slot}
use Rattle.build_scheduler.specs.declared.slot.End.{End}
use Rattle.build_scheduler.specs.Ends.{ShowsStop}
use Rattle.build_scheduler.specs.History.{History}
use Rattle.build_scheduler.specs.Numbers.{among, Numbered}
use Rattle.build_scheduler.specs.Own.{Seen}
use Rattle.build_scheduler.specs.Requests.{HasSpare}
use Rattle.build_scheduler.specs.Shown.{Shown, Indexed, HaveNumbers, AreRooted, unready, numbers_of}
use Rattle.build_scheduler.specs.Slots.{owed_by, ShowsSlot}

module _ {W P I A : Type 0} (seen : W → Seen P I A) (w : World P I A) {history after : History}
    {origins os : List Origin} {slots ss : List (Slot W)} {making ms : List (Option RunId)}
    {table : TableRuns} {end : Option End} (ev : after.events ≡ history.events) where
  pub room-shown : history.room ≤ after.room → os ≡ origins → ss ≡ slots → ms ≡ making
      → Shown seen w history origins slots making table end → Shown seen w after os ss ms table end
  room-shown room o s m x = record {
    state = x.state;
    history = subst (λ es. IsHistory w es x.state) (sym ev) x.history;
    asked = o ∙ x.asked;
    rooted = subst AreRooted (sym o) x.rooted;
    each = subst
        (λ (xs : List (Slot W)). Paired (ShowsSlot w x.state (length after.events) seen) xs
        x.state.requests) (sym s)
        (subst (λ es. Paired (ShowsSlot w x.state (length es) seen) slots x.state.requests) (sym ev)
        x.each);
    bodies = m ∙ x.bodies;
    finished = x.finished;
    begun = x.begun;
    room = let r : owed_by x.state.requests ≤ history.room = x.room in omega arith;
    ends = x.ends;
  }

pub room-stops : {P I A : Type 0} (w : World P I A) {events es : List Event} (end : Option End)
    → es ≡ events → ∥ ShowsStop w events end ∥₁ → ∥ ShowsStop w es end ∥₁
room-stops w end ev h = subst (λ es. ∥ ShowsStop w es end ∥₁) (sym ev) h

-- so many events more than are owed
pub spare-of : {W P I A : Type 0} (seen : W → Seen P I A) (w : World P I A)
    {history after : History}
    {origins : List Origin} {slots : List (Slot W)} {making : List (Option RunId)}
    {table : TableRuns} {end : Option End} → after.events ≡ history.events → (count more : ℕ) →
    after.room ≡ history.room + more → more ≡ 2 + 2 * count
    → Shown seen w history origins slots making table end → HasSpare w after (2 + 2 * count)
spare-of seen w {history} ev count more room m x = record {
  state = x.state;
  history = subst (λ es. IsHistory w es x.state) (sym ev) x.history;
  spare = let r : owed_by x.state.requests ≤ history.room = x.room in omega arith;
}

pub room-indexed : {W : Type 0} {slots ss : List (Slot W)} {ready next : Numbered}
    {waiting lists : List Numbered} → ss ≡ slots → next.numbers ≡ ready.numbers
    → ready.room ≤ next.room → HaveNumbers waiting lists → Indexed slots ready waiting
    → Indexed ss next lists
room-indexed {W} {slots} {ss} {ready} {next} {waiting} {lists} s n r l x = subst
    (λ (xs : List (Slot W)). Indexed xs next lists) (sym s) (record {
      listed = λ m. ap (among m) n ∙ x.listed m;
      room = let b : unready slots ≤ ready.room = x.room in omega arith;
      lists = l.lists ∙ x.lists;
      waits = λ by m. ap (among m) (l.numbers by) ∙ x.waits by m;
    })

pub same-numbers : {waiting lists : List Numbered} → lists ≡ waiting → HaveNumbers waiting lists
same-numbers e = record { lists = ap length e; numbers = λ by. ap (λ xs. numbers_of (at xs by)) e }

pub unready-room : {W : Type 0} {slots ss : List (Slot W)} {ready : Numbered}
    {waiting : List Numbered} (count room : ℕ) → ss ≡ slots → room ≡ ready.room + count
    → ∥ Indexed slots ready waiting ∥₁ → unready ss + count ≤ room
unready-room {slots = slots} {ready = ready} count room s r indexed = ∥∥₁_elim indexed
    (λ p q. le_prop p q) (λ x. let b : unready slots
    ≤ ready.room = x.room in let u = ap unready s in omega arith)

-- room is only added
pub room-kept : {T E : Type 0} (r : Result T E) (old new more : ℕ) → OnOk r (new ≡ old + more)
    → OnErr r (new ≡ old) → old ≤ new
room-kept (Ok x) old new more h k = omega (arith, h)
room-kept (Err e) old new more h k = omega (arith, k)
