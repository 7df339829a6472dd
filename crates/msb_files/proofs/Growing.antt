-- What merges and replays make of a journal, entry by entry.
use Rattle.std.proofs.Common.{
  ◌≡◌,
  List,
  [],
  ◌∷◌,
  ◌++◌,
  Bool,
  true,
  false,
  not,
  ◌||◌,
  Option,
  Some,
  None,
  cond,
  refl,
  ap,
  ◌∙◌,
  sym,
  subst,
}
use Rattle.std.specs.List.{filter}
use Rattle.msb_laws.specs.Asking.{and_then}
use Rattle.result_cache.specs.declared.run.RunId.{RunId}
use Rattle.result_cache.specs.Journal.{
  Journal,
  Entry,
  acted,
  ended,
  end_of,
  Mark,
  mark,
  same_mark,
  has,
  add,
  add_unless,
  merge,
}
use Rattle.result_cache.specs.Replay.{
  Effect,
  puts_act,
  replays_run,
  effects_of,
  replays,
  replay_by,
  replay,
  unless_there,
}
use Rattle.result_cache.specs.Same.{same_run}
use Rattle.result_cache.specs.Table.{FinishedRun, Records}
use Rattle.result_cache.proofs.RunTests.{or_neither, and_then-some}
use Rattle.msb_files.specs.Growth.{AreOnce, news, AreNew, Grows}
use Rattle.msb_files.proofs.Contents.{has-append}

-- ---- what every entry that is added keeps, merges and replays keep

module _ (P : Journal → Type 0) (kept : (journal : Journal) (e : Entry) → P journal
    → P (add journal e)) where
  pub merge_keeps : (journal other : Journal) → P journal → P (merge journal other)
  merge_keeps journal [] p = p
  merge_keeps journal (e ∷ other) p = kept (merge journal other) e (merge_keeps journal other p)

  abbrev Keeps : (Journal → Option Journal) → Type 0
  Keeps f = (journal after : Journal) → P journal → f journal ≡ Some after → P after

  replays_keep : (one : RunId → Journal → Option Journal) → ((run : RunId) → Keeps (one run))
      → (effects : List Effect) → Keeps (replays one effects)
  replays_keep one keeps [] journal after p is = let e : journal ≡ after = cc in subst P e p
  replays_keep one keeps (puts_act run place act ∷ effects) journal after p is = replays_keep one
      keeps effects (add journal (acted run place act)) after (kept journal (acted run place act) p)
      is
  replays_keep one keeps (replays_run run ∷ effects) journal after p is =
      let made = and_then-some (one run journal) (replays one effects) after is in
      replays_keep one keeps effects made.0 after (keeps run journal made.0 p made.1) made.2

  ends_keep : (f : FinishedRun) (o : Option Journal) (after : Journal)
      → ((k : Journal) → o ≡ Some k → P k) → and_then o (λ k. Some (add k (ended f.run f.made)))
      ≡ Some after → P after
  ends_keep f None after p is = absurd (cc)
  ends_keep f (Some k) after p is = let e : add k (ended f.run f.made)
      ≡ after = cc in subst P e (kept k (ended f.run f.made) (p k refl))

  by_keeps : (ended_there newest : Bool) (older : RunId → Journal → Option Journal)
      (f : FinishedRun) (run : RunId) → ((r : RunId) → Keeps (older r))
      → Keeps (replay_by ended_there newest older f run)
  by_keeps true newest older f run keeps journal after p is = let e : journal
      ≡ after = cc in subst P e p
  by_keeps false true older f run keeps journal after p is = ends_keep f
      (replays older (effects_of f.run f.made) journal) after
      (λ k e. replays_keep older keeps (effects_of f.run f.made) journal k p e) is
  by_keeps false false older f run keeps journal after p is = keeps run journal after p is

  there_keeps : (b : Bool) → Keeps (unless_there b)
  there_keeps true journal after p is = let e : journal ≡ after = cc in subst P e p
  there_keeps false journal after p is = absurd (cc)

  pub replay_keeps : (table : Records) (run : RunId) → Keeps (replay table run)
  replay_keeps [] run journal after p is = there_keeps (has (end_of run) journal) journal after p is
  replay_keeps (f ∷ table) run journal after p is = by_keeps (has (end_of run) journal)
      (same_run f.run run) (replay table) f run (replay_keeps table) journal after p is

-- ---- each entry once

once_unless : (b : Bool) (journal : Journal) (e : Entry) → has (mark e) journal ≡ b
    → AreOnce journal → AreOnce (add_unless b journal e)
once_unless true journal e is once = once
once_unless false journal e is once = (is, once)

pub once_added : (journal : Journal) (e : Entry) → AreOnce journal → AreOnce (add journal e)
once_added journal e once = once_unless (has (mark e) journal) journal e refl once

-- ---- entries in front

new_in_part : (entries gained before : Journal) → AreNew entries (gained ++ before)
    → AreNew entries before
new_in_part [] gained before new = new
new_in_part (e ∷ entries) gained before new = (
  (or_neither _ _ (sym (has-append (mark e) gained before) ∙ new.0)).1,
  new_in_part entries
      gained before new.1,
)

grows_unless : (b : Bool) (before journal : Journal) (e : Entry) → has (mark e) journal ≡ b
    → Grows before journal → Grows before (add_unless b journal e)
grows_unless true before journal e is grows = grows
grows_unless false before journal e is grows = record {
  gained = e ∷ grows.gained;
  in_front = ap (λ j. e ∷ j) grows.in_front;
  are_new = (
    (or_neither _ _
        (sym (ap (has (mark e)) grows.in_front ∙ has-append (mark e) grows.gained before) ∙ is)).1,
    grows.are_new,
  );
}

pub grows_added : (before journal : Journal) (e : Entry) → Grows before journal
    → Grows before (add journal e)
grows_added before journal e grows = grows_unless (has (mark e) journal) before journal e refl grows

pub grows_itself : (journal : Journal) → Grows journal journal
grows_itself journal = record { gained = []; in_front = refl; are_new = tt }

-- ---- what a merge puts in front

absent_kept : (m : Mark) (e : Entry) (b : Bool) (entries kept : Journal)
    → (same_mark (mark e) m || has m entries) ≡ false → has m kept ≡ false
    → has m (cond b (e ∷ kept) kept) ≡ false
absent_kept m e true entries kept none rest = ap (λ c. c || has m kept) (or_neither _ _ none).0
    ∙ rest
absent_kept m e false entries kept none rest = rest

absent_in_part : (m : Mark) (p : Entry → Bool) (entries : Journal) → has m entries ≡ false
    → has m (filter p entries) ≡ false
absent_in_part m p [] none = refl
absent_in_part m p (e ∷ entries) none = absent_kept m e (p e) entries (filter p entries) none
    (absent_in_part m p entries (or_neither _ _ none).1)

front_unless : (b : Bool) (e : Entry) (front journal : Journal)
    → add_unless b (front ++ journal) e ≡ cond (not b) (e ∷ front) front ++ journal
front_unless true e front journal = refl
front_unless false e front journal = refl

pub merge-news : (journal other : Journal) → AreOnce other
    → merge journal other ≡ news journal other ++ journal
merge-news journal [] once = refl
merge-news journal (e ∷ other) once =
    let rest = news journal other in
    ap (λ j. add j e) (merge-news journal other once.1)
    ∙ (ap (λ b. add_unless b (rest ++ journal) e)
    (has-append (mark e) rest journal ∙ ap (λ b. b || has (mark e) journal)
    (absent_in_part (mark e) (λ x. not (has (mark x) journal)) other once.0))
    ∙ front_unless (has (mark e) journal) e rest journal)
