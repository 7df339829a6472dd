-- A table that gains a run answers as before where it answered.
use Rattle.std.proofs.Common.{
  ◌≡◌,
  IsSome,
  inl,
  inr,
  Bool,
  true,
  false,
  ◌==◌,
  List,
  [],
  ◌∷◌,
  length,
  map,
  Option,
  None,
  Some,
  refl,
  ap,
  sym,
  ◌∙◌,
}
use Rattle.msb_laws.specs.Asking.{and_then}
use Rattle.result_cache.specs.declared.run.RunId.{RunId}
use Rattle.result_cache.specs.declared.request.RequestResult.{RequestResult}
use Rattle.result_cache.specs.declared.record.Record.{Record}
use Rattle.result_cache.specs.Journal.{Journal, end_of, acted, has, add}
use Rattle.result_cache.specs.Lists.{this_or}
use Rattle.result_cache.specs.Replay.{
  Effect,
  puts_act,
  replays_run,
  replays,
  replay_by,
  unless_there,
  replay,
  replay_all,
}
use Rattle.result_cache.specs.Same.{same_run}
use Rattle.result_cache.specs.Table.{
  FinishedRun,
  Records,
  BegunRun,
  found,
  request_of,
  begun_unless,
  without,
}
use Rattle.result_cache.proofs.Closed.{replay-has}
use Rattle.result_cache.proofs.RunTests.{clash, same_run-true, same_run-eq, and_then-some, tells}
use Rattle.build_meaning.specs.Walk.{gives, wants}
use Rattle.build_meaning.specs.World.{World}
use Rattle.build_meaning.specs.SoFar.{with_calls, runs_of}
use Rattle.build_meaning.specs.Stop.{ends, asks, run_on}
use Rattle.build_meaning.specs.State.{Place, walking, within}
use Rattle.build_meaning.specs.Step.{only_if}
use Rattle.result_cache.proofs.ReplayRelation.{rep-map, rep-one, Recorded}
use Rattle.build_meaning.proofs.GrowingTables.{same_table, one_newer, newer-replay}
use Rattle.build_meaning.proofs.HistoriesGoOn.{replay-total}
use Rattle.build_meaning.proofs.LawfulStates.{
  one_record,
  IsOnce,
  IsFinished,
  IsOrdered,
  replay-rep,
  beginner,
  beginner_or,
  found-grows,
}
use Rattle.build_scheduler.specs.declared.walker.Answer.{Answer}
use Rattle.build_scheduler.specs.declared.walker.Answer.TheVariants.{First, Go, Use, Results}
use Rattle.build_scheduler.specs.Learnt.{AreInOrder, ArePartOf}
use Rattle.build_scheduler.specs.Position.{Position, stopped_in, after_run, answered_at, answered}
use Rattle.build_scheduler.specs.Slots.{begun_if, unfinished}

-- a run that is replayed where it has not ended is finished
replayed-finished : (table : Records) (r : RunId) (j k : Journal) → has (end_of r) j ≡ false
    → replay table r j ≡ Some k → IsFinished table r
replayed-finished [] r j k h e = absurd (let a : None ≡ Some k = sym (ap (λ b. unless_there b j) h)
    ∙ e in cc)
replayed-finished (f ∷ table) r j k h e = go (same_run f.run r) refl
    (replayed-finished table r j k h)
  where
    go : (b : Bool) → same_run f.run r ≡ b → (replay table r j ≡ Some k → IsFinished table r)
        → (m : Record) × (this_or (same_run f.run r) (found table r) f.made ≡ Some m)
    go true q ih = (f.made, ap (λ b. this_or b (found table r) f.made) q)
    go false q ih =
        let older : replay table r j ≡ Some k = sym
        (ap (λ a. replay_by a (same_run f.run r) (replay table) f r j) h
        ∙ ap (λ b. replay_by false b (replay table) f r j) q) ∙ e in
        let y = ih older in (y.0, ap (λ b. this_or b (found table r) f.made) q ∙ y.1)

pub replay-more : (table : Records) (f : FinishedRun) → found table f.run ≡ None
    → (r : RunId) (j k : Journal) → replay table r j ≡ Some k → replay (f ∷ table) r j ≡ Some k
replay-more table f n r j k e = go (has (end_of r) j) refl
  where
    go : (b : Bool) → has (end_of r) j ≡ b → replay (f ∷ table) r j ≡ Some k
    go true h = replay-has (f ∷ table) r j h ∙ (sym (replay-has table r j h) ∙ e)
    go false h = newer-replay (one_newer same_table n) r j (replayed-finished table r j k h e) ∙ e

replays-more : (one two : RunId → Journal → Option Journal)
    → ((r : RunId) (j k : Journal) → one r j ≡ Some k → two r j ≡ Some k)
    → (effects : List Effect) (j k : Journal) → replays one effects j ≡ Some k
    → replays two effects j ≡ Some k
replays-more one two f [] j k e = e
replays-more one two f (puts_act r n p ∷ effects) j k e = replays-more one two f effects
    (add j (acted r n p)) k e
replays-more one two f (replays_run r ∷ effects) j k e =
    let y = and_then-some (one r j) (replays one effects) k e in
    ap (λ o. and_then o (replays two effects)) (f r j y.0 y.1)
    ∙ replays-more one two f effects y.0 k y.2

replay_all-more : (table : Records) (f : FinishedRun) → found table f.run ≡ None
    → (runs : List RunId) (j k : Journal) → replay_all table runs j ≡ Some k
    → replay_all (f ∷ table) runs j ≡ Some k
replay_all-more table f n runs j k e = replays-more (replay table) (replay (f ∷ table))
    (replay-more table f n) (map replays_run runs) j k e

-- in a table that is in order each run is once, and after the runs of its record's calls
once-of : (table : Records) → AreInOrder table → IsOnce table
once-of [] h = tt
once-of (f ∷ table) h = (h.0, once-of table h.2)

made-of : (o : Option Record) → IsSome o → (m : Record) × (o ≡ Some m)
made-of None h = absurd (cc)
made-of (Some m) h = (m, refl)

ordered-of : (table : Records) → AreInOrder table → IsOrdered table
ordered-of [] h = tt
ordered-of (f ∷ table) h = ((λ r i. made-of (found table r) (h.1 r i)), ordered-of table h.2)

-- what some records of a table replay, the table replays so
module _ (part table : Records) (ordered : AreInOrder table) (p : ArePartOf part table) where
  part-replay : (r : RunId) (j k : Journal) → replay part r j ≡ Some k → replay table r j ≡ Some k
  part-replay r j k e = go (has (end_of r) j) refl
    where
      go : (b : Bool) → has (end_of r) j ≡ b → replay table r j ≡ Some k
      go true h = replay-has table r j h ∙ (sym (replay-has part r j h) ∙ e)
      go false h =
          let m = replayed-finished part r j k h e in
          let y = replay-total table (ordered-of table ordered) r j
          (m.0, p.shared r m.0 m.1) in
          let d = rep-map (Recorded part) (Recorded table) p.shared
          (replay-rep part (once-of part p.in_order) r j k e) in
          let same : y.0 ≡ k = rep-one (Recorded table) (one_record table)
          (replay-rep table (once-of table ordered) r j y.0 y.1) k d in
          y.1 ∙ ap Some same

  pub part-replay_all : (runs : List RunId) (j k : Journal) →
      replay_all part runs j ≡ Some k → replay_all table runs j ≡ Some k
  part-replay_all runs j k e =
      replays-more (replay part) (replay table) part-replay (map replays_run runs) j k e

module _ {P I A : Type 0} (w : World P I A) (table : Records) (f : FinishedRun) where
  answered_at-more : found table f.run ≡ None → (journal : Journal) (runs : List RunId)
      (place : Place P I A) (answer : Answer) (next : Position P I A) →
      answered_at w table journal runs place answer ≡ Some next →
      answered_at w (f ∷ table) journal runs place answer ≡ Some next
  answered_at-more n journal runs place First next e = e
  answered_at-more n journal runs (walking (gives reply)) Go next e = e
  answered_at-more n journal runs (walking (wants site run b go)) Go next e = e
  answered_at-more n journal runs (within x (ends outcome)) Go next e = e
  answered_at-more n journal runs (within x (asks key keys go)) Go next e = e
  answered_at-more n journal runs (walking (gives reply)) Use next e = e
  answered_at-more n journal runs (walking (wants site run b go)) Use next e =
      let y = and_then-some (found table run)
      (λ made. and_then (replay table run journal)
      (λ next. Some (after_run runs run go made next))) next e in
      let z = and_then-some (replay table run journal)
      (λ next. Some (after_run runs run go y.0 next)) next y.2 in
      ap
      (λ o.
      and_then o
      (λ made. and_then (replay (f ∷ table) run journal)
      (λ next. Some (after_run runs run go made next)))) (found-grows table f n run y.0 y.1)
      ∙ (ap (λ o. and_then o (λ next. Some (after_run runs run go y.0 next)))
      (replay-more table f n run journal z.0 z.1) ∙ z.2)
  answered_at-more n journal runs (within x (ends outcome)) Use next e = e
  answered_at-more n journal runs (within x (asks key keys go)) Use next e = e
  answered_at-more n journal runs (walking (gives reply)) (Results results) next e = e
  answered_at-more n journal runs (walking (wants site run b go)) (Results results) next e = e
  answered_at-more n journal runs (within x (ends outcome)) (Results results) next e = e
  answered_at-more n journal runs (within x (asks key keys go)) (Results results) next e =
      let after : List RequestResult → Journal → Option (Position P I A) = λ results next. Some
      (stopped_in runs x.run x.go (run_on w.tools x.run (go results next) next (with_calls x.so_far
      (key ∷ keys) results))) in
      let y = and_then-some (only_if (length results == length (key ∷ keys)) results)
      (λ results. and_then (replay_all table (runs_of results) journal) (after results)) next e
      in
      let z = and_then-some (replay_all table (runs_of y.0) journal) (after y.0) next y.2 in
      ap
      (λ o.
      and_then o
      (λ results. and_then (replay_all (f ∷ table) (runs_of results) journal) (after results)))
      y.1
      ∙ (ap (λ o. and_then o (after y.0)) (replay_all-more table f n (runs_of y.0) journal z.0 z.1)
      ∙ z.2)

  pub answered-more : found table f.run ≡ None → (p next : Position P I A) (answer : Answer) →
      answered w table p answer ≡ Some next → answered w (f ∷ table) p answer ≡ Some next
  answered-more n p next answer e = answered_at-more n p.journal p.runs p.place answer next e

flip : (r s : RunId) → same_run r s ≡ same_run s r
flip r s = elim (tells (same_run r s)) [
  | inl t ↦ t ∙ sym (same_run-eq s r (sym (same_run-true r s t)))
  | inr n ↦ n
      ∙ sym
      (elim (tells (same_run s r)) [
        | inl t ↦ absurd (clash (same_run r s) (same_run-eq r s (sym (same_run-true s r t))) n)
        | inr
            m ↦ m
      ])
]

-- the begun runs that are not finished, after one of them is
pub unfinished-without : (table : Records) (f : FinishedRun) (begun : List BegunRun)
    → unfinished (f ∷ table) begun ≡ without f.run (unfinished table begun)
unfinished-without table f [] = refl
unfinished-without table f (b ∷ begun) = go (same_run f.run b.run) refl (found table b.run)
    (unfinished-without table f begun)
  where
    go : (t : Bool) → same_run f.run b.run ≡ t → (o : Option Record)
        → unfinished (f ∷ table) begun ≡ without f.run (unfinished table begun) →
        begun_if (this_or (same_run f.run b.run) o f.made) b (unfinished (f ∷ table) begun)
        ≡ without f.run (begun_if o b (unfinished table begun))
    go true e None ih =
        ap (λ t. begun_if (this_or t None f.made) b (unfinished (f ∷ table) begun)) e
        ∙ (ih
        ∙ sym
        (ap (λ t. begun_unless t b (without f.run (unfinished table begun)))
        (flip b.run f.run ∙ e)))
    go true e (Some made) ih = ap
        (λ t. begun_if (this_or t (Some made) f.made) b (unfinished (f ∷ table) begun)) e ∙ ih
    go false e None ih =
        ap (λ t. begun_if (this_or t None f.made) b (unfinished (f ∷ table) begun)) e
        ∙ (ap (λ bs. b ∷ bs) ih
        ∙ sym
        (ap (λ t. begun_unless t b (without f.run (unfinished table begun)))
        (flip b.run f.run ∙ e)))
    go false e (Some made) ih = ap
        (λ t. begun_if (this_or t (Some made) f.made) b (unfinished (f ∷ table) begun)) e ∙ ih

-- who has begun an unfinished run
pub unfinished-beginner : (table : Records) (begun : List BegunRun) (run : RunId)
    → found table run ≡ None → request_of (unfinished table begun) run ≡ beginner begun run
unfinished-beginner table [] run f = refl
unfinished-beginner table (b ∷ begun) run f = go (same_run b.run run) refl (found table b.run) refl
    (unfinished-beginner table begun run f)
  where
    go : (t : Bool) → same_run b.run run ≡ t → (o : Option Record) → found table b.run ≡ o
        → request_of (unfinished table begun) run ≡ beginner begun run →
        request_of (begun_if o b (unfinished table begun)) run
        ≡ beginner_or t b.by (beginner begun run)
    go true e None g ih = ap (λ t. this_or t (request_of (unfinished table begun) run) b.by) e
    go true e (Some made) g ih = absurd (let k : Some made ≡ None = sym g
        ∙ (ap (found table) (same_run-true b.run run e) ∙ f) in cc)
    go false e None g ih = ap (λ t. this_or t (request_of (unfinished table begun) run) b.by) e ∙ ih
    go false e (Some made) g ih = ih

-- a run that an unfinished one is not stays as it is
pub without-other : (begun : List BegunRun) (run other : RunId) → same_run other run ≡ false
    → request_of (without other begun) run ≡ request_of begun run
without-other [] run other n = refl
without-other (b ∷ begun) run other n = go (same_run b.run other) refl
    (without-other begun run other n)
  where
    go : (t : Bool) → same_run b.run other ≡ t
        → request_of (without other begun) run ≡ request_of begun run →
        request_of (begun_unless t b (without other begun)) run
        ≡ this_or (same_run b.run run) (request_of begun run) b.by
    go true e ih = ih
        ∙ sym
        (ap (λ t. this_or t (request_of begun run) b.by)
        (ap (λ r. same_run r run) (same_run-true b.run other e) ∙ n))
    go false e ih = ap (λ o. this_or (same_run b.run run) o b.by) ih
