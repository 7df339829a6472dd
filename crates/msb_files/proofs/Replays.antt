-- How a run's record is replayed by the records before it.
use Rattle.std.proofs.Common.{
  ◌≡◌,
  ℕ,
  ◌<◌,
  List,
  [],
  ◌∷◌,
  length,
  map,
  Bool,
  true,
  false,
  ◌||◌,
  Option,
  Some,
  None,
  IsSome,
  IfSome,
  is_some,
  Result,
  Ok,
  Err,
  OnOk,
  get_or,
  ◌⊎◌,
  inl,
  inr,
  refl,
  ap,
  ◌∙◌,
  sym,
  subst,
  arith,
}
use Rattle.std.proofs.lemmas.Option.{slice_get-get_or}
use Rattle.msb_laws.specs.Asking.{and_then}
use Rattle.msb_values.specs.declared.errors.NoMemory.{NoMemory}
use Rattle.msb_values.specs.declared.act.Act.{Act}
use Rattle.result_cache.specs.declared.run.RunId.{RunId}
use Rattle.result_cache.specs.declared.record.Record.{Record}
use Rattle.result_cache.specs.Found.{FoundIn}
use Rattle.result_cache.specs.Journal.{Journal, Entry, acted, ended, end_of, has, add}
use Rattle.result_cache.specs.Lists.{this_or}
use Rattle.result_cache.specs.Replay.{effects_of, replays, replay_by, replay, unless_there}
use Rattle.result_cache.specs.Same.{same_run, is_in, AreDistinct}
use Rattle.result_cache.specs.Table.{FinishedRun, Records, TableRuns, found}
use Rattle.result_cache.specs.declared.record.Segment.{Segment}
use Rattle.result_cache.specs.declared.record.Segment.TheVariants.{File}
use Rattle.result_cache.specs.declared.table.Found.{Found}
use Rattle.result_cache.specs.declared.table.Found.TheVariants.{Absent, Begun}
use Rattle.result_cache.proofs.RunTests.{same_run-true, or_right}
use Rattle.file_store.proofs.Order.{not_true}
use Rattle.msb_files.specs.Before.{before, these_or}
use Rattle.msb_files.specs.Recorded.{segment_act, act_at}

abbrev pub runs_of : Records → List RunId
runs_of = map (λ (f : FinishedRun). f.run)

-- a run that goes on in the journal, and that is in the table: its record is replayed by those
-- before it, and then it ends
abbrev pub taken : Records → RunId → Record → Journal → Option Journal
taken table run made journal = and_then
    (replays (replay (before run table)) (effects_of run made) journal)
    (λ after. Some (add after (ended run made)))

newest_taken : (f : FinishedRun) (run : RunId) (made : Record) (older : Records) (journal : Journal)
    → f.run ≡ run → f.made ≡ made →
    and_then (replays (replay older) (effects_of f.run f.made) journal)
    (λ after. Some (add after (ended f.run f.made)))
    ≡ and_then (replays (replay older) (effects_of run made) journal)
    (λ after. Some (add after (ended run made)))
newest_taken f run made older journal r m =
    ap
    (λ x. and_then (replays (replay older) (effects_of x f.made) journal)
    (λ after. Some (add after (ended x f.made)))) r
    ∙ ap
    (λ x. and_then (replays (replay older) (effects_of run x) journal)
    (λ after. Some (add after (ended run x)))) m

some_same : (a b : Record) → Some a ≡ Some b → a ≡ b
some_same a b e = cc

taken_at : (b : Bool) (f : FinishedRun) (run : RunId) (made : Record) (older : Records)
    (journal : Journal) → same_run f.run run ≡ b → this_or b (found older run) f.made ≡ Some made →
    (found older run ≡ Some made → replay older run journal ≡ taken older run made journal) →
    replay_by false b (replay older) f run journal
    ≡ and_then
    (replays (replay (these_or b older (before run older))) (effects_of run made) journal)
    (λ after. Some (add after (ended run made)))
taken_at true f run made older journal same is rest = newest_taken f run made older journal
    (same_run-true f.run run same) (some_same f.made made is)
taken_at false f run made older journal same is rest = rest is

pub replay_taken : (table : Records) (run : RunId) (made : Record) (journal : Journal)
    → has (end_of run) journal ≡ false → found table run ≡ Some made
    → replay table run journal ≡ taken table run made journal
replay_taken [] run made journal goes_on is = absurd (cc)
replay_taken (f ∷ table) run made journal goes_on is =
    ap (λ b. replay_by b (same_run f.run run) (replay table) f run journal) goes_on
    ∙ taken_at (same_run f.run run) f run made table journal refl is
    (replay_taken table run made journal goes_on)

-- a run that goes on, and that is not in the table, is not replayed
absent_at : (b : Bool) (f : FinishedRun) (run : RunId) (older : Records) (journal : Journal)
    → this_or b (found older run) f.made ≡ None
    → (found older run ≡ None → replay older run journal ≡ None)
    → replay_by false b (replay older) f run journal ≡ None
absent_at true f run older journal is rest = absurd (cc)
absent_at false f run older journal is rest = rest is

pub replay_absent : (table : Records) (run : RunId) (journal : Journal)
    → has (end_of run) journal ≡ false → found table run ≡ None → replay table run journal ≡ None
replay_absent [] run journal goes_on is = ap (λ b. unless_there b journal) goes_on
replay_absent (f ∷ table) run journal goes_on is =
    ap (λ b. replay_by b (same_run f.run run) (replay table) f run journal) goes_on
    ∙ absent_at (same_run f.run run) f run table journal is
    (replay_absent table run journal goes_on)

-- ---- a run among those before another one

found_in : (table : Records) (run : RunId) → IsSome (found table run)
    → is_in run (runs_of table) ≡ true
found_in [] run is = is
found_in (f ∷ table) run is = by (same_run f.run run) is (found_in table run)
  where
    by : (b : Bool) → IsSome (this_or b (found table run) f.made)
        → (IsSome (found table run) → is_in run (runs_of table) ≡ true)
        → (b || is_in run (runs_of table)) ≡ true
    by true h rest = refl
    by false h rest = rest h

-- it is shorter before a run that is there
pub before_shorter : (table : Records) (run : RunId) → is_in run (runs_of table) ≡ true
    → length (before run table) < length table
before_shorter [] run is = absurd (cc)
before_shorter (f ∷ table) run is = by (same_run f.run run) is (before_shorter table run)
  where
    by : (b : Bool) → (b || is_in run (runs_of table)) ≡ true
        → (is_in run (runs_of table) ≡ true → length (before run table) < length table)
        → length (these_or b table (before run table)) < length (f ∷ table)
    by true h rest = omega arith
    by false h rest = let r = rest h in omega arith

in_before : (table : Records) (outer run : RunId) → is_in run (runs_of (before outer table)) ≡ true
    → is_in run (runs_of table) ≡ true
in_before [] outer run h = h
in_before (f ∷ table) outer run h = or_right (same_run f.run run) _
    (by (same_run f.run outer) h (in_before table outer run))
  where
    by : (b : Bool) → is_in run (runs_of (these_or b table (before outer table))) ≡ true
        → (is_in run (runs_of (before outer table)) ≡ true → is_in run (runs_of table) ≡ true)
        → is_in run (runs_of table) ≡ true
    by true h rest = h
    by false h rest = rest h

-- another run than one that is later in the table
other_run : (first run : RunId) (runs : List RunId) → is_in first runs ≡ false
    → is_in run runs ≡ true → same_run first run ≡ false
other_run first run runs once there = not_true (same_run first run)
    (λ s. let e : is_in first runs ≡ true = ap (λ r. is_in r runs) (same_run-true first run s)
    ∙ there in cc)

not_newest : (f : FinishedRun) (older : Records) (run : RunId) (journal : Journal)
    → has (end_of run) journal ≡ false → same_run f.run run ≡ false
    → replay (f ∷ older) run journal ≡ replay older run journal
not_newest f older run journal goes_on other =
    ap (λ b. replay_by b (same_run f.run run) (replay older) f run journal) goes_on
    ∙ ap (λ b. replay_by false b (replay older) f run journal) other

-- a run that stands before another one is replayed by the whole table as by the records before that
pub replays_before : (table : Records) (outer run : RunId) (journal : Journal)
    → AreDistinct (runs_of table) → has (end_of run) journal ≡ false
    → is_in run (runs_of (before outer table)) ≡ true →
    replay table run journal ≡ replay (before outer table) run journal
replays_before [] outer run journal once goes_on there = refl
replays_before (f ∷ table) outer run journal once goes_on there =
    not_newest f table run journal goes_on
    (other_run f.run run (runs_of table) once.0 (by_in (same_run f.run outer) there))
    ∙ by (same_run f.run outer) there (replays_before table outer run journal once.1 goes_on)
  where
    by_in : (b : Bool) → is_in run (runs_of (these_or b table (before outer table))) ≡ true
        → is_in run (runs_of table) ≡ true
    by_in true h = h
    by_in false h = in_before table outer run h

    by : (b : Bool) → is_in run (runs_of (these_or b table (before outer table))) ≡ true
        → (is_in run (runs_of (before outer table)) ≡ true
        → replay table run journal ≡ replay (before outer table) run journal) →
        replay table run journal ≡ replay (these_or b table (before outer table)) run journal
    by true h rest = refl
    by false h rest = rest h

-- and fewer records stand before it than before that
pub before_fewer : (table : Records) (outer run : RunId) → AreDistinct (runs_of table)
    → is_in run (runs_of (before outer table)) ≡ true
    → length (before run table) < length (before outer table)
before_fewer [] outer run once there = absurd (cc)
before_fewer (f ∷ table) outer run once there =
    let other : same_run f.run run ≡ false = other_run f.run run (runs_of table) once.0
    (by_in (same_run f.run outer) there) in
    subst (λ b. length (these_or b table (before run table))
    < length (these_or (same_run f.run outer) table (before outer table))) (sym other)
    (by (same_run f.run outer) there (before_fewer table outer run once.1))
  where
    by_in : (b : Bool) → is_in run (runs_of (these_or b table (before outer table))) ≡ true
        → is_in run (runs_of table) ≡ true
    by_in true h = h
    by_in false h = in_before table outer run h

    by : (b : Bool) → is_in run (runs_of (these_or b table (before outer table))) ≡ true
        → (is_in run (runs_of (before outer table)) ≡ true
        → length (before run table) < length (before outer table)) →
        length (before run table) < length (these_or b table (before outer table))
    by true h rest = before_shorter table run h
    by false h rest = rest h

-- a run that goes on and is replayed is in the table
pub replayed_in : (table : Records) (run : RunId) (journal : Journal)
    → has (end_of run) journal ≡ false → IsSome (replay table run journal)
    → is_in run (runs_of table) ≡ true
replayed_in table run journal goes_on defined = found_in table run (by (found table run) refl)
  where
    by : (o : Option Record) → found table run ≡ o → IsSome o
    by (Some made) is = refl
    by None is = let none = replay_absent table run journal goes_on is in let e : is_some
        (replay table run journal) ≡ false = ap is_some none in cc

-- ---- what the code is told

is_some_first : (o : Option Journal) (f : Journal → Option Journal) → IsSome (and_then o f)
    → IsSome o
is_some_first None f h = h
is_some_first (Some journal) f h = refl

pub taken_defined : (table : Records) (run : RunId) (made : Record) (journal : Journal)
    → has (end_of run) journal ≡ false → found table run ≡ Some made
    → IsSome (replay table run journal)
    → IsSome (replays (replay (before run table)) (effects_of run made) journal)
taken_defined table run made journal goes_on is defined = is_some_first
    (replays (replay (before run table)) (effects_of run made) journal)
    (λ after. Some (add after (ended run made)))
    (subst (λ o. IsSome o) (replay_taken table run made journal goes_on is) defined)

pub taken_gives : (table : Records) (run : RunId) (made : Record) (journal after : Journal)
    → has (end_of run) journal ≡ false → found table run ≡ Some made
    → replays (replay (before run table)) (effects_of run made) journal ≡ Some after
    → replay table run journal ≡ Some (add after (ended run made))
taken_gives table run made journal after goes_on is gives = replay_taken table run made journal
    goes_on is ∙ ap (λ o. and_then o (λ k. Some (add k (ended run made)))) gives

-- a table that has no record of the run
pub not_found : (table : TableRuns) (run : RunId) (answer : Found) → FoundIn table run answer
    → (answer ≡ Absent) ⊎ ((x : ℕ) × (answer ≡ Begun x)) → found table.finished run ≡ None
not_found table run answer is (inl absent) = (subst (FoundIn table run) absent is).0
not_found table run answer is (inr begun) = (subst (FoundIn table run) begun.1 is).0

pub never : (table : Records) (run : RunId) (journal : Journal) → has (end_of run) journal ≡ false
    → IsSome (replay table run journal) → found table run ≡ None → ⊥
never table run journal goes_on defined is = let none : is_some (replay table run journal)
    ≡ false = ap is_some (replay_absent table run journal goes_on is) in cc

pub if_ok : {P Q : Type 0} (r : Result (Unit {0}) NoMemory) → OnOk r P → (P → Q) → OnOk r Q
if_ok (Ok done) h f = f h
if_ok (Err fault) h f = h

-- the file of a segment that is a write
pub recorded_is : (made : Record) (run : RunId) (n : ℕ) (segment : Segment) (act : Act) (e : Entry)
    → n < length made.segments → segment ≡ get_or made.segments n segment → segment ≡ File act →
    IfSome (act_at made n) (λ p. e ≡ acted run n p) → e ≡ acted run n act
recorded_is made run n segment act e within at is gives =
    let there : act_at made n ≡ Some act = ap segment_act
    (slice_get-get_or made.segments n segment within ∙ ap Some (sym at ∙ is)) in
    subst (λ o. IfSome o (λ p. e ≡ acted run n p)) there gives
