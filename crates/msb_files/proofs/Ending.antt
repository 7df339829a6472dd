-- The end of a run, which the records before its own don't put into a journal.
use Rattle.std.proofs.Common.{
  ◌≡◌,
  ℕ,
  List,
  [],
  ◌∷◌,
  map,
  Bool,
  true,
  false,
  ◌||◌,
  Option,
  Some,
  None,
  refl,
  ap,
  ◌∙◌,
  sym,
  subst,
}
use Rattle.std.specs.List.{list_all}
use Rattle.msb_laws.specs.Asking.{and_then}
use Rattle.msb_values.specs.declared.act.Act.{Act}
use Rattle.result_cache.specs.declared.run.RunId.{RunId}
use Rattle.result_cache.specs.declared.record.Record.{Record}
use Rattle.result_cache.specs.Journal.{Journal, acted, ended, act_of, end_of, has, add, add_unless}
use Rattle.result_cache.specs.Replay.{
  Effect,
  puts_act,
  replays_run,
  effects_of,
  replays,
  replay_by,
  replay,
  replay_all,
  unless_there,
}
use Rattle.result_cache.specs.Same.{same_run, is_in, AreDistinct}
use Rattle.result_cache.specs.Table.{FinishedRun, Records}
use Rattle.result_cache.proofs.Closed.{replay-has}
use Rattle.result_cache.proofs.RunTests.{and_both, and_then-some, or_neither, same_run-true}
use Rattle.msb_files.specs.Before.{before, these_or}
use Rattle.msb_files.proofs.Replays.{runs_of}

-- ---- a run that goes on

module _ (run : RunId) where
  abbrev GoesOn : Journal → Type 0
  GoesOn journal = has (end_of run) journal ≡ false

  acted_goes_on : (journal : Journal) (other : RunId) (n : ℕ) (act : Act) → GoesOn journal →
      GoesOn (add journal (acted other n act))
  acted_goes_on journal other n act on = by (has (act_of other n) journal)
    where
      by : (b : Bool) → GoesOn (add_unless b journal (acted other n act))
      by true = on
      by false = on

  ended_goes_on : (journal : Journal) (other : RunId) (made : Record) → same_run other run ≡ false →
      GoesOn journal →
      GoesOn (add journal (ended other made))
  ended_goes_on journal other made apart on = by (has (end_of other) journal)
    where
      by : (b : Bool) → GoesOn (add_unless b journal (ended other made))
      by true = on
      by false = ap (λ b. b || has (end_of run) journal) apart ∙ on

  abbrev Keeps : (Journal → Option Journal) → Type 0
  Keeps f = (journal after : Journal) → GoesOn journal → f journal ≡ Some after → GoesOn after

  pub replays_go_on : (one : RunId → Journal → Option Journal) →
      ((other : RunId) → Keeps (one other)) →
      (effects : List Effect) → Keeps (replays one effects)
  replays_go_on one keeps [] journal after on is = let e : journal ≡ after = cc in subst GoesOn e on
  replays_go_on one keeps (puts_act other n act ∷ effects) journal after on is =
      replays_go_on one keeps effects (add journal (acted other n act)) after
      (acted_goes_on journal other n act on) is
  replays_go_on one keeps (replays_run other ∷ effects) journal after on is =
      let made = and_then-some (one other journal) (replays one effects) after is in
      replays_go_on one keeps effects made.0 after (keeps other journal made.0 on made.1) made.2

  end_goes_on : (f : FinishedRun) (o : Option Journal) (after : Journal) →
      same_run f.run run ≡ false →
      ((k : Journal) → o ≡ Some k → GoesOn k) →
      and_then o (λ k. Some (add k (ended f.run f.made))) ≡ Some after → GoesOn after
  end_goes_on f None after apart on is = absurd (cc)
  end_goes_on f (Some k) after apart on is =
      let e : add k (ended f.run f.made) ≡ after = cc in
      subst GoesOn e (ended_goes_on k f.run f.made apart (on k refl))

  by_goes_on : (there newest : Bool) (older : RunId → Journal → Option Journal) (f : FinishedRun)
      (other : RunId) →
      same_run f.run run ≡ false → ((r : RunId) → Keeps (older r)) →
      Keeps (replay_by there newest older f other)
  by_goes_on true newest older f other apart keeps journal after on is = let e : journal ≡ after =
      cc in subst GoesOn e on
  by_goes_on false true older f other apart keeps journal after on is =
      end_goes_on f (replays older (effects_of f.run f.made) journal) after apart
      (λ k e. replays_go_on older keeps (effects_of f.run f.made) journal k on e) is
  by_goes_on false false older f other apart keeps journal after on is =
      keeps other journal after on is

  there_goes_on : (b : Bool) → Keeps (unless_there b)
  there_goes_on true journal after on is = let e : journal ≡ after = cc in subst GoesOn e on
  there_goes_on false journal after on is = absurd (cc)

  pub replay_goes_on : (table : Records) → is_in run (runs_of table) ≡ false → (other : RunId) →
      Keeps (replay table other)
  replay_goes_on [] none other journal after on is =
      there_goes_on (has (end_of other) journal) journal after on is
  replay_goes_on (f ∷ table) none other journal after on is =
      let apart = or_neither (same_run f.run run) (is_in run (runs_of table)) none in
      by_goes_on (has (end_of other) journal) (same_run f.run other) (replay table) f other apart.0
      (replay_goes_on table apart.1) journal after on is

-- a run is not among those before it
pub not_before : (table : Records) (run : RunId) → AreDistinct (runs_of table) →
    is_in run (runs_of (before run table)) ≡ false
not_before [] run once = refl
not_before (f ∷ table) run once = by (same_run f.run run) refl (not_before table run once.1)
  where
    by : (b : Bool) → same_run f.run run ≡ b → is_in run (runs_of (before run table)) ≡ false →
        is_in run (runs_of (these_or b table (before run table))) ≡ false
    by true same rest = let e : f.run ≡ run = same_run-true f.run run same in
        ap (λ r. is_in r (runs_of table)) (sym e) ∙ once.0
    by false same rest = rest

pub end_is_new : (table : Records) (run : RunId) (made : Record) (journal after : Journal) →
    AreDistinct (runs_of table) →
    has (end_of run) journal ≡ false →
    replays (replay (before run table)) (effects_of run made) journal ≡ Some after →
    ended run made ∷ after ≡ add after (ended run made)
end_is_new table run made journal after once on is =
    let late = replays_go_on run (replay (before run table))
    (replay_goes_on run (before run table) (not_before table run once))
    (effects_of run made) journal after on is in
    ap (λ b. add_unless b after (ended run made)) (sym late)

-- ---- runs that have ended

pub all_there : (table : Records) (runs : List RunId) (journal : Journal) →
    list_all (λ run. has (end_of run) journal) runs ≡ true →
    replay_all table runs journal ≡ Some journal
all_there table [] journal there = refl
all_there table (run ∷ runs) journal there =
    let both = and_both (has (end_of run) journal)
    (list_all (λ r. has (end_of r) journal) runs) there in
    ap (λ o. and_then o (replays (replay table) (map replays_run runs)))
    (replay-has table run journal both.0)
    ∙ all_there table runs journal both.1
