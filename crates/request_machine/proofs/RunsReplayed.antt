-- The runs of results, replayed one result after another.
use Rattle.std.proofs.Common.{
  ◌≡◌,
  ℕ,
  ◌+◌,
  ◌-◌,
  ◌<◌,
  true,
  List,
  [],
  ◌∷◌,
  ◌++◌,
  length,
  map,
  drop,
  take,
  get_or,
  slice_get,
  Option,
  Some,
  None,
  IsSome,
  refl,
  ap,
  ◌∙◌,
  sym,
  subst,
  arith,
}
use Rattle.std.proofs.lemmas.List.{drop_more, map-append, take_all}
use Rattle.std.specs.Cmp.Lexicographic.{pointwise, pointwise_decides}
use Rattle.msb_laws.specs.Asking.{and_then}
use Rattle.result_cache.specs.declared.request.RequestResult.{RequestResult}
use Rattle.result_cache.specs.declared.run.RunId.{RunId}
use Rattle.result_cache.specs.Journal.{Journal, acted, add}
use Rattle.result_cache.specs.Replay.{Effect, puts_act, replays_run, replay, replay_all, replays}
use Rattle.result_cache.specs.Same.{same_run}
use Rattle.result_cache.specs.Table.{Records}
use Rattle.result_cache.proofs.RunTests.{same_run-true, same_run-eq}
use Rattle.build_meaning.specs.SoFar.{runs_of}

module _ (one : RunId → Journal → Option Journal) where
  from_run : (o : Option Journal) (first rest : List Effect)
      → ((j : Journal) → replays one (first ++ rest) j
      ≡ and_then (replays one first j) (replays one rest)) →
      and_then o (replays one (first ++ rest))
      ≡ and_then (and_then o (replays one first)) (replays one rest)
  from_run None first rest later = refl
  from_run (Some j) first rest later = later j

  replays-append : (first rest : List Effect) (journal : Journal)
      → replays one (first ++ rest) journal ≡ and_then (replays one first journal)
      (replays one rest)
  replays-append [] rest journal = refl
  replays-append (puts_act run place act ∷ first) rest journal = replays-append first rest
      (add journal (acted run place act))
  replays-append (replays_run run ∷ first) rest journal = from_run (one run journal) first rest
      (replays-append first rest)

module _ (table : Records) (results : List RequestResult) (i : ℕ) (r : RequestResult)
    (within : i < length results) (at : r ≡ get_or results i r) where
  next : drop i results ≡ r ∷ drop (i + 1) results
  next = drop_more results i r within ∙ ap (λ x. x ∷ drop (i + 1) results) (sym at)

  result_first : (journal : Journal) → replay_all table (runs_of (drop i results)) journal
      ≡ and_then (replay_all table r.runs journal)
      (replay_all table (runs_of (drop (i + 1) results)))
  result_first journal =
      ap (λ rs. replay_all table (runs_of rs) journal) next
      ∙ (ap (λ effects. replays (replay table) effects journal)
      (map-append replays_run r.runs (runs_of (drop (i + 1) results)))
      ∙ replays-append (replay table) (map replays_run r.runs)
      (map replays_run (runs_of (drop (i + 1) results))) journal)

  pub result_step : (journal after : Journal) → replay_all table r.runs journal ≡ Some after
      → replay_all table (runs_of (drop (i + 1) results)) after
      ≡ replay_all table (runs_of (drop i results)) journal
  result_step journal after made = sym (result_first journal
      ∙ ap (λ o. and_then o (replay_all table (runs_of (drop (i + 1) results)))) made)

  pub result_defined : (journal : Journal)
      → IsSome (replay_all table (runs_of (drop i results)) journal)
      → IsSome (replay_all table r.runs journal)
  result_defined journal defined = first_some (replay_all table r.runs journal)
      (replay_all table (runs_of (drop (i + 1) results)))
      (subst (λ o. IsSome o) (result_first journal) defined)
    where
      first_some : (o : Option Journal) (f : Journal → Option Journal) → IsSome (and_then o f)
          → IsSome o
      first_some None f h = h
      first_some (Some j) f h = refl

-- where the runs of the first result are replayed already, those of the others come next
pub first_replayed : (table : Records) (first : RequestResult) (rest : List RequestResult)
    (journal next : Journal) → replay_all table first.runs journal ≡ Some next →
    replay_all table (runs_of (first ∷ rest)) journal ≡ replay_all table (runs_of rest) next
first_replayed table first rest journal next made =
    ap (λ effects. replays (replay table) effects journal)
    (map-append replays_run first.runs (runs_of rest))
    ∙ (replays-append (replay table) (map replays_run first.runs) (map replays_run (runs_of rest))
    journal
    ∙ ap (λ o. and_then o (replay_all table (runs_of rest))) made)

-- so where the runs of the first result are the same, by their names, as those that were replayed
pub rest_replayed : (table : Records) (results : List RequestResult) (first : RequestResult)
    (runs : List RunId) (journal next : Journal) → Some first ≡ slice_get results 0 →
    pointwise same_run runs first.runs ≡ true → replay_all table runs journal ≡ Some next →
    replay_all table (runs_of results) journal
    ≡ replay_all table (runs_of (take (length results - 1) (drop 1 results))) next
rest_replayed table [] first runs journal next e same made = absurd (cc)
rest_replayed table (x ∷ rest) first runs journal next e same made =
    let is : first ≡ x = cc in
    let own : runs ≡ first.runs =
    (pointwise_decides (λ a b. (same_run-true a b, same_run-eq a b)) runs first.runs).0 same in
    let whole : take (length (x ∷ rest) - 1) (drop 1 (x ∷ rest)) ≡ rest =
    take_all (length (x ∷ rest) - 1) rest (omega arith) in
    first_replayed table x rest journal next (subst
    (λ (r : RequestResult). replay_all table r.runs journal ≡ Some next) is
    (subst (λ rs. replay_all table rs journal ≡ Some next) own made))
    ∙ ap (λ rs. replay_all table (runs_of rs) next) (sym whole)
