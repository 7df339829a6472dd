-- The effects of a record, one segment on, and the runs of a call, one run on.
use Rattle.std.proofs.Common.{
  ◌≡◌,
  ℕ,
  suc,
  ◌+◌,
  ◌<◌,
  List,
  [],
  ◌∷◌,
  ◌++◌,
  length,
  map,
  drop,
  get_or,
  Option,
  Some,
  None,
  IsSome,
  refl,
  ap,
  ◌∙◌,
  sym,
  subst,
  arith,
}
use Rattle.std.proofs.lemmas.List.{drop_more}
use Rattle.msb_laws.specs.Asking.{and_then}
use Rattle.msb_values.specs.declared.act.Act.{Act}
use Rattle.result_cache.specs.declared.run.RunId.{RunId}
use Rattle.result_cache.specs.declared.request.RequestKey.{RequestKey}
use Rattle.result_cache.specs.declared.record.Segment.{Segment}
use Rattle.result_cache.specs.declared.record.Segment.TheVariants.{File, Call}
use Rattle.result_cache.specs.Journal.{Journal, acted, add}
use Rattle.result_cache.specs.Replay.{Effect, puts_act, replays_run, effects_from, replays}

module _ (one : RunId → Journal → Option Journal) where
  from_run : (o : Option Journal) (first rest : List Effect)
      → ((j : Journal) → replays one (first ++ rest) j
      ≡ and_then (replays one first j) (replays one rest)) →
      and_then o (replays one (first ++ rest))
      ≡ and_then (and_then o (replays one first)) (replays one rest)
  from_run None first rest later = refl
  from_run (Some j) first rest later = later j

  replays-append : (first rest : List Effect) (journal : Journal)
      → replays one (first ++ rest) journal ≡ and_then (replays one first journal)
      (replays one rest)
  replays-append [] rest journal = refl
  replays-append (puts_act run place act ∷ first) rest journal = replays-append first rest
      (add journal (acted run place act))
  replays-append (replays_run run ∷ first) rest journal = from_run (one run journal) first rest
      (replays-append first rest)

  -- ---- a segment on

  abbrev pub left : RunId → ℕ → List Segment → Journal → Option Journal
  left run n segments journal = replays one (effects_from run n (drop n segments)) journal

  module _ (run : RunId) (segments : List Segment) (n : ℕ) (segment : Segment)
      (within : n < length segments) (at : segment ≡ get_or segments n segment) where
    next : drop n segments ≡ segment ∷ drop (n + 1) segments
    next = drop_more segments n segment within ∙ ap (λ s. s ∷ drop (n + 1) segments) (sym at)

    one_more : suc n ≡ n + 1
    one_more = omega arith

    pub act_step : (act : Act) (journal : Journal) → segment ≡ File act
        → left run (n + 1) segments (add journal (acted run n act)) ≡ left run n segments journal
    act_step act journal is = sym
        (ap (λ s. replays one (effects_from run n s) journal)
        (next ∙ ap (λ s. s ∷ drop (n + 1) segments) is)
        ∙ ap
        (λ k. replays one (effects_from run k (drop (n + 1) segments))
        (add journal (acted run n act))) one_more)

    call_first : (key : RequestKey) (runs : List RunId) (journal : Journal)
        → segment ≡ Call key runs → left run n segments journal
        ≡ and_then (replays one (map replays_run runs) journal) (left run (n + 1) segments)
    call_first key runs journal is =
        ap (λ s. replays one (effects_from run n s) journal)
        (next ∙ ap (λ s. s ∷ drop (n + 1) segments) is)
        ∙ (replays-append (map replays_run runs) (effects_from run (suc n) (drop (n + 1) segments))
        journal
        ∙ ap
        (λ k. and_then (replays one (map replays_run runs) journal)
        (replays one (effects_from run k (drop (n + 1) segments)))) one_more)

    pub call_step : (key : RequestKey) (runs : List RunId) (journal after : Journal)
        → segment ≡ Call key runs → replays one (map replays_run runs) journal ≡ Some after
        → left run (n + 1) segments after ≡ left run n segments journal
    call_step key runs journal after is made = sym
        (call_first key runs journal is ∙ ap (λ o. and_then o (left run (n + 1) segments)) made)

    pub call_defined : (key : RequestKey) (runs : List RunId) (journal : Journal)
        → segment ≡ Call key runs → IsSome (left run n segments journal)
        → IsSome (replays one (map replays_run runs) journal)
    call_defined key runs journal is defined = first_some
        (replays one (map replays_run runs) journal) (left run (n + 1) segments)
        (subst (λ o. IsSome o) (call_first key runs journal is) defined)
      where
        first_some : (o : Option Journal) (f : Journal → Option Journal) → IsSome (and_then o f)
            → IsSome o
        first_some None f h = h
        first_some (Some j) f h = refl

  -- ---- a run on

  module _ (runs : List RunId) (i : ℕ) (run : RunId) (within : i < length runs)
      (at : run ≡ get_or runs i run) where
    run_first : (journal : Journal) → replays one (map replays_run (drop i runs)) journal
        ≡ and_then (one run journal) (replays one (map replays_run (drop (i + 1) runs)))
    run_first journal = ap (λ rs. replays one (map replays_run rs) journal)
        (drop_more runs i run within ∙ ap (λ r. r ∷ drop (i + 1) runs) (sym at))

    pub run_step : (journal after : Journal) → one run journal ≡ Some after
        → replays one (map replays_run (drop (i + 1) runs)) after
        ≡ replays one (map replays_run (drop i runs)) journal
    run_step journal after made = sym (run_first journal
        ∙ ap (λ o. and_then o (replays one (map replays_run (drop (i + 1) runs)))) made)

    pub run_defined : (journal : Journal)
        → IsSome (replays one (map replays_run (drop i runs)) journal) → IsSome (one run journal)
    run_defined journal defined = first_some (one run journal)
        (replays one (map replays_run (drop (i + 1) runs)))
        (subst (λ o. IsSome o) (run_first journal) defined)
      where
        first_some : (o : Option Journal) (f : Journal → Option Journal) → IsSome (and_then o f)
            → IsSome o
        first_some None f h = h
        first_some (Some j) f h = refl
