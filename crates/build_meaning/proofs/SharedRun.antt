-- The world whose two calls want one run: it is whole and steady, and its history computes.
use Rattle.std.proofs.Common.{
  ◌≡◌,
  ◌≤◌,
  ℕ,
  ◌⊎◌,
  inl,
  inr,
  List,
  [],
  ◌∷◌,
  length,
  Some,
  refl,
  ap,
  sym,
  ◌∙◌,
  arith,
}
use Rattle.result_cache.specs.declared.run.RunId.{RunId}
use Rattle.result_cache.specs.declared.record.Record.{Record}
use Rattle.result_cache.specs.Lists.{In}
use Rattle.result_cache.specs.Journal.{Journal}
use Rattle.result_cache.specs.Same.{same_run, same_instance, same_key}
use Rattle.build_meaning.specs.SoFar.{ToolUse}
use Rattle.build_meaning.specs.Meaning.{built, deepest, most_instances, meaning}
use Rattle.build_meaning.specs.Demand.{IsWhole, IsSteady, distinct, instances}
use Rattle.build_meaning.specs.SharedRun.{
  run_of,
  shared_run,
  child_record,
  root_record,
  child_journal,
  root_journal,
  given,
  ends_so,
}

means : meaning shared_run ≡ Some given
unfolding same_run same_instance deepest
means = refl

few : length (distinct (instances given.demand)) ≤ most_instances
unfolding same_instance most_instances
few = omega arith

pub whole : IsWhole shared_run given
whole = record { means = means; few = few }

pub history : ends_so
    ≡ Some (run_of 0 ∷ run_of 1 ∷ [], root_journal ∷ child_journal ∷ child_journal ∷ [])
unfolding same_run same_instance same_key deepest most_instances
history = refl

one_of : (site : ℕ) (run : RunId) (from : Journal) (made : Record) (tools : List (ToolUse ℕ)) →
    In (built site run from made tools) given.demand →
    ((run_of 1 ≡ run) × (child_record ≡ made)) ⊎ ((run_of 0 ≡ run) × (root_record ≡ made))
one_of site run from made tools (inl e) = absurd (cc)
one_of site run from made tools (inr (inl e)) = absurd (cc)
one_of site run from made tools (inr (inr (inl e))) = absurd (cc)
one_of site run from made tools (inr (inr (inr (inl e)))) =
    let p : run_of 1 ≡ run = cc in let q : child_record ≡ made = cc in inl (p, q)
one_of site run from made tools (inr (inr (inr (inr (inl e))))) = absurd (cc)
one_of site run from made tools (inr (inr (inr (inr (inr (inl e)))))) = absurd (cc)
one_of site run from made tools (inr (inr (inr (inr (inr (inr (inl e))))))) =
    let p : run_of 1 ≡ run = cc in let q : child_record ≡ made = cc in inl (p, q)
one_of site run from made tools (inr (inr (inr (inr (inr (inr (inr (inl e)))))))) = absurd (cc)
one_of site run from made tools (inr (inr (inr (inr (inr (inr (inr (inr (inl e))))))))) =
    let p : run_of 0 ≡ run = cc in let q : root_record ≡ made = cc in inr (p, q)
one_of site run from made tools (inr (inr (inr (inr (inr (inr (inr (inr (inr i))))))))) = absurd i

differ : run_of 1 ≡ run_of 0 → ⊥
differ h = let e : ◌≡◌ {A = List ℕ} (1 ∷ []) (0 ∷ []) = ap (λ (r : RunId). r.instance.path) h
    in let n : ◌≡◌ {A = ℕ} 1 0 = cc in absurd (zero_one n)
  where
    zero_one : ◌≡◌ {A = ℕ} 1 0 → ⊥
    zero_one h = omega arith

pub steady : IsSteady given.demand
steady run first second i j = elim (one_of i.0 run i.1 first i.2.0 i.2.1) [
  | inl p ↦ elim (one_of j.0 run j.1 second j.2.0 j.2.1) [
    | inl q ↦ sym p.1 ∙ q.1
    | inr q ↦ absurd (differ (p.0 ∙ sym q.0))
  ]
  | inr p ↦ elim (one_of j.0 run j.1 second j.2.0 j.2.1) [
    | inl q ↦ absurd (differ (q.0 ∙ sym p.0))
    | inr q ↦ sym p.1 ∙ q.1
  ]
]
