-- The whole answer of the program, from what its status says.
use Rattle.std.proofs.Common.{
  ◌≡◌,
  ◌⊎◌,
  ◌==◌,
  ℕ,
  List,
  true,
  false,
  None,
  inl,
  inr,
  refl,
  sym,
  subst,
}
use Rattle.msb_words.specs.Options.{options_in}
use Rattle.msb_program.specs.Endings.{
  StoreChange,
  Kept,
  SinkChange,
  Printed,
  StoreFailed,
  SinkFailed,
}
use Rattle.msb_program.specs.Answers.{
  usage,
  IsDone,
  IsFailed,
  IsUsage,
  IsRefused,
  IsStopped,
  IsStoreFailure,
  IsSinkFailure,
  IsMemory,
  IsPastLimit,
  IsSpent,
  IsStatus,
  IsStatusOf,
  Answers,
}
use Rattle.msb_outcomes.specs.Outcomes.{Answering}

module _ (tools : Answering) (words : List (List ℕ)) (s : StoreChange) (p : SinkChange) where
  -- what a status says
  abbrev pub Claim : ℕ → Type 0
  Claim status =
      elim (status == 0) [
        | true ↦ IsDone tools words s.before.tree s p
        | false ↦
            elim (status == 1) [
              | true ↦ IsFailed tools words s.before.tree s p
              | false ↦
                  elim (status == 2) [
                    | true ↦ IsUsage words s p
                    | false ↦
                        elim (status == 3) [
                          | true ↦ IsRefused tools words s.before.tree s p
                          | false ↦
                              elim (status == 4) [
                                | true ↦ IsStopped tools words s.before.tree s p
                                | false ↦
                                    elim (status == 5) [
                                      | true ↦ IsStoreFailure tools words s p
                                      | false ↦
                                          elim (status == 6) [
                                            | true ↦ IsSinkFailure tools words s.before.tree s p
                                            | false ↦
                                                elim (status == 7) [
                                                  | true ↦ IsMemory tools words s.before.tree s p
                                                  | false ↦ elim (status == 8) [
                                                    | true ↦ IsPastLimit words s p
                                                    | false ↦
                                                        IsSpent tools words s.before.tree s p
                                                  ]
                                                ]
                                          ]
                                    ]
                              ]
                        ]
                  ]
            ]
      ]

  -- what is to be known of a status where neither the store nor the sink failed
  abbrev pub Unfailing : ℕ → Type 0
  Unfailing status =
      ¬ StoreFailed s → ¬ SinkFailed p
      → (status ≡ 7) ⊎ IsStatusOf tools (options_in words) s.before.tree status

  pub answers_at : (at : ℕ) → IsStatus at → Claim at → (status : ℕ) → status ≡ at → Unfailing status
      → Answers tools words s p status
  answers_at at known claim status is unfailing =
      let given : Claim status = subst Claim (sym is) claim in
      record {
        known = subst IsStatus (sym is) known;
        done = λ e. subst Claim e given;
        failed = λ e. subst Claim e given;
        usage = λ e. subst Claim e given;
        refused = λ e. subst Claim e given;
        stopped = λ e. subst Claim e given;
        store = λ e. subst Claim e given;
        sink = λ e. subst Claim e given;
        memory = λ e. subst Claim e given;
        limited = λ e. subst Claim e given;
        spent = λ e. subst Claim e given;
        unfailing = unfailing;
      }

  pub memory_answers : (status : ℕ) → status ≡ 7 → IsMemory tools words s.before.tree s p
      → Answers tools words s p status
  memory_answers status is memory =
      answers_at 7
      (inr (inr (inr (inr (inr (inr (inr (inl refl)))))))) memory status is (λ store sink. inl is)

  pub usage_answers : (status : ℕ) → status ≡ 2 → options_in words ≡ None → Kept s → Printed p usage
      → Answers tools words s p status
  usage_answers status is none kept printed =
      answers_at 2 (inr (inr (inl refl))) (none, kept, printed) status is
      (λ store sink.
      inr (subst (λ asked. IsStatusOf tools asked s.before.tree status) (sym none) is))
