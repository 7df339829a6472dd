-- The answer of the program where the store's files were not loaded.
use Rattle.std.proofs.Common.{
  ◌≡◌,
  ◌⊎◌,
  ℕ,
  List,
  Option,
  Some,
  None,
  inl,
  inr,
  refl,
  sym,
  subst,
  ◌∙◌,
  arith,
}
use Rattle.msb_laws.specs.Faults.{Rose}
use Rattle.file_store.specs.Limits.{limit_fault}
use Rattle.file_store.specs.Seen.{StoreSeen}
use Rattle.file_store.specs.Loads.{OfListing, IsCaused, IsOfKind}
use Rattle.file_store.specs.declared.loading.LoadFault.{LoadFault}
use Rattle.file_store.specs.declared.loading.LoadFault.TheVariants.{
  Listing,
  Reading,
  Files,
  Bytes,
  Large,
  BadPath,
  Memory,
}
use Rattle.file_store.specs.declared.tree.File.{File}
use Rattle.msb_words.specs.Options.{options_in}
use Rattle.msb_words.specs.declared.options.Options.{Options}
use Rattle.build_report.specs.Line.{line}
use Rattle.msb_outcomes.specs.Outcomes.{
  Answering,
  HasProject,
  IsOutcomeWithin,
  fault_status,
  load_fault_text,
  unloaded,
}
use Rattle.msb_program.specs.Endings.{StoreChange, Kept, SinkChange, Printed, Silent}
use Rattle.msb_program.specs.Answers.{
  AsksForProject,
  LoadFails,
  IsStoreFault,
  IsStatusOf,
  IsStatusOfProject,
  Answers,
}
use Rattle.msb_program.specs.Calls.{IsUndone}
use Rattle.msb_program.specs.declared.top.Prepared.TheVariants.{Ended}
use Rattle.msb_program.proofs.Claims.{answers_at, memory_answers}
use Rattle.msb_program.proofs.Parts.{invocation_of}

past_limit : (fault : LoadFault) (before after : StoreSeen) →
    fault_status fault ≡ 8 → IsCaused before after fault →
    OfListing before.tree (λ listing. limit_fault listing ≡ Some fault)
past_limit Listing before after is caused = absurd (grind arith)
past_limit (Reading path) before after is caused = absurd (grind arith)
past_limit (Files number) before after is caused = caused
past_limit (Bytes total) before after is caused = caused
past_limit (Large path) before after is caused = caused
past_limit (BadPath path) before after is caused = caused
past_limit Memory before after is caused = absurd (grind arith)

store_fault : (fault : LoadFault) (before after : StoreSeen) →
    fault_status fault ≡ 5 → IsCaused before after fault →
    IsStoreFault fault × Rose before.fault_count after.fault_count
store_fault Listing before after is caused = (inl refl, caused)
store_fault (Reading path) before after is caused = (inr (path, refl), caused.0)
store_fault (Files number) before after is caused = absurd (grind arith)
store_fault (Bytes total) before after is caused = absurd (grind arith)
store_fault (Large path) before after is caused = absurd (grind arith)
store_fault (BadPath path) before after is caused = absurd (grind arith)
store_fault Memory before after is caused = absurd (grind arith)

either_status : (fault : LoadFault) → (fault ≡ Memory → ⊥) →
    (fault_status fault ≡ 5) ⊎ (fault_status fault ≡ 8)
either_status Listing never = inl refl
either_status (Reading path) never = inl refl
either_status (Files number) never = inr refl
either_status (Bytes total) never = inr refl
either_status (Large path) never = inr refl
either_status (BadPath path) never = inr refl
either_status Memory never = absurd (never refl)

fails : (words : List (List ℕ)) (s : StoreChange) (p : SinkChange) (options : Options)
    (fault : LoadFault) → options_in words ≡ Some options → HasProject options →
    IsCaused s.before s.after fault → IsOfKind s.before s.after fault →
    Kept s →
    Printed p (line (load_fault_text fault)) → LoadFails words s p fault
fails words s p options fault asked project caused kind kept printed = record {
  asked = subst AsksForProject (sym asked) project;
  cause = caused;
  kind = kind;
  kept = kept;
  printed = printed;
}

module _ (tools : Answering) where
  -- files past a limit have an outcome of this status
  limited_status : (told : Option (List File)) (options : Options) (fault : LoadFault) (status : ℕ)
      → HasProject options → status ≡ fault_status fault →
      OfListing told (λ listing. limit_fault listing ≡ Some fault)
      → IsStatusOfProject tools options told status
  limited_status None options fault status project is past = (project, tt)
  limited_status (Some files) options fault status project is past = (
    project,
    (
      unloaded fault,
      subst (λ limit. IsOutcomeWithin tools options files limit (unloaded fault))
          (sym past) refl,
      is,
    ),
  )

  module _ (words : List (List ℕ)) (s : StoreChange) (p : SinkChange) (options : Options)
      (fault : LoadFault) (asked : options_in words ≡ Some options) (project : HasProject options)
      (caused : IsCaused s.before s.after fault)
      (kind : IsOfKind s.before s.after fault) (kept : Kept s) where
    fault_answers : (status : ℕ) → status ≡ fault_status fault →
        Printed p (line (load_fault_text fault)) →
        (fault_status fault ≡ 5) ⊎ (fault_status fault ≡ 8) → Answers tools words s p status
    fault_answers status is printed (inl five) =
        let stored = store_fault fault s.before s.after five caused in
        answers_at tools words s p 5 (inr (inr (inr (inr (inr (inl refl))))))
        (inl (
          fault,
          stored.0,
          stored.1,
          fails words s p options fault asked project caused kind kept printed,
        )) status (is ∙ five)
        (λ store sink. absurd (store stored.1))
    fault_answers status is printed (inr eight) =
        let past = past_limit fault s.before s.after eight caused in
        answers_at tools words s p 8 (inr (inr (inr (inr (inr (inr (inr (inr (inl refl)))))))))
        (fault, past, fails words s p options fault asked project caused kind kept printed) status
        (is ∙ eight)
        (λ store sink.
        inr (subst (λ asks. IsStatusOf tools asks s.before.tree status) (sym asked)
        (inl (limited_status s.before.tree options fault status project is past))))

    pub unloaded_answers : (status : ℕ) →
        ((status ≡ fault_status fault) × (fault ≡ Memory → ⊥) × Printed p
        (line (load_fault_text fault))) ⊎ ((status ≡ 7) × Silent p) →
        Answers tools words s p status
    unloaded_answers status (inl told) =
        fault_answers status told.0 told.2 (either_status fault told.1)
    unloaded_answers status (inr memory) =
        memory_answers tools words s p status memory.0 (memory.1, inl kept)

-- a load that fails comes to no outcome
module _ (words : List (List ℕ)) (s : StoreChange) (p : SinkChange) (options : Options)
    (fault : LoadFault) (asked : options_in words ≡ Some options) (project : HasProject options)
    (caused : IsCaused s.before s.after fault)
    (kind : IsOfKind s.before s.after fault) (kept : Kept s) where
  failed_undone : (status : ℕ) → status ≡ fault_status fault → LoadFails words s p fault →
      (fault_status fault ≡ 5) ⊎ (fault_status fault ≡ 8) →
      IsUndone (invocation_of words s p) (Ended status)
  failed_undone status is fails (inl five) =
      let stored = store_fault fault s.before s.after five caused in
      inr (inr (inl (is ∙ five, (fault, stored.0, stored.1, fails))))
  failed_undone status is fails (inr eight) =
      inr (inl (
        is ∙ eight,
        (fault, past_limit fault s.before s.after eight caused, fails),
      ))

  pub unloaded_undone : (status : ℕ) → ((status ≡ fault_status fault) × (fault ≡ Memory → ⊥)
      × Printed p (line (load_fault_text fault))) ⊎ ((status ≡ 7) × Silent p) →
      IsUndone (invocation_of words s p) (Ended status)
  unloaded_undone status (inl told) =
      failed_undone status told.0
      (fails words s p options fault asked project caused kind kept told.2)
      (either_status fault told.1)
  unloaded_undone status (inr memory) = inr (inr (inr (memory.0, kept, memory.1)))
