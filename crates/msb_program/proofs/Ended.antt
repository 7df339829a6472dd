-- The answer of the program where the store's files were loaded.
use Rattle.std.proofs.Common.{
  ◌≡◌,
  ◌≤◌,
  ◌+◌,
  min,
  ℕ,
  List,
  Option,
  Some,
  None,
  IfSome,
  IsSomeAnd,
  Result,
  Ok,
  Err,
  inl,
  inr,
  refl,
  sym,
  subst,
  ◌∙◌,
  arith,
}
use Rattle.file_store.specs.Commits.{AreDone, AreDoneTo, HasContents}
use Rattle.file_store.specs.Seen.{OfTrees, StoreSeen}
use Rattle.file_store.specs.declared.tree.File.{File}
use Rattle.msb_values.specs.declared.act.Act.{Act}
use Rattle.msb_values.specs.declared.errors.NoMemory.{NoMemory}
use Rattle.msb_words.specs.Options.{options_in}
use Rattle.msb_words.specs.declared.options.Options.{Options}
use Rattle.msb_outcomes.specs.Outcomes.{Answering, HasProject, IsOutcomeOf, IsUnfinished}
use Rattle.build_engine.specs.Statuses.{IsCompletion}
use Rattle.msb_program.specs.Endings.{
  StoreChange,
  SinkChange,
  Silent,
  SavedAll,
  SavedTo,
  EndsWhole,
  EndsRefused,
  EndsUnprinted,
  EndsUnwritten,
  EndsHalfway,
  Ends,
  EndsMade,
  EndsOver,
}
use Rattle.msb_program.specs.Answers.{AreLoaded, HasOutcome, IsStatusOf, IsStatusOfProject, Answers}
use Rattle.build_outcome.specs.declared.outcome.Outcome.{Outcome}
use Rattle.msb_program.proofs.Claims.{answers_at, memory_answers}
use Rattle.msb_program.proofs.Parts.{stores}

-- a count that rose after a while rose in all
rose_since : (before between after most : ℕ) → before ≤ between → min (between + 1) most ≤ after →
    min (before + 1) most ≤ after
rose_since before between after most earlier rose = omega arith

-- ---- how an outcome ends, from before the files were loaded, which touched none

module _ (before between after : StoreSeen) (kept : between.tree ≡ before.tree) where
  trees_since : (P : List File → List File → Type 0) → OfTrees P between after →
      OfTrees P before after
  trees_since P holds =
      subst (λ (tree : Option (List File)). IfSome tree (λ files. IsSomeAnd after.tree (P files)))
      kept holds

  all_since : (list : List Act) → SavedAll (stores between after) list →
      SavedAll (stores before after) list
  all_since list saved = record {
    done = trees_since (AreDone list) saved.done;
    contents = trees_since (HasContents list) saved.contents;
  }

  to_since : (list : List Act) (place : ℕ) → SavedTo (stores between after) list place →
      SavedTo (stores before after) list place
  to_since list place saved = record {
    within = saved.within;
    done = trees_since (AreDoneTo place list) saved.done;
  }

  module _ (p : SinkChange) (status : ℕ) (later : before.fault_count ≤ between.fault_count) where
    ends_since : (o : Outcome) → Ends o (stores between after) p status →
        Ends o (stores before after) p status
    ends_since o (inl ends) =
        inl (ends.0, ends.1, (all_since o.commit ends.2.0, ends.2.1))
    ends_since o (inr (inl ends)) =
        inr (inl (ends.0, ends.1, (ends.2.0 ∙ kept, ends.2.1)))
    ends_since o (inr (inr (inl ends))) =
        inr (inr (inl (
          ends.0,
          record {
            completion = ends.1.completion;
            saved = all_since o.commit ends.1.saved;
            rose = ends.1.rose;
            printed = ends.1.printed;
          },
        )))
    ends_since o (inr (inr (inr (inl ends)))) =
        inr (inr (inr (inl (
          ends.0,
          record {
            completion = ends.1.completion;
            place = ends.1.place;
            saved = to_since o.commit ends.1.place ends.1.saved;
            rose = rose_since before.fault_count between.fault_count after.fault_count _ later
                ends.1.rose;
            printed = ends.1.printed;
          },
        ))))
    ends_since o (inr (inr (inr (inr ends)))) =
        inr (inr (inr (inr (
          ends.0,
          ends.1,
          record {
            completion = ends.2.completion;
            place = ends.2.place;
            saved = to_since o.commit ends.2.place ends.2.saved;
          },
        ))))

    pub made_since : (made : Result Outcome NoMemory) →
        EndsMade made (stores between after) p status →
        EndsMade made (stores before after) p status
    made_since (Ok o) ends = ends_since o ends
    made_since (Err none) ends = (ends.0, ends.1 ∙ kept, ends.2)

module _ (tools : Answering) where
  -- an outcome of loaded files is one of the told files
  told_status : (told : Option (List File)) (options : Options) (files : List File) (o : Outcome)
      (status : ℕ) → HasProject options → IfSome told (λ those. files ≡ those) →
      IsOutcomeOf tools options files o → status ≡ o.status
      → IsStatusOfProject tools options told status
  told_status None options files o status project same is e = (project, tt)
  told_status (Some those) options files o status project same is e =
      (project, (o, subst (λ loaded. IsOutcomeOf tools options loaded o) same is, e))

  -- an outcome of these words over loaded files
  pub record Work (words : List (List ℕ)) (told : Option (List File)) (o : Outcome) : Type 0 where
    pub options : Options
    pub asked : options_in words ≡ Some options
    pub project : HasProject options
    pub files : List File
    pub loaded : AreLoaded told files
    pub is : IsOutcomeOf tools options files o

  module _ (words : List (List ℕ)) (s : StoreChange) (p : SinkChange) (o : Outcome)
      (work : Work words s.before.tree o) where
    having : (P : Outcome → Type 0) → P o → HasOutcome tools words s.before.tree P
    having P holds = record {
      options = work.options;
      asked = work.asked;
      project = work.project;
      files = work.files;
      loaded = work.loaded;
      outcome = o;
      is = work.is;
      holds = holds;
    }

    status_told : (status : ℕ) → status ≡ o.status →
        IsStatusOf tools (options_in words) s.before.tree status
    status_told status is =
        subst (λ asks. IsStatusOf tools asks s.before.tree status) (sym work.asked)
        (inl
        (told_status s.before.tree work.options work.files o status work.project
        work.loaded.told_are work.is is))

    whole_answers : (status : ℕ) → status ≡ o.status → IsCompletion o.status → EndsWhole s p o →
        Answers tools words s p status
    whole_answers status is (inl zero_is) ends =
        answers_at tools words s p 0 (inl refl)
        (inl (having (λ made. (made.status ≡ 0) × EndsWhole s p made) (zero_is, ends))) status
        (is ∙ zero_is) (λ store sink. inr (status_told status is))
    whole_answers status is (inr one_is) ends =
        answers_at tools words s p 1 (inr (inl refl))
        (having (λ made. (made.status ≡ 1) × EndsWhole s p made) (one_is, ends)) status
        (is ∙ one_is) (λ store sink. inr (status_told status is))

    refused_answers : (status : ℕ) → status ≡ o.status → IsUnfinished o.status → EndsRefused s p o →
        Answers tools words s p status
    refused_answers status is (inl (inl three_is)) ends =
        answers_at tools words s p 3 (inr (inr (inr (inl refl))))
        (having (λ made. (made.status ≡ 3) × EndsRefused s p made) (three_is, ends)) status
        (is ∙ three_is) (λ store sink. inr (status_told status is))
    refused_answers status is (inl (inr four_is)) ends =
        answers_at tools words s p 4 (inr (inr (inr (inr (inl refl)))))
        (having (λ made. (made.status ≡ 4) × EndsRefused s p made) (four_is, ends)) status
        (is ∙ four_is) (λ store sink. inr (status_told status is))
    refused_answers status is (inr nine_is) ends =
        answers_at tools words s p 9 (inr (inr (inr (inr (inr (inr (inr (inr (inr refl)))))))))
        (having (λ made. (made.status ≡ 9) × EndsRefused s p made) (nine_is, ends)) status
        (is ∙ nine_is) (λ store sink. inr (status_told status is))

    unwritten_answers : (status : ℕ) → status ≡ 5 →
        EndsUnwritten s p o → Answers tools words s p status
    unwritten_answers status is ends =
        answers_at tools words s p 5 (inr (inr (inr (inr (inr (inl refl))))))
        (inr (having (EndsUnwritten s p) ends)) status is
        (λ store sink. absurd (store ends.rose))

    unprinted_answers : (status : ℕ) → status ≡ 6 → EndsUnprinted s p o →
        Answers tools words s p status
    unprinted_answers status is ends =
        answers_at tools words s p 6 (inr (inr (inr (inr (inr (inr (inl refl)))))))
        (inl (having (EndsUnprinted s p) ends)) status is (λ store sink. absurd (sink ends.rose))

    halfway_answers : (status : ℕ) → status ≡ 7 → Silent p → EndsHalfway s o →
        Answers tools words s p status
    halfway_answers status is silent ends =
        memory_answers tools words s p status is (silent, inr (having (EndsHalfway s) ends))

    outcome_answers : (status : ℕ) → Ends o s p status →
        Answers tools words s p status
    outcome_answers status (inl ends) = whole_answers status ends.0 ends.1 ends.2
    outcome_answers status (inr (inl ends)) = refused_answers status ends.0 ends.1 ends.2
    outcome_answers status (inr (inr (inl ends))) = unprinted_answers status ends.0 ends.1
    outcome_answers status (inr (inr (inr (inl ends)))) = unwritten_answers status ends.0 ends.1
    outcome_answers status (inr (inr (inr (inr ends)))) =
        halfway_answers status ends.0 ends.1 ends.2

  module _ (words : List (List ℕ)) (s : StoreChange) (p : SinkChange) (options : Options)
      (files : List File) (asked : options_in words ≡ Some options) (project : HasProject options)
      (loaded : AreLoaded s.before.tree files) where
    -- what ended once the files were loaded
    pub loaded_answers : (status : ℕ) → EndsOver tools options files s p status →
        Answers tools words s p status
    loaded_answers status (inl made) =
        outcome_answers words s p made.0 (record {
          options = options;
          asked = asked;
          project = project;
          files = files;
          loaded = loaded;
          is = made.1;
        }) status made.2
    loaded_answers status (inr memory) =
        memory_answers tools words s p status memory.0 (memory.2, inl memory.1)
