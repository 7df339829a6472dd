-- How an outcome ends whose commit failed.
use Rattle.std.proofs.Common.{
  ◌≡◌,
  ◌⊎◌,
  ◌++◌,
  ◌≤◌,
  ℕ,
  slice_get,
  Some,
  IsSomeAnd,
  inl,
  inr,
  sym,
  subst,
  codes,
  arith,
}
use Rattle.msb_values.specs.Acts.{act_path}
use Rattle.msb_values.specs.declared.act.Act.{Act}
use Rattle.build_report.specs.Line.{line}
use Rattle.build_engine.specs.Statuses.{IsCompletion}
use Rattle.msb_outcomes.specs.Outcomes.{IsUnfinished}
use Rattle.msb_program.specs.Endings.{
  StoreChange,
  StoreFailed,
  SavedTo,
  SinkChange,
  Printed,
  Silent,
  Ends,
}
use Rattle.build_outcome.specs.declared.outcome.Outcome.{Outcome}

pub completion_of : (status : ℕ) → status ≤ 1 → IsCompletion status ⊎ IsUnfinished status
    → IsCompletion status
completion_of status low (inl completion) = completion
completion_of status low (inr (inl (inl three_is))) = absurd (omega arith)
completion_of status low (inr (inl (inr four_is))) = absurd (omega arith)
completion_of status low (inr (inr nine_is)) = absurd (omega arith)

module _ (o : Outcome) (s : StoreChange) (p : SinkChange)
    (completion : IsCompletion o.status) where
  -- the store failed at a place
  pub failed_ends : (status place : ℕ) (act : Act) → slice_get o.commit place ≡ Some act
      → SavedTo s o.commit place → StoreFailed s
      → ((status ≡ 5) × Printed p (line (codes "store fault " ++ act_path act)))
      ⊎ ((status ≡ 7) × Silent p) → Ends o s p status
  failed_ends status place act is saved rose (inl told) =
      inr
      (inr
      (inr
      (inl (
        told.0,
        record {
          completion = completion;
          place = place;
          saved = saved;
          rose = rose;
          printed = subst (λ entry.
              IsSomeAnd entry (λ one. Printed p (line (codes "store fault " ++ act_path one))))
              (sym is) told.1;
        },
      ))))
  failed_ends status place act is saved rose (inr memory) =
      inr
      (inr
      (inr
      (inr
      (memory.0, memory.1, record { completion = completion; place = place; saved = saved }))))
