-- What a status says where a build may be trusted to skip what is up to date.
use Rattle.std.proofs.Common.{
  ◌≡◌,
  ◌⊎◌,
  ℕ,
  List,
  Option,
  None,
  Some,
  IfSome,
  IsSomeAnd,
  inl,
  inr,
  refl,
  sym,
  ap,
  subst,
  ◌∙◌,
}
use Rattle.file_store.specs.Commits.{AreDoneTo, HasContents}
use Rattle.file_store.specs.declared.tree.File.{File}
use Rattle.result_cache.specs.declared.request.RequestResult.{RequestResult}
use Rattle.result_cache.specs.Journal.{Journal}
use Rattle.msb_files.specs.FinalTree.{IsFinalTree}
use Rattle.build_meaning.specs.Meaning.{Given}
use Rattle.build_meaning.specs.Demand.{IsWhole}
use Rattle.build_report.specs.Shown.{shown_text}
use Rattle.build_outcome.specs.Outcomes.{built, status_of}
use Rattle.build_outcome.specs.declared.outcome.Outcome.{Outcome}
use Rattle.task_trait.specs.declared.tools.ToolInput.{ToolInput}
use Rattle.request_machine.specs.Walk.{Site}
use Rattle.request_machine.specs.Worlds.{world_of}
use Rattle.build_declared.specs.Clean.{GivesClean}
use Rattle.build_declared.proofs.CleanWorlds.{build-is-clean}
use Rattle.msb_outcomes.specs.Outcomes.{Answering}
use Rattle.msb_program.specs.Answers.{Answers}
use Rattle.msb_program.specs.Clean.{
  AnswersClean,
  IsOldOrFinal,
  MeansClean,
  PrintedOf,
  SavedFinal,
  SavedPart,
}
use Rattle.msb_program.specs.Endings.{Kept, SinkChange, PrintedAll, SavedAll, SavedTo, StoreChange}
use Rattle.msb_program.specs.Meanings.{AnswersMeant}
use Rattle.msb_program.proofs.CleanFiles.{part_is_clean, whole_is_clean}
use Rattle.msb_program.proofs.GivenFiles.{given_told, means_of, told_so}
use Rattle.msb_program.proofs.Meant.{answers_meant}

unchanged : (journal : Journal) (told : Option (List File)) →
    IfSome told (λ files. IsSomeAnd told (IsOldOrFinal files journal))
unchanged journal None = tt
unchanged journal (Some files) = λ path. inl refl

-- ---- the answers

module _ (tools : Answering) (words : List (List ℕ)) (s : StoreChange) (p : SinkChange)
    (status : ℕ) (answers : Answers tools words s p status)
    (clean : Given Site ToolInput RequestResult)
    (means : MeansClean tools words s.before.tree clean) where
  -- by what the build means, which gives what the clean build gives
  module _ (out : Given Site ToolInput RequestResult)
      (whole : IsWhole (world_of tools means.given) out)
      (gives : GivesClean means.given.tree.files out clean) where
    abbrev meant : Outcome
    meant = built means.build.options.low out.value out.journal

    answers_this : AnswersMeant words s p meant status
    answers_this =
        answers_meant tools words s p status answers meant
        (means_of tools words s.before.tree means.given means.build out whole
        (means.steady out whole.means))

    same_status : meant.status ≡ status_of clean.value.ok
    same_status = ap (λ (r : RequestResult). status_of r.ok) gives.result

    same_text : PrintedAll p meant.text → PrintedOf p clean.value
    same_text printed = (
      out.journal,
      means.build.options.low,
      subst (λ (r : RequestResult).
          PrintedAll p (shown_text r out.journal means.build.options.low)) gives.result printed,
    )

    gives_of : (before : List File) → s.before.tree ≡ Some before → GivesClean before out clean
    gives_of before is =
        let those : Some means.given.tree.files ≡ Some before =
        sym (given_told words s.before.tree means.given means.build) ∙ is in
        let told : means.given.tree.files ≡ before = cc in
        subst (λ files. GivesClean files out clean) told gives

    final_saved : SavedAll s meant.commit → SavedFinal s clean.journal
    final_saved saved =
        told_so (HasContents meant.commit)
        (λ before after. IsFinalTree before clean.journal after) s.before.tree s.after.tree
        (λ before after is contents.
        whole_is_clean before out clean (gives_of before is) after contents)
        saved.contents

    part_saved : (place : ℕ) → SavedTo s meant.commit place → SavedPart s clean.journal
    part_saved place saved =
        told_so (AreDoneTo place meant.commit)
        (λ before after. IsOldOrFinal before clean.journal after) s.before.tree s.after.tree
        (λ before after is done.
        part_is_clean before out clean (gives_of before is) place after done)
        saved.done

    kept_part : Kept s → SavedPart s clean.journal
    kept_part kept =
        subst (λ (after : Option (List File)).
        IfSome s.before.tree (λ before. IsSomeAnd after (IsOldOrFinal before clean.journal)))
        (sym kept) (unchanged clean.journal s.before.tree)

    stopped_part : (status ≡ 5) ⊎ (status ≡ 7) → SavedPart s clean.journal
    stopped_part (inl five_is) = elim (answers_this.store five_is) [
      | inl load ↦ kept_part load.3.kept
      | inr unwritten ↦ part_saved unwritten.place unwritten.saved
    ]
    stopped_part (inr seven_is) = elim (answers_this.memory seven_is).1 [
      | inl kept ↦ kept_part kept
      | inr halfway ↦ part_saved halfway.place halfway.saved
    ]

    answers_so : AnswersClean s p clean status
    answers_so = record {
      known = answers_this.known;
      done = λ over.
          let x = answers_this.done over in
          (x.0 ∙ same_status, final_saved x.1.0, same_text x.1.1);
      sink = λ six_is. final_saved (answers_this.sink six_is).saved;
      part = stopped_part;
      unfailing = λ store sink. elim (answers_this.unfailing store sink) [
        | inl seven_is ↦ inl seven_is
        | inr is ↦ inr (is ∙ same_status)
      ];
    }

  pub answers_clean : AnswersClean s p clean status
  answers_clean =
      let law = build-is-clean tools means.given clean means.trusted in
      answers_so law.0 law.1 law.2
