-- What a build leaves to the next one, and what the next one finds up to date.
use Rattle.std.proofs.Common.{
  ◌≡◌,
  ℕ,
  List,
  [],
  ◌∷◌,
  Bool,
  true,
  false,
  Option,
  Some,
  IfSome,
  IsSomeAnd,
  inl,
  inr,
  subst,
}
use Rattle.std.proofs.Math.Logic.{∥∥₁_map}
use Rattle.file_store.specs.Commits.{AreDone}
use Rattle.file_store.specs.declared.tree.File.{File}
use Rattle.file_store.specs.declared.tree.Tree.{Tree}
use Rattle.result_cache.specs.declared.request.RequestResult.{RequestResult}
use Rattle.result_cache.specs.Lists.{In}
use Rattle.result_cache.specs.Same.{same_run}
use Rattle.result_cache.proofs.RunTests.{same_run-refl}
use Rattle.msb_files.specs.FinalTree.{commit_list}
use Rattle.build_world.specs.declared.world.World.{World}
use Rattle.build_meaning.specs.Meaning.{Given}
use Rattle.build_meaning.specs.Demand.{IsWhole, IsSteady}
use Rattle.build_history.specs.Uses.{AreMeant, RunUse, uses_in, uses_of, with_if}
use Rattle.build_report.specs.Shown.{shown_text}
use Rattle.build_outcome.specs.Outcomes.{built}
use Rattle.build_outcome.specs.declared.outcome.Outcome.{Outcome}
use Rattle.build_engine.specs.Statuses.{IsCompletion}
use Rattle.task_trait.specs.declared.tools.ToolInput.{ToolInput}
use Rattle.request_machine.specs.Walk.{Site}
use Rattle.request_machine.specs.Worlds.{world_of}
use Rattle.build_declared.specs.Clean.{GivesClean}
use Rattle.build_declared.specs.UpToDate.{SkipsEach}
use Rattle.build_declared.proofs.CleanWorlds.{build-is-clean}
use Rattle.build_declared.proofs.SkippedWorlds.{second-build-skips}
use Rattle.build_declared.proofs.StaysFresh.{stays-fresh, stays-no-older}
use Rattle.msb_outcomes.specs.Calls.{Called}
use Rattle.msb_outcomes.specs.Outcomes.{Answering}
use Rattle.msb_program.specs.Answers.{Answers}
use Rattle.msb_program.specs.Calls.{AreMeantCalls}
use Rattle.msb_program.specs.Endings.{SinkChange, PrintedAll, SavedAll, StoreChange}
use Rattle.msb_program.specs.Meanings.{AnswersMeant, IsAskedOf, Means}
use Rattle.msb_program.specs.NextBuilds.{
  AreCallsOfOthers,
  AreUsesOfOthers,
  EndsIdle,
  HasSaved,
  MeansRepeated,
  MeansUpToDate,
  PrintedSkips,
  StaysFresh,
}
use Rattle.msb_program.proofs.GivenFiles.{given_told, means_of}
use Rattle.msb_program.proofs.Calling.{are_meant}
use Rattle.msb_program.proofs.Meant.{answers_meant, done_legal}

-- what holds of the trees before and after holds of those that the store tells
told_both : (P : List File → List File → Type 0) (before after : Option (List File))
    (b a : List File) → before ≡ Some b → after ≡ Some a →
    IfSome before (λ files. IsSomeAnd after (P files)) → P b a
told_both P before after b a is_before is_after h =
    subst (λ (told : Option (List File)). IsSomeAnd told (P b)) is_after
    (subst (λ (told : Option (List File)). IfSome told (λ files. IsSomeAnd after (P files)))
    is_before h)

-- ---- the uses of tools

-- a run that is used has a use
no_use : (u : RunUse ToolInput) (uses : List (RunUse ToolInput)) → In u uses →
    uses_of u.run uses ≡ [] → ⊥
no_use u [] there none = absurd there
no_use u (x ∷ xs) (inl same) none =
    let used : with_if (same_run u.run u.run) u.tool (uses_of u.run xs) ≡ [] =
    subst (λ (z : RunUse ToolInput).
    with_if (same_run z.run u.run) z.tool (uses_of u.run xs) ≡ []) same none in
    let own : same_run u.run u.run ≡ true = same_run-refl u.run in
    let some : u.tool ∷ uses_of u.run xs ≡ [] =
    subst (λ (b : Bool). with_if b u.tool (uses_of u.run xs) ≡ []) own used in
    cc
no_use u (x ∷ xs) (inr there) none = by (same_run x.run u.run) none (no_use u xs there)
  where
    by : (b : Bool) → with_if b x.tool (uses_of u.run xs) ≡ [] →
        (uses_of u.run xs ≡ [] → ⊥) → ⊥
    by true some rest = cc
    by false none rest = rest none

-- where each piece is skipped, no use that is meant is in a run of a target with Inputs and Outputs
uses_of_others : (tools : Answering) (given : World) (out : Given Site ToolInput RequestResult) →
    SkipsEach tools given out → (uses : List (RunUse ToolInput)) → AreMeant out uses →
    AreUsesOfOthers given.tree.files uses
uses_of_others tools given out skips uses meant = λ u there target has takes.
    let made = meant.each u there in
    let body = meant.once u.run made.0 made.1 in
    no_use u uses there (skips.uses_none body.0 u.run body.1 made.0 (uses_of u.run uses) body.2
    target has takes).1

-- ---- the answers

module _ (tools : Answering) (words : List (List ℕ)) (s : StoreChange) (p : SinkChange)
    (status : ℕ) (answers : Answers tools words s p status) where
  -- what is said of the outcome that a build means
  answers_of : (given : World) (build : IsAskedOf words s.before.tree given)
      (out : Given Site ToolInput RequestResult) → IsWhole (world_of tools given) out →
      IsSteady out.demand →
      AnswersMeant words s p (built build.options.low out.value out.journal) status
  answers_of given build out whole steady =
      answers_meant tools words s p status answers
      (built build.options.low out.value out.journal)
      (means_of tools words s.before.tree given build out whole steady)

  saved_of : (meant : Outcome) → AnswersMeant words s p meant status → HasSaved status →
      SavedAll s meant.commit
  saved_of meant answers (inl zero_is) = (answers.done (inl zero_is)).1.0
  saved_of meant answers (inr (inl one_is)) = (answers.done (inr one_is)).1.0
  saved_of meant answers (inr (inr six_is)) = (answers.sink six_is).saved

  module _ (left : Tree) (again : Given Site ToolInput RequestResult)
      (means : MeansRepeated tools words s.before.tree left again) where
    -- the list was done that the build means
    done : s.after.tree ≡ Some left.files → HasSaved status →
        AreDone (commit_list means.out.journal) means.given.tree.files left.files
    done left_is saved =
        let meant : Outcome =
        built means.build.options.low means.out.value means.out.journal in
        told_both (AreDone (commit_list means.out.journal)) s.before.tree s.after.tree
        means.given.tree.files left.files
        (given_told words s.before.tree means.given means.build) left_is
        (saved_of meant (answers_of means.given means.build means.out means.settled.whole
        means.settled.steady) saved).done

    -- the tree that is left is one over which the next build may be trusted
    pub stays_fresh : s.after.tree ≡ Some left.files → HasSaved status →
        StaysFresh tools means.given left again
    stays_fresh left_is saved = record {
      fresh = stays-fresh tools means.given left means.clean means.out again means.trusted
          means.settled (done left_is saved) means.repeated;
      no_older = stays-no-older tools means.given left means.clean means.out again
          means.trusted means.settled (done left_is saved) means.repeated;
      up_to_date = record {
        no_older = stays-no-older tools means.given left means.clean means.out again
            means.trusted means.settled (done left_is saved) means.repeated;
        keep_off = means.repeated.free;
      };
    }

  module _ (clean : Given Site ToolInput RequestResult)
      (means : MeansUpToDate tools words s.before.tree clean) where
    skips_so : (out : Given Site ToolInput RequestResult) →
        IsWhole (world_of tools means.means.given) out →
        GivesClean means.means.given.tree.files out clean →
        SkipsEach tools means.means.given out → IsCompletion status →
        PrintedSkips tools means.means.given.tree.files p clean.value
    skips_so out whole gives skips done = (
      out.journal,
      means.means.build.options.low,
      skips.records,
      subst (λ (r : RequestResult).
          PrintedAll p (shown_text r out.journal means.means.build.options.low)) gives.result
          ((answers_of means.means.given means.means.build out whole
          (means.means.steady out whole.means)).done done).1.1,
    )

    idles_so : (out : Given Site ToolInput RequestResult) →
        IsWhole (world_of tools means.means.given) out →
        SkipsEach tools means.means.given out → IsCompletion status →
        EndsIdle tools means.means.given means.means.build.options.low s p
    idles_so out whole skips done =
        let w = world_of tools means.means.given in
        let low = means.means.build.options.low in
        let steady = means.means.steady out whole.means in
        let meant : Outcome = built low out.value out.journal in
        record {
          outcome = meant;
          ends =
              ((answers_of means.means.given means.means.build out whole steady).done done).1;
          legal = done_legal tools words s p status answers meant
              (means_of tools words s.before.tree means.means.given means.means.build out whole
              steady) done;
          others = λ events end is.
              uses_of_others tools means.means.given out skips (uses_in w events)
              (are_meant w low out whole steady events end meant is);
        }

    -- no piece uses a tool
    pub build_idles : IsCompletion status →
        EndsIdle tools means.means.given means.means.build.options.low s p
    build_idles =
        let law = build-is-clean tools means.means.given clean means.means.trusted in
        idles_so law.0 law.1
        (second-build-skips tools means.means.given clean means.means.trusted means.up_to_date
        means.mode law.0 law.1.means)

    -- each piece is skipped, and so it is printed
    pub build_skips : IsCompletion status →
        PrintedSkips tools means.means.given.tree.files p clean.value
    build_skips =
        let law = build-is-clean tools means.means.given clean means.means.trusted in
        skips_so law.0 law.1 law.2
        (second-build-skips tools means.means.given clean means.means.trusted means.up_to_date
        means.mode law.0 law.1.means)

-- ---- the calls of tools

module _ (tools : Answering) (words : List (List ℕ)) (told : Option (List File))
    (clean : Given Site ToolInput RequestResult) (means : MeansUpToDate tools words told clean)
    (before after : Called) where
  others_of : (out : Given Site ToolInput RequestResult) →
      IsWhole (world_of tools means.means.given) out → AreMeantCalls out before after →
      SkipsEach tools means.means.given out →
      AreCallsOfOthers tools means.means.given before after
  others_of out whole calls skips = record {
    out = out;
    means = whole.means;
    calls = calls;
    others = uses_of_others tools means.means.given out skips calls.uses calls.meant;
  }

  -- no piece calls a tool
  pub calls_of_others : (status : ℕ) → ((meant : Outcome) (m : Means tools words told meant) →
      IsCompletion status → ∥ AreMeantCalls m.out before after ∥₁) → IsCompletion status →
      ∥ AreCallsOfOthers tools means.means.given before after ∥₁
  calls_of_others status calls done =
      let law = build-is-clean tools means.means.given clean means.means.trusted in
      let skips = second-build-skips tools means.means.given clean means.means.trusted
      means.up_to_date means.mode law.0 law.1.means in
      ∥∥₁_map (calls (built means.means.build.options.low law.0.value law.0.journal)
      (means_of tools words told means.means.given means.means.build law.0 law.1
      (means.means.steady law.0 law.1.means)) done)
      (λ x. others_of law.0 law.1 x skips)
