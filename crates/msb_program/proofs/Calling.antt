-- The calls of tools that a build makes.
use Rattle.std.proofs.Common.{
  ◌≡◌,
  ◌<◌,
  ◌⊎◌,
  ℕ,
  List,
  [],
  Bool,
  Option,
  None,
  Some,
  Result,
  Ok,
  Err,
  IfOk,
  IfSome,
  inl,
  inr,
  ap,
  sym,
  subst,
  ◌∙◌,
  arith,
}
use Rattle.std.proofs.Math.Logic.{∥∥₁_map}
use Rattle.msb_paths.specs.Refused.{normal_path}
use Rattle.msb_values.specs.declared.errors.NoMemory.{NoMemory}
use Rattle.file_store.specs.Limits.{limit_fault}
use Rattle.file_store.specs.Loads.{OfListing}
use Rattle.file_store.specs.declared.loading.LoadFault.{LoadFault}
use Rattle.file_store.specs.declared.tree.File.{File}
use Rattle.result_cache.specs.declared.request.RequestResult.{RequestResult}
use Rattle.build_meaning.specs.declared.event.Event.{Event}
use Rattle.build_meaning.specs.Demand.{IsWhole, IsSteady}
use Rattle.build_meaning.specs.Meaning.{Given}
use Rattle.build_meaning.specs.World.{World}
use Rattle.build_world.specs.declared.world.World.{World as Built}
use Rattle.build_history.specs.Uses.{uses_in, AreMeant}
use Rattle.build_history.proofs.UsesMeant.{tools_are_used_as_meant}
use Rattle.build_scheduler.specs.declared.slot.End.{End}
use Rattle.build_scheduler.specs.declared.slot.End.TheVariants.{
  Root,
  Circular,
  TooDeep,
  TooMany,
  NoMemory as WantsMemory,
}
use Rattle.build_outcome.specs.Outcomes.{IsOutcomeAt}
use Rattle.build_outcome.specs.declared.outcome.Outcome.{Outcome}
use Rattle.build_outcome.proofs.NoStops.{no-circles, never-deep, never-many}
use Rattle.request_machine.specs.Worlds.{world_of}
use Rattle.msb_words.specs.Options.{options_in}
use Rattle.msb_words.specs.declared.options.Action.TheVariants.{Trial as ToTry}
use Rattle.msb_words.specs.declared.options.Options.{Options}
use Rattle.msb_program.specs.Answers.{AreLoaded}
use Rattle.msb_program.specs.declared.top.Prepared.TheVariants.{Ended}
use Rattle.msb_outcomes.specs.Calls.{Called, AreCallsFor}
use Rattle.msb_outcomes.specs.OnNodes.{ComesOn}
use Rattle.msb_program.specs.Calls.{AreMeantCalls, IsOfHistory, IsOfNodes, IsUndone, IsUnmade}
use Rattle.msb_program.specs.Endings.{EndsMade, SinkChange, StoreChange}
use Rattle.msb_program.specs.Meanings.{IsAskedOf, Means}
use Rattle.msb_outcomes.specs.Outcomes.{Answering, IsWorkAt}
use Rattle.build_engine.specs.Statuses.{IsCompletion}
use Rattle.msb_outcomes.specs.declared.work.Work.{Work}
use Rattle.msb_outcomes.specs.declared.work.Work.TheVariants.{Build}
use Rattle.msb_program.proofs.Meant.{same_work, same_options}
use Rattle.msb_program.proofs.Parts.{invocation_of}
use Rattle.msb_outcomes.proofs.Working.{build_is_asked}

module _ {P I A : Type 0} (w : World P I A) (low : Bool) where
  -- of a whole and steady world they are the meaning's
  module _ (out : Given P I RequestResult) (whole : IsWhole w out) (steady : IsSteady out.demand)
    where
      pub are_meant : (events : List Event) (end : Option End) (outcome : Outcome) →
          IsOutcomeAt w low events end outcome → AreMeant out (uses_in w events)
      are_meant events None outcome h = absurd h
      are_meant events (Some (Root result)) outcome h =
          tools_are_used_as_meant w out whole steady events h.state h.history result h.journal
          h.ends
      are_meant events (Some (Circular runs)) outcome h =
          absurd (no-circles w out whole steady events runs h.0)
      are_meant events (Some (TooDeep keys)) outcome h =
          absurd (never-deep w out whole steady events keys h.0)
      are_meant events (Some (TooMany instance)) outcome h =
          absurd (never-many w out whole steady events instance h.0)
      are_meant events (Some WantsMemory) outcome h = absurd h

-- the work that is left is the build that the words ask for
module _ (words : List (List ℕ)) (told : Option (List File)) (given : Built)
    (build : IsAskedOf words told given) where
  of_build : (P : Options → Work → Type 0) (options : Options) (files : List File) (work : Work) →
      options_in words ≡ Some options → AreLoaded told files →
      IsWorkAt options files (normal_path [] options.project) work → P options work →
      P build.options (Build given)
  of_build P options files work asked loaded is holds =
      let o : options ≡ build.options =
      ap (λ (x : Option Options). elim x [ None ↦ options | Some found ↦ found ])
      (sym asked ∙ build.asked) in
      let f : files ≡ build.files =
      subst (λ those. IfSome those (λ found. files ≡ found)) build.told_are loaded.told_are in
      let here : IsWorkAt build.options build.files (normal_path [] build.options.project) work =
      subst (λ those. IsWorkAt build.options those (normal_path [] build.options.project) work) f
      (subst (λ (x : Options). IsWorkAt x files (normal_path [] x.project) work) o is) in
      let same : work ≡ Build given =
      same_work build.options build.files given (normal_path [] build.options.project) work here
      build.is in
      subst (λ x. P build.options x) same (subst (λ (x : Options). P x work) o holds)

  -- words that ask for a build ask for no trial
  pub no_trial_built : (options : Options) → options_in words ≡ Some options →
      options.action ≡ ToTry → ⊥
  no_trial_built options asked trial =
      cc (sym trial ∙ ap (λ (o : Options). o.action)
      (ap (λ (x : Option Options). elim x [ None ↦ options | Some found ↦ found ])
      (sym asked ∙ build.asked))
      ∙ build_is_asked build.options build.files (normal_path [] build.options.project) given
      build.is)

module _ (tools : Answering) (words : List (List ℕ)) (told : Option (List File)) (meant : Outcome)
    (means : Means tools words told meant) where
  meant_calls : (outcome : Outcome) (before after : Called) →
      AreCallsFor tools means.build.options.low (Build means.given) outcome before after →
      ∥ AreMeantCalls means.out before after ∥₁
  meant_calls outcome before after calls = ∥∥₁_map calls (λ x. record {
    uses = uses_in (world_of tools means.given) x.comes.events;
    calls = x.tools;
    meant =
        are_meant (world_of tools means.given) means.build.options.low means.out means.whole
        means.steady x.comes.events x.comes.end outcome x.comes.is;
  })

  of_words : (options : Options) (files : List File) (work : Work) (outcome : Outcome)
      (before after : Called) → options_in words ≡ Some options → AreLoaded told files →
      IsWorkAt options files (normal_path [] options.project) work →
      AreCallsFor tools options.low work outcome before after →
      ∥ AreMeantCalls means.out before after ∥₁
  of_words options files work outcome before after asked loaded is calls =
      meant_calls outcome before after
      (of_build words told means.given means.build
      (λ o w. AreCallsFor tools o.low w outcome before after) options files work asked loaded is
      calls)

  -- the calls of a build that is done are those of the meaning
  pub done_calls : (options : Options) (files : List File) (work : Work)
      (made : Result Outcome NoMemory) (before after : Called) (s : StoreChange)
      (p : SinkChange) (status : ℕ) → options_in words ≡ Some options →
      AreLoaded told files →
      IsWorkAt options files (normal_path [] options.project) work →
      IfOk made (λ o. AreCallsFor tools options.low work o before after) →
      EndsMade made s p status → IsCompletion status →
      ∥ AreMeantCalls means.out before after ∥₁
  done_calls options files work (Ok o) before after s p status asked
      loaded is calls ends completed =
      of_words options files work o before after asked loaded is calls
  done_calls options files work (Err e) before after s p status asked
      loaded is calls ends completed =
      absurd (elim completed [
        | inl zero_is ↦ absurd (omega (arith, zero_is, ends.0))
        | inr one_is ↦ absurd (omega (arith, one_is, ends.0))
      ])

  -- no trial is meant
  pub no_trial_meant : (options : Options) → options_in words ≡ Some options →
      options.action ≡ ToTry → ⊥
  no_trial_meant options asked trial =
      cc (sym trial ∙ ap (λ (o : Options). o.action)
      (same_options tools words told meant means options asked)
      ∙ build_is_asked means.build.options means.build.files
      (normal_path [] means.build.options.project) means.given means.build.is)

-- statuses that are told apart
two-undone : (status : ℕ) → IsCompletion status → status ≡ 2 → ⊥
two-undone status (inl zero_is) is = omega (arith, zero_is, is)
two-undone status (inr one_is) is = omega (arith, one_is, is)

more-undone : (status other : ℕ) → status ≡ other → 4 < other → IsCompletion status → ⊥
more-undone status other is more (inl zero_is) = omega (arith, is, zero_is, more)
more-undone status other is more (inr one_is) = omega (arith, is, one_is, more)

-- nothing is done where all has ended before
pub undone_incomplete : (words : List (List ℕ)) (s : StoreChange) (p : SinkChange)
    (status : ℕ) →
    IsUndone (invocation_of words s p) (Ended status) → IsCompletion status → ⊥
undone_incomplete words s p status (inl usage) done = two-undone status done usage.0
undone_incomplete words s p status (inr (inl past)) done =
    more-undone status 8 past.0 (omega arith) done
undone_incomplete words s p status (inr (inr (inl failed))) done =
    more-undone status 5 failed.0 (omega arith) done
undone_incomplete words s p status (inr (inr (inr memory))) done =
    more-undone status 7 memory.0 (omega arith) done

-- what a build that is asked for came to is of one history
module _ (tools : Answering) (words : List (List ℕ)) (told : Option (List File)) (given : Built)
    (build : IsAskedOf words told given) where
  -- its files are within the limits
  never-past : (s : StoreChange) (fault : LoadFault) → s.before.tree ≡ told →
      OfListing s.before.tree (λ listing. limit_fault listing ≡ Some fault) → ⊥
  never-past s fault same past =
      let here = subst (λ (those : Option (List File)).
      OfListing those (λ listing. limit_fault listing ≡ Some fault)) (same ∙ build.told_are) past in
      cc (sym here ∙ build.within)

  -- where all has ended before anything was made, it came to no outcome
  pub undone_unmade : (s : StoreChange) (p : SinkChange) (status : ℕ) → s.before.tree ≡ told →
      IsUndone (invocation_of words s p) (Ended status) → IsUnmade words s p status
  undone_unmade s p status same (inl usage) = absurd (cc (sym usage.1.0 ∙ build.asked))
  undone_unmade s p status same (inr (inl past)) =
      absurd (never-past s past.1.0 same past.1.1)
  undone_unmade s p status same (inr (inr unmade)) = unmade

  module _ (options : Options) (files : List File) (work : Work)
      (asked : options_in words ≡ Some options) (loaded : AreLoaded told files)
      (is : IsWorkAt options files (normal_path [] options.project) work)
      (s : StoreChange) (p : SinkChange) (status : ℕ) where
    pub made_history : (made : Result Outcome NoMemory) (before after : Called) →
        IfOk made (λ o. AreCallsFor tools options.low work o before after) →
        EndsMade made s p status →
        ∥ IsOfHistory tools given build.options.low before after s p status ∥₁
        ⊎ IsUnmade words s p status
    made_history (Ok o) before after calls ends =
        inl (∥∥₁_map (of_build words told given build
        (λ asks w. AreCallsFor tools asks.low w o before after) options files work asked loaded is
        calls) (λ x. record { outcome = o; used = x; ends = ends }))
    made_history (Err none) before after calls ends = inr (inr ends)

    pub made_on_nodes : (made : Result Outcome NoMemory) →
        IfOk made (ComesOn tools options.nodes options.low work) →
        EndsMade made s p status →
        ∥ IsOfNodes tools given build.options s p status ∥₁ ⊎ IsUnmade words s p status
    made_on_nodes (Ok o) comes ends =
        inl (∥∥₁_map (of_build words told given build
        (λ asks w. ComesOn tools asks.nodes asks.low w o) options files work asked loaded is comes)
        (λ x. record { outcome = o; is = x; ends = ends }))
    made_on_nodes (Err none) comes ends = inr (inr ends)
