-- What a status says where the world of the build is whole and steady.
use Rattle.std.proofs.Common.{
  ◌≡◌,
  ◌⊎◌,
  ℕ,
  List,
  [],
  true,
  false,
  ◌≤◌,
  Bool,
  Option,
  Some,
  None,
  Result,
  Ok,
  Err,
  IfSome,
  inl,
  inr,
  refl,
  ap,
  sym,
  subst,
  ◌∙◌,
  arith,
}
use Rattle.std.proofs.Math.Logic.{∥∥₁_elim}
use Rattle.std.specs.Coded.{
  Coded,
  Coded-set,
  code_by,
  coded×,
  coded_list,
  coded_option,
  coded_ℕ,
  coded_bool,
}
use Rattle.msb_values.specs.declared.key.InstanceKey.{InstanceKey}
use Rattle.msb_values.specs.declared.mode.Mode.{Mode}
use Rattle.msb_values.specs.declared.act.Act.{Act}
use Rattle.msb_values.specs.declared.act.Act.TheVariants.{Write, Remove}
use Rattle.file_store.specs.Entries.{entries_of}
use Rattle.file_store.specs.Files.{are_in_order, file_at}
use Rattle.file_store.specs.Limits.{limit_fault}
use Rattle.file_store.specs.Loads.{OfListing}
use Rattle.file_store.specs.declared.loading.LoadFault.{LoadFault}
use Rattle.file_store.specs.declared.tree.File.{File}
use Rattle.file_store.specs.declared.tree.Tree.{Tree}
use Rattle.msb_paths.specs.Refused.{normal_path}
use Rattle.msb_paths.specs.declared.errors.NormalFault.{NormalFault}
use Rattle.build_world.specs.declared.fault.EvalFault.{EvalFault}
use Rattle.build_world.specs.declared.world.World.{World}
use Rattle.msb_instance.specs.Evaluated.{Instance, evaluated}
use Rattle.build_outcome.specs.Outcomes.{IsOutcome, status_of}
use Rattle.build_outcome.specs.declared.outcome.Outcome.{Outcome}
use Rattle.build_outcome.proofs.OutcomesAgree.{outcome_is_the_meanings}
use Rattle.request_machine.specs.Worlds.{world_of}
use Rattle.msb_words.specs.Options.{options_in}
use Rattle.msb_words.specs.declared.options.Options.{Options}
use Rattle.msb_words.specs.declared.options.Action.{Action}
use Rattle.msb_words.specs.declared.options.Action.TheVariants.{
  Build as ToBuild,
  Check as ToCheck,
  Eval,
  Targets,
  Trial,
}
use Rattle.msb_program.specs.Answers.{
  Answers,
  HasOutcome,
  HasTrial,
  IsLoadFailure,
  IsStatus,
  IsStatusOf,
  IsPastLimit,
}
use Rattle.msb_program.specs.Endings.{
  StoreChange,
  Kept,
  SinkChange,
  PrintedAll,
  PrintedFront,
  Silent,
  EndsWhole,
  EndsRefused,
  EndsUnprinted,
  EndsUnwritten,
  EndsHalfway,
  StoreFailed,
  SinkFailed,
}
use Rattle.msb_program.specs.Meanings.{AnswersMeant, Means}
use Rattle.msb_outcomes.specs.Outcomes.{
  Answering,
  ComesOf,
  IsAsked,
  IsBuildOf,
  IsOutcomeAt,
  IsOutcomeOf,
  IsOutcomeWithin,
  IsWorkAt,
  IsWorkOfAction,
  IsWorkOfFile,
  IsWorkOfInstance,
  key_at,
}
use Rattle.msb_outcomes.specs.declared.work.Work.{Work}
use Rattle.msb_outcomes.specs.declared.work.Work.TheVariants.{Told, Build, Check}
use Rattle.msb_outcomes.proofs.Working.{build_is_asked}

bytes_code : Coded (List ℕ)
bytes_code = coded_list coded_ℕ

-- a path, with the bytes that it then has
act_parts : Act → List ℕ × Option (List ℕ)
act_parts (Write put) = (put.path, Some put.bytes)
act_parts (Remove path) = (path, None)

act_of_parts : List ℕ × Option (List ℕ) → Act
act_of_parts x = elim x.1 [
  | None ↦ Remove x.0
  | Some bytes ↦ Write (record { path = x.0; bytes = bytes })
]

same_act : (act : Act) → act_of_parts (act_parts act) ≡ act
unfolding act_parts act_of_parts
same_act (Write put) = refl
same_act (Remove path) = refl

act_code : Coded Act
act_code =
    code_by (List ℕ × Option (List ℕ)) (coded× bytes_code (coded_option bytes_code))
    act_parts act_of_parts same_act

outcome_code : Coded Outcome
outcome_code =
    code_by (ℕ × (List ℕ × (List Act × ℕ)))
    (coded× coded_ℕ (coded× bytes_code (coded× (coded_list act_code) coded_ℕ)))
    (λ o. (o.status, (o.text, (o.commit, o.runs))))
    (λ x. record { status = x.0; text = x.1.0; commit = x.1.1.0; runs = x.1.1.1 }) (λ _. refl)

-- a tree is its files
abbrev tree_of : (files : List File) → are_in_order files ≡ true → Tree
tree_of files in_order = record { files = files; in_order = in_order }

same_tree : (files others : List File) (p : are_in_order files ≡ true) → files ≡ others →
    (q : are_in_order others ≡ true) → tree_of files p ≡ tree_of others q
same_tree files others p same =
    subst (λ those. (q : are_in_order those ≡ true) → tree_of files p ≡ tree_of those q) same
    (λ q. ap (tree_of files) (Coded-set coded_bool _ _ p q))

abbrev world_of_parts : Tree → List ℕ → List (List ℕ × List ℕ) → List (List ℕ) → Mode → World
world_of_parts tree root globals targets mode = record {
  tree = tree;
  root = root;
  globals = globals;
  targets = targets;
  mode = mode;
}

same_world : (a b : World) → a.tree ≡ b.tree → a.root ≡ b.root → a.globals ≡ b.globals →
    a.targets ≡ b.targets → a.mode ≡ b.mode → a ≡ b
same_world a b trees roots globals targets modes =
    ap (λ tree. world_of_parts tree a.root a.globals a.targets a.mode) trees
    ∙ ap (λ root. world_of_parts b.tree root a.globals a.targets a.mode) roots
    ∙ ap (λ pairs. world_of_parts b.tree b.root pairs a.targets a.mode) globals
    ∙ ap (λ names. world_of_parts b.tree b.root b.globals names a.mode) targets
    ∙ ap (λ mode. world_of_parts b.tree b.root b.globals b.targets mode) modes

module _ (options : Options) (key : InstanceKey) (files : List File) (given : World) where
  -- what is asked for is one world
  same_given : (other : World) → IsAsked options key files other → IsAsked options key files given →
      other ≡ given
  same_given other x y =
      same_world other given
      (same_tree other.tree.files given.tree.files other.tree.in_order (x.tree ∙ sym y.tree)
      given.tree.in_order) (x.root ∙ sym y.root) (x.globals ∙ sym y.globals)
      (x.targets ∙ sym y.targets) (x.mode ∙ sym y.mode)

  same_build : (work : Work) → IsBuildOf options key files work → IsAsked options key files given →
      work ≡ Build given
  same_build (Told o) x y = absurd x
  same_build (Build other) x y = ap Build (same_given other x y)
  same_build (Check other) x y = absurd x

  same_action : (action : Action) (instance : Instance) (work : Work) →
      IsWorkOfAction action options key files instance work →
      IsWorkOfAction action options key files instance (Build given) → work ≡ Build given
  same_action ToBuild instance work x y = same_build work x y
  same_action ToCheck instance work x y = absurd y
  same_action Eval instance work x y = x ∙ sym y
  same_action Targets instance work x y = x ∙ sym y
  same_action Trial instance work x y = absurd x

  same_instance_work : (result : Result Instance EvalFault) (work : Work) →
      IsWorkOfInstance options key files result work →
      IsWorkOfInstance options key files result (Build given) → work ≡ Build given
  same_instance_work (Ok instance) work x y = same_action options.action instance work x y
  same_instance_work (Err fault) work x y = x ∙ sym y

  same_file_work : (file : Option File) (work : Work) → IsWorkOfFile options key files file work →
      IsWorkOfFile options key files file (Build given) → work ≡ Build given
  same_file_work None work x y = x ∙ sym y
  same_file_work (Some file) work x y = same_instance_work (evaluated files key) work x y

pub same_work : (options : Options) (files : List File) (given : World)
    (path : Result (List ℕ) NormalFault) (work : Work) → IsWorkAt options files path work →
    IsWorkAt options files path (Build given) → work ≡ Build given
same_work options files given (Ok path) work x y =
    let key : InstanceKey = key_at path options in
    same_file_work options key files given (file_at path files) work x y
same_work options files given (Err fault) work x y = x ∙ sym y

module _ (tools : Answering) (words : List (List ℕ)) (told : Option (List File)) (meant : Outcome)
    (means : Means tools words told meant) where
  -- what comes of the build is what it means
  meant_of : (outcome : Outcome) →
      ∥ IsOutcome (world_of tools means.given) means.build.options.low outcome ∥₁ → outcome ≡ meant
  meant_of outcome is =
      ∥∥₁_elim is (Coded-set outcome_code _ _)
      (λ x. outcome_is_the_meanings (world_of tools means.given) means.out means.whole means.steady
      means.build.options.low outcome x ∙ sym means.is)

  -- what comes of the words over the files that are told comes of the build
  abbrev Legal : Outcome → Type 0
  Legal outcome = ∥ IsOutcome (world_of tools means.given) means.build.options.low outcome ∥₁

  legal_at : (outcome : Outcome) → IsOutcomeAt tools means.build.options means.build.files
      (normal_path [] means.build.options.project) outcome → Legal outcome
  legal_at outcome is =
      subst (λ work. ComesOf tools means.build.options.low work outcome)
      (same_work means.build.options means.build.files means.given
      (normal_path [] means.build.options.project) is.0 is.1 means.build.is) is.2

  legal_within : (outcome : Outcome) →
      IsOutcomeOf tools means.build.options means.build.files outcome → Legal outcome
  legal_within outcome is =
      legal_at outcome (subst (λ (limit : Option LoadFault). IsOutcomeWithin tools
      means.build.options means.build.files limit outcome) means.build.within is)

  pub same_options : (options : Options) → options_in words ≡ Some options →
      options ≡ means.build.options
  same_options options asked =
      ap (λ (o : Option Options). elim o [ None ↦ options | Some found ↦ found ])
      (sym asked ∙ means.build.asked)

  pub same_files : (files : List File) → IfSome told (λ those. files ≡ those) →
      files ≡ means.build.files
  same_files files told_are =
      subst (λ those. IfSome those (λ found. files ≡ found)) means.build.told_are told_are

  -- every outcome of the words and the loaded files is one of the build, and what it means
  pub outcome_legal : (options : Options) (files : List File) (outcome : Outcome) →
      options_in words ≡ Some options → IfSome told (λ those. files ≡ those) →
      IsOutcomeOf tools options files outcome → Legal outcome
  outcome_legal options files outcome asked told_are is =
      legal_within outcome
      (subst (λ found. IsOutcomeOf tools found means.build.files outcome)
      (same_options options asked) (subst (λ those. IsOutcomeOf tools options those outcome)
      (same_files files told_are) is))

  pub outcome_meant : (options : Options) (files : List File) (outcome : Outcome) →
      options_in words ≡ Some options → IfSome told (λ those. files ≡ those) →
      IsOutcomeOf tools options files outcome → outcome ≡ meant
  outcome_meant options files outcome asked told_are is =
      meant_of outcome (outcome_legal options files outcome asked told_are is)

  pub holds_meant : (P : Outcome → Type 0) → HasOutcome tools words told P → P meant
  holds_meant P x =
      subst P (outcome_meant x.options x.files x.outcome x.asked x.loaded.told_are x.is) x.holds

  pub holds_legal : (P : Outcome → Type 0) → HasOutcome tools words told P → Legal meant
  holds_legal P x =
      subst Legal (outcome_meant x.options x.files x.outcome x.asked x.loaded.told_are x.is)
      (outcome_legal x.options x.files x.outcome x.asked x.loaded.told_are x.is)

  -- what asks for a build asks for no trial
  pub no_trial : (options : Options) → options_in words ≡ Some options → options.action ≡ Trial → ⊥
  no_trial options asked trial =
      let build : means.build.options.action ≡ ToBuild =
      build_is_asked means.build.options means.build.files
      (normal_path [] means.build.options.project) means.given means.build.is in
      let apart : ToBuild ≡ Trial =
      sym build ∙ ap (λ (o : Options). o.action) (sym (same_options options asked)) ∙ trial in
      cc

  -- a build that means something comes to its end
  pub meant_status : (meant.status ≡ 0) ⊎ (meant.status ≡ 1)
  meant_status = ended means.out.value.ok (ap (λ (o : Outcome). o.status) means.is)
    where
      ended : (ok : Bool) → meant.status ≡ status_of ok → (meant.status ≡ 0) ⊎ (meant.status ≡ 1)
      ended true is = inl is
      ended false is = inr is

  unasked : (options_in words ≡ None) → ⊥
  unasked none = let apart : None ≡ Some means.build.options = sym none ∙ means.build.asked in cc

  in_limits : {s : StoreChange} {p : SinkChange} → s.before.tree ≡ told → IsPastLimit words s p →
      ⊥
  in_limits {s} {p} same past =
      let those : Option (List File) = told in
      let passed : limit_fault (entries_of means.build.files) ≡ Some past.0 =
      subst (λ (those : Option (List File)).
      OfListing those (λ listing. limit_fault listing ≡ Some past.0))
      (same ∙ means.build.told_are) past.1 in
      let apart : None ≡ Some past.0 = sym means.build.within ∙ passed in
      cc

module _ (tools : Answering) (words : List (List ℕ)) (s : StoreChange) (p : SinkChange)
    (status : ℕ) (answers : Answers tools words s p status)
    (meant : Outcome) (means : Means tools words s.before.tree meant) where
  holds : (P : Outcome → Type 0) → HasOutcome tools words s.before.tree P → P meant
  holds = holds_meant tools words s.before.tree meant means

  not_refused : (at : ℕ) → 2 ≤ at → meant.status ≡ at → ⊥
  not_refused at most is =
      elim (meant_status tools words s.before.tree meant means) [
        | inl zero_is ↦ absurd (omega (arith, zero_is, is, most))
        | inr one_is ↦ absurd (omega (arith, one_is, is, most))
      ]

  known_meant : IsStatus status →
      (status ≡ 0) ⊎ (status ≡ 1) ⊎ (status ≡ 5) ⊎ (status ≡ 6) ⊎ (status ≡ 7)
  known_meant (inl zero_is) = inl zero_is
  known_meant (inr (inl one_is)) = inr (inl one_is)
  known_meant (inr (inr (inl two_is))) =
      absurd (unasked tools words s.before.tree meant means (answers.usage two_is).0)
  known_meant (inr (inr (inr (inl three_is)))) =
      absurd (not_refused 3 (omega arith)
      (holds (λ o. (o.status ≡ 3) × EndsRefused s p o) (answers.refused three_is)).0)
  known_meant (inr (inr (inr (inr (inl four_is))))) =
      absurd (not_refused 4 (omega arith)
      (holds (λ o. (o.status ≡ 4) × EndsRefused s p o) (answers.stopped four_is)).0)
  known_meant (inr (inr (inr (inr (inr (inl five_is)))))) = inr (inr (inl five_is))
  known_meant (inr (inr (inr (inr (inr (inr (inl six_is))))))) = inr (inr (inr (inl six_is)))
  known_meant (inr (inr (inr (inr (inr (inr (inr (inl seven_is)))))))) =
      inr (inr (inr (inr seven_is)))
  known_meant (inr (inr (inr (inr (inr (inr (inr (inr (inl eight_is))))))))) =
      absurd (in_limits tools words s.before.tree meant means refl (answers.limited eight_is))
  known_meant (inr (inr (inr (inr (inr (inr (inr (inr (inr nine_is))))))))) =
      absurd (not_refused 9 (omega arith)
      (holds (λ o. (o.status ≡ 9) × EndsRefused s p o) (answers.spent nine_is)).0)

  -- what is known of an outcome of the words, or else of a trial, holds of what the build means
  not_tried : (P : Outcome → Type 0) (Q : List ℕ → Type 0) →
      HasOutcome tools words s.before.tree P ⊎ HasTrial words s Q → P meant
  not_tried P Q (inl x) = holds P x
  not_tried P Q (inr x) =
      absurd (no_trial tools words s.before.tree meant means x.options x.asked x.trial)

  done_meant : (status ≡ 0) ⊎ (status ≡ 1) → (status ≡ meant.status) × EndsWhole s p meant
  done_meant (inl zero_is) =
      let x = not_tried (λ o. (o.status ≡ 0) × EndsWhole s p o) (PrintedAll p)
      (answers.done zero_is) in (zero_is ∙ sym x.0, x.1)
  done_meant (inr one_is) =
      let x = holds (λ o. (o.status ≡ 1) × EndsWhole s p o) (answers.failed one_is) in
      (one_is ∙ sym x.0, x.1)

  -- and some legal history of the build leads to it
  pub done_legal : (status ≡ 0) ⊎ (status ≡ 1) → Legal tools words s.before.tree meant means meant
  done_legal (inl zero_is) = elim (answers.done zero_is) [
    | inl x ↦
        holds_legal tools words s.before.tree meant means
        (λ o. (o.status ≡ 0) × EndsWhole s p o) x
    | inr x ↦ absurd (no_trial tools words s.before.tree meant means x.options x.asked x.trial)
  ]
  done_legal (inr one_is) =
      holds_legal tools words s.before.tree meant means (λ o. (o.status ≡ 1) × EndsWhole s p o)
      (answers.failed one_is)

  store_meant : status ≡ 5 →
      IsLoadFailure words s p ⊎ EndsUnwritten s p meant
  store_meant five_is = elim (answers.store five_is) [
    | inl load ↦ inl load
    | inr commit ↦ inr (holds (EndsUnwritten s p) commit)
  ]

  memory_meant : status ≡ 7 → Silent p × (Kept s ⊎ EndsHalfway s meant)
  memory_meant seven_is =
      let x = answers.memory seven_is in
      (x.0, elim x.1 [ inl kept ↦ inl kept | inr halfway ↦ inr (holds (EndsHalfway s) halfway) ])

  told_meant : (options : Option Options) (told : Option (List File)) → options_in words ≡ options →
      s.before.tree ≡ told → IsStatusOf tools options told status → status ≡ meant.status
  told_meant None told none same is = absurd (unasked tools words s.before.tree meant means none)
  told_meant (Some options) None asked none is =
      let apart : None ≡ Some means.build.files = sym none ∙ means.build.told_are in
      absurd (nothing apart)
    where
      nothing : None ≡ Some means.build.files → ⊥
      nothing apart = cc
  told_meant (Some options) (Some files) asked same (inl is) =
      let outcome = is.1.0 in
      is.1.2 ∙ ap (λ (o : Outcome). o.status)
      (outcome_meant tools words s.before.tree meant means options files outcome asked
      (subst (λ those. IfSome those (λ found. files ≡ found)) (sym same) refl) is.1.1)
  told_meant (Some options) (Some files) asked same (inr trial) =
      absurd (no_trial tools words s.before.tree meant means options asked trial.0)

  unfailing_meant : ¬ StoreFailed s → ¬ SinkFailed p →
      (status ≡ 7) ⊎ (status ≡ meant.status)
  unfailing_meant store sink = elim (answers.unfailing store sink) [
    | inl seven_is ↦ inl seven_is
    | inr is ↦ inr (told_meant (options_in words) s.before.tree refl refl is)
  ]

  pub answers_meant : AnswersMeant words s p meant status
  answers_meant =
      record {
        known = known_meant answers.known;
        done = done_meant;
        store = store_meant;
        sink =
            λ six_is. not_tried (EndsUnprinted s p)
            (λ text. SinkFailed p × PrintedFront p text)
            (answers.sink six_is);
        memory = memory_meant;
        unfailing = unfailing_meant;
      }
