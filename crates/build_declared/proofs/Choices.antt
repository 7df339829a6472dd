-- What is decided of a bucket may be chosen, and a clean build chooses all.
use Rattle.std.proofs.Common.{
  ◌≡◌,
  ℕ,
  ◌==◌,
  ◌&&◌,
  Bool,
  true,
  false,
  not,
  inl,
  inr,
  List,
  [],
  ◌∷◌,
  length,
  Option,
  None,
  Some,
  refl,
  ap,
  ◌∙◌,
  subst,
  arith,
}
use Rattle.std.specs.Prelude.{option_map, if◌then◌else◌}
use Rattle.std.specs.List.{list_any}
use Rattle.std.proofs.lemmas.Bool.{eqb-true, eq-eqb}
use Rattle.msb_values.specs.declared.item.Item.{Item}
use Rattle.msb_values.specs.declared.mode.Mode.TheVariants.{Incremental, Clean}
use Rattle.result_cache.proofs.RunTests.{tells, clash, and_both}
use Rattle.result_cache.specs.declared.run.RunId.{RunId}
use Rattle.msb_files.specs.Views.{View}
use Rattle.task_trait.specs.declared.tools.ToolAnswer.{ToolAnswer}
use Rattle.task_trait.specs.declared.tools.ToolInput.{ToolInput}
use Rattle.target_incremental.specs.Ages.{pair_is_old, any_is_old}
use Rattle.target_incremental.specs.Decisions.{
  by_pairs,
  item_if,
  old_items,
  of_items,
  by_items,
  by_shape,
  decision,
}
use Rattle.target_incremental.specs.declared.decision.Choice.{Choice}
use Rattle.target_incremental.specs.declared.decision.Choice.TheVariants.{Run as RunAll, Skip, Part}
use Rattle.target_texts.specs.Lists.{Lists}
use Rattle.target_body.specs.States.{Run, State, view_of}
use Rattle.target_body.specs.Pieces.{choice_of, Chooser}
use Rattle.build_declared.specs.Chosen.{all_or_nothing, all_of}
use Rattle.build_declared.specs.Declared.{MayChoose}
use Rattle.build_declared.specs.Sublists.{kept_if, kept}

-- a mark for each item whose pair is out of date
abbrev pub marks_of : View → (inputs outputs : List (List ℕ)) → List Item → List Bool
marks_of view (input ∷ inputs) (output ∷ outputs) (item ∷ items) =
    pair_is_old view input output ∷ marks_of view inputs outputs items
marks_of view inputs outputs items = []

pub old-kept : (view : View) (inputs outputs : List (List ℕ)) (items : List Item) →
    old_items view inputs outputs items ≡ kept (marks_of view inputs outputs items) items
old-kept view (input ∷ inputs) (output ∷ outputs) (item ∷ items) =
    go (pair_is_old view input output) (old-kept view inputs outputs items)
  where
    go : (b : Bool) → old_items view inputs outputs items
        ≡ kept (marks_of view inputs outputs items) items →
        item_if b item (old_items view inputs outputs items)
        ≡ kept_if b item (kept (marks_of view inputs outputs items) items)
    go true ih = ap (λ l. item ∷ l) ih
    go false ih = ih
old-kept view (input ∷ inputs) (output ∷ outputs) [] = refl
old-kept view (input ∷ inputs) [] [] = refl
old-kept view (input ∷ inputs) [] (item ∷ items) = refl
old-kept view [] outputs [] = refl
old-kept view [] outputs (item ∷ items) = refl

pub marks-length : (view : View) (inputs outputs : List (List ℕ)) (items : List Item) →
    length inputs ≡ length items → length outputs ≡ length items →
    length (marks_of view inputs outputs items) ≡ length items
marks-length view (input ∷ inputs) (output ∷ outputs) (item ∷ items) e f = let h =
    marks-length view inputs outputs items (omega arith) (omega arith) in omega (arith, h)
marks-length view (input ∷ inputs) (output ∷ outputs) [] e f = absurd (omega arith)
marks-length view (input ∷ inputs) [] [] e f = absurd (omega arith)
marks-length view (input ∷ inputs) [] (item ∷ items) e f = absurd (omega arith)
marks-length view [] outputs [] e f = refl
marks-length view [] outputs (item ∷ items) e f = absurd (omega arith)

pub some-kept : {X : Type 0} (marks : List Bool) (xs : List X) →
    list_any (λ mark. mark) marks ≡ false → kept marks xs ≡ []
some-kept [] xs e = refl
some-kept (true ∷ marks) xs e = absurd (cc)
some-kept (false ∷ marks) [] e = refl
some-kept (false ∷ marks) (x ∷ xs) e = some-kept marks xs e

pub all-kept : {X : Type 0} (marks : List Bool) (xs : List X) → length marks ≡ length xs →
    list_any not marks ≡ false → length (kept marks xs) ≡ length xs
all-kept [] [] l e = refl
all-kept [] (x ∷ xs) l e = absurd (omega arith)
all-kept (mark ∷ marks) [] l e = absurd (omega arith)
all-kept (true ∷ marks) (x ∷ xs) l e = let h = all-kept marks xs (omega arith) e in omega (arith, h)
all-kept (false ∷ marks) (x ∷ xs) l e = absurd (cc)

module _ (tools : List ℕ → ToolInput → ToolAnswer) (id : RunId) (run : Run) where
  abbrev May : Lists → Choice → Type 0
  May lists choice = MayChoose tools id run lists choice

  may-part : (lists : Lists) (view : View) (kind : List ℕ) (items : List Item) →
      lists.items ≡ Some (kind, items) → all_or_nothing lists.inputs lists.outputs ≡ RunAll →
      length lists.inputs ≡ length items → length lists.outputs ≡ length items →
      (old : List Item) → old ≡ old_items view lists.inputs lists.outputs items →
      May lists (of_items old (length items))
  may-part lists view kind items typed all li lo [] e = all
  may-part lists view kind items typed all li lo (item ∷ old) e =
      go (length (item ∷ old) == length items) refl
    where
      go : (b : Bool) → (length (item ∷ old) == length items) ≡ b →
          May lists (if b then RunAll else Part (item ∷ old))
      go true t = all
      go false t =
          let marks : List Bool = marks_of view lists.inputs lists.outputs items in
          let so : item ∷ old ≡ kept marks items = e
          ∙ old-kept view lists.inputs lists.outputs items in (
            kind,
            items,
            marks,
            typed,
            record {
              each = marks-length view lists.inputs lists.outputs items li lo;
              some = elim (tells (list_any (λ mark. mark) marks)) [
                | inl h ↦ h
                | inr h ↦ absurd (let none : item ∷ old ≡ [] = so ∙ some-kept marks items h in
                    cc)
              ];
              not_all = elim (tells (list_any not marks)) [
                | inl h ↦ h
                | inr h ↦ absurd (
                    let long : length (item ∷ old) ≡ length items =
                    ap length so ∙ all-kept marks items (marks-length view lists.inputs
                    lists.outputs items li lo) h in
                    clash (length (item ∷ old) == length items)
                    (eq-eqb (length (item ∷ old)) (length items) long) t)
              ];
            },
            so,
          )

  may-pairs : (lists : Lists) (view : View) → all_or_nothing lists.inputs lists.outputs ≡ RunAll →
      (b : Bool) → May lists (if b then RunAll else Skip)
  may-pairs lists view all true = all
  may-pairs lists view all false = all

  may-items : (lists : Lists) (view : View) (kind : List ℕ) (items : List Item) →
      lists.items ≡ Some (kind, items) → all_or_nothing lists.inputs lists.outputs ≡ RunAll →
      May lists (by_items view lists.inputs lists.outputs items)
  may-items lists view kind items typed all = go ((length lists.inputs == length items)
      && (length lists.outputs == length items)) refl
    where
      go : (b : Bool) → ((length lists.inputs == length items)
          && (length lists.outputs == length items)) ≡ b →
          May lists (if b then of_items (old_items view lists.inputs lists.outputs items)
          (length items) else by_pairs view lists.inputs lists.outputs)
      go true e =
          let both = and_both (length lists.inputs == length items)
          (length lists.outputs == length items) e in
          may-part lists view kind items typed all (eqb-true (length lists.inputs)
          (length items) both.0) (eqb-true (length lists.outputs) (length items) both.1)
          (old_items view lists.inputs lists.outputs items) refl
      go false e = may-pairs lists view all (any_is_old view lists.inputs lists.outputs)

  may-shape : (lists : Lists) (view : View) (o : Option (List ℕ × List Item)) → lists.items ≡ o →
      all_or_nothing lists.inputs lists.outputs ≡ RunAll →
      May lists (by_shape view lists.inputs lists.outputs (option_map (λ typed. typed.1) o))
  may-shape lists view None e all = may-pairs lists view all
      (any_is_old view lists.inputs lists.outputs)
  may-shape lists view (Some typed) e all = may-items lists view typed.0 typed.1 e all

  pub decided-may : (lists : Lists) (s : State) → May lists (choice_of Incremental run lists s)
  decided-may lists s = go lists.inputs lists.outputs refl refl
    where
      go : (inputs outputs : List (List ℕ)) → lists.inputs ≡ inputs → lists.outputs ≡ outputs →
          May lists (decision (view_of run s) inputs outputs
          (option_map (λ typed. typed.1) lists.items) Incremental)
      go [] outputs e f = ap (λ i. all_or_nothing i lists.outputs) e
      go (input ∷ inputs) [] e f = ap (λ i. all_or_nothing i lists.outputs) e
          ∙ ap (all_or_nothing (input ∷ inputs)) f
      go (input ∷ inputs) (output ∷ outputs) e f =
          let all : all_or_nothing lists.inputs lists.outputs ≡ RunAll =
          ap (λ i. all_or_nothing i lists.outputs) e ∙ ap (all_or_nothing (input ∷ inputs)) f in
          subst (λ i. May lists (by_shape (view_of run s) i (output ∷ outputs)
          (option_map (λ typed. typed.1) lists.items))) e
          (subst (λ o. May lists (by_shape (view_of run s) lists.inputs o
          (option_map (λ typed. typed.1) lists.items))) f
          (may-shape lists (view_of run s) lists.items refl all))

-- a clean build
ext2 : (f g : Chooser) → ((lists : Lists) (s : State) → f lists s ≡ g lists s) → f ≡ g
ext2 f g h = λ i. λ lists s. h lists s i

pub clean-all : (run : Run) → choice_of Clean run ≡ all_of
clean-all run = ext2 (choice_of Clean run) all_of (λ lists s.
    go lists s lists.inputs lists.outputs)
  where
    go : (lists : Lists) (s : State) (inputs outputs : List (List ℕ)) →
        decision (view_of run s) inputs outputs (option_map (λ typed. typed.1) lists.items) Clean
        ≡ all_or_nothing inputs outputs
    go lists s [] outputs = refl
    go lists s (input ∷ inputs) [] = refl
    go lists s (input ∷ inputs) (output ∷ outputs) = refl
