-- What a store has once a list of acts was done whole, or to a place, of a build that gives what
-- the clean build gives.
use Rattle.std.proofs.Common.{
  ◌≡◌,
  ◌≢◌,
  ◌⊎◌,
  ℕ,
  zero,
  suc,
  List,
  [],
  ◌∷◌,
  ◌++◌,
  reverse,
  take,
  slice_get,
  Bool,
  true,
  false,
  not,
  true≢false,
  cond,
  Option,
  None,
  Some,
  option_map,
  unwrap_or,
  MatchOption,
  IsSomeAnd,
  inl,
  inr,
  refl,
  sym,
  ap,
  subst,
  ◌∙◌,
}
use Rattle.std.specs.List.{filter}
use Rattle.std.specs.Option.{option_or}
use Rattle.std.specs.Str.{bytes_eq}
use Rattle.std.proofs.lemmas.List.{reverse-append}
use Rattle.std.proofs.lemmas.Slice.Eq.{bytes_eq-Decides}
use Rattle.msb_values.specs.Acts.{act_path, act_bytes}
use Rattle.msb_values.specs.declared.act.Act.{Act}
use Rattle.msb_values.specs.declared.act.Act.TheVariants.{Write, Remove}
use Rattle.file_store.specs.Commits.{AreDoneTo, HasContents, MayBeDone, bytes_there, last_bytes}
use Rattle.file_store.specs.Files.{file_at}
use Rattle.file_store.specs.Writes.{KeepsOthers}
use Rattle.file_store.specs.declared.tree.File.{File}
use Rattle.file_store.proofs.Commits.{AreDone-contents}
use Rattle.file_store.proofs.Order.{not_true}
use Rattle.result_cache.specs.declared.request.RequestResult.{RequestResult}
use Rattle.result_cache.specs.Journal.{Journal, acted, ended, content}
use Rattle.result_cache.specs.Lists.{this_or}
use Rattle.build_meaning.specs.Meaning.{Given}
use Rattle.msb_files.specs.FinalTree.{last_acts, commit_list, IsFinalTree}
use Rattle.msb_files.specs.Views as views
use Rattle.msb_files.specs.Views.{acts_of}
use Rattle.msb_files.proofs.Committed.{final}
use Rattle.task_trait.specs.declared.tools.ToolInput.{ToolInput}
use Rattle.build_declared.specs.Clean.{GivesClean}
use Rattle.build_declared.specs.Written.{bytes_in}
use Rattle.request_machine.specs.Walk.{Site}
use Rattle.msb_program.specs.Clean.{IsOldOrFinal}

-- ---- what holds of each of a list

none_is : {X : Type 0} (x : X) → None ≡ Some x → ⊥
none_is x is = cc

some_is : {X : Type 0} (x y : X) → Some x ≡ Some y → x ≡ y
some_is x y is = cc

abbrev Each : {X : Type 0} → (X → Type 0) → List X → Type 0
Each P [] = Unit {0}
Each P (x ∷ xs) = P x × Each P xs

each_kept : {X : Type 0} (P Q : X → Type 0) (keeps : X → Bool) →
    ((x : X) → keeps x ≡ true → P x → Q x) → (xs : List X) → Each P xs → Each Q (filter keeps xs)
each_kept P Q keeps to [] h = tt
each_kept P Q keeps to (x ∷ xs) h = by (keeps x) refl (each_kept P Q keeps to xs h.1)
  where
    by : (b : Bool) → keeps x ≡ b → Each Q (filter keeps xs) →
        Each Q (cond b (x ∷ filter keeps xs) (filter keeps xs))
    by true is rest = (to x is h.0, rest)
    by false is rest = rest

module _ {X : Type 0} (P : X → Type 0) where
  each_push : (xs : List X) (x : X) → Each P xs → P x → Each P (xs ++ x ∷ [])
  each_push [] x h p = (p, tt)
  each_push (y ∷ xs) x h p = (h.0, each_push xs x h.1 p)

  each_reverse : (xs : List X) → Each P xs → Each P (reverse xs)
  each_reverse [] h = tt
  each_reverse (x ∷ xs) h =
      subst (Each P) (sym (reverse-append (x ∷ []) xs))
      (each_push (reverse xs) x (each_reverse xs h.1) h.0)

  each_take : (n : ℕ) (xs : List X) → Each P xs → Each P (take n xs)
  each_take zero xs h = tt
  each_take (suc n) [] h = tt
  each_take (suc n) (x ∷ xs) h = (h.0, each_take n xs h.1)

  each_at : (xs : List X) (place : ℕ) (x : X) → Each P xs → slice_get xs place ≡ Some x → P x
  each_at [] place x h is = absurd (none_is x is)
  each_at (y ∷ xs) zero x h is = subst P (some_is y x is) h.0
  each_at (y ∷ xs) (suc place) x h is = each_at xs place x h.1 is

-- ---- the acts of a commit are what its journal has

-- the journal has what the act leaves at its path
abbrev IsIn : Journal → Act → Type 0
IsIn journal act = content journal (act_path act) ≡ Some (act_bytes act)

other_path : (act a : Act) → not (bytes_eq (act_path a) (act_path act)) ≡ true →
    bytes_eq (act_path act) (act_path a) ≡ false
other_path act a is = not_true (bytes_eq (act_path act) (act_path a)) (λ s.
    let e : act_path act ≡ act_path a = (bytes_eq-Decides (act_path act) (act_path a)).0 s in
    let t : bytes_eq (act_path a) (act_path act) ≡ true =
    (bytes_eq-Decides (act_path a) (act_path act)).1 (sym e) in
    true≢false (sym (ap not (sym t) ∙ is)))

last_are_in : (journal : Journal) → Each (IsIn journal) (last_acts (acts_of journal))
last_are_in [] = tt
last_are_in (acted run place act ∷ older) = (
  ap (λ b. this_or b (content older (act_path act)) (act_bytes act))
      ((bytes_eq-Decides (act_path act) (act_path act)).1 refl),
  each_kept (IsIn older) (IsIn (acted run place act ∷ older))
      (λ a. not (bytes_eq (act_path a) (act_path act)))
      (λ a other is. ap (λ b. this_or b (content older (act_path a)) (act_bytes act))
      (other_path act a other) ∙ is)
      (last_acts (acts_of older)) (last_are_in older),
)
last_are_in (ended run made ∷ older) = last_are_in older

committed : (journal : Journal) → Each (IsIn journal) (commit_list journal)
committed journal =
    each_reverse (IsIn journal) (last_acts (acts_of journal)) (last_are_in journal)

-- what such acts leave last at a path
last_is_in : (journal : Journal) (acts : List Act) → Each (IsIn journal) acts →
    (path : List ℕ) (left : Option (List ℕ)) → last_bytes path acts ≡ Some left →
    content journal path ≡ Some left
last_is_in journal [] h path left is = absurd (none_is left is)
last_is_in journal (a ∷ acts) h path left is =
    by (last_bytes path acts) (bytes_eq (act_path a) path) refl refl is
    (last_is_in journal acts h.1 path)
  where
    by : (later : Option (Option (List ℕ))) (b : Bool) → last_bytes path acts ≡ later →
        bytes_eq (act_path a) path ≡ b →
        option_or later (cond b (Some (act_bytes a)) None) ≡ Some left →
        ((found : Option (List ℕ)) → last_bytes path acts ≡ Some found →
        content journal path ≡ Some found) →
        content journal path ≡ Some left
    by (Some found) b there same is rest = rest found there ∙ is
    by None true there same is rest =
        ap (content journal) (sym ((bytes_eq-Decides (act_path a) path).0 same)) ∙ (h.0 ∙ is)
    by None false there same is rest = absurd (none_is left is)

-- ---- a list that was done to a place

apart : (p q : List ℕ) → bytes_eq p q ≡ false → p ≢ q
apart p q is same = let t = (bytes_eq-Decides p q).1 same in cc

has_bytes : (N : File → Type 0) (bytes : List ℕ) (now : Option File) →
    IsSomeAnd now (λ f. (f.bytes ≡ bytes) × N f)
    → option_map (λ (f : File). f.bytes) now ≡ Some bytes
has_bytes N bytes None h = absurd h
has_bytes N bytes (Some f) h = ap Some h.0

others_kept : (act : Act) (before after : List File) → MayBeDone act before after →
    KeepsOthers (act_path act) before after
others_kept (Write put) before after d = d.others
others_kept (Remove path) before after d = d.others

-- its path is as it was, or has what the act leaves there
old_or_left : (act : Act) (before after : List File) → MayBeDone act before after →
    (file_at (act_path act) after ≡ file_at (act_path act) before)
    ⊎ (bytes_there (act_path act) after ≡ act_bytes act)
old_or_left (Write put) before after d = elim d.here [
  | inl same ↦ inl same
  | inr new ↦ inr (has_bytes _ put.bytes (file_at put.path after) new)
]
old_or_left (Remove path) before after d = elim d.here [
  | inl same ↦ inl same
  | inr gone ↦ inr (ap (option_map (λ (f : File). f.bytes)) gone)
]

module _ (files : List File) (journal : Journal) where
  -- a path has its old bytes, or what the journal leaves there
  abbrev IsAt : List ℕ → Option (List ℕ) → Type 0
  IsAt path now =
      (now ≡ bytes_in files path)
      ⊎ (now ≡ views.content (record { files = files; journal = journal }) path)

  final_at : (path : List ℕ) (left now : Option (List ℕ)) → content journal path ≡ Some left →
      now ≡ left → IsAt path now
  final_at path left now there is =
      inr (is ∙ sym (ap (λ o. unwrap_or o (bytes_there path files)) there))

  front_is : (acts : List Act) → Each (IsIn journal) acts → (after : List File) →
      HasContents acts files after → IsOldOrFinal files journal after
  front_is acts each after contents path = by (last_bytes path acts) refl (contents path)
    where
      by : (last : Option (Option (List ℕ))) → last_bytes path acts ≡ last →
          MatchOption last (file_at path after ≡ file_at path files)
          (λ left. bytes_there path after ≡ left) →
          IsAt path (bytes_there path after)
      by None is same = inl (ap (option_map (λ (f : File). f.bytes)) same)
      by (Some left) is has =
          final_at path left (bytes_there path after)
          (last_is_in journal acts each path left is) has

  one_more : (between after : List File) (act : Act) → IsOldOrFinal files journal between →
      IsIn journal act → MayBeDone act between after → IsOldOrFinal files journal after
  one_more between after act front there d path = by (bytes_eq path (act_path act)) refl
    where
      kept : (q : List ℕ) → file_at q after ≡ file_at q between → IsAt q (bytes_there q after)
      kept q same =
          subst (IsAt q) (sym (ap (option_map (λ (f : File). f.bytes)) same)) (front q)

      here : IsAt (act_path act) (bytes_there (act_path act) after)
      here = elim (old_or_left act between after d) [
        | inl same ↦ kept (act_path act) same
        | inr left ↦ final_at (act_path act) (act_bytes act) _ there left
      ]

      by : (b : Bool) → bytes_eq path (act_path act) ≡ b → IsAt path (bytes_there path after)
      by true is =
          subst (λ q. IsAt q (bytes_there q after))
          (sym ((bytes_eq-Decides path (act_path act)).0 is)) here
      by false is =
          kept path (others_kept act between after d path (apart path (act_path act) is))

  part_is : (place : ℕ) (after : List File) →
      AreDoneTo place (commit_list journal) files after → IsOldOrFinal files journal after
  part_is place after w = by (slice_get (commit_list journal) place) refl w.next
    where
      front : IsOldOrFinal files journal w.between
      front =
          front_is (take place (commit_list journal))
          (each_take (IsIn journal) place (commit_list journal) (committed journal)) w.between
          (AreDone-contents (take place (commit_list journal)) files w.between w.first)

      by : (next : Option Act) → slice_get (commit_list journal) place ≡ next →
          IsSomeAnd next (λ act. MayBeDone act w.between after) →
          IsOldOrFinal files journal after
      by None is h = absurd h
      by (Some act) is h =
          one_more w.between after act front
          (each_at (IsIn journal) (commit_list journal) place act (committed journal) is) h

-- ---- of a build that gives what the clean build gives

module _ (files : List File) (out clean : Given Site ToolInput RequestResult)
    (gives : GivesClean files out clean) where
  -- its whole list leaves what the clean build leaves
  pub whole_is_clean : (after : List File) → HasContents (commit_list out.journal) files after →
      IsFinalTree files clean.journal after
  whole_is_clean after contents path =
      final out.journal files after contents path ∙ gives.contents path

  -- a part of it leaves at each path what was there, or what the clean build leaves
  pub part_is_clean : (place : ℕ) (after : List File) →
      AreDoneTo place (commit_list out.journal) files after →
      IsOldOrFinal files clean.journal after
  part_is_clean place after done path = by (part_is files out.journal place after done path)
    where
      by : IsAt files out.journal path (bytes_there path after) →
          IsAt files clean.journal path (bytes_there path after)
      by (inl old) = inl old
      by (inr new) = inr (new ∙ gives.contents path)
