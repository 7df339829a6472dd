-- What is asked of entries that are added in place, one entry on, and of them and the older ones.
use Rattle.std.proofs.Common.{
  ◌≡◌,
  ℕ,
  ◌+◌,
  ◌-◌,
  ◌<◌,
  ◌≤◌,
  List,
  [],
  ◌∷◌,
  ◌++◌,
  length,
  take,
  drop,
  get_or,
  reverse,
  Bool,
  ◌||◌,
  Option,
  Some,
  None,
  inl,
  inr,
  refl,
  ap,
  ◌∙◌,
  sym,
  arith,
}
use Rattle.std.specs.List.{list_any, slice_get}
use Rattle.std.specs.Option.{option_or}
use Rattle.std.proofs.lemmas.List.{
  drop_more,
  take_more,
  length-append,
  reverse-append,
  reverse-reverse,
  get_or-reverse,
}
use Rattle.std.proofs.lemmas.List.Folds.{list_any-append}
use Rattle.std.proofs.lemmas.List.Sorted.{list_any-IsPermutation, IsPermutation-reverse}
use Rattle.std.proofs.lemmas.Option.{
  none-some,
  slice_get-get_or,
  slice_get_cases,
  get_or_from_slice_get,
  slice_get_within,
}
use Rattle.msb_values.specs.declared.act.Act.{Act}
use Rattle.result_cache.specs.Journal.{Journal, Entry}
use Rattle.msb_files.specs.Indices.{last_act}
use Rattle.msb_files.specs.Views.{acts_of}
use Rattle.msb_files.proofs.Contents.{acts_of-append, last_act-append}
use Rattle.msb_files.proofs.LayerSteps.{slice_get_front, slice_get_back}

-- ---- an entry on

pub entry_first : (entries : Journal) (at : ℕ) (e : Entry) → slice_get entries at ≡ Some e
    → drop at entries ≡ e ∷ drop (at + 1) entries
entry_first entries at e is = drop_more entries at e (slice_get_within entries at e is)
    ∙ ap (λ x. x ∷ drop (at + 1) entries) (get_or_from_slice_get entries at e e is)

module _ (entries : Journal) (at : ℕ) (e : Entry) (is : slice_get entries at ≡ Some e)
    (path : List ℕ) where
  act_first : last_act (drop at entries) path
      ≡ option_or (last_act (e ∷ []) path) (last_act (drop (at + 1) entries) path)
  act_first = ap (λ j. last_act j path) (entry_first entries at e is)
      ∙ last_act-append (e ∷ []) (drop (at + 1) entries) path

  pub act_here : (act : Act) → Some act ≡ last_act (e ∷ []) path
      → Some act ≡ last_act (drop at entries) path
  act_here act found = sym
      (act_first ∙ ap (λ o. option_or o (last_act (drop (at + 1) entries) path)) (sym found))

  pub act_later : None ≡ last_act (e ∷ []) path
      → last_act (drop (at + 1) entries) path ≡ last_act (drop at entries) path
  act_later none = sym
      (act_first ∙ ap (λ o. option_or o (last_act (drop (at + 1) entries) path)) (sym none))

-- ---- the newest first

pub one_reversed : (entries : Journal) (i : ℕ) (e : Entry) (older : Journal) → i < length entries
    → e ≡ get_or entries i e → e ∷ (reverse (take i entries) ++ older)
    ≡ reverse (take (i + 1) entries) ++ older
one_reversed entries i e older within is = sym (ap (λ es. es ++ older)
    (ap reverse (take_more entries i e within ∙ ap (λ x. take i entries ++ x ∷ []) (sym is))
    ∙ reverse-append (take i entries) (e ∷ [])))

pub from_newest : (entries : Journal) (at : ℕ) (e : Entry) → at < length entries
    → e ≡ get_or entries (length entries - 1 - at) e → at < length (reverse entries)
    → slice_get (reverse entries) at ≡ Some e
from_newest entries at e within is inside = slice_get-get_or (reverse entries) at e inside
    ∙ ap Some (get_or-reverse entries at e within ∙ sym is)

pub reversed_over : (newer older : Journal) →
    reverse (reverse older ++ reverse newer) ≡ newer ++ older
reversed_over newer older = reverse-append (reverse older) (reverse newer)
    ∙ (ap (λ es. es ++ reverse (reverse older)) (reverse-reverse newer)
    ∙ ap (λ es. newer ++ es) (reverse-reverse older))

-- ---- whether there is such an act

module _ (test : Act → Bool) where
  pub any-append : (newer older : Journal) → list_any test (acts_of (newer ++ older))
      ≡ (list_any test (acts_of newer) || list_any test (acts_of older))
  any-append newer older = ap (list_any test) (acts_of-append newer older)
      ∙ list_any-append test (acts_of newer) (acts_of older)

  each_entry : (entries : Journal) → list_any (λ e. list_any test (acts_of (e ∷ []))) entries
      ≡ list_any test (acts_of entries)
  each_entry [] = refl
  each_entry (e ∷ entries) = ap (λ b. list_any test (acts_of (e ∷ [])) || b) (each_entry entries)
      ∙ sym (any-append (e ∷ []) entries)

  pub any_entry : (entries : Journal) → list_any (λ e. list_any test (acts_of (e ∷ []))) entries
      ≡ list_any test (acts_of (reverse entries))
  any_entry entries = list_any-IsPermutation (λ e. list_any test (acts_of (e ∷ []))) entries
      (reverse entries) (IsPermutation-reverse entries) ∙ each_entry (reverse entries)

-- ---- the newest entries, and older ones

pub act_in_front : (newer older : Journal) (path : List ℕ) (act : Act)
    → Some act ≡ last_act newer path → Some act ≡ last_act (newer ++ older) path
act_in_front newer older path act found = sym
    (last_act-append newer older path ∙ ap (λ o. option_or o (last_act older path)) (sym found))

pub act_behind : (newer older : Journal) (path : List ℕ) (found : Option Act)
    → None ≡ last_act newer path → found ≡ last_act older path
    → found ≡ last_act (newer ++ older) path
act_behind newer older path found none is = is
    ∙ sym
    (last_act-append newer older path ∙ ap (λ o. option_or o (last_act older path)) (sym none))

pub entry_in_front : (newer older : Journal) (at : ℕ) (e : Entry) → at < length newer
    → slice_get newer at ≡ Some e → slice_get (newer ++ older) at ≡ Some e
entry_in_front newer older at e within is = slice_get_front newer older at within ∙ is

pub entry_behind : (newer older : Journal) (at : ℕ) (e : Entry) → length newer ≤ at
    → Some e ≡ slice_get older (at - length newer) → slice_get (newer ++ older) at ≡ Some e
entry_behind newer older at e past is = slice_get_back newer older at past ∙ sym is

pub not_past : (newer older : Journal) (at : ℕ) → at < length (newer ++ older) → length newer ≤ at
    → None ≡ slice_get older (at - length newer) → ⊥
not_past newer older at within past none = elim (slice_get_cases older (at - length newer)).1 [
  | inl found ↦ none-some found.0 (none ∙ found.2)
  | inr gone ↦ let g : length older ≤ at - length newer = gone.0 in let l : length (newer ++ older)
      ≡ length newer + length older = length-append newer older in omega arith
]
