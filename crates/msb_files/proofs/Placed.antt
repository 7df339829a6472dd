-- The places of the acts of entries, and what is found among them.
use Rattle.std.proofs.Common.{
  ◌≡◌,
  ℕ,
  zero,
  suc,
  ◌+◌,
  ◌-◌,
  ◌<◌,
  ◌≤◌,
  List,
  [],
  ◌∷◌,
  ◌++◌,
  length,
  map,
  reverse,
  drop,
  get_or,
  Bool,
  true,
  false,
  ◌||◌,
  Option,
  Some,
  None,
  option_map,
  cond,
  refl,
  ap,
  ◌∙◌,
  sym,
  subst,
  arith,
  inl,
  inr,
}
use Rattle.std.specs.Cmp.Lexicographic.{slice_cmp}
use Rattle.std.specs.List.{All, find, list_any, slice_get}
use Rattle.std.specs.List.Sorted.{IsPermutation, IsSortedByKey}
use Rattle.std.specs.Ordering.{nat_cmp}
use Rattle.std.specs.Option.{option_or}
use Rattle.std.specs.Str.{bytes_eq}
use Rattle.std.proofs.lemmas.Cmp.{nat_list_cmp_total}
use Rattle.std.proofs.lemmas.List.{
  append-nil,
  append_assoc,
  drop_more,
  get_or_default,
  length-append,
  length-drop,
  length-reverse,
  reverse-append,
  reverse-reverse,
}
use Rattle.std.proofs.lemmas.List.Elements.{All-nil, All-cons, All-weaker}
use Rattle.std.proofs.lemmas.List.Folds.{find-append}
use Rattle.std.proofs.lemmas.List.Sorted.{
  All-permutation,
  IsPermutation-append,
  IsPermutation-map,
  IsPermutation-trans,
  list_any-IsPermutation,
  ranks_by,
  sorted_far,
}
use Rattle.std.proofs.lemmas.Slice.Eq.{bytes_eq-Decides}
use Rattle.file_store.specs.Paths.{is_before}
use Rattle.file_store.proofs.Lookups.{below_or_not}
use Rattle.file_store.proofs.Order.{not_true, other}
use Rattle.msb_values.specs.Acts.{act_path}
use Rattle.msb_values.specs.declared.act.Act.{Act}
use Rattle.result_cache.specs.Journal.{Journal, Entry, acted, ended}
use Rattle.msb_files.specs.Indices.{IsByPath, IsOrdered, act_on, last_act}
use Rattle.msb_files.specs.Places.{places_of, path_of, path_at, is_on}
use Rattle.msb_files.specs.Seen.{act_in}
use Rattle.msb_files.specs.Views.{acts_of}
use Rattle.msb_files.proofs.Finds.{find_agree, find_from, find_mapped, find_none, find_within, tied}
use Rattle.msb_files.proofs.LayerSteps.{slice_get_front, slice_get_back}
use Rattle.msb_files.proofs.PartSteps.{entry_first, from_newest}
use Rattle.msb_files.proofs.Searches.{IsMet, NoneTo, Rises}

-- ---- the acts at places

abbrev act_got : Option Entry → Option Act
act_got None = None
act_got (Some e) = act_in e

abbrev placed : Journal → Option ℕ → Option Act
placed entries None = None
placed entries (Some at) = act_got (slice_get entries at)

turned : (e : Entry) (older more : Journal) →
    reverse (e ∷ older) ++ more ≡ reverse older ++ e ∷ more
turned e older more =
    ap (λ es. es ++ more) (reverse-append (e ∷ []) older)
    ∙ append_assoc (reverse older) (e ∷ []) more

last_placed : (e : Entry) (older more : Journal) →
    slice_get (reverse older ++ e ∷ more) (length older) ≡ Some e
last_placed e older more =
    let same : length (reverse older) ≡ length older = length-reverse older in
    let none : length older - length (reverse older) ≡ zero = omega arith in
    slice_get_back (reverse older) (e ∷ more) (length older) (omega arith)
    ∙ ap (slice_get (e ∷ more)) none

whole : (entries : Journal) → reverse (reverse entries) ++ [] ≡ entries
whole entries = append-nil (reverse (reverse entries)) ∙ reverse-reverse entries

-- ---- the first place on a path is that of the newest act on it

module _ (path : List ℕ) where
  one_placed : (entries : Journal) (at : ℕ) (rest : List ℕ) (e : Entry) (act : Act)
      (later : Option Act) →
      slice_get entries at ≡ Some e → act_in e ≡ Some act → path_of (Some e) ≡ act_path act →
      placed entries (find (is_on entries path) rest) ≡ later →
      placed entries (find (is_on entries path) (at ∷ rest))
      ≡ cond (bytes_eq (act_path act) path) (Some act) later
  one_placed entries at rest e act later is has on gives =
      ap (λ b. placed entries (cond b (Some at) (find (is_on entries path) rest)))
      (ap (λ o. bytes_eq (path_of o) path) is ∙ ap (λ p. bytes_eq p path) on)
      ∙ by (bytes_eq (act_path act) path)
    where
      by : (b : Bool) → placed entries (cond b (Some at) (find (is_on entries path) rest))
          ≡ cond b (Some act) later
      by true = ap act_got is ∙ has
      by false = gives

  found_in : (journal more : Journal) →
      placed (reverse journal ++ more)
      (find (is_on (reverse journal ++ more) path) (places_of journal))
      ≡ last_act journal path
  found_in [] more = refl
  found_in (acted run place act ∷ older) more =
      let e = acted run place act in
      ap (λ es. placed es (find (is_on es path) (places_of (e ∷ older)))) (turned e older more)
      ∙ one_placed (reverse older ++ e ∷ more) (length older) (places_of older) e act
      (last_act older path)
      (last_placed e older more) refl refl (found_in older (e ∷ more))
  found_in (ended run made ∷ older) more =
      let e = ended run made in
      ap (λ es. placed es (find (is_on es path) (places_of older))) (turned e older more)
      ∙ found_in older (e ∷ more)

  found : (entries : Journal) →
      placed entries (find (is_on entries path) (places_of (reverse entries)))
      ≡ last_act (reverse entries) path
  found entries =
      ap (λ es. placed es (find (is_on es path) (places_of (reverse entries))))
      (sym (whole entries))
      ∙ found_in (reverse entries) []

-- ---- one more place

abbrev pub place_if : Option Act → ℕ → List ℕ
place_if None at = []
place_if (Some act) at = at ∷ []

place_ahead : (e : Entry) (older : Journal) (at : ℕ) → at ≡ length older →
    places_of (e ∷ older) ≡ place_if (act_in e) at ++ places_of older
place_ahead (acted run place act) older at is = ap (λ n. n ∷ places_of older) (sym is)
place_ahead (ended run made) older at is = refl

pub place_more : (entries : Journal) (at : ℕ) (e : Entry) (got : Option Act) (before : List ℕ) →
    at < length entries →
    e ≡ get_or entries (length entries - 1 - at) e → got ≡ act_in e →
    (before ++ place_if got (length entries - 1 - at)) ++ places_of
    (drop (at + 1) (reverse entries))
    ≡ before ++ places_of (drop at (reverse entries))
place_more entries at e got before within is told =
    let same : length (reverse entries) ≡ length entries = length-reverse entries in
    let newest = from_newest entries at e within is (omega arith) in
    let left : length (drop (at + 1) (reverse entries)) ≡ length (reverse entries) - (at + 1) =
    length-drop (at + 1) (reverse entries) in
    append_assoc before (place_if got (length entries - 1 - at))
    (places_of (drop (at + 1) (reverse entries)))
    ∙ ap (λ ps. before ++ ps) (sym (ap places_of (entry_first (reverse entries) at e newest)
    ∙ (place_ahead e (drop (at + 1) (reverse entries)) (length entries - 1 - at) (omega arith)
    ∙ ap (λ o. place_if o (length entries - 1 - at) ++ places_of
    (drop (at + 1) (reverse entries))) (sym told))))

-- ---- a test of paths

module _ (test : List ℕ → Bool) where
  any_in : (journal more : Journal) →
      list_any (λ at. test (path_at (reverse journal ++ more) at)) (places_of journal)
      ≡ list_any (λ act. test (act_path act)) (acts_of journal)
  any_in [] more = refl
  any_in (acted run place act ∷ older) more =
      let e = acted run place act in
      ap (λ es. list_any (λ at. test (path_at es at)) (places_of (e ∷ older))) (turned e older more)
      ∙ (ap (λ o. test (path_of o) || list_any
      (λ at. test (path_at (reverse older ++ e ∷ more) at)) (places_of older))
      (last_placed e older more)
      ∙ ap (λ b. test (act_path act) || b) (any_in older (e ∷ more)))
  any_in (ended run made ∷ older) more =
      let e = ended run made in
      ap (λ es. list_any (λ at. test (path_at es at)) (places_of older)) (turned e older more)
      ∙ any_in older (e ∷ more)

  pub any_by_path : (entries : Journal) (places : List ℕ) → IsByPath entries places →
      list_any (λ at. test (path_at entries at)) places
      ≡ list_any (λ act. test (act_path act)) (acts_of (reverse entries))
  any_by_path entries places is =
      sym (list_any-IsPermutation (λ at. test (path_at entries at))
      (places_of (reverse entries)) places is.all)
      ∙ (ap (λ es. list_any (λ at. test (path_at es at)) (places_of (reverse entries)))
      (sym (whole entries))
      ∙ any_in (reverse entries) [])

-- ---- the place that a search by halves has met

pub places_rise : (entries : Journal) (places : List ℕ) →
    IsSortedByKey (path_at entries) (slice_cmp nat_cmp) places → Rises (path_at entries) places
places_rise entries places up =
    sorted_far (λ p q. is_before (path_at entries p) (path_at entries q))
    (ranks_by nat_list_cmp_total (path_at entries)) places up

on_is : (o : Option Entry) (path : List ℕ) (b : Bool) → bytes_eq (path_of o) path ≡ b →
    act_on o path ≡ cond b (act_got o) None
on_is None path true is = refl
on_is None path false is = refl
on_is (Some (acted run place act)) path b is = ap (λ c. cond c (Some act) None) is
on_is (Some (ended run made)) path true is = refl
on_is (Some (ended run made)) path false is = refl

module _ (entries : Journal) (places path : List ℕ) (first : ℕ) (is : IsByPath entries places)
    (met : IsMet (path_at entries) path places first) where
  none_before : NoneTo (is_on entries path) places first
  none_before k d b w = other (path_at entries (get_or places k d)) path
      (met.split.0 k d (omega arith) b)

  gone : NoneTo (is_on entries path) places (length places) → None ≡ last_act (reverse entries) path
  gone none =
      sym (ap (placed entries) (sym (is.first path) ∙ find_none (is_on entries path) places none))
      ∙ found path entries

  pub none_met : length places ≤ first → None ≡ last_act (reverse entries) path
  none_met past = gone (λ k d b w. none_before k d (omega arith) w)

  -- behind another path there is none that is this one
  later_not : (x : ℕ) → first < length places → x ≡ get_or places first x →
      is_on entries path x ≡ false →
      NoneTo (is_on entries path) places (length places)
  later_not x within at not k d b w = elim (below_or_not k first) [
    | inl ahead ↦ none_before k d ahead w
    | inr behind ↦ not_true (is_on entries path (get_or places k d)) (λ s.
        let same = (bytes_eq-Decides (path_at entries (get_or places k d)) path).0 s in
        let up = ap (λ p. is_before p (path_at entries (get_or places first d))) (sym same)
        ∙ met.up first k d behind w in
        let here : get_or places first d ≡ x = get_or_default places first d x within ∙ sym at in
        let tie = tied (path_at entries (get_or places first d)) path
        (met.split.1 first d (omega arith) within) up in
        let on : is_on entries path x ≡ true = ap (λ y. is_on entries path y) (sym here) ∙ tie in
        cc)
  ]

  pub act_met : (x : ℕ) → first < length places → x ≡ get_or places first x →
      act_on (slice_get entries x) path ≡ last_act (reverse entries) path
  act_met x within at = by (is_on entries path x) refl
    where
      by : (b : Bool) → is_on entries path x ≡ b →
          act_on (slice_get entries x) path ≡ last_act (reverse entries) path
      by true on =
          let there : find (is_on entries path) places ≡ Some x =
          find_from (is_on entries path) places first none_before
          ∙ (ap (find (is_on entries path)) (drop_more places first x within
          ∙ ap (λ y. y ∷ drop (first + 1) places) (sym at))
          ∙ ap (λ b. cond b (Some x) (find (is_on entries path) (drop (first + 1) places))) on) in
          on_is (slice_get entries x) path true on
          ∙ (sym (ap (placed entries) (sym (is.first path) ∙ there)) ∙ found path entries)
      by false not = on_is (slice_get entries x) path false not ∙ gone (later_not x within at not)

-- ---- entries behind others

below : (journal : Journal) → All (λ at. at < length journal) (places_of journal)
below [] = All-nil (λ at. at < zero)
below (acted run place act ∷ older) =
    All-cons (λ at. at < suc (length older)) (length older) (places_of older) (omega arith)
    (All-weaker (λ at. at < length older) (λ at. at < suc (length older)) (λ at h. omega arith)
    (places_of older) (below older))
below (ended run made ∷ older) =
    All-weaker (λ at. at < length older) (λ at. at < suc (length older)) (λ at h. omega arith)
    (places_of older) (below older)

places-append : (newer older : Journal) →
    places_of (newer ++ older) ≡ map (λ at. at + length older) (places_of newer) ++ places_of older
places-append [] older = refl
places-append (acted run place act ∷ newer) older =
    ap (λ n. n ∷ places_of (newer ++ older)) (length-append newer older)
    ∙ ap (λ ps. (length newer + length older) ∷ ps) (places-append newer older)
places-append (ended run made ∷ newer) older = places-append newer older

module _ (older newer : Journal) where
  abbrev shift : ℕ → ℕ
  shift at = at + length older

  abbrev joined : Journal
  joined = older ++ newer

  shifted : (path : List ℕ) (at : ℕ) → is_on joined path (shift at) ≡ is_on newer path at
  shifted path at =
      let back : at + length older - length older ≡ at = omega arith in
      ap (λ o. bytes_eq (path_of o) path)
      (slice_get_back older newer (at + length older) (omega arith) ∙ ap (slice_get newer) back)

  in_front : (path : List ℕ) (at : ℕ) → at < length older →
      is_on joined path at ≡ is_on older path at
  in_front path at h = ap (λ o. bytes_eq (path_of o) path) (slice_get_front older newer at h)

  placed_in : places_of (reverse joined)
      ≡ map shift (places_of (reverse newer)) ++ places_of (reverse older)
  placed_in = ap places_of (reverse-append older newer)
      ∙ (places-append (reverse newer) (reverse older)
      ∙ ap (λ n. map (λ at. at + n) (places_of (reverse newer)) ++ places_of (reverse older))
      (length-reverse older))

  find_shifted : (path : List ℕ) (places : List ℕ) →
      find (is_on joined path) (map shift places)
      ≡ option_map shift (find (is_on newer path) places)
  find_shifted path places = find_mapped (is_on joined path) shift places
      ∙ ap (option_map shift) (find_agree (λ at. is_on joined path (shift at)) (is_on newer path)
      (shifted path) places)

  find_in_front : (path : List ℕ) (places : List ℕ) → All (λ at. at < length older) places →
      find (is_on joined path) places ≡ find (is_on older path) places
  find_in_front path places low = find_within (is_on joined path) (is_on older path) places
      (All-weaker (λ at. at < length older) (λ at. is_on joined path at ≡ is_on older path at)
      (in_front path) places low)

  module _ (newer_places older_places places : List ℕ) (newer_is : IsByPath newer newer_places)
      (older_is : IsByPath older older_places)
      (is : IsOrdered joined (map shift newer_places ++ older_places) places) where
    low : All (λ at. at < length older) (places_of (reverse older))
    low = subst (λ n. All (λ at. at < n) (places_of (reverse older))) (length-reverse older)
        (below (reverse older))

    all_there : IsPermutation (places_of (reverse joined)) places
    all_there = subst (λ ps. IsPermutation ps places) (sym placed_in)
        (IsPermutation-trans (map shift (places_of (reverse newer)) ++ places_of (reverse older))
        (map shift newer_places ++ older_places) places
        (IsPermutation-append (map shift (places_of (reverse newer))) (map shift newer_places)
        (places_of (reverse older)) older_places
        (IsPermutation-map shift (places_of (reverse newer)) newer_places newer_is.all)
        older_is.all)
        is.all)

    first_there : (path : List ℕ) →
        find (is_on joined path) places ≡ find (is_on joined path) (places_of (reverse joined))
    first_there path =
        let test = is_on joined path in
        let new : find test (map shift newer_places) ≡ find test
        (map shift (places_of (reverse newer))) =
        find_shifted path newer_places ∙ (ap (option_map shift) (newer_is.first path)
        ∙ sym (find_shifted path (places_of (reverse newer)))) in
        let old : find test older_places ≡ find test (places_of (reverse older)) =
        find_in_front path older_places
        (All-permutation (λ at. at < length older)
        (places_of (reverse older)) older_places older_is.all low)
        ∙ (older_is.first path ∙ sym (find_in_front path (places_of (reverse older)) low)) in
        is.first path ∙ (find-append test (map shift newer_places) older_places
        ∙ (ap (λ o. option_or o (find test older_places)) new
        ∙ (ap (option_or (find test (map shift (places_of (reverse newer))))) old
        ∙ (sym (find-append test (map shift (places_of (reverse newer)))
        (places_of (reverse older)))
        ∙ ap (find test) (sym placed_in)))))

    pub by_path_joined : IsByPath joined places
    by_path_joined = record { all = all_there; sorted = is.sorted; first = first_there }

-- the places of entries over older ones
pub by_path_over : (entries newer older : Journal) (at : ℕ)
    (newer_places older_places places : List ℕ) →
    entries ≡ reverse older ++ reverse newer → at ≡ length older →
    IsByPath (reverse newer) newer_places → IsByPath (reverse older) older_places →
    IsOrdered entries (map (λ n. n + at) newer_places ++ older_places) places →
    IsByPath entries places
by_path_over entries newer older at newer_places older_places places is_all is_at newer_is
    older_is is =
    subst (λ es. IsByPath es places) (sym is_all)
    (by_path_joined (reverse older)
    (reverse newer) newer_places older_places places newer_is older_is
    (subst (λ n. IsOrdered (reverse older ++ reverse newer)
    (map (λ k. k + n) newer_places ++ older_places) places)
    (is_at ∙ sym (length-reverse older))
    (subst (λ es. IsOrdered es (map (λ k. k + at) newer_places ++ older_places) places) is_all is)))
