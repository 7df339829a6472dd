-- What is asked of files gives the same by journals that are alike.
use Rattle.std.proofs.Common.{
  ◌≡◌,
  ℕ,
  ◌||◌,
  inl,
  inr,
  true,
  false,
  List,
  [],
  ◌∷◌,
  is_some,
  refl,
  ap,
  sym,
  ◌∙◌,
  subst,
}
use Rattle.std.specs.List.{list_any, list_all}
use Rattle.std.specs.Str.{bytes_eq}
use Rattle.std.specs.Cmp.Lexicographic.{slice_cmp}
use Rattle.std.specs.Ordering.{nat_cmp, is_lt, ordering_reverse}
use Rattle.std.specs.declared.cmp.Ordering.{Ordering}
use Rattle.std.specs.declared.cmp.Ordering.TheVariants.{Less, Equal, Greater}
use Rattle.std.proofs.lemmas.Cmp.{nat_list_cmp_total}
use Rattle.std.proofs.lemmas.Slice.Eq.{bytes_eq-Decides}
use Rattle.file_store.specs.Paths.{is_before, are_rising}
use Rattle.file_store.specs.declared.tree.File.{File}
use Rattle.file_store.proofs.Order.{and_true, chain}
use Rattle.result_cache.specs.Journal.{Journal}
use Rattle.result_cache.proofs.RunTests.{tells, clash, or_left, or_cases}
use Rattle.build_incremental.specs.Alike.{AlikeJournals}
use Rattle.msb_files.specs.Views as views
use Rattle.msb_files.specs.Views.{View}
use Rattle.msb_files.proofs.PathLaws.{paths_rise, paths_there}
use Rattle.task_kit.specs.Foreign.{foreign_input}
use Rattle.task_kit.proofs.SameViews.{answers-same, input-same}
use Rattle.task_kit.specs.Tasks.{answer}
use Rattle.task_trait.specs.declared.tools.Param.{Param}
use Rattle.build_declared.specs.Written.{bytes_in}
use Rattle.build_declared.proofs.SameRuns.{LooksSame}

-- ---- lists in byte order with the same members

not-before-self : (p : List ℕ) → is_before p p ≡ true → ⊥
not-before-self p h = go (slice_cmp nat_cmp p p) (nat_list_cmp_total.antisymm p p) h
  where
    go : (o : Ordering) → o ≡ ordering_reverse o → is_lt o ≡ true → ⊥
    go Less e h = cc
    go Equal e h = cc
    go Greater e h = cc

member-after : (x p : List ℕ) (xs : List (List ℕ)) → list_all (is_before x) xs ≡ true →
    list_any (bytes_eq p) xs ≡ true → is_before x p ≡ true
member-after x p [] a h = absurd (cc)
member-after x p (y ∷ xs) a h = elim (or_cases (bytes_eq p y) (list_any (bytes_eq p) xs) h) [
  | inl e ↦ subst (λ z. is_before x z ≡ true) (sym ((bytes_eq-Decides p y).0 e))
      (and_true (is_before x y) (list_all (is_before x) xs) a).0
  | inr g ↦ member-after x p xs (and_true (is_before x y) (list_all (is_before x) xs) a).1 g
]

self : (p : List ℕ) → bytes_eq p p ≡ true
self p = (bytes_eq-Decides p p).1 refl

not-among : (x : List ℕ) (xs : List (List ℕ)) → list_all (is_before x) xs ≡ true →
    list_any (bytes_eq x) xs ≡ false
not-among x xs a = elim (tells (list_any (bytes_eq x) xs))
    [ inl h ↦ absurd (not-before-self x (member-after x x xs a h)) | inr h ↦ h ]

pub rising-same : (a b : List (List ℕ)) → are_rising a ≡ true → are_rising b ≡ true →
    ((p : List ℕ) → list_any (bytes_eq p) a ≡ list_any (bytes_eq p) b) → a ≡ b
rising-same [] [] ra rb same = refl
rising-same [] (y ∷ ys) ra rb same = absurd (clash (list_any (bytes_eq y) (y ∷ ys))
    (or_left (bytes_eq y y) (list_any (bytes_eq y) ys) (self y)) (sym (same y)))
rising-same (x ∷ xs) [] ra rb same = absurd (clash (list_any (bytes_eq x) (x ∷ xs))
    (or_left (bytes_eq x x) (list_any (bytes_eq x) xs) (self x)) (same x))
rising-same (x ∷ xs) (y ∷ ys) ra rb same =
    let a = and_true (list_all (is_before x) xs) (are_rising xs) ra in
    let b = and_true (list_all (is_before y) ys) (are_rising ys) rb in
    let first : x ≡ y = elim (or_cases (bytes_eq x y) (list_any (bytes_eq x) ys)
    (sym (same x) ∙ or_left (bytes_eq x x) (list_any (bytes_eq x) xs) (self x))) [
      | inl e ↦ (bytes_eq-Decides x y).0 e
      | inr g ↦ elim (or_cases (bytes_eq y x) (list_any (bytes_eq y) xs)
          (same y ∙ or_left (bytes_eq y y) (list_any (bytes_eq y) ys) (self y))) [
            | inl e ↦ sym ((bytes_eq-Decides y x).0 e)
            | inr k ↦ absurd (not-before-self x (chain x y x (member-after x y xs a.0 k)
                (member-after y x ys b.0 g)))
          ]
    ] in
    let rest : xs ≡ ys = rising-same xs ys a.1 b.1 (λ p. elim (tells (bytes_eq p x)) [
      | inl e ↦
          let px : p ≡ x = (bytes_eq-Decides p x).0 e in
          subst (λ z. list_any (bytes_eq z) xs ≡ false) (sym px) (not-among x xs a.0)
          ∙ sym (subst (λ z. list_any (bytes_eq z) ys ≡ false) (sym (px ∙ first))
          (not-among y ys b.0))
      | inr f ↦
          let g : bytes_eq p y ≡ false = subst (λ z. bytes_eq p z ≡ false) first f in
          sym (ap (λ t. t || list_any (bytes_eq p) xs) f)
          ∙ (same p ∙ ap (λ t. t || list_any (bytes_eq p) ys) g)
    ]) in
    ap (λ z. z ∷ xs) first ∙ ap (λ z. y ∷ z) rest

module _ (files : List File) (W : List ℕ → Type 0) (j k : Journal)
    (a : AlikeJournals (bytes_in files) W j k) where
  abbrev v : View
  v = record { files = files; journal = j }

  abbrev u : View
  u = record { files = files; journal = k }

  paths-same : views.paths v ≡ views.paths u
  paths-same = rising-same (views.paths v) (views.paths u) (paths_rise v) (paths_rise u)
      (λ p. paths_there v p ∙ (ap is_some (a.same p) ∙ sym (paths_there u p)))

  looks-so : ((name dir : List ℕ) (params : List Param) (written : ℕ) →
      answer name dir v params written ≡ answer name dir u params written)
      × ((dir : List ℕ) (params : List Param) → foreign_input dir v params
      ≡ foreign_input dir u params)
  looks-so = (answers-same v u a.same paths-same, input-same v u a.same paths-same)

pub looks-same : (files : List File) (W : List ℕ → Type 0) → LooksSame files W
looks-same files W = record {
  paths = paths-same files W;
  answers = λ j k a. (looks-so files W j k a).0;
  inputs = λ j k a. (looks-so files W j k a).1;
}
