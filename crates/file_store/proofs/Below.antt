-- Paths that begin with a text, among files in order.
use Rattle.std.proofs.Common.{
  ◌≡◌,
  ℕ,
  ◌<◌,
  ◌≤◌,
  List,
  [],
  ◌∷◌,
  ◌++◌,
  length,
  get_or,
  take,
  drop,
  Bool,
  true,
  false,
  ◌&&◌,
  ◌||◌,
  cond,
  eqb,
  Option,
  Some,
  is_some,
  refl,
  sym,
  ap,
  ◌∙◌,
  subst,
  arith,
  inl,
  inr,
}
use Rattle.std.specs.List.{list_any, starts_with}
use Rattle.std.specs.List.Sorted.{IsPartitionedBy, IsPartitionPoint}
use Rattle.std.specs.declared.cmp.Ordering.{Ordering}
use Rattle.std.specs.declared.cmp.Ordering.TheVariants.{Less, Equal, Greater}
use Rattle.std.specs.Ordering.{is_lt, nat_cmp, ordering_then, MatchOrdering}
use Rattle.std.specs.Cmp.Lexicographic.{slice_cmp}
use Rattle.std.specs.Str.{bytes_eq}
use Rattle.std.proofs.Math.Bool.{or-true, and_assoc}
use Rattle.std.proofs.lemmas.Bool.{eqb-true, eq-eqb, cases_lt, cases_order}
use Rattle.std.proofs.lemmas.Cmp.{ranked, nat_cmp_total, nat_eq_equiv, tied_itself}
use Rattle.std.proofs.lemmas.List.{get_or_default}
use Rattle.std.proofs.lemmas.List.Folds.{list_any_none, list_any_at}
use Rattle.msb_paths.specs.Presence.{is_there}
use Rattle.file_store.specs.Paths.{is_before}
use Rattle.file_store.specs.Files.{paths_of, are_in_order, file_at}
use Rattle.file_store.specs.declared.tree.File.{File}
use Rattle.file_store.proofs.Order.{and_true, both_true, not_true, chain, before_later}

abbrev pub begins : List ℕ → List ℕ → Bool
begins front path = starts_with eqb path front

-- ---- in byte order, the texts that begin with a front stand together, from the front on

same_first : (x y : ℕ) → nat_cmp x y ≡ Equal → x ≡ y
same_first x y e = subst (λ o. MatchOrdering o (x < y) (x ≡ y) (y < x)) e
    (ranked x y (nat_cmp x y) refl)

-- what begins with a text does not stand before it
not_before : (path front : List ℕ) → begins front path ≡ true → is_before path front ≡ false
not_before [] [] h = refl
not_before (x ∷ path) [] h = refl
not_before [] (a ∷ front) h = cc
not_before (x ∷ path) (a ∷ front) h =
    let both = and_true _ _ h in
    let tied : nat_cmp x a ≡ Equal = ap (λ b. nat_cmp b a) (sym (eqb-true a x both.0))
    ∙ tied_itself nat_cmp_total a in
    ap (λ o. is_lt (ordering_then o (slice_cmp nat_cmp path front))) tied
    ∙ not_before path front both.1

on_tie : (o m n : Ordering) → is_lt (ordering_then o m) ≡ false → is_lt (ordering_then o n) ≡ true
    → (o ≡ Equal) × (is_lt m ≡ false) × (is_lt n ≡ true)
on_tie Less m n h b = cc
on_tie Equal m n h b = (refl, h, b)
on_tie Greater m n h b = cc

-- from the front on, what stands before a text that begins with it begins with it too
between : (front path later : List ℕ) → is_before path front ≡ false → is_before path later ≡ true
    → begins front later ≡ true → begins front path ≡ true
between [] path later h b s = refl
between (a ∷ front) [] later h b s = cc
between (a ∷ front) (x ∷ path) [] h b s = cc
between (a ∷ front) (x ∷ path) (y ∷ later) h b s =
    let both = and_true _ _ s in
    let same : y ≡ a = sym (eqb-true a y both.0) in
    let tie = on_tie (nat_cmp x a) (slice_cmp nat_cmp path front) (slice_cmp nat_cmp path later) h
    (ap (λ z. is_lt (ordering_then (nat_cmp x z) (slice_cmp nat_cmp path later))) (sym same)
    ∙ b) in
    both_true _ _ (eq-eqb a x (sym (same_first x a tie.0)))
    (between front path later tie.1 tie.2 both.1)

-- ---- the first file from a front on

abbrev pub ahead : List ℕ → File → Bool
ahead front f = is_before f.path front

pub parted : (front : List ℕ) (fs : List File) → are_in_order fs ≡ true
    → IsPartitionedBy (ahead front) fs
parted front fs h i j d up within is = elim (cases_lt i j) [
  | inl b ↦ chain _ _ front (before_later fs i j d h b within) is
  | inr b ↦
      (let e : j ≡ i = omega arith in subst (λ k. is_before (get_or fs k d).path front ≡ true) e is)
]

-- a file ahead of the front doesn't begin with it
ahead_not : (front path : List ℕ) → is_before path front ≡ true → begins front path ≡ false
ahead_not front path h = not_true (begins front path) (λ s. let n = not_before path front s in cc)

-- nor does a file behind one that is not ahead of the front and doesn't
behind_not : (front path later : List ℕ) → is_before path front ≡ false → begins front path ≡ false
    → is_before path later ≡ true → begins front later ≡ false
behind_not front path later h n b = not_true (begins front later)
    (λ s. let t = between front path later h b s in cc)

-- the first file from the front on, which a search by halves has met
pub record IsFirst (front : List ℕ) (fs : List File) (i : ℕ) : Type 0 where
  pub in_order : are_in_order fs ≡ true
  pub split : IsPartitionPoint (λ f. ahead front f ≡ true) (λ f. ahead front f ≡ false) fs i

-- where it doesn't begin with the front, none does
none_begins : (front : List ℕ) (fs : List File) (i : ℕ) → IsFirst front fs i
    → ((d : File) → i < length fs → begins front (get_or fs i d).path ≡ false)
    → list_any (λ f. begins front f.path) fs ≡ false
none_begins front fs i first not = list_any_none (λ f. begins front f.path) fs
    (λ k d within. elim (cases_order k i) [
      | inl e ↦ subst (λ j. begins front (get_or fs j d).path ≡ false) (sym e) (not d (omega arith))
      | inr r ↦ elim r [
        | inl b ↦ ahead_not front _ (first.split.0 k d (omega arith) b)
        | inr b ↦ behind_not front (get_or fs i d).path _
            (first.split.1 i d (omega arith) (omega arith)) (not d (omega arith))
            (before_later fs i k d first.in_order b within)
      ]
    ])

pub first_tells : (front : List ℕ) (fs : List File) (i : ℕ) (f : File) (r : Bool)
    → IsFirst front fs i → i < length fs → f ≡ get_or fs i f → r ≡ begins front f.path
    → r ≡ list_any (λ g. begins front g.path) fs
first_tells front fs i f true first within is r = sym
    (list_any_at (λ g. begins front g.path) fs i f within
    (ap (λ g. begins front g.path) (sym is) ∙ sym r))
first_tells front fs i f false first within is r = sym
    (none_begins front fs i first
    (λ d w. ap (λ g. begins front g.path) (get_or_default fs i d f w ∙ sym is) ∙ sym r))

pub none_left : (front : List ℕ) (fs : List File) (i : ℕ) (r : Bool) → IsFirst front fs i
    → length fs ≤ i → r ≡ false → r ≡ list_any (λ g. begins front g.path) fs
none_left front fs i r first past not = not ∙ sym
    (none_begins front fs i first (λ d within. absurd (omega arith)))

-- ---- whether a file has a path or lies below it

there_next : (f : File) (same below there rest : Bool) (o : Option File)
    → there ≡ (is_some o || rest) → ((same || below) || there)
    ≡ (is_some (cond same (Some f) o) || (below || rest))
there_next f true below there rest o e = refl
there_next f false true there rest o e = sym (or-true (is_some o))
there_next f false false there rest o e = e

there : (path : List ℕ) (fs : List File) → is_there (paths_of fs) path
    ≡ (is_some (file_at path fs) || list_any (λ f. begins (path ++ 47 ∷ []) f.path) fs)
there path [] = refl
there path (f ∷ fs) = there_next f (bytes_eq f.path path) (begins (path ++ 47 ∷ []) f.path)
    (is_there (paths_of fs) path) (list_any (λ g. begins (path ++ 47 ∷ []) g.path) fs)
    (file_at path fs) (there path fs)

pub has_path : (path : List ℕ) (fs : List File) (r : Bool) → r ≡ is_some (file_at path fs)
    → r ≡ true → r ≡ is_there (paths_of fs) path
has_path path fs r some h = h
    ∙ sym
    (there path fs ∙ ap (λ b. b || list_any (λ f. begins (path ++ 47 ∷ []) f.path) fs)
    (sym some ∙ h))

pub has_none : (path : List ℕ) (fs : List File) (r s : Bool) → s ≡ is_some (file_at path fs)
    → s ≡ false → r ≡ list_any (λ f. begins (path ++ 47 ∷ []) f.path) fs
    → r ≡ is_there (paths_of fs) path
has_none path fs r s some h below = below ∙ sym
    (there path fs ∙ ap (λ b. b || list_any (λ f. begins (path ++ 47 ∷ []) f.path) fs)
    (sym some ∙ h))

-- ---- a front with a `/` behind it

-- a path begins with a folder and `/` where it begins with the folder, and what follows begins with
-- `/`
pub with_slash : (folder path : List ℕ) → begins (folder ++ 47 ∷ []) path
    ≡ (bytes_eq (take (length folder) path) folder && begins (47 ∷ []) (drop (length folder) path))
with_slash [] path = refl
with_slash (a ∷ folder) [] = refl
with_slash (a ∷ folder) (x ∷ path) = ap (λ b. b && begins (folder ++ 47 ∷ []) path)
    (nat_eq_equiv.symm a x) ∙ ap (λ b. eqb x a && b) (with_slash folder path)
    ∙ sym
    (and_assoc (eqb x a) (bytes_eq (take (length folder) path) folder)
    (begins (47 ∷ []) (drop (length folder) path)))
