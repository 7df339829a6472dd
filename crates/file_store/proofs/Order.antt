-- Files in byte order of their paths.
use Rattle.std.proofs.Common.{
  ◌≡◌,
  ℕ,
  zero,
  suc,
  ◌+◌,
  ◌<◌,
  List,
  [],
  ◌∷◌,
  length,
  get_or,
  Bool,
  true,
  false,
  ◌&&◌,
  refl,
  sym,
  ap,
  ◌∙◌,
  arith,
  add-one,
}
use Rattle.std.specs.List.{list_all, IsAllAdjacentAnswer}
use Rattle.std.specs.declared.cmp.Ordering.{Ordering}
use Rattle.std.specs.declared.cmp.Ordering.TheVariants.{Less, Equal, Greater}
use Rattle.std.specs.Ordering.{is_lt, is_eq, ordering_reverse, nat_cmp}
use Rattle.std.specs.Cmp.Lexicographic.{slice_cmp}
use Rattle.std.specs.Str.{bytes_eq}
use Rattle.std.proofs.lemmas.Cmp.{nat_list_cmp_total}
use Rattle.std.proofs.lemmas.Map.Text.{is_eq-slice_cmp}
use Rattle.std.proofs.lemmas.Slice.Eq.{bytes_eq-Decides}
use Rattle.file_store.specs.Paths.{is_before, are_rising}
use Rattle.file_store.specs.Files.{paths_of, are_in_order}
use Rattle.file_store.specs.Entries.{entries_of, paths_in, are_listed_in_order}
use Rattle.file_store.specs.declared.tree.File.{File}
use Rattle.file_store.specs.declared.store.Entry.{Entry}

pub and_true : (a b : Bool) → (a && b) ≡ true → (a ≡ true) × (b ≡ true)
and_true true b e = (refl, e)
and_true false b e = cc

pub both_true : (a b : Bool) → a ≡ true → b ≡ true → (a && b) ≡ true
both_true a b h g = cc

less_of : (o : Ordering) → is_lt o ≡ true → o ≡ Less
less_of Less h = refl
less_of Equal h = cc
less_of Greater h = cc

pub less : (p q : List ℕ) → is_before p q ≡ true → slice_cmp nat_cmp p q ≡ Less
less p q h = less_of (slice_cmp nat_cmp p q) h

pub greater : (p q : List ℕ) → is_before p q ≡ true → slice_cmp nat_cmp q p ≡ Greater
greater p q h = nat_list_cmp_total.antisymm q p ∙ ap ordering_reverse (less p q h)

pub chain : (p q r : List ℕ) → is_before p q ≡ true → is_before q r ≡ true → is_before p r ≡ true
chain p q r a b = ap is_lt (nat_list_cmp_total.trans p q r (less p q a) (less q r b))

pub other : (p q : List ℕ) → is_before p q ≡ true → bytes_eq p q ≡ false
other p q h = sym (is_eq-slice_cmp p q) ∙ ap is_eq (less p q h)

pub other_back : (p q : List ℕ) → is_before p q ≡ true → bytes_eq q p ≡ false
other_back p q h = sym (is_eq-slice_cmp q p) ∙ ap is_eq (greater p q h)

pub bytes_eq-same : (p : List ℕ) → bytes_eq p p ≡ true
bytes_eq-same p = (bytes_eq-Decides p p).1 refl

-- a path that stands before all files stands before each
pub before_each : (p : List ℕ) (fs : List File) (k : ℕ) (d : File)
    → list_all (is_before p) (paths_of fs) ≡ true → k < length fs
    → is_before p (get_or fs k d).path ≡ true
before_each p [] k d h w = absurd (omega arith)
before_each p (f ∷ fs) zero d h w = (and_true _ _ h).0
before_each p (f ∷ fs) (suc k) d h w = before_each p fs k d (and_true _ _ h).1 (omega arith)

-- each file stands before all later ones
pub before_later : (fs : List File) (i j : ℕ) (d : File) → are_in_order fs ≡ true → i < j
    → j < length fs → is_before (get_or fs i d).path (get_or fs j d).path ≡ true
before_later [] i j d h lt w = absurd (omega arith)
before_later (f ∷ fs) i zero d h lt w = absurd (omega arith)
before_later (f ∷ fs) zero (suc j) d h lt w = before_each f.path fs j d (and_true _ _ h).0
    (omega arith)
before_later (f ∷ fs) (suc i) (suc j) d h lt w = before_later fs i j d (and_true _ _ h).1
    (omega arith) (omega arith)

pub all_further : (p q : List ℕ) (fs : List File) → is_before p q ≡ true
    → list_all (is_before q) (paths_of fs) ≡ true → list_all (is_before p) (paths_of fs) ≡ true
all_further p q [] b h = refl
all_further p q (f ∷ fs) b h =
    let both = and_true _ _ h in
    both_true _ _ (chain p q f.path b both.0) (all_further p q fs b both.1)

ordered_front : (f g : File) (gs : List File) → is_before f.path g.path ≡ true
    → are_in_order (g ∷ gs) ≡ true → are_in_order (f ∷ (g ∷ gs)) ≡ true
ordered_front f g gs b h = both_true _ _
    (both_true _ _ b (all_further f.path g.path gs b (and_true _ _ h).0)) h

-- where each file stands before the next, they are in order
pub ordered_by_next : (fs : List File)
    → ((k : ℕ) (d : File) → suc k < length fs
    → is_before (get_or fs k d).path (get_or fs (suc k) d).path ≡ true) → are_in_order fs ≡ true
ordered_by_next [] h = refl
ordered_by_next (f ∷ []) h = refl
ordered_by_next (f ∷ (g ∷ gs)) h = ordered_front f g gs (h zero f (omega arith))
    (ordered_by_next (g ∷ gs) (λ k d w. h (suc k) d (omega arith)))

pub not_true : (b : Bool) → (b ≡ true → ⊥) → b ≡ false
not_true true h = absurd (h refl)
not_true false h = refl

-- where one doesn't, they are not
pub unordered : (fs : List File) (k : ℕ) (d : File) → k + 1 < length fs
    → is_before (get_or fs k d).path (get_or fs (k + 1) d).path ≡ false → are_in_order fs ≡ false
unordered fs k d w h = not_true (are_in_order fs)
    (λ t. let b = before_later fs k (k + 1) d t (omega arith) w in cc)

-- a test of neighbours answers whether they are
pub order_answer : (fs : List File) (r : Bool)
    → IsAllAdjacentAnswer (λ f g b. b ≡ is_before f.path g.path) fs r → r ≡ are_in_order fs
order_answer fs true h = sym
    (ordered_by_next fs (λ k d w. rw add-one at (sym (h k d (omega arith)))))
order_answer [] false h = absurd (omega (arith, h.1))
order_answer (f ∷ fs) false h = sym (unordered (f ∷ fs) h.0 f h.1 (sym (h.2 f)))

pub paths_in-entries_of : (fs : List File) → paths_in (entries_of fs) ≡ paths_of fs
paths_in-entries_of [] = refl
paths_in-entries_of (f ∷ fs) = ap (λ ps. f.path ∷ ps) (paths_in-entries_of fs)

-- what a listing says of files in order is in order
pub entries_of-ordered : (fs : List File) (entries : List Entry) → are_in_order fs ≡ true
    → entries ≡ entries_of fs → are_listed_in_order entries ≡ true
entries_of-ordered fs entries h is = ap are_listed_in_order is
    ∙ ap are_rising (paths_in-entries_of fs) ∙ h
