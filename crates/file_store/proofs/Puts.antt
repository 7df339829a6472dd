-- Files with a new one put in at its path.
use Rattle.std.proofs.Common.{
  ◌≡◌,
  ◌≢◌,
  ℕ,
  zero,
  suc,
  ◌<◌,
  List,
  [],
  ◌∷◌,
  ◌++◌,
  Bool,
  true,
  false,
  cond,
  ◌==◌,
  Option,
  Some,
  None,
  IfSome,
  refl,
  sym,
  ap,
  ◌∙◌,
  arith,
}
use Rattle.std.specs.List.{list_all, filter, All}
use Rattle.std.specs.declared.cmp.Ordering.{Ordering}
use Rattle.std.specs.declared.cmp.Ordering.TheVariants.{Less, Equal, Greater}
use Rattle.std.specs.Ordering.{is_lt, is_gt, is_eq, ordering_index, ordering_reverse, nat_cmp}
use Rattle.std.specs.Cmp.Lexicographic.{slice_cmp}
use Rattle.std.specs.Option.{option_or}
use Rattle.std.specs.Str.{bytes_eq}
use Rattle.std.proofs.lemmas.Cmp.{nat_list_cmp_total, tied_itself, is_lt_index, is_gt_index}
use Rattle.std.proofs.lemmas.List.Folds.{list_all-map}
use Rattle.std.proofs.lemmas.Map.Text.{is_eq-slice_cmp}
use Rattle.std.proofs.lemmas.Slice.Eq.{bytes_eq-Decides}
use Rattle.file_store.specs.Paths.{is_before}
use Rattle.file_store.specs.Files.{paths_of, are_in_order, file_at}
use Rattle.file_store.specs.Writes.{is_at_side, put_in, IsWritten}
use Rattle.file_store.specs.declared.tree.File.{File}
use Rattle.file_store.proofs.Order.{and_true, both_true, all_further, bytes_eq-same, not_true}

-- ---- they stand in order

reversed : (o : Ordering) → is_lt (ordering_reverse o) ≡ is_gt o
reversed Less = refl
reversed Equal = refl
reversed Greater = refl

pub before_is : (path : List ℕ) (f : File) → is_at_side path Less f ≡ is_before f.path path
before_is path f = sym (is_lt_index (slice_cmp nat_cmp f.path path))

pub after_is : (path : List ℕ) (f : File) → is_at_side path Greater f ≡ is_before path f.path
after_is path f =
    sym (is_gt_index (slice_cmp nat_cmp f.path path)) ∙ sym (reversed _)
    ∙ ap is_lt (sym (nat_list_cmp_total.antisymm path f.path))

passes_next : (t u : File → Bool) (f : File) (rest : List File) (b : Bool) → (b ≡ true → u f ≡ true)
    → list_all u rest ≡ true → list_all u (cond b (f ∷ rest) rest) ≡ true
passes_next t u f rest true h r = both_true _ _ (h refl) r
passes_next t u f rest false h r = r

pub passes : (t u : File → Bool) → ((f : File) → t f ≡ true → u f ≡ true) → (fs : List File)
    → list_all u (filter t fs) ≡ true
passes t u h [] = refl
passes t u h (f ∷ fs) = passes_next t u f (filter t fs) (t f) (h f) (passes t u h fs)

all_kept_next : (q : List ℕ) (f : File) (rest : List File) (b : Bool) → is_before q f.path ≡ true
    → list_all (is_before q) (paths_of rest) ≡ true
    → list_all (is_before q) (paths_of (cond b (f ∷ rest) rest)) ≡ true
all_kept_next q f rest true h r = both_true _ _ h r
all_kept_next q f rest false h r = r

all_kept : (q : List ℕ) (t : File → Bool) (fs : List File)
    → list_all (is_before q) (paths_of fs) ≡ true
    → list_all (is_before q) (paths_of (filter t fs)) ≡ true
all_kept q t [] h = refl
all_kept q t (f ∷ fs) h = let both = and_true _ _ h in all_kept_next q f (filter t fs) (t f) both.0
    (all_kept q t fs both.1)

ordered_next : (f : File) (rest : List File) (b : Bool)
    → list_all (is_before f.path) (paths_of rest) ≡ true → are_in_order rest ≡ true
    → are_in_order (cond b (f ∷ rest) rest) ≡ true
ordered_next f rest true h r = both_true _ _ h r
ordered_next f rest false h r = r

pub ordered-filter : (t : File → Bool) (fs : List File) → are_in_order fs ≡ true
    → are_in_order (filter t fs) ≡ true
ordered-filter t [] h = refl
ordered-filter t (f ∷ fs) h = let both = and_true _ _ h in ordered_next f (filter t fs) (t f)
    (all_kept f.path t fs both.0) (ordered-filter t fs both.1)

all_joined : (q : List ℕ) (fs : List File) (f : File) (gs : List File)
    → list_all (is_before q) (paths_of fs) ≡ true → is_before q f.path ≡ true
    → list_all (is_before f.path) (paths_of gs) ≡ true
    → list_all (is_before q) (paths_of (fs ++ f ∷ gs)) ≡ true
all_joined q [] f gs h b r = both_true _ _ b (all_further q f.path gs b r)
all_joined q (g ∷ fs) f gs h b r = let both = and_true _ _ h in both_true _ _ both.0
    (all_joined q fs f gs both.1 b r)

ordered_joined : (fs : List File) (f : File) (gs : List File) → are_in_order fs ≡ true
    → are_in_order gs ≡ true → list_all (λ g. is_before g.path f.path) fs ≡ true
    → list_all (is_before f.path) (paths_of gs) ≡ true → are_in_order (fs ++ f ∷ gs) ≡ true
ordered_joined [] f gs h r b a = both_true _ _ a r
ordered_joined (g ∷ fs) f gs h r b a =
    let both = and_true _ _ h in
    let first = and_true _ _ b in
    both_true _ _ (all_joined g.path fs f gs both.0 first.0 a)
    (ordered_joined fs f gs both.1 r first.1 a)

pub put_in-ordered : (path bytes : List ℕ) (stamp : ℕ) (fs : List File) → are_in_order fs ≡ true
    → are_in_order (put_in path bytes stamp fs) ≡ true
put_in-ordered path bytes stamp fs h =
    ordered_joined (filter (is_at_side path Less) fs) _ (filter (is_at_side path Greater) fs)
    (ordered-filter (is_at_side path Less) fs h) (ordered-filter (is_at_side path Greater) fs h)
    (passes (is_at_side path Less) (λ g. is_before g.path path) (λ f e. sym (before_is path f) ∙ e)
    fs)
    (list_all-map (is_before path) (λ f. f.path) (filter (is_at_side path Greater) fs)
    ∙ passes (is_at_side path Greater) (λ g. is_before path g.path)
    (λ f e. sym (after_is path f) ∙ e) fs)

-- ---- which file stands at a path

option_or-next : (b : Bool) (f : File) (o p : Option File)
    → cond b (Some f) (option_or o p) ≡ option_or (cond b (Some f) o) p
option_or-next true f o p = refl
option_or-next false f o p = refl

pub file_at-joined : (q : List ℕ) (fs gs : List File)
    → file_at q (fs ++ gs) ≡ option_or (file_at q fs) (file_at q gs)
file_at-joined q [] gs = refl
file_at-joined q (f ∷ fs) gs = ap (cond (bytes_eq f.path q) (Some f)) (file_at-joined q fs gs)
    ∙ option_or-next (bytes_eq f.path q) f (file_at q fs) (file_at q gs)

file_at-filter_next : (t : List ℕ → Bool) (q : List ℕ) (f : File) (rest : List File)
    (o : Option File) (b e : Bool) → t f.path ≡ b → bytes_eq f.path q ≡ e
    → file_at q rest ≡ cond (t q) o None → file_at q (cond b (f ∷ rest) rest)
    ≡ cond (t q) (cond e (Some f) o) None
file_at-filter_next t q f rest o true true tested same is =
    let there : t q ≡ true = sym (ap t ((bytes_eq-Decides f.path q).0 same)) ∙ tested in
    rw (same, there)
file_at-filter_next t q f rest o true false tested same is = rw same is
file_at-filter_next t q f rest o false true tested same is =
    let there : t q ≡ false = sym (ap t ((bytes_eq-Decides f.path q).0 same)) ∙ tested in
    is ∙ rw there refl
file_at-filter_next t q f rest o false false tested same is = is

none_either : (b : Bool) → ◌≡◌ {A = Option File} None (cond b None None)
none_either true = refl
none_either false = refl

pub file_at-filter : (t : List ℕ → Bool) (q : List ℕ) (fs : List File)
    → file_at q (filter (λ f. t f.path) fs) ≡ cond (t q) (file_at q fs) None
file_at-filter t q [] = none_either (t q)
file_at-filter t q (f ∷ fs) = file_at-filter_next t q f (filter (λ g. t g.path) fs) (file_at q fs)
    (t f.path) (bytes_eq f.path q) refl refl (file_at-filter t q fs)

-- which side of a path another one stands at
unfoldable pub side : List ℕ → Ordering → List ℕ → Bool
side path o q = ordering_index (slice_cmp nat_cmp q path) == ordering_index o

file_at-put_in_self : (path bytes : List ℕ) (stamp : ℕ) (fs : List File)
    → file_at path (put_in path bytes stamp fs)
    ≡ Some (record { path = path; bytes = bytes; stamp = stamp })
unfolding side
file_at-put_in_self path bytes stamp fs =
    file_at-joined path (filter (is_at_side path Less) fs) _
    ∙ rw (
      file_at-filter (side path Less) path fs,
      tied_itself nat_list_cmp_total path,
      bytes_eq-same
          path,
    )

apart : (path q : List ℕ) → q ≢ path → bytes_eq path q ≡ false
apart path q n = not_true (bytes_eq path q) (λ t. n (sym ((bytes_eq-Decides path q).0 t)))

-- a path that is not Equal stands at one of the two sides
pub of_sides : (o : Ordering) (f : Option File) → is_eq o ≡ false
    → option_or (cond (ordering_index o == 0) f None) (cond (ordering_index o == 2) f None) ≡ f
of_sides Less None n = refl
of_sides Less (Some f) n = refl
of_sides Equal f n = cc
of_sides Greater f n = refl

file_at-put_in_other : (path bytes : List ℕ) (stamp : ℕ) (fs : List File) (q : List ℕ) → q ≢ path
    → file_at q (put_in path bytes stamp fs) ≡ file_at q fs
unfolding side
file_at-put_in_other path bytes stamp fs q n =
    file_at-joined q (filter (is_at_side path Less) fs) _
    ∙ rw (
      apart path q n,
      file_at-filter (side path Less) q fs,
      file_at-filter (side path Greater) q
          fs,
    )
    (of_sides (slice_cmp nat_cmp q path) (file_at q fs)
    (is_eq-slice_cmp q path ∙ not_true (bytes_eq q path)
    (λ t. n ((bytes_eq-Decides q path).0 t))))

-- ---- a write

older_next : (s : ℕ) (f : File) (o : Option File) (b : Bool) → f.stamp < s
    → IfSome o (λ g. g.stamp < s) → IfSome (cond b (Some f) o) (λ g. g.stamp < s)
older_next s f o true h r = h
older_next s f o false h r = r

older : (s : ℕ) (fs : List File) → All (λ f. f.stamp < s) fs → (q : List ℕ)
    → IfSome (file_at q fs) (λ f. f.stamp < s)
older s [] h q = tt
older s (f ∷ fs) h q = older_next s f (file_at q fs) (bytes_eq f.path q) (h zero f (omega arith))
    (older s fs (λ k d w. h (suc k) d (omega arith)) q)

pub put_in-IsWritten : (path bytes : List ℕ) (stamp : ℕ) (fs : List File)
    → All (λ f. f.stamp < stamp) fs → IsWritten path bytes fs (put_in path bytes stamp fs)
put_in-IsWritten path bytes stamp fs newest = record {
  here = rw (file_at-put_in_self path bytes stamp fs)
      (refl, λ q n. rw (file_at-put_in_other path bytes stamp fs q n) (older stamp fs newest q));
  others = file_at-put_in_other path bytes stamp fs;
}

-- the same, where a call was given the path, the bytes and the files under other names
pub written : (path bytes p b : List ℕ) (stamp : ℕ) (old mid seen new : List File) → mid ≡ old
    → seen ≡ mid → All (λ f. f.stamp < stamp) seen → p ≡ path → b ≡ bytes
    → new ≡ put_in p b stamp mid → IsWritten path bytes old new
written path bytes p b stamp old mid seen new same shown newest there given is =
    rw (is, there, given, same) (put_in-IsWritten path bytes stamp old (rw (shown, same) at newest))
