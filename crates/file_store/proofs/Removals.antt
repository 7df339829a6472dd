-- Files with the one at a path taken out.
use Rattle.std.proofs.Common.{◌≡◌, ◌≢◌, ℕ, List, [], ◌∷◌, ◌++◌, true, None, sym, ◌∙◌}
use Rattle.std.specs.List.{list_all, filter}
use Rattle.std.specs.declared.cmp.Ordering.TheVariants.{Less, Greater}
use Rattle.std.specs.Ordering.{nat_cmp}
use Rattle.std.specs.Cmp.Lexicographic.{slice_cmp}
use Rattle.std.proofs.lemmas.Cmp.{nat_list_cmp_total, tied_itself}
use Rattle.std.proofs.lemmas.List.Folds.{list_all-map}
use Rattle.std.proofs.lemmas.Map.Text.{is_eq-slice_cmp}
use Rattle.std.proofs.lemmas.Slice.Eq.{bytes_eq-Decides}
use Rattle.std.specs.Str.{bytes_eq}
use Rattle.file_store.specs.Paths.{is_before}
use Rattle.file_store.specs.Files.{paths_of, are_in_order, file_at}
use Rattle.file_store.specs.Writes.{is_at_side, taken_out, IsRemoved}
use Rattle.file_store.specs.declared.tree.File.{File}
use Rattle.file_store.proofs.Order.{and_true, both_true, all_further, not_true}
use Rattle.file_store.proofs.Puts.{
  side,
  before_is,
  after_is,
  passes,
  ordered-filter,
  file_at-joined,
  file_at-filter,
  of_sides,
}

-- ---- they stand in order

all_joined : (q path : List ℕ) (fs gs : List File) → list_all (is_before q) (paths_of fs) ≡ true
    → is_before q path ≡ true → list_all (is_before path) (paths_of gs) ≡ true
    → list_all (is_before q) (paths_of (fs ++ gs)) ≡ true
all_joined q path [] gs h b r = all_further q path gs b r
all_joined q path (f ∷ fs) gs h b r =
    let both = and_true _ _ h in
    both_true _ _ both.0 (all_joined q path fs gs both.1 b r)

ordered_joined : (path : List ℕ) (fs gs : List File) → are_in_order fs ≡ true
    → are_in_order gs ≡ true → list_all (λ f. is_before f.path path) fs ≡ true
    → list_all (is_before path) (paths_of gs) ≡ true → are_in_order (fs ++ gs) ≡ true
ordered_joined path [] gs h r b a = r
ordered_joined path (f ∷ fs) gs h r b a =
    let both = and_true _ _ h in
    let first = and_true _ _ b in
    both_true _ _ (all_joined f.path path fs gs both.0 first.0 a)
    (ordered_joined path fs gs both.1 r first.1 a)

pub taken_out-ordered : (path : List ℕ) (fs : List File) → are_in_order fs ≡ true
    → are_in_order (taken_out path fs) ≡ true
taken_out-ordered path fs h =
    ordered_joined path (filter (is_at_side path Less) fs) (filter (is_at_side path Greater) fs)
    (ordered-filter (is_at_side path Less) fs h) (ordered-filter (is_at_side path Greater) fs h)
    (passes (is_at_side path Less) (λ g. is_before g.path path) (λ f e. sym (before_is path f) ∙ e)
    fs)
    (list_all-map (is_before path) (λ f. f.path) (filter (is_at_side path Greater) fs)
    ∙ passes (is_at_side path Greater) (λ g. is_before path g.path)
    (λ f e. sym (after_is path f) ∙ e) fs)

-- ---- which file stands at a path

none_there : (path : List ℕ) (fs : List File) → file_at path (taken_out path fs) ≡ None
unfolding side
none_there path fs =
    file_at-joined path (filter (is_at_side path Less) fs) (filter (is_at_side path Greater) fs)
    ∙ rw (
      file_at-filter (side path Less) path fs,
      file_at-filter (side path Greater) path fs,
      tied_itself nat_list_cmp_total path,
    )

others_there : (path : List ℕ) (fs : List File) (q : List ℕ) → q ≢ path
    → file_at q (taken_out path fs) ≡ file_at q fs
unfolding side
others_there path fs q n =
    let other = not_true (bytes_eq q path) (λ t. n ((bytes_eq-Decides q path).0 t)) in
    file_at-joined q (filter (is_at_side path Less) fs) (filter (is_at_side path Greater) fs)
    ∙ rw (file_at-filter (side path Less) q fs, file_at-filter (side path Greater) q fs)
    (of_sides (slice_cmp nat_cmp q path) (file_at q fs) (is_eq-slice_cmp q path ∙ other))

pub taken_out-IsRemoved : (path : List ℕ) (fs : List File) → IsRemoved path fs (taken_out path fs)
taken_out-IsRemoved path fs = record {
  here = none_there path fs;
  others = others_there path fs;
}

-- the same, where a call was given the files under other names
pub removed : (path : List ℕ) (old mid new : List File) → mid ≡ old → new ≡ taken_out path mid
    → IsRemoved path old new
removed path old mid new same is = rw (is, same) (taken_out-IsRemoved path old)
