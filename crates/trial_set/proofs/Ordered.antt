-- The files of a set stand in byte order of their paths.
use Rattle.std.proofs.Common.{
  ◌≡◌,
  ℕ,
  List,
  [],
  ◌∷◌,
  ◌++◌,
  map,
  true,
  false,
  refl,
  sym,
  ap,
  ◌∙◌,
  append-nil,
}
use Rattle.std.specs.Cmp.Lexicographic.{slice_cmp}
use Rattle.std.specs.List.Sorted.{IsStrictlySortedBy}
use Rattle.std.specs.Map.{keys_of}
use Rattle.std.specs.Ordering.{nat_cmp}
use Rattle.file_store.specs.Files.{paths_of, are_in_order}
use Rattle.file_store.specs.Paths.{are_rising}
use Rattle.file_store.proofs.Listed.{are_rising-from_sorted}
use Rattle.file_store.specs.declared.tree.File.{File}
use Rattle.trial_set.specs.Sets.{file_at_stamp}

paths_of-files : (es : List (List ℕ × List ℕ)) → paths_of (map file_at_stamp es) ≡ keys_of es
paths_of-files [] = refl
paths_of-files (e ∷ es) = ap (λ ps. e.0 ∷ ps) (paths_of-files es)

pub are_in_order-files : (es : List (List ℕ × List ℕ))
    → IsStrictlySortedBy (slice_cmp nat_cmp) (keys_of es)
    → are_in_order (map file_at_stamp es) ≡ true
are_in_order-files es h = ap are_rising (paths_of-files es) ∙ are_rising-from_sorted (keys_of es) h

-- so there is a tree of them
pub no_tree : (files : List File) (es left : List (List ℕ × List ℕ)) → left ≡ []
    → files ++ map file_at_stamp left ≡ map file_at_stamp es
    → IsStrictlySortedBy (slice_cmp nat_cmp) (keys_of es)
    → (are_in_order files ≡ true → false ≡ true) → ⊥
no_tree files es left none same sorted refused =
    let all : files ≡ map file_at_stamp es = sym
    (ap (λ l. files ++ map file_at_stamp l) none ∙ append-nil files) ∙ same in
    let wrong : false ≡ true = refused (ap are_in_order all ∙ are_in_order-files es sorted) in
    cc
