-- Texts in order, seen through references to them.
use Rattle.std.proofs.Common.{
  ◌≡◌,
  ℕ,
  ◌+◌,
  ◌<◌,
  List,
  [],
  ◌∷◌,
  length,
  get_or,
  map,
  Bor,
  is_lt,
  ap,
  ◌∙◌,
  arith,
}
use Rattle.std.specs.Cmp.Lexicographic.{slice_cmp}
use Rattle.std.specs.List.Sorted.{IsSorted}
use Rattle.std.specs.Ordering.{nat_cmp}
use Rattle.std.proofs.lemmas.List.{get_or-map, length-map}

now_at : (refs : List (Bor (List ℕ))) (first : Bor (List ℕ)) (k : ℕ) (d : List ℕ) → k < length refs
    → get_or (map (λ r. r.now) refs) k d ≡ (get_or refs k first).now
now_at refs first k d within = get_or-map (λ r. r.now) refs k first d within

pub sorted_texts : (refs : List (Bor (List ℕ)))
    → IsSorted (λ x y. slice_cmp nat_cmp x.now y.now) refs
    → IsSorted (slice_cmp nat_cmp) (map (λ r. r.now) refs)
sorted_texts [] sorted = λ k d low below. absurd (omega arith)
sorted_texts (first ∷ refs) sorted = λ k d low below.
    let all = first ∷ refs in
    let within : k + 1 < length all = omega (arith, length-map all (λ (r : Bor (List ℕ)). r.now)) in
    ap (λ x. is_lt (slice_cmp nat_cmp x (get_or (map (λ r. r.now) all) k d)))
    (now_at all first (k + 1) d within)
    ∙ ap (λ y. is_lt (slice_cmp nat_cmp (get_or all (k + 1) first).now y))
    (now_at all first k d (omega arith))
    ∙ sorted k first low within
