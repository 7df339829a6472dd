use Rattle.std.proofs.Common.{ℕ, List, Bor, map, filter, subst, ap, ◌∙◌, arith, IsPermutation}
use Rattle.std.proofs.lemmas.List.{take_all}
use Rattle.std.proofs.lemmas.List.Sorted.{IsPermutation-map}
use Rattle.msb_glob.specs.Expanded.{is_match}
use Rattle.msb_glob.proofs.Sorting.{sorted_texts}
use Rattle.msb_glob.proofs.expansion.find_matches.Goals as goal

pub returns-clause-matching : goal.returns-clause-matching
returns-clause-matching c =
    let moved = IsPermutation-map (λ (path : Bor (List ℕ)). path.now) _ _ c.sort.ensures.permutation
    in
    let texts = c.loop-path.invariant ∙ ap (filter (is_match c.args.pattern.now))
    (take_all c.loop-path.path-index c.args.paths.now (omega (arith, c.loop-path-test.false)))
    in
    let P : List (List ℕ)
    → Type 0 = λ xs.
    IsPermutation xs (map (λ (path : Bor (List ℕ)). path.now) c.sort.new.self.items) in
    subst P texts moved

pub returns-clause-in_order : goal.returns-clause-in_order
returns-clause-in_order c = sorted_texts c.sort.new.self.items c.in_ok-sort.ensures.sorted
