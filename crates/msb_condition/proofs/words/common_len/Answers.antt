use Rattle.std.proofs.Common.{◌≡◌, ℕ, ◌+◌, ◌≤◌, List, [], ◌∷◌, length, drop, refl, ap, ◌∙◌, arith}
use Rattle.std.specs.List.{common_prefix_len}
use Rattle.std.specs.Char.{eq_ignore_ascii_case}
use Rattle.std.proofs.lemmas.List.{drop_all}
use Rattle.msb_condition.proofs.words.common_len.Goals as goal

none_left : (xs : List ℕ) → common_prefix_len eq_ignore_ascii_case xs [] ≡ 0
none_left [] = refl
none_left (x ∷ xs) = refl

ends : (word other : List ℕ) (i n : ℕ) → length other ≤ i
    → n ≡ i + common_prefix_len eq_ignore_ascii_case (drop i word) (drop i other) → i ≡ n
ends word other i n l e =
    let f : common_prefix_len eq_ignore_ascii_case (drop i word) (drop i other)
    ≡ 0 = ap (common_prefix_len eq_ignore_ascii_case (drop i word)) (drop_all i other l)
    ∙ none_left (drop i word) in
    omega arith

pub returns-else-len-other-clause-value : goal.returns-else-len-other-clause-value
returns-else-len-other-clause-value c = ends c.args.word.now c.args.other.now c.loop-len.len _
    c.if-len-other.false c.loop-len.invariant.counted
