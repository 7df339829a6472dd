-- One draw of a loop of draws.
use Rattle.std.proofs.Common.{◌≡◌, ℕ, zero, suc, ◌+◌, ◌-◌, ◌<◌, ◌%◌, List, fold, ap, ◌∙◌, arith}
use Rattle.std.specs.BTreeSet.{insert_key}
use Rattle.std.specs.Ordering.{nat_cmp}
use Rattle.trial_set.specs.Draws.{next_state, answer_of, drawn}

pub numbers_on : (last left state next answer : ℕ) (old new all : List ℕ) → 0 < left
    → next ≡ next_state state → answer ≡ answer_of next
    → new ≡ insert_key nat_cmp old (1 + answer % last) →
    fold (insert_key nat_cmp) old (drawn (last + 1) left state).numbers ≡ all
    → fold (insert_key nat_cmp) new (drawn (last + 1) (left - 1) next).numbers ≡ all
numbers_on last zero state next answer old new all h is told put so_far = absurd (omega arith)
numbers_on last (suc k) state next answer old new all h is told put so_far =
    let less : suc k - 1 ≡ k = omega arith in
    let same : last ≡ last + 1 - 1 = omega arith in
    ap (λ n. fold (insert_key nat_cmp) new (drawn (last + 1) n next).numbers) less
    ∙ ap (λ es. fold (insert_key nat_cmp) es (drawn (last + 1) k next).numbers)
    (put ∙ ap (λ a. insert_key nat_cmp old (1 + a % last)) told
    ∙ ap (λ m. insert_key nat_cmp old (1 + answer_of next % m)) same)
    ∙ ap
    (λ s. fold (insert_key nat_cmp) (insert_key nat_cmp old (1 + answer_of s % (last + 1 - 1)))
    (drawn (last + 1) k s).numbers) is
    ∙ so_far

pub state_on : (last left state next all : ℕ) → 0 < left → next ≡ next_state state
    → (drawn (last + 1) left state).state ≡ all → (drawn (last + 1) (left - 1) next).state ≡ all
state_on last zero state next all h is so_far = absurd (omega arith)
state_on last (suc k) state next all h is so_far =
    let less : suc k - 1 ≡ k = omega arith in
    ap (λ n. (drawn (last + 1) n next).state) less ∙ ap (λ s. (drawn (last + 1) k s).state) is
    ∙ so_far
