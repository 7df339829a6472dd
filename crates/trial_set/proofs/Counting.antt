-- Loops that count up to a bound, against recursions on what is left.
use Rattle.std.proofs.Common.{◌≡◌, ℕ, suc, ◌+◌, ◌-◌, ◌<◌, ◌≤◌, List, [], ◌∷◌, sym, ap, ◌∙◌, arith}
use Rattle.std.specs.BTreeMap.{insert_entry}
use Rattle.std.specs.Cmp.Lexicographic.{slice_cmp}
use Rattle.std.specs.Ordering.{nat_cmp}
use Rattle.msb_values.specs.Pairs.{all_put}
use Rattle.trial_set.specs.Draws.{calls_of}
use Rattle.trial_set.specs.Projects.{file_of, project_text}
use Rattle.trial_set.specs.Sets.{projects_from, numbers_from}

one_less : (bound i : ℕ) → i < bound → bound - i ≡ suc (bound - (i + 1))
one_less bound i h = omega arith

none_left : (bound i : ℕ) → bound ≤ i → bound - i ≡ 0
none_left bound i h = omega arith

pub numbers_from-step : (bound i : ℕ) → i < bound
    → numbers_from (bound - i) i ≡ i ∷ numbers_from (bound - (i + 1)) (i + 1)
numbers_from-step bound i h = ap (λ n. numbers_from n i) (one_less bound i h)

pub numbers_from-end : (bound i : ℕ) → bound ≤ i → numbers_from (bound - i) i ≡ []
numbers_from-end bound i h = ap (λ n. numbers_from n i) (none_left bound i h)

pub projects_from-step : (bound i state : ℕ) → i < bound →
    projects_from (bound - i) i state ≡ (file_of i, project_text i (calls_of i state).numbers)
    ∷ projects_from (bound - (i + 1)) (i + 1) (calls_of i state).state
projects_from-step bound i state h = ap (λ n. projects_from n i state) (one_less bound i h)

pub projects_from-end : (bound i state : ℕ) → bound ≤ i → projects_from (bound - i) i state ≡ []
projects_from-end bound i state h = ap (λ n. projects_from n i state) (none_left bound i h)

-- a project more is put into the set
pub put_step : (size n state next : ℕ) (old new : List (List ℕ × List ℕ)) (path text : List ℕ)
    (all : List (List ℕ × List ℕ)) → n < size + 1 →
    new ≡ insert_entry (slice_cmp nat_cmp) old path text → path ≡ file_of n
    → text ≡ project_text n (calls_of n state).numbers → next ≡ (calls_of n state).state →
    all_put old (projects_from (size + 1 - n) n state) ≡ all
    → all_put new (projects_from (size + 1 - (n + 1)) (n + 1) next) ≡ all
put_step size n state next old new path text all h is named written goes so_far =
    let rest = λ (s : ℕ). projects_from (size + 1 - (n + 1)) (n + 1) s in
    let put = λ (p t : List ℕ). insert_entry (slice_cmp nat_cmp) old p t in
    ap (λ es. all_put es (rest next)) (is ∙ ap (λ p. put p text) named
    ∙ ap (put (file_of n)) written)
    ∙ ap (λ s. all_put (put (file_of n) (project_text n (calls_of n state).numbers)) (rest s)) goes
    ∙ sym (ap (all_put old) (projects_from-step (size + 1) n state h))
    ∙ so_far
