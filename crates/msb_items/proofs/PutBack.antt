-- A list that is taken out of a map, changed and put back.
use Rattle.std.proofs.Common.{◌≡◌, ℕ, List, ap, unwrap_or, ◌∙◌}
use Rattle.msb_values.specs.Pairs.{changed_at, value_at}
use Rattle.msb_values.proofs.Lookups.{changed-by, changed-twice}

pub put_back : {T : Type 0} (name : List ℕ) (change : T → T) (old left new : List (List ℕ × T))
    (empty taken made : T)
    → left ≡ changed_at name (λ _. empty) old → taken ≡ unwrap_or (value_at name old) empty
    → made ≡ change taken → new ≡ changed_at name (λ _. made) left
    → new ≡ changed_at name change old
put_back name change old left new empty taken made without had changed back =
    back
    ∙ ap (changed_at name (λ _. made)) without
    ∙ changed-twice name (λ _. empty) (λ _. made) old
    ∙ ap (λ value. changed_at name (λ _. value) old) (changed ∙ ap change had)
    ∙ changed-by name change empty old
