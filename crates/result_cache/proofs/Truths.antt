-- Truth values and lists are compared as the definitions have it.
use Rattle.std.proofs.Common.{◌≡◌, Bool, true, false, ◌&&◌, List, [], ◌∷◌, length, refl, ap, arith}
use Rattle.std.specs.Cmp.Lexicographic.{pointwise}
use Rattle.std.specs.List.{list_all, zip}
use mathlib.Core.Bool.{beq}
use Rattle.result_cache.specs.Same.{same_truth}

pub beq-truth : (a b : Bool) → beq a b ≡ same_truth a b
beq-truth true true = refl
beq-truth true false = refl
beq-truth false true = refl
beq-truth false false = refl

-- two lists of one length are the same where their entries are, place by place
pub pointwise-zip : {X : Type 0} (same : X → X → Bool) (a b : List X) → length a ≡ length b
    → list_all (λ p. same p.0 p.1) (zip a b) ≡ pointwise same a b
pointwise-zip same [] [] long = refl
pointwise-zip same [] (y ∷ b) long = absurd (omega arith)
pointwise-zip same (x ∷ a) [] long = absurd (omega arith)
pointwise-zip same (x ∷ a) (y ∷ b) long = let rest : length a
    ≡ length b = omega arith in ap (λ t. same x y && t) (pointwise-zip same a b rest)
