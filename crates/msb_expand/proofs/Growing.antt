-- A text that grows by the values of the parts of an expression.
use Rattle.std.proofs.Common.{◌≡◌, ℕ, List, [], ◌∷◌, ◌++◌, Result, Ok, Err, refl, ap, ◌∙◌}
use Rattle.std.specs.List.{flat_map}
use Rattle.std.proofs.lemmas.List.Concat.{flat_map-cons}
use Rattle.msb_expression.specs.declared.expression.Part.{Part}
use Rattle.msb_expand.specs.declared.faults.ExpandFault.{ExpandFault}
use Rattle.msb_laws.specs.Results.{and_then}
use Rattle.msb_expand.specs.Limits.{grown, grown_by}
use Rattle.msb_expand.specs.Scenes.{Scene}
use Rattle.msb_expand.specs.Tokens.{part_tokens}
use Rattle.msb_expand.specs.Values.{token_text}

abbrev Text : Type 0
Text = Result (List ℕ) ExpandFault

grown_after : {X : Type 0} (value : X → Text) (xs ys : List X)
    → ((text : List ℕ) → grown_by value text (xs ++ ys)
    ≡ and_then (grown_by value text xs) (λ longer. grown_by value longer ys))
    → (r : Text) → and_then r (λ longer. grown_by value longer (xs ++ ys))
    ≡ and_then (and_then r (λ longer. grown_by value longer xs))
    (λ longer. grown_by value longer ys)
grown_after value xs ys appends (Ok text) = appends text
grown_after value xs ys appends (Err fault) = refl

-- by the parts of one list, and then by those of another
pub grown_by-append : {X : Type 0} (value : X → Text) (xs ys : List X) (text : List ℕ)
    → grown_by value text (xs ++ ys) ≡ and_then (grown_by value text xs)
    (λ longer. grown_by value longer ys)
grown_by-append value [] ys text = refl
grown_by-append value (x ∷ xs) ys text = grown_after value xs ys (grown_by-append value xs ys)
    (grown text (value x))

-- by one part of an expression, and then by the others
pub part_grown : (scene : Scene) (part : Part) (parts : List Part) (text : List ℕ)
    → grown_by (token_text scene) text (flat_map (part_tokens scene) (part ∷ parts))
    ≡ and_then (grown_by (token_text scene) text (part_tokens scene part))
    (λ longer. grown_by (token_text scene) longer (flat_map (part_tokens scene) parts))
part_grown scene part parts text =
    ap (grown_by (token_text scene) text) (flat_map-cons (part_tokens scene) part parts)
    ∙ grown_by-append (token_text scene) (part_tokens scene part)
    (flat_map (part_tokens scene) parts) text
