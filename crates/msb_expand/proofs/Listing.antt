-- A list that is read by the parts of an expression.
use Rattle.std.proofs.Common.{◌≡◌, List, [], ◌∷◌, ◌++◌, Result, Ok, Err, refl, sym, ap, ◌∙◌}
use Rattle.std.specs.List.{flat_map}
use Rattle.std.proofs.lemmas.List.Concat.{flat_map-cons}
use Rattle.msb_expression.specs.declared.expression.Part.{Part}
use Rattle.msb_expand.specs.declared.faults.ExpandFault.{ExpandFault}
use Rattle.msb_laws.specs.Results.{and_then}
use Rattle.msb_expand.specs.Scenes.{Scene}
use Rattle.msb_expand.specs.Tokens.{Token, part_tokens}
use Rattle.msb_expand.specs.Values.{
  Reading,
  reading,
  begun,
  closed,
  with_token,
  read_on,
  entries_value,
}
use Rattle.msb_expand.specs.Entries.{with_tokens}

abbrev Read : Type 0
Read = Result Reading ExpandFault

read_after : (scene : Scene) (xs ys : List Token)
    → ((r : Reading) → with_tokens scene r (xs ++ ys)
    ≡ and_then (with_tokens scene r xs) (λ s. with_tokens scene s ys))
    → (r : Read) → and_then r (λ s. with_tokens scene s (xs ++ ys))
    ≡ and_then (and_then r (λ s. with_tokens scene s xs)) (λ s. with_tokens scene s ys)
read_after scene xs ys appends (Ok r) = appends r
read_after scene xs ys appends (Err fault) = refl

-- the tokens of one list, and then those of another
pub with_tokens-append : (scene : Scene) (xs ys : List Token) (r : Reading)
    → with_tokens scene r (xs ++ ys) ≡ and_then (with_tokens scene r xs)
    (λ s. with_tokens scene s ys)
with_tokens-append scene [] ys r = refl
with_tokens-append scene (x ∷ xs) ys r = read_after scene xs ys (with_tokens-append scene xs ys)
    (with_token scene r x)

-- one part of an expression, and then the others
pub part_read : (scene : Scene) (part : Part) (parts : List Part) (r : Reading)
    → with_tokens scene r (flat_map (part_tokens scene) (part ∷ parts))
    ≡ and_then (with_tokens scene r (part_tokens scene part))
    (λ s. with_tokens scene s (flat_map (part_tokens scene) parts))
part_read scene part parts r =
    ap (with_tokens scene r) (flat_map-cons (part_tokens scene) part parts)
    ∙ with_tokens-append scene (part_tokens scene part) (flat_map (part_tokens scene) parts) r

ends_after : (scene : Scene) (tokens : List Token)
    → ((r : Reading) → read_on scene r tokens ≡ and_then (with_tokens scene r tokens) closed)
    → (r : Read) → and_then r (λ s. read_on scene s tokens)
    ≡ and_then (and_then r (λ s. with_tokens scene s tokens)) closed
ends_after scene tokens ends (Ok r) = ends r
ends_after scene tokens ends (Err fault) = refl

-- all tokens, and then the end
pub read_on-ends : (scene : Scene) (tokens : List Token) (r : Reading)
    → read_on scene r tokens ≡ and_then (with_tokens scene r tokens) closed
read_on-ends scene [] r = refl
read_on-ends scene (token ∷ tokens) r = ends_after scene tokens (read_on-ends scene tokens)
    (with_token scene r token)

entries_from : (scene : Scene) (parts given : List Part) (r : Reading) → given ≡ parts
    → r ≡ reading [] (begun [])
    → entries_value scene parts
    ≡ and_then (with_tokens scene r (flat_map (part_tokens scene) given)) closed
entries_from scene parts given r parts_are begins =
    read_on-ends scene (flat_map (part_tokens scene) parts) (reading [] (begun []))
    ∙ ap (λ s. and_then (with_tokens scene s (flat_map (part_tokens scene) parts)) closed)
    (sym begins)
    ∙ ap (λ ps. and_then (with_tokens scene r (flat_map (part_tokens scene) ps)) closed)
    (sym parts_are)

pub entries_stop : (scene : Scene) (parts given : List Part) (r : Reading) (f : ExpandFault)
    → given ≡ parts → r ≡ reading [] (begun [])
    → with_tokens scene r (flat_map (part_tokens scene) given) ≡ Err f
    → entries_value scene parts ≡ Err f
entries_stop scene parts given r f parts_are begins is = entries_from scene parts given r parts_are
    begins ∙ ap (λ x. and_then x closed) is

pub entries_end : (scene : Scene) (parts given : List Part) (r s : Reading) → given ≡ parts
    → r ≡ reading [] (begun [])
    → with_tokens scene r (flat_map (part_tokens scene) given) ≡ Ok s
    → entries_value scene parts ≡ closed s
entries_end scene parts given r s parts_are begins is = entries_from scene parts given r parts_are
    begins ∙ ap (λ x. and_then x closed) is
