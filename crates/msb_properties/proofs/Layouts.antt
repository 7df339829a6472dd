-- One more element of a layout.
use Rattle.std.proofs.Common.{◌≡◌, ℕ, List, [], ◌∷◌, ◌++◌, map, Ok, ap, ◌∙◌}
use Rattle.std.proofs.lemmas.List.{map-append}
use Rattle.msb_elements.specs.View.{view}
use Rattle.build_world.specs.Elements.{At, at, seen_placed}
use Rattle.build_world.specs.declared.laid_out.Placed.{Placed}
use Rattle.msb_laws.specs.Results.{and_then, map_ok}
use Rattle.msb_properties.specs.Settings.{Setting, Properties}
use Rattle.msb_properties.specs.Propertied.{first_properties, properties_of, with_element as after}
use Rattle.msb_properties.specs.Laid.{Layout, with_element, extended}
use Rattle.msb_properties.proofs.Folds.{fold_more}

-- the properties with one more element
pub one_more : (s : Setting) (es : List At) (e : At) (p : Properties) → properties_of s es ≡ Ok p
    → properties_of s (es ++ e ∷ []) ≡ after s p e
one_more s es e p are = fold_more (after s) (first_properties s) es e
    ∙ ap (λ r. and_then r (λ q. after s q e)) are

-- the layout with one more element
pub extended_by : (s : Setting) (l : Layout) (e : At) (p : Properties)
    → properties_of s l.elements ≡ Ok p → extended s l e
    ≡ map_ok (λ q. with_element l e) (after s p e)
extended_by s l e p are = ap (map_ok (λ q. with_element l e)) (one_more s l.elements e p are)

-- the elements with one more
pub seen_more : (new old : List Placed) (placed : Placed) (file : List ℕ) → new ≡ old ++ placed ∷ []
    → placed.file ≡ file → map seen_placed new
    ≡ map seen_placed old ++ at file (view placed.element) ∷ []
seen_more new old placed file grown is = ap (map seen_placed) grown
    ∙ map-append seen_placed old (placed ∷ [])
    ∙ ap (λ f. map seen_placed old ++ at f (view placed.element) ∷ []) is
