-- The elements of a file, as they are seen.
use Rattle.std.proofs.Common.{◌≡◌, ℕ, ◌<◌, List, length, map, get_or, sym, ap, ◌∙◌, arith}
use Rattle.std.proofs.lemmas.List.{get_or-map, length-map}
use Rattle.msb_elements.specs.declared.element.Element.{Element}
use Rattle.msb_elements.specs.View.{view}
use Rattle.build_world.specs.Elements.{at}

pub placed_within : (file : List ℕ) (elements : List Element) (i : ℕ) → i < length elements
    → i < length (map (at file) (map view elements))
placed_within file elements i h = omega
    (arith, h, length-map (map view elements) (at file), length-map elements view)

pub placed_at : (file : List ℕ) (elements : List Element) (i : ℕ) (e : Element)
    → i < length elements → e ≡ get_or elements i e
    → at file (view e) ≡ get_or (map (at file) (map view elements)) i (at file (view e))
placed_at file elements i e h is =
    ap (λ x. at file (view x)) is
    ∙ (ap (at file) (sym (get_or-map view elements i e (view e) h))
    ∙ sym
    (get_or-map (at file) (map view elements) i (view e) (at file (view e))
    (omega (arith, h, length-map elements view))))
