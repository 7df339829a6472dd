-- What a step gives of InitialTargets and DefaultTargets.
use Rattle.std.proofs.Common.{
  ◌≡◌,
  ℕ,
  ◌<◌,
  ◌++◌,
  List,
  length,
  map,
  drop,
  get_or,
  Some,
  Err,
  refl,
  sym,
  ap,
  ◌∙◌,
  codes,
  drop-cons,
}
use Rattle.msb_elements.specs.View.{view}
use Rattle.msb_laws.specs.Results.{map_ok}
use Rattle.build_world.specs.Elements.{At, seen_placed}
use Rattle.build_world.specs.declared.fault.EvalFault.{EvalFault}
use Rattle.build_world.specs.declared.laid_out.Placed.{Placed}
use Rattle.msb_properties.specs.Settings.{Setting, Properties}
use Rattle.msb_properties.specs.Passed.{on_project, names_at, names_if, with_initial, default_of}

-- the DefaultTargets of the first file that has it
pub default_here : (s : Setting) (p : Properties) (xs : List Placed) (i : ℕ) (x : Placed)
    (text : List ℕ) → i < length xs → x ≡ get_or xs i x
    → on_project (codes "DefaultTargets") (view x.element) ≡ Some text
    → default_of s p (map seen_placed (drop i xs)) ≡ names_at s p (seen_placed x) text
default_here s p xs i x text h is has = rw (drop-cons xs i x, ← is, has) refl

-- a fault of a file's InitialTargets
pub initial_stops : (s : Setting) (p : Properties) (names : List (List ℕ)) (placed element : At)
    (text : List ℕ) (f : EvalFault) → element ≡ placed
    → on_project (codes "InitialTargets") placed.node ≡ Some text
    → names_at s p element text ≡ Err f → with_initial s p names placed ≡ Err f
initial_stops s p names placed element text f same has is =
    ap (λ written. map_ok (λ more. names ++ more) (names_if s p placed written)) has
    ∙ ap (map_ok (λ more. names ++ more)) (ap (λ e. names_at s p e text) (sym same) ∙ is)
