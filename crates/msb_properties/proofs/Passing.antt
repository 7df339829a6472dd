-- What the layout of a project makes of the whole pass.
use Rattle.std.proofs.Common.{
  ◌≡◌,
  ℕ,
  List,
  [],
  map,
  Result,
  Ok,
  Err,
  OnOk,
  sym,
  ap,
  ◌∙◌,
  ◌-◌,
  length,
}
use Rattle.build_world.specs.Elements.{seen_placed}
use Rattle.build_world.specs.declared.fault.EvalFault.{EvalFault}
use Rattle.build_world.specs.declared.laid_out.Placed.{Placed}
use Rattle.msb_laws.specs.Results.{and_then}
use Rattle.msb_properties.specs.Settings.{Setting, Properties}
use Rattle.msb_properties.specs.Propertied.{properties_of}
use Rattle.msb_properties.specs.Laid.{Layout, lay_within, layout_of}
use Rattle.msb_properties.specs.Passed.{passed, with_targets}
use Rattle.msb_properties.specs.Seen.{IsKept}
use Rattle.msb_properties.specs.declared.layout.Layout.{Layout as Laid}
use Rattle.msb_properties.specs.declared.trees.ElementTrees.{ElementTrees}

-- the layout that nothing is in yet
abbrev pub laid_from : Setting → List (List ℕ) → List Placed → List (List ℕ) → List (List ℕ)
    → Result Layout EvalFault
laid_from s chain elements files duplicates = lay_within (64 - length chain) s chain s.path record
    { elements = map seen_placed elements; files = files; duplicates = duplicates }

whole : (s : Setting) (chain : List (List ℕ)) (elements : List Placed)
    (files duplicates : List (List ℕ)) (r : Result Layout EvalFault)
    → chain ≡ [] → elements ≡ [] → files ≡ [] → duplicates ≡ []
    → laid_from s chain elements files duplicates ≡ r → layout_of s ≡ r
whole s chain elements files duplicates r no_chain no_elements no_files no_duplicates is =
    sym (ap (λ c. laid_from s c elements files duplicates) no_chain
    ∙ ap (λ es. laid_from s [] es files duplicates) no_elements
    ∙ ap (λ fs. laid_from s [] [] fs duplicates) no_files
    ∙ ap (λ ds. laid_from s [] [] [] ds) no_duplicates) ∙ is

pub pass_stops : (s : Setting) (chain : List (List ℕ)) (elements : List Placed)
    (files duplicates : List (List ℕ)) (f : EvalFault)
    → chain ≡ [] → elements ≡ [] → files ≡ [] → duplicates ≡ []
    → laid_from s chain elements files duplicates ≡ Err f → passed s ≡ Err f
pass_stops s chain elements files duplicates f no_chain no_elements no_files no_duplicates is =
    ap (λ r. and_then r (λ l. and_then (properties_of s l.elements) (with_targets s l)))
    (whole s chain elements files duplicates (Err f) no_chain no_elements no_files no_duplicates
    is)

pub pass_goes : (s : Setting) (chain : List (List ℕ)) (elements : List Placed)
    (files duplicates : List (List ℕ)) (l : Layout) (p : Properties)
    → chain ≡ [] → elements ≡ [] → files ≡ [] → duplicates ≡ []
    → laid_from s chain elements files duplicates ≡ Ok l → properties_of s l.elements ≡ Ok p
    → passed s ≡ with_targets s l p
pass_goes s chain elements files duplicates l p no_chain no_elements no_files no_duplicates is are =
    ap (λ r. and_then r (λ m. and_then (properties_of s m.elements) (with_targets s m)))
    (whole s chain elements files duplicates (Ok l) no_chain no_elements no_files no_duplicates
    is)
    ∙ ap (λ r. and_then r (with_targets s l)) are

-- other trees leave what is kept of a layout
abbrev with_trees : Laid → ElementTrees → Laid
with_trees l trees = record {
  properties = l.properties;
  elements = l.elements;
  files = l.files;
  duplicates = l.duplicates;
  trees = trees;
}

pub kept_still : (r : Result (Unit {0}) EvalFault) (s : Setting) (l : Laid) (trees : ElementTrees) →
    OnOk r (IsKept s l) → OnOk r (IsKept s (with_trees l trees))
kept_still (Ok done) s l trees kept = record { plain = kept.plain; kept = kept.kept }
kept_still (Err fault) s l trees kept = tt
