-- What the property pass gives: the laid-out elements, their properties, and the initial and
-- default targets. (How MSBuild builds projects, evaluation phase; Project element)
use Rattle.std.specs.Prelude.{
  ℕ,
  List,
  [],
  ◌∷◌,
  ◌++◌,
  map,
  Option,
  Some,
  None,
  Result,
  Ok,
  codes,
  if◌then◌else◌,
}
use Rattle.std.specs.Str.{bytes_eq}
use Rattle.msb_laws.specs.Words.{Text, Name, Path, Pairs}
use Rattle.msb_laws.specs.Results.{and_then, map_ok, fold_ok}
use Rattle.msb_values.specs.Pairs.{value_at}
use Rattle.msb_elements.specs.Nodes.{Node, name_of, attributes_of}
use Rattle.msb_expand.specs.declared.lens.Use.TheVariants.{Definition}
use Rattle.build_world.specs.declared.fault.EvalFault.{EvalFault}
use Rattle.build_world.specs.declared.laid_out.LaidOut.{LaidOut as Made}
use Rattle.build_world.specs.Elements.{At, seen_placed}
use Rattle.element_texts.specs.Contexts as contexts
use Rattle.msb_properties.specs.Settings.{Setting, Properties, context_at}
use Rattle.msb_properties.specs.Propertied.{properties_of}
use Rattle.msb_properties.specs.Laid.{Layout, layout_of}

-- an attribute of a Project element
abbrev pub on_project : Text → Node → Option Text
on_project name n = if bytes_eq (name_of n) (codes "Project") then value_at name (attributes_of n)
    else None

-- the targets that an attribute of an element names, by the final properties
abbrev pub names_at : Setting → Properties → At → Text → Result (List Name) EvalFault
names_at s p e text = contexts.names_at (context_at s p Definition) e (Some text)

abbrev pub names_if : Setting → Properties → At → Option Text → Result (List Name) EvalFault
names_if s p e None = Ok []
names_if s p e (Some text) = names_at s p e text

-- the InitialTargets of all files, in the order of the layout
abbrev pub with_initial : Setting → Properties → List Name → At
    → Result (List Name) EvalFault
with_initial s p names e = map_ok (λ more. names ++ more)
    (names_if s p e (on_project (codes "InitialTargets") e.node))

abbrev pub initial_of : Setting → Properties → List At → Result (List Name) EvalFault
initial_of s p elements = fold_ok (with_initial s p) [] elements

-- the DefaultTargets of the first file that has it, be it empty
abbrev pub default_or : Setting → Properties → At → Option Text
    → Result (List Name) EvalFault → Result (List Name) EvalFault
default_or s p e (Some text) later = names_at s p e text
default_or s p e None later = later

abbrev pub default_of : Setting → Properties → List At → Result (List Name) EvalFault
default_of s p [] = Ok []
default_of s p (e ∷ es) = default_or s p e (on_project (codes "DefaultTargets") e.node)
    (default_of s p es)

pub record LaidOut : Type 0 where
  pub elements : List At
  pub props : Pairs
  pub duplicates : List Path
  pub initial : List Name
  pub default : List Name

abbrev pub laid_out : Layout → Properties → List Name → List Name → LaidOut
laid_out l p initial default = record {
  elements = l.elements;
  props = p.values;
  duplicates = l.duplicates;
  initial = initial;
  default
      = default;
}

abbrev pub with_targets : Setting → Layout → Properties → Result LaidOut EvalFault
with_targets s l p = and_then (initial_of s p l.elements)
    (λ initial. map_ok (laid_out l p initial) (default_of s p l.elements))

abbrev pub passed : Setting → Result LaidOut EvalFault
passed s = and_then (layout_of s) (λ l. and_then (properties_of s l.elements) (with_targets s l))

-- the layout that the code gives
abbrev pub seen_layout : Made → LaidOut
seen_layout made = record {
  elements = map seen_placed made.elements.items;
  props = made.props;
  duplicates =
      made.duplicates;
  initial = made.initial;
  default = made.default;
}
