-- What a property element in a target changes, in one of its buckets. (PropertyGroup element;
-- MSBuild properties)
use Rattle.std.specs.Prelude.{List, [], ◌∷◌, Bool, true, false, Result, Ok, Err}
use Rattle.msb_laws.specs.Words.{Name}
use Rattle.msb_laws.specs.Results.{and_then, map_ok}
use Rattle.msb_values.specs.declared.cause.Cause.TheVariants.{Reserved}
use Rattle.msb_values.specs.declared.change.Change.{Change}
use Rattle.msb_values.specs.declared.change.Change.TheVariants.{SetProp}
use Rattle.msb_elements.specs.Nodes.{inner_text}
use Rattle.msb_expand.specs.Reserved.{is_reserved}
use Rattle.build_world.specs.declared.fault.EvalFault.{EvalFault}
use Rattle.build_world.specs.Elements.{At, fault_of}
use Rattle.element_texts.specs.Contexts.{ElementContext, element_holds, text_at}

-- a property that the engine sets is refused; a global one is set like any other
abbrev pub property_set : Bool → Name → ElementContext → At → Result (List Change) EvalFault
property_set true name p e = Err (fault_of e (Reserved name))
property_set false name p e = map_ok (λ text. SetProp name text ∷ [])
    (text_at p e (inner_text e.node))

abbrev pub property_change_if : Bool → Name → ElementContext → At → Result (List Change) EvalFault
property_change_if true name p e = property_set (is_reserved name) name p e
property_change_if false name p e = Ok []

-- one change, if the Condition holds
abbrev pub property_changes : Name → ElementContext → At → Result (List Change) EvalFault
property_changes name p e = and_then (element_holds p e)
    (λ holds. property_change_if holds name p e)
