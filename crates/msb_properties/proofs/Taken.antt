-- What the properties of a PropertyGroup are.
use Rattle.std.proofs.Common.{◌≡◌, List, map, true, Result, Ok, sym, ap, ◌∙◌, subst}
use Rattle.msb_elements.specs.Nodes.{children_in}
use Rattle.msb_elements.specs.View.{view}
use Rattle.msb_elements.specs.declared.element.Element.{Element}
use Rattle.build_world.specs.Answers.{GivesFault}
use Rattle.build_world.specs.Elements.{At, at}
use Rattle.build_world.specs.declared.fault.EvalFault.{EvalFault}
use Rattle.msb_laws.specs.Results.{and_then, fold_ok}
use Rattle.msb_properties.specs.Settings.{Setting, Properties}
use Rattle.msb_properties.specs.Propertied.{holds_in_file, with_property, with_group, group_if}
use Rattle.msb_properties.proofs.Folds.{fold_map}

-- the answer of something equal
pub gives_same : {T U : Type 0} (seen : T → U) (r : Result T EvalFault) (a b : Result U EvalFault)
    → b ≡ a → GivesFault seen r a → GivesFault seen r b
gives_same seen r a b same given = subst (λ x. GivesFault seen r x) (sym same) given

-- a group whose Condition holds
pub group_each : (s : Setting) (p : Properties) (e : At) (children : List Element)
    → holds_in_file s p e ≡ Ok true → map view children ≡ children_in e.node
    → with_group s p e ≡ fold_ok (λ q child. with_property s q (at e.file (view child))) p children
group_each s p e children holds are =
    ap (λ r. and_then r (λ h. group_if h s p e)) holds
    ∙ fold_map (with_property s) (at e.file) p (children_in e.node)
    ∙ ap (fold_ok (λ q n. with_property s q (at e.file n)) p) (sym are)
    ∙ fold_map (λ q n. with_property s q (at e.file n)) view p children
