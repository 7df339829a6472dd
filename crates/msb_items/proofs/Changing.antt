-- Elements that change a scope one after another, and what they tell.
use Rattle.std.proofs.Common.{
  ◌≡◌,
  List,
  [],
  ◌∷◌,
  ◌++◌,
  Result,
  Ok,
  Err,
  refl,
  sym,
  ap,
  ◌∙◌,
  append_assoc,
  append-nil,
}
use Rattle.msb_laws.specs.Results.{map_ok}
use Rattle.msb_values.specs.Changes.{all_applied, applied}
use Rattle.msb_values.specs.declared.change.Change.{Change}
use Rattle.msb_values.specs.declared.scope.Scope.{Scope}
use Rattle.build_world.specs.Elements.{At}
use Rattle.build_world.specs.declared.fault.EvalFault.{EvalFault}
use Rattle.element_texts.specs.Contexts.{ElementContext, with_scope}
use Rattle.msb_items.specs.TargetGroups.{changes_of_each}

-- so far the elements have made these changes, the scope is this, and `all` is what all of them
-- tell
pub record IsChanging (of : ElementContext → At → Result (List Change) EvalFault)
    (p : ElementContext)
    (rest : List At) (scope : Scope) (front : List Change) (all : Result (List Change) EvalFault) :
    Type 0 where
  pub is : all ≡ map_ok (λ more. front ++ more) (changes_of_each of (with_scope p scope) rest)

longer : {E : Type 0} (front changes : List Change) (r : Result (List Change) E)
    → map_ok (λ more. front ++ more) (map_ok (λ later. changes ++ later) r)
    ≡ map_ok (λ more. (front ++ changes) ++ more) r
longer front changes (Ok later) = ap Ok (sym (append_assoc front changes later))
longer front changes (Err fault) = refl

pub changing_stop : (of : ElementContext → At → Result (List Change) EvalFault) (p : ElementContext)
    (e : At)
    (rest more : List At) (scope : Scope) (front : List Change)
    (all : Result (List Change) EvalFault) (fault : EvalFault)
    → IsChanging of p rest scope front all → rest ≡ e ∷ more → of (with_scope p scope) e ≡ Err fault
    → all ≡ Err fault
changing_stop of p e rest more scope front all fault inv is fails = inv.is ∙ rw (is, fails) refl

pub changing_step : (of : ElementContext → At → Result (List Change) EvalFault) (p : ElementContext)
    (e : At)
    (rest more : List At) (scope : Scope) (front changes : List Change)
    (all : Result (List Change) EvalFault)
    → IsChanging of p rest scope front all → rest ≡ e ∷ more
    → of (with_scope p scope) e ≡ Ok changes
    → IsChanging of p more (all_applied changes scope) (front ++ changes) all
changing_step of p e rest more scope front changes all inv is gives = record {
  is = inv.is
      ∙ rw (is, gives)
      (longer front changes (changes_of_each of (with_scope p (all_applied changes scope)) more));
}

pub changing_end : (of : ElementContext → At → Result (List Change) EvalFault) (p : ElementContext)
    (scope : Scope)
    (front : List Change) (all : Result (List Change) EvalFault)
    → IsChanging of p [] scope front all → all ≡ Ok front
changing_end of p scope front all inv = inv.is ∙ ap Ok (append-nil front)

pub applied_more : (front more : List Change) (scope : Scope)
    → all_applied (front ++ more) scope ≡ all_applied more (all_applied front scope)
applied_more [] more scope = refl
applied_more (change ∷ front) more scope = applied_more front more (applied change scope)
