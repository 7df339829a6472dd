use Rattle.std.proofs.Common.{
  ◌≡◌,
  ℕ,
  List,
  [],
  ◌∷◌,
  ◌++◌,
  length,
  refl,
  sym,
  ap,
  ◌∙◌,
  arith,
  inl,
  inr,
}
use Rattle.std.proofs.lemmas.List.{append-nil}
use Rattle.msb_values.specs.declared.item.Item.{Item}
use Rattle.msb_files.specs.Views.{View}
use Rattle.target_incremental.specs.Decisions.{old_items}
use Rattle.target_incremental.proofs.decision.old_items.Goals as goal

without_inputs : (view : View) (inputs outputs : List (List ℕ)) (items : List Item)
    → length inputs ≡ 0 → old_items view inputs outputs items ≡ []
without_inputs view [] outputs items none = refl
without_inputs view (input ∷ inputs) outputs items none = absurd (omega arith)

without_outputs : (view : View) (inputs outputs : List (List ℕ)) (items : List Item)
    → length outputs ≡ 0 → old_items view inputs outputs items ≡ []
without_outputs view [] outputs items none = refl
without_outputs view (input ∷ inputs) [] items none = refl
without_outputs view (input ∷ inputs) (output ∷ outputs) items none = absurd (omega arith)

without_items : (view : View) (inputs outputs : List (List ℕ)) (items : List Item)
    → length items ≡ 0 → old_items view inputs outputs items ≡ []
without_items view [] outputs items none = refl
without_items view (input ∷ inputs) [] items none = refl
without_items view (input ∷ inputs) (output ∷ outputs) [] none = refl
without_items view (input ∷ inputs) (output ∷ outputs) (item ∷ items) none = absurd (omega arith)

-- where no pair is left, what was found is all
all_found : (old more whole : List Item) → old ++ more ≡ whole → more ≡ [] → old ≡ whole
all_found old more whole so_far none = sym (append-nil old) ∙ sym (ap (λ m. old ++ m) none) ∙ so_far

pub returns : goal.returns
returns c =
    let pairs = c.loop-input.input-iterator in
    let found = all_found c.loop-input.old
    (old_items c.args.view.now pairs.a.a.rest.now pairs.a.b.rest.now pairs.b.rest.now)
    (old_items c.args.view.now c.args.inputs.now c.args.outputs.now c.args.items.now)
    c.loop-input.invariant in
    elim c.in-None.ensures.steps [
      | inl p ↦ elim p.1 [
        | inl q ↦ found
            (without_inputs c.args.view.now pairs.a.a.rest.now pairs.a.b.rest.now pairs.b.rest.now
            q.1.0)
        | inr q ↦ found
            (without_outputs c.args.view.now pairs.a.a.rest.now pairs.a.b.rest.now pairs.b.rest.now
            q.1.0)
      ]
      | inr q ↦ found
          (without_items c.args.view.now pairs.a.a.rest.now pairs.a.b.rest.now pairs.b.rest.now
          q.1.0)
    ]
