-- Layers that are joined one after another.
use Rattle.std.proofs.Common.{
  ◌≡◌,
  ℕ,
  zero,
  suc,
  List,
  [],
  ◌∷◌,
  ◌++◌,
  take,
  drop,
  sym,
  ap,
  ◌∙◌,
  append_assoc,
  append-nil,
}
use Rattle.request_machine.specs.Layers.{joined}

-- the layers from a place on as one, with entries behind them
pub joined_split : {T : Type 0} (i : ℕ) (layers : List (List T)) (last : List T)
    → joined (take i layers ++ (joined (drop i layers) ++ last) ∷ []) ≡ joined layers ++ last
joined_split zero layers last = append-nil (joined layers ++ last)
joined_split (suc i) [] last = append-nil last
joined_split (suc i) (layer ∷ layers) last = ap (λ xs. layer ++ xs) (joined_split i layers last)
    ∙ sym (append_assoc layer (joined layers) last)
