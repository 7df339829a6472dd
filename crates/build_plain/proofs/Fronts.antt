-- Beginnings of a list.
use Rattle.std.proofs.Common.{◌≡◌, List, [], ◌++◌, sym, ap, ◌∙◌, append-nil, append_assoc}
use mathlib.Core.List.{IsPrefix}

module _ {X : Type 0} where
  pub front-self : (xs : List X) → IsPrefix xs xs
  front-self xs = ([], append-nil xs)

  pub front-more : (xs ys more : List X) → ys ≡ xs ++ more → IsPrefix xs ys
  front-more xs ys more e = (more, sym e)

  pub front-trans : (xs ys zs : List X) → IsPrefix xs ys → IsPrefix ys zs → IsPrefix xs zs
  front-trans xs ys zs p q = (
    p.0 ++ q.0,
    sym (append_assoc xs p.0 q.0)
        ∙ (ap (λ us. us ++ q.0) p.1 ∙ q.1),
  )
