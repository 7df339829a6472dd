-- What asks, is answered and goes on: a tree of questions Q, with answers A, that ends with an R.
use Rattle.std.specs.Prelude.{List, [], ◌∷◌, Option, None, Some}

pub data Asking (Q A R : Type 0) : Type 0 where
  gives : R → Asking Q A R
  asks : Q → (A → Asking Q A R) → Asking Q A R

-- if there is a value, what f makes of it
abbrev pub and_then : {X Y : Type 0} → Option X → (X → Option Y) → Option Y
and_then None f = None
and_then (Some x) f = f x

-- one tree, and then the tree that follows from its end
abbrev pub followed_by : {Q A R T : Type 0} → Asking Q A R → (R → Asking Q A T) → Asking Q A T
followed_by (gives r) next = next r
followed_by (asks q go) next = asks q (λ a. followed_by (go a) next)

-- the end and the last state where a machine answers, which may give up
abbrev pub answered_by : {Q A R S : Type 0} → (Q → S → Option (A × S)) → Asking Q A R → S
    → Option (R × S)
answered_by answer (gives r) s = Some (r, s)
answered_by answer (asks q go) s = and_then (answer q s) (λ p. answered_by answer (go p.0) p.1)

-- the end and the last state where every question has an answer
abbrev pub played_by : {Q A R S : Type 0} → (Q → S → A × S) → Asking Q A R → S → R × S
played_by answer (gives r) s = (r, s)
played_by answer (asks q go) s = let p = answer q s in played_by answer (go p.0) p.1

-- the questions along a list of answers
abbrev pub asked_along : {Q A R : Type 0} → Asking Q A R → List A → List Q
asked_along (gives r) answers = []
asked_along (asks q go) [] = q ∷ []
asked_along (asks q go) (a ∷ answers) = q ∷ asked_along (go a) answers

-- the tree that is left after a list of answers
abbrev pub left_after : {Q A R : Type 0} → Asking Q A R → List A → Asking Q A R
left_after (gives r) answers = gives r
left_after (asks q go) [] = asks q go
left_after (asks q go) (a ∷ answers) = left_after (go a) answers
