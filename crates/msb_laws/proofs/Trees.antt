-- Laws of trees of asks.
use Rattle.std.proofs.Common.{◌≡◌, Option, None, Some, refl, ◌∙◌}
use Rattle.msb_laws.specs.Asking.{Asking, gives, asks, answered_by, followed_by, and_then}

pub and_then-and_then : {X Y Z : Type 0} (o : Option X) (f : X → Option Y) (g : Y → Option Z)
    → and_then o (λ x. and_then (f x) g) ≡ and_then (and_then o f) g
and_then-and_then None f g = refl
and_then-and_then (Some x) f g = refl

same_after : {X Y : Type 0} (o : Option X) (f g : X → Option Y) → ((x : X) → f x ≡ g x)
    → and_then o f ≡ and_then o g
same_after None f g same = refl
same_after (Some x) f g same = same x

pub composes : {Q A R T S : Type 0} (answer : Q → S → Option (A × S)) (tree : Asking Q A R)
    (next : R → Asking Q A T) (s : S) →
    answered_by answer (followed_by tree next) s
    ≡ and_then (answered_by answer tree s) (λ end. answered_by answer (next end.0) end.1)
composes answer (gives r) next s = refl
composes answer (asks q go) next s =
    same_after (answer q s) _ _ (λ p. composes answer (go p.0) next p.1)
    ∙ and_then-and_then (answer q s) _ _

pub ends : {Q A R : Type 0} (tree : Asking Q A R) → followed_by tree gives ≡ tree
ends (gives r) = refl
ends (asks q go) = λ i. asks q (λ a. ends (go a) i)

pub groups : {Q A R T U : Type 0} (tree : Asking Q A R) (next : R → Asking Q A T)
    (last : T → Asking Q A U) →
    followed_by (followed_by tree next) last ≡ followed_by tree (λ end. followed_by (next end) last)
groups (gives r) next last = refl
groups (asks q go) next last = λ i. asks q (λ a. groups (go a) next last i)
