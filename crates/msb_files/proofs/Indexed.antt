-- What is asked of one part and then of another.
use Rattle.std.proofs.Common.{◌≡◌, Bool, true, false, ◌||◌, ap, ◌∙◌, sym}

pub or_first : (r a b : Bool) → r ≡ a → r ≡ true → r ≡ (a || b)
or_first r a b is holds = holds ∙ ap (λ c. c || b) (sym holds ∙ is)

pub or_second : (r s a b : Bool) → s ≡ a → s ≡ false → r ≡ b → r ≡ (a || b)
or_second r s a b is fails rest = rest ∙ ap (λ c. c || b) (sym fails ∙ is)
