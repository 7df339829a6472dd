-- Either of two truths.
use Rattle.std.proofs.Common.{◌≡◌, ◌||◌, Bool, true, false, refl}

pub or-left : (a b : Bool) → a ≡ true → a || b ≡ true
or-left true b e = refl
or-left false b e = absurd (cc)

pub or-right : (a b : Bool) → b ≡ true → a || b ≡ true
or-right true b e = refl
or-right false b e = e

pub or-from : (a b : Bool) → (a ≡ false → b ≡ true) → a || b ≡ true
or-from true b f = refl
or-from false b f = f refl

pub or-rest : (a b : Bool) → a || b ≡ true → a ≡ false → b ≡ true
or-rest true b e f = absurd (cc)
or-rest false b e f = e

pub or-keeps : (a b c : Bool) → (b ≡ true → c ≡ true) → a || b ≡ true → a || c ≡ true
or-keeps true b c f e = refl
or-keeps false b c f e = f e

pub or-either : (a b : Bool) (P : Type 0) → (a ≡ true → P) → (b ≡ true → P) → a || b ≡ true → P
or-either true b P f g e = f refl
or-either false b P f g e = g e

pub or-assoc : (a b c : Bool) → a || (b || c) ≡ (a || b) || c
or-assoc true b c = refl
or-assoc false b c = refl

pub or-none : (a : Bool) → a || false ≡ a
or-none true = refl
or-none false = refl

pub not-true : (b : Bool) → (b ≡ true → ⊥) → b ≡ false
not-true true d = absurd (d refl)
not-true false d = refl
