-- A step in `$(..)` or `%(..)` keeps what stands behind the machine.
use Rattle.std.proofs.Common.{
  ◌≡◌,
  ℕ,
  Bool,
  true,
  false,
  List,
  [],
  ◌∷◌,
  ◌++◌,
  Some,
  refl,
  sym,
  ap,
  ◌∙◌,
  subst,
  append_assoc,
}
use Rattle.std.specs.Prelude.{◌||◌}
use Rattle.msb_expression.specs.declared.sorts.Sort.{Sort}
use Rattle.msb_expression.specs.declared.sorts.Sort.TheVariants.{
  Letter,
  Digit,
  Dash,
  Space,
  Close,
  Dot,
}
use Rattle.msb_expression.specs.Grammar.{IsName, is_letter, is_digit, is_name_byte}
use Rattle.msb_expression.specs.Machine.{
  Host,
  whole,
  inner,
  call_heads,
  Named,
  property,
  metadata,
  qualified,
  referred,
  dot_step,
  name_opened_step,
  in_name_step,
  name_ended_step,
}
use Rattle.msb_expression.proofs.Bytes.{SortIs}
use Rattle.msb_expression.proofs.Behind.{
  CallWanted,
  Fresh,
  NameOpened,
  InName,
  NameEnded,
  Closes,
  Dots,
  Behind,
}
use Rattle.msb_expression.proofs.Adds.{
  IsNamed-spaced,
  IsNamed-more,
  IsNamed-of,
  IsName-more,
  referred_begun,
  text_begun,
}
use Rattle.msb_expression.proofs.KeepsText.{Keeps}

pub letter_in_name : (b : ℕ) → is_letter b ≡ true → is_name_byte b ≡ true
letter_in_name b e = rw e refl

or_true : (a : Bool) → (a || true) ≡ true
or_true true = refl
or_true false = refl

pub digit_in_name : (b : ℕ) → is_digit b ≡ true → is_name_byte b ≡ true
digit_in_name b e = rw e (or_true (is_letter b))

pub dash_in_name : (b : ℕ) → b ≡ 45 → is_name_byte b ≡ true
dash_in_name b e = subst (λ c. is_name_byte c ≡ true) (sym e) refl

pub one_name : (b : ℕ) → is_letter b ≡ true → IsName (b ∷ [])
one_name b e = (e, tt)

closes_spaced : (host : Host) (which : Named) (front : List ℕ) (b : ℕ) → b ≡ 32
    → Closes host which front → Closes host which (front ++ b ∷ [])
closes_spaced host which front b e h = λ text name n.
    subst (λ t. Fresh (referred host which name) t)
    (sym (append_assoc front (b ∷ []) (text ++ 41 ∷ [])))
    (h (b ∷ text) name (IsNamed-spaced text name b e n))

dots_spaced : (host : Host) (which : Named) (front : List ℕ) (b : ℕ) → b ≡ 32
    → Dots host which front → Dots host which (front ++ b ∷ [])
dots_spaced (whole parts) metadata front b e h = λ text kind n.
    subst (λ t. Closes (whole parts) (qualified kind) t)
    (sym (append_assoc front (b ∷ []) (text ++ 46 ∷ [])))
    (h (b ∷ text) kind (IsNamed-spaced text kind b e n))
dots_spaced (whole parts) property front b e h = λ text name n.
    subst (λ t. CallWanted (call_heads parts (Some name)) t)
    (sym (append_assoc front (b ∷ []) (text ++ 46 ∷ [])))
    (h (b ∷ text) name (IsNamed-spaced text name b e n))
dots_spaced (whole parts) (qualified kind) front b e h = tt
dots_spaced (inner place pieces) which front b e h = tt

pub name_opened_keeps : (host : Host) (which : Named) (front : List ℕ) (sort : Sort) (b : ℕ)
    → SortIs sort b → NameOpened host which front
    → Keeps (name_opened_step host which sort b) (λ mode. Behind mode (front ++ b ∷ []))
name_opened_keeps host which front Space b f h = record {
  closes = closes_spaced host which front b f h.closes;
  dots = dots_spaced host which front b f
      h.dots;
}
name_opened_keeps host which front Letter b f h = record
    { base = front; spaces = []; split = refl; opened = h; are_spaces = tt; is_name = one_name b f }
name_opened_keeps host which front _ b f h = tt

dot_keeps : (host : Host) (which : Named) (name front : List ℕ) → NameEnded host which name front
    → Keeps (dot_step host which name) (λ mode. Behind mode (front ++ 46 ∷ []))
dot_keeps (whole parts) metadata name front h = record {
  closes = subst (λ t. Closes (whole parts) (qualified name) t)
      (sym (ap (λ t. t ++ 46 ∷ []) h.split ∙ append_assoc h.base h.text (46 ∷ [])))
      (h.opened.dots h.text name h.is_named);
  dots = tt;
}
dot_keeps (whole parts) property name front h =
    subst (λ t. CallWanted (call_heads parts (Some name)) t)
    (sym (ap (λ t. t ++ 46 ∷ []) h.split ∙ append_assoc h.base h.text (46 ∷ [])))
    (h.opened.dots h.text name h.is_named)
dot_keeps (whole parts) (qualified kind) name front h = tt
dot_keeps (inner place pieces) property name front h = tt
dot_keeps (inner place pieces) metadata name front h = tt
dot_keeps (inner place pieces) (qualified kind) name front h = tt

pub name_ended_keeps : (host : Host) (which : Named) (name front : List ℕ) (sort : Sort) (b : ℕ)
    → SortIs sort b → NameEnded host which name front
    → Keeps (name_ended_step host which name sort) (λ mode. Behind mode (front ++ b ∷ []))
name_ended_keeps host which name front Space b f h = record {
  base = h.base;
  text = h.text ++ b ∷ [];
  split = ap (λ t. t ++ b ∷ []) h.split ∙ append_assoc h.base h.text (b ∷ []);
  opened = h.opened;
  is_named = IsNamed-more h.text name b f h.is_named;
}
name_ended_keeps host which name front Close b f h =
    let fresh : Fresh (referred host which name) (front ++ b ∷ []) =
    subst (λ t. Fresh (referred host which name) t)
    (sym (ap (λ t. t ++ b ∷ []) h.split ∙ append_assoc h.base h.text (b ∷ [])
    ∙ ap (λ c. h.base ++ (h.text ++ c ∷ [])) f)) (h.opened.closes h.text name h.is_named) in
    text_begun (referred host which name) (front ++ b ∷ [])
    (referred_begun host which name (front ++ b ∷ []) fresh) fresh
name_ended_keeps host which name front Dot b f h =
    subst (λ c. Keeps (dot_step host which name) (λ mode. Behind mode (front ++ c ∷ []))) (sym f)
    (dot_keeps host which name front h)
name_ended_keeps host which name front _ b f h = tt

ended_of : (host : Host) (which : Named) (name front : List ℕ) → InName host which name front
    → NameEnded host which name front
ended_of host which name front h = record {
  base = h.base;
  text = h.spaces ++ name;
  split = h.split;
  opened = h.opened;
  is_named =
      IsNamed-of h.spaces name h.are_spaces h.is_name;
}

name_more : (host : Host) (which : Named) (name front : List ℕ) (b : ℕ) → is_name_byte b ≡ true
    → InName host which name front → InName host which (name ++ b ∷ []) (front ++ b ∷ [])
name_more host which name front b e h = record {
  base = h.base;
  spaces = h.spaces;
  split = ap (λ t. t ++ b ∷ []) h.split ∙ simp append_assoc;
  opened = h.opened;
  are_spaces = h.are_spaces;
  is_name = IsName-more name b e h.is_name;
}

pub in_name_keeps : (host : Host) (which : Named) (name front : List ℕ) (sort : Sort) (b : ℕ)
    → SortIs sort b → InName host which name front
    → Keeps (in_name_step host which name sort b) (λ mode. Behind mode (front ++ b ∷ []))
in_name_keeps host which name front Letter b f h = name_more host which name front b
    (letter_in_name b f) h
in_name_keeps host which name front Digit b f h = name_more host which name front b
    (digit_in_name b f) h
in_name_keeps host which name front Dash b f h = name_more host which name front b
    (dash_in_name b f) h
in_name_keeps host which name front Space b f h = name_ended_keeps host which name front Space b f
    (ended_of host which name front h)
in_name_keeps host which name front Close b f h = name_ended_keeps host which name front Close b f
    (ended_of host which name front h)
in_name_keeps host which name front Dot b f h = name_ended_keeps host which name front Dot b f
    (ended_of host which name front h)
in_name_keeps host which name front _ b f h = tt
