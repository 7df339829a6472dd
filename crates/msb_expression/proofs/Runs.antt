-- The machine over spaces and names.
use Rattle.std.proofs.Common.{
  ◌≡◌,
  ℕ,
  Bool,
  true,
  false,
  eqb,
  List,
  [],
  ◌∷◌,
  ◌++◌,
  refl,
  sym,
  ap,
  ◌∙◌,
  append_assoc,
  ◌⊎◌,
  inl,
  inr,
}
use Rattle.std.specs.Prelude.{IsTrue}
use Rattle.std.proofs.lemmas.List.{append-nil}
use Rattle.std.proofs.lemmas.Bool.{eqb-true, false≢true}
use Rattle.msb_expression.specs.declared.sorts.Sort.{Sort}
use Rattle.msb_expression.specs.declared.sorts.Sort.TheVariants.{
  Letter,
  Digit,
  Dash,
  Space,
  Bracket,
}
use Rattle.msb_expression.specs.declared.sorts.Kind.{Kind}
use Rattle.msb_expression.specs.declared.expression.Part.{Part}
use Rattle.msb_expression.specs.Grammar.{
  IsName,
  IsSpaces,
  IsNamed,
  Every,
  is_letter,
  is_digit,
  is_name_byte,
}
use Rattle.msb_expression.specs.Machine.{
  sort_of,
  first_sort,
  is_name_sort,
  Heads,
  CallHeads,
  Host,
  whole,
  Named,
  property,
  Mode,
  property_opened,
  call_wanted,
  call_named,
  call_ended,
  property_opened_step,
  name_opened_step,
  call_named_step,
  call_ended_step,
  name_opened,
  in_name,
  name_ended,
  function_named,
  function_ended,
  arrow,
  go,
  stop,
  go_if,
  step_of,
  in_name_step,
  name_ended_step,
  function_named_step,
  function_ended_step,
  bad,
  finish,
  followed,
  run,
}
use Rattle.msb_expression.proofs.Bytes.{letter_sort}

pub run-go : (b : ℕ) (bs : List ℕ) (mode next : Mode) → step_of mode (sort_of b) b ≡ go next
    → run (b ∷ bs) mode ≡ run bs next
unfolding run
run-go b bs mode next e = ap (λ n. followed (run bs) n (b ∷ bs)) e

pub run-stop : (b : ℕ) (bs : List ℕ) (mode : Mode) (kind : Kind)
    → step_of mode (sort_of b) b ≡ stop kind → run (b ∷ bs) mode ≡ bad kind (b ∷ bs)
unfolding run
run-stop b bs mode kind e = ap (λ n. followed (run bs) n (b ∷ bs)) e

pub run-nil : (mode : Mode) → run [] mode ≡ finish mode
unfolding run
run-nil mode = refl

-- where a test chooses
pub picked : (t : Bool) (mode : Mode) → t ≡ true → go_if t mode ≡ go mode
picked true mode e = refl
picked false mode e = cc

-- two modes that do the same with the next byte, or with none
pub run-same : (bs : List ℕ) (one other : Mode) → finish one ≡ finish other
    → ((b : ℕ) → first_sort bs ≡ sort_of b → step_of one (sort_of b) b
    ≡ step_of other (sort_of b) b) → run bs one ≡ run bs other
unfolding run
run-same [] one other e h = e
run-same (b ∷ bs) one other e h = ap (λ n. followed (run bs) n (b ∷ bs)) (h b refl)

-- the same where the next byte is known
pub run-head : (b : ℕ) (bs : List ℕ) (one other : Mode)
    → step_of one (sort_of b) b ≡ step_of other (sort_of b) b
    → run (b ∷ bs) one ≡ run (b ∷ bs) other
unfolding run
run-head b bs one other h = ap (λ n. followed (run bs) n (b ∷ bs)) h

-- where spaces change nothing
pub run-spaces : (mode : Mode) (spaces rest : List ℕ) → step_of mode Space 32 ≡ go mode
    → IsSpaces spaces → run (spaces ++ rest) mode ≡ run rest mode
run-spaces mode [] rest e s = refl
run-spaces mode (b ∷ bs) rest e s =
    ap (λ c. run (c ∷ (bs ++ rest)) mode) (eqb-true b 32 s.0) ∙ run-go 32 (bs ++ rest) mode mode e
    ∙ run-spaces mode bs rest e s.1

pub name_byte_sort : (b : ℕ) → IsTrue (is_name_byte b)
    → (sort_of b ≡ Letter) ⊎ ((sort_of b ≡ Digit) ⊎ (sort_of b ≡ Dash))
name_byte_sort b h = go_letter (is_letter b) refl
  where
    go_dash : (l d t : Bool) → is_letter b ≡ l → is_digit b ≡ d → eqb b 45 ≡ t → l ≡ false
        → d ≡ false → (sort_of b ≡ Letter) ⊎ ((sort_of b ≡ Digit) ⊎ (sort_of b ≡ Dash))
    go_dash l d true e f k x y = inr (inr (rw (e ∙ x, f ∙ y, k) refl))
    go_dash l d false e f k x y = absurd (false≢true (rw (e ∙ x, f ∙ y, k) at h))

    go_digit : (d : Bool) → is_digit b ≡ d → is_letter b ≡ false
        → (sort_of b ≡ Letter) ⊎ ((sort_of b ≡ Digit) ⊎ (sort_of b ≡ Dash))
    go_digit true f e = inr (inl (rw (e, f) refl))
    go_digit false f e = go_dash false false (eqb b 45) e f refl refl refl

    go_letter : (l : Bool) → is_letter b ≡ l → (sort_of b ≡ Letter)
        ⊎ ((sort_of b ≡ Digit) ⊎ (sort_of b ≡ Dash))
    go_letter true e = inl (letter_sort b e)
    go_letter false e = go_digit (is_digit b) refl e

-- a mode that grows by each byte of a name
pub record Grows (mode : List ℕ → Mode) : Type 0 where
  pub at_letter : (name : List ℕ) (b : ℕ) → step_of (mode name) Letter b
      ≡ go (mode (name ++ b ∷ []))
  pub at_digit : (name : List ℕ) (b : ℕ) → step_of (mode name) Digit b ≡ go (mode (name ++ b ∷ []))
  pub at_dash : (name : List ℕ) (b : ℕ) → step_of (mode name) Dash b ≡ go (mode (name ++ b ∷ []))

grown : (mode : List ℕ → Mode) (name : List ℕ) (b : ℕ) → Grows mode → IsTrue (is_name_byte b)
    → step_of (mode name) (sort_of b) b ≡ go (mode (name ++ b ∷ []))
grown mode name b g h = elim (name_byte_sort b h) [
  | inl e ↦ ap (λ s. step_of (mode name) s b) e ∙ g.at_letter name b
  | inr k ↦ elim k [
    | inl e ↦ ap (λ s. step_of (mode name) s b) e
        ∙ g.at_digit name b
    | inr e ↦ ap (λ s. step_of (mode name) s b) e ∙ g.at_dash name b
  ]
]

pub run-grows : (mode : List ℕ → Mode) (name more rest : List ℕ) → Grows mode
    → Every is_name_byte more → run (more ++ rest) (mode name) ≡ run rest (mode (name ++ more))
run-grows mode name [] rest g h = ap (λ t. run rest (mode t)) (sym (append-nil name))
run-grows mode name (b ∷ bs) rest g h =
    run-go b (bs ++ rest) (mode name) (mode (name ++ b ∷ [])) (grown mode name b g h.0)
    ∙ run-grows mode (name ++ b ∷ []) bs rest g h.1
    ∙ ap (λ t. run rest (mode t)) (append_assoc name (b ∷ []) bs)

pub names_grow : (host : Host) (which : Named) → Grows (λ name. in_name host which name)
names_grow host which = record
    { at_letter = λ name b. refl; at_digit = λ name b. refl; at_dash = λ name b. refl }

pub functions_grow : (heads : Heads) → Grows (λ name. function_named heads name)
functions_grow heads = record
    { at_letter = λ name b. refl; at_digit = λ name b. refl; at_dash = λ name b. refl }

over_name : (host : Host) (which : Named) (name : List ℕ) (sort : Sort) (b : ℕ)
    → is_name_sort sort ≡ false → in_name_step host which name sort b
    ≡ name_ended_step host which name sort
over_name host which name Letter b e = cc
over_name host which name Digit b e = cc
over_name host which name Dash b e = cc
over_name host which name _ b e = refl

-- where no byte of a name follows, the name has ended
pub run-name_over : (host : Host) (which : Named) (name rest : List ℕ)
    → is_name_sort (first_sort rest) ≡ false → run rest (in_name host which name)
    ≡ run rest (name_ended host which name)
run-name_over host which name rest e = run-same rest (in_name host which name)
    (name_ended host which name) refl
    (λ b h. over_name host which name (sort_of b) b (ap is_name_sort (sym h) ∙ e))

over_function : (heads : Heads) (name : List ℕ) (sort : Sort) (b : ℕ) → is_name_sort sort ≡ false
    → function_named_step heads name sort b ≡ function_ended_step heads name sort
over_function heads name Letter b e = cc
over_function heads name Digit b e = cc
over_function heads name Dash b e = cc
over_function heads name _ b e = refl

pub run-function_over : (heads : Heads) (name rest : List ℕ)
    → is_name_sort (first_sort rest) ≡ false → run rest (function_named heads name)
    ≡ run rest (function_ended heads name)
run-function_over heads name rest e = run-same rest (function_named heads name)
    (function_ended heads name) refl
    (λ b h. over_function heads name (sort_of b) b (ap is_name_sort (sym h) ∙ e))

pub spaced_first : (spaces rest : List ℕ) → IsSpaces spaces → is_name_sort (first_sort rest) ≡ false
    → is_name_sort (first_sort (spaces ++ rest)) ≡ false
spaced_first [] rest s e = e
spaced_first (b ∷ bs) rest s e = ap (λ c. is_name_sort (sort_of c)) (eqb-true b 32 s.0)

-- a whole name, from its first letter on
pub run-name : (host : Host) (which : Named) (name rest : List ℕ) → IsName name
    → run (name ++ rest) (name_opened host which) ≡ run rest (in_name host which name)
run-name host which [] rest n = absurd n
run-name host which (b ∷ bs) rest n =
    run-go b (bs ++ rest) (name_opened host which) (in_name host which (b ∷ []))
    (ap (λ s. step_of (name_opened host which) s b) (letter_sort b n.0))
    ∙ run-grows (λ name. in_name host which name) (b ∷ []) bs rest (names_grow host which) n.1

pub run-function : (heads : Heads) (name rest : List ℕ) → IsName name
    → run (name ++ rest) (arrow heads) ≡ run rest (function_named heads name)
run-function heads [] rest n = absurd n
run-function heads (b ∷ bs) rest n =
    run-go b (bs ++ rest) (arrow heads) (function_named heads (b ∷ []))
    (ap (λ s. step_of (arrow heads) s b) (letter_sort b n.0))
    ∙ run-grows (λ name. function_named heads name) (b ∷ []) bs rest (functions_grow heads) n.1

-- with the spaces around it
pub run-named : (host : Host) (which : Named) (text name rest : List ℕ) → IsNamed text name
    → is_name_sort (first_sort rest) ≡ false → run (text ++ rest) (name_opened host which)
    ≡ run rest (name_ended host which name)
run-named host which text name rest n e =
    ap (λ t. run t (name_opened host which)) (ap (λ t. t ++ rest) n.5 ∙ simp append_assoc)
    ∙ run-spaces (name_opened host which) n.0 (name ++ (n.1 ++ rest)) refl n.2
    ∙ run-name host which name (n.1 ++ rest) n.3
    ∙ run-name_over host which name (n.1 ++ rest) (spaced_first n.1 rest n.4 e)
    ∙ run-spaces (name_ended host which name) n.1 rest refl n.4

pub run-function_named : (heads : Heads) (text name rest : List ℕ) → IsNamed text name
    → is_name_sort (first_sort rest) ≡ false → run (text ++ rest) (arrow heads)
    ≡ run rest (function_ended heads name)
run-function_named heads text name rest n e =
    ap (λ t. run t (arrow heads)) (ap (λ t. t ++ rest) n.5 ∙ simp append_assoc)
    ∙ run-spaces (arrow heads) n.0 (name ++ (n.1 ++ rest)) refl n.2
    ∙ run-function heads name (n.1 ++ rest) n.3
    ∙ run-function_over heads name (n.1 ++ rest) (spaced_first n.1 rest n.4 e)
    ∙ run-spaces (function_ended heads name) n.1 rest refl n.4

-- the name of a call
calls_grow : (heads : CallHeads) → Grows (λ name. call_named heads name)
calls_grow heads =
    record { at_letter = λ name b. refl; at_digit = λ name b. refl; at_dash = λ name b. refl }

over_call : (heads : CallHeads) (name : List ℕ) (sort : Sort) (b : ℕ) → is_name_sort sort ≡ false
    → call_named_step heads name sort b ≡ call_ended_step heads name sort
over_call heads name Letter b e = cc
over_call heads name Digit b e = cc
over_call heads name Dash b e = cc
over_call heads name _ b e = refl

pub run-call_over : (heads : CallHeads) (name rest : List ℕ)
    → is_name_sort (first_sort rest) ≡ false
    → run rest (call_named heads name) ≡ run rest (call_ended heads name)
run-call_over heads name rest e =
    run-same rest (call_named heads name) (call_ended heads name) refl
    (λ b h. over_call heads name (sort_of b) b (ap is_name_sort (sym h) ∙ e))

pub run-call : (heads : CallHeads) (name rest : List ℕ) → IsName name
    → run (name ++ rest) (call_wanted heads) ≡ run rest (call_named heads name)
run-call heads [] rest n = absurd n
run-call heads (b ∷ bs) rest n =
    run-go b (bs ++ rest) (call_wanted heads) (call_named heads (b ∷ []))
    (ap (λ s. step_of (call_wanted heads) s b) (letter_sort b n.0))
    ∙ run-grows (λ name. call_named heads name) (b ∷ []) bs rest (calls_grow heads) n.1

pub run-call_named : (heads : CallHeads) (text name rest : List ℕ) → IsNamed text name
    → is_name_sort (first_sort rest) ≡ false
    → run (text ++ rest) (call_wanted heads) ≡ run rest (call_ended heads name)
run-call_named heads text name rest n e =
    ap (λ t. run t (call_wanted heads)) (ap (λ t. t ++ rest) n.5 ∙ simp append_assoc)
    ∙ run-spaces (call_wanted heads) n.0 (name ++ (n.1 ++ rest)) refl n.2
    ∙ run-call heads name (n.1 ++ rest) n.3
    ∙ run-call_over heads name (n.1 ++ rest) (spaced_first n.1 rest n.4 e)
    ∙ run-spaces (call_ended heads name) n.1 rest refl n.4

-- a property's name stands behind `$(` where no `[` does
property_step : (parts : List Part) (sort : Sort) (b : ℕ) → (sort ≡ Bracket → ⊥)
    → property_opened_step parts sort b ≡ name_opened_step (whole parts) property sort b
property_step parts Bracket b n = absurd (n refl)
property_step parts _ b n = refl

pub run-opened : (parts : List Part) (bs : List ℕ) → (first_sort bs ≡ Bracket → ⊥)
    → run bs (property_opened parts) ≡ run bs (name_opened (whole parts) property)
run-opened parts bs n =
    run-same bs (property_opened parts) (name_opened (whole parts) property) refl
    (λ b h. property_step parts (sort_of b) b (λ k. n (h ∙ k)))

name_first : (before name more : List ℕ) → IsSpaces before → IsName name
    → first_sort (before ++ (name ++ more)) ≡ Bracket → ⊥
name_first [] [] more s n e = n
name_first [] (b ∷ bs) more s n e = let k : Letter ≡ Bracket = sym (letter_sort b n.0) ∙ e in cc
name_first (b ∷ bs) name more s n e =
    let k : Space ≡ Bracket = ap sort_of (sym (eqb-true b 32 s.0)) ∙ e in cc

pub named_first : (text name rest : List ℕ) → IsNamed text name
    → first_sort (text ++ rest) ≡ Bracket → ⊥
named_first text name rest n e =
    let split : text ++ rest ≡ n.0 ++ (name ++ (n.1 ++ rest)) =
    ap (λ t. t ++ rest) n.5 ∙ simp append_assoc in
    name_first n.0 name (n.1 ++ rest) n.2 n.3 (sym (ap first_sort split) ∙ e)
