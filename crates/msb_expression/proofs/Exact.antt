-- The answers are the text's.
use Rattle.std.proofs.Common.{
  ◌≡◌,
  ℕ,
  ◌+◌,
  ◌<◌,
  ◌-◌,
  suc,
  List,
  ◌∷◌,
  Result,
  Err,
  length,
  drop,
  refl,
  sym,
  ap,
  ◌∙◌,
  subst,
  arith,
  length-drop,
  length-append,
  ◌⊎◌,
  inl,
  inr,
}
use Rattle.std.specs.Prelude.{MatchResult, IfErr}
use Rattle.msb_expression.specs.declared.expression.Part.{Part}
use Rattle.msb_expression.specs.declared.expression.Expr.{Expr}
use Rattle.msb_expression.specs.declared.faults.ExprFault.{ExprFault}
use Rattle.msb_expression.specs.declared.faults.ExprFault.TheVariants.{
  Unclosed,
  BadName,
  BadTransform,
  NestedTransform,
  Memory,
}
use Rattle.msb_expression.specs.declared.sorts.Kind.{Kind}
use Rattle.msb_expression.specs.declared.sorts.Kind.TheVariants.{Name, Transform, Nested}
use Rattle.msb_expression.specs.Grammar.{IsReading}
use Rattle.msb_expression.specs.Refusals.{IsRefusal, IsBadAt}
use Rattle.msb_expression.specs.Machine.{Outcome, done, bad, run, begin}
use Rattle.msb_expression.specs.Answers.{Refuses}
use Rattle.msb_expression.specs.Reading.{IsRead, read_as, reading}
use Rattle.msb_expression.proofs.Complete.{run_complete}
use Rattle.msb_expression.proofs.Refusing.{run_bad, run_early, unclosed_is_early, bad_is_stop}

pub only_reading : (text : List ℕ) (parts other : List Part) → run text begin ≡ done parts
    → IsReading text other → parts ≡ other
only_reading text parts other e r = let k = sym e ∙ run_complete text other r in cc

pub is_refusal : (text : List ℕ) (fault : ExprFault) → Refuses text fault (run text begin)
    → IsRefusal text fault
is_refusal text (Unclosed n) h = run_early text n h.0 h.1
is_refusal text (BadName n) h = run_bad text n Name h.0 h.1
is_refusal text (BadTransform n) h = run_bad text n Transform h.0 h.1
is_refusal text (NestedTransform n) h = run_bad text n Nested h.0 h.1
is_refusal text Memory h = tt

pub only_memory : (text : List ℕ) (fault : ExprFault) (parts : List Part)
    → Refuses text fault (run text begin) → IsReading text parts → fault ≡ Memory
only_memory text (Unclosed n) parts h r = let k = sym (run_complete text parts r) ∙ h.0 in cc
only_memory text (BadName n) parts h r = let k = sym (run_complete text parts r) ∙ h.0 in cc
only_memory text (BadTransform n) parts h r = let k = sym (run_complete text parts r) ∙ h.0 in cc
only_memory text (NestedTransform n) parts h r = let k = sym (run_complete text parts r) ∙ h.0 in cc
only_memory text Memory parts h r = refl

bad_within : (text : List ℕ) (n : ℕ) (kind : Kind) → IsBadAt text n kind → n < length text
bad_within text n kind h =
    let a : length text ≡ length h.front + suc (length h.rest) = ap length h.whole
    ∙ length-append h.front (h.byte ∷ h.rest) in
    omega (arith, h.place_is)

pub refuses_is : (text : List ℕ) (fault : ExprFault) → (fault ≡ Memory → ⊥) → IsRefusal text fault
    → Refuses text fault (run text begin)
refuses_is text (Unclosed n) m h = (unclosed_is_early text n h, sym h.place_is)
refuses_is text (BadName n) m h = (bad_is_stop text n Name h, bad_within text n Name h)
refuses_is text (BadTransform n) m h =
    (bad_is_stop text n Transform h, bad_within text n Transform h)
refuses_is text (NestedTransform n) m h = (bad_is_stop text n Nested h, bad_within text n Nested h)
refuses_is text Memory m h = absurd (m refl)

same_place : (text : List ℕ) (n m : ℕ) (j k : Kind) → n < length text → m < length text
    → bad j (drop n text) ≡ bad k (drop m text) → n ≡ m
same_place text n m j k h g e = omega
    (arith, ap length (rest e), length-drop n text, length-drop m text)
  where
    rest : bad j (drop n text) ≡ bad k (drop m text) → drop n text ≡ drop m text
    rest e = cc

-- two refusals of one outcome are one, but for want of memory
pub refuses_same : (text : List ℕ) (fault given : ExprFault) (o : Outcome) → (fault ≡ Memory → ⊥)
    → Refuses text fault o → Refuses text given o → (given ≡ fault) ⊎ (given ≡ Memory)
refuses_same text fault Memory o m h k = inr refl
refuses_same text Memory (Unclosed y) o m h k = absurd (m refl)
refuses_same text Memory (BadName y) o m h k = absurd (m refl)
refuses_same text Memory (BadTransform y) o m h k = absurd (m refl)
refuses_same text Memory (NestedTransform y) o m h k = absurd (m refl)
refuses_same text (Unclosed x) (Unclosed y) o m h k = inl (ap Unclosed (k.1 ∙ sym h.1))
refuses_same text (BadName x) (BadName y) o m h k = inl
    (ap BadName (same_place text y x Name Name k.1 h.1 (sym k.0 ∙ h.0)))
refuses_same text (BadTransform x) (BadTransform y) o m h k = inl
    (ap BadTransform (same_place text y x Transform Transform k.1 h.1 (sym k.0 ∙ h.0)))
refuses_same text (NestedTransform x) (NestedTransform y) o m h k = inl
    (ap NestedTransform (same_place text y x Nested Nested k.1 h.1 (sym k.0 ∙ h.0)))
refuses_same text fault given o m h k = let e = sym h.0 ∙ k.0 in cc

pub not_read : (text : List ℕ) (parts : List Part) (fault : ExprFault) → (fault ≡ Memory → ⊥)
    → IsRefusal text fault → run text begin ≡ done parts → ⊥
not_read text parts (Unclosed n) m h e = let k = sym (refuses_is text (Unclosed n) m h).0 ∙ e in cc
not_read text parts (BadName n) m h e = let k = sym (refuses_is text (BadName n) m h).0 ∙ e in cc
not_read text parts (BadTransform n) m h e = let k = sym (refuses_is text (BadTransform n) m h).0
    ∙ e in cc
not_read text parts (NestedTransform n) m h e = let k = sym
    (refuses_is text (NestedTransform n) m h).0 ∙ e in cc
not_read text parts Memory m h e = m refl

at_place : (text : List ℕ) (n : ℕ) → n < length text → length text - length (drop n text) ≡ n
at_place text n h = omega (arith, h, length-drop n text)

-- what the machine refuses is the text's reading
pub refused_reading : (text : List ℕ) (fault : ExprFault) → Refuses text fault (run text begin)
    → IsRead (Err fault) (reading text)
refused_reading text (Unclosed n) h = ap (read_as (length text)) h.0
    ∙ ap (λ at. Err (Unclosed at)) (sym h.1)
refused_reading text (BadName n) h = ap (read_as (length text)) h.0
    ∙ ap (λ at. Err (BadName at)) (at_place text n h.1)
refused_reading text (BadTransform n) h = ap (read_as (length text)) h.0
    ∙ ap (λ at. Err (BadTransform at)) (at_place text n h.1)
refused_reading text (NestedTransform n) h = ap (read_as (length text)) h.0
    ∙ ap (λ at. Err (NestedTransform at)) (at_place text n h.1)
refused_reading text Memory h = tt

-- the clauses on what a `?` hands on
module _ (text : List ℕ) (result : Result Expr ExprFault) (given fault : ExprFault)
    (e : result ≡ Err given) (f : given ≡ fault) (h : Refuses text fault (run text begin)) where
  handed : result ≡ Err fault
  handed = e ∙ ap Err f

  pub handed_only : (parts : List Part) → IsReading text parts
      → MatchResult result (λ expr. expr.parts ≡ parts) (λ x. x ≡ Memory)
  handed_only parts r = subst (λ t. MatchResult t (λ expr. expr.parts ≡ parts) (λ x. x ≡ Memory))
      (sym handed) (only_memory text fault parts h r)

  pub handed_refused : IfErr result (λ x. IsRefusal text x)
  handed_refused = subst (λ t. IfErr t (λ x. IsRefusal text x)) (sym handed)
      (is_refusal text fault h)

  pub handed_only_refusal : (other : ExprFault) → (other ≡ Memory → ⊥) → IsRefusal text other
      → MatchResult result (λ expr. ⊥) (λ x. (x ≡ other) ⊎ (x ≡ Memory))
  handed_only_refusal other m r = subst
      (λ t. MatchResult t (λ expr. ⊥) (λ x. (x ≡ other) ⊎ (x ≡ Memory))) (sym handed)
      (refuses_same text other fault (run text begin) m (refuses_is text other m r) h)

  pub handed_reading : IsRead result (reading text)
  handed_reading = subst (λ t. IsRead t (reading text)) (sym handed) (refused_reading text fault h)
