-- Names between two places of a text.
use Rattle.std.proofs.Common.{
  ◌≡◌,
  ℕ,
  suc,
  ◌+◌,
  ◌-◌,
  ◌<◌,
  ◌≤◌,
  Bool,
  true,
  false,
  eqb,
  List,
  [],
  ◌∷◌,
  ◌++◌,
  length,
  take,
  drop,
  get_or,
  refl,
  sym,
  ap,
  ◌∙◌,
  subst,
  arith,
  ◌⊎◌,
  inl,
  inr,
  length-drop,
  length-append,
  get_or-take,
  zero,
}
use Rattle.std.specs.Prelude.{IsTrue, ◌&&◌}
use Rattle.std.specs.Str.{IsUtf8, IsCharBoundary}
use Rattle.std.proofs.lemmas.List.{
  drop_more,
  take-append-drop,
  drop-drop,
  take-take,
  get_or-drop,
  get_or_at,
  length-take-le,
}
use Rattle.std.proofs.lemmas.Bool.{false≢true, eqb-true}
use Rattle.std.proofs.lemmas.Bool.Decides.{nat_tests}
use Rattle.std.proofs.lemmas.Str.{IsCharBoundary-after_ascii}
use Rattle.msb_expression.specs.declared.expression.Part.{Part}
use Rattle.msb_expression.specs.declared.faults.ExprFault.{ExprFault}
use Rattle.msb_expression.specs.declared.sorts.Sort.{Sort}
use Rattle.msb_expression.specs.declared.sorts.Sort.TheVariants.{
  Letter,
  Digit,
  Dash,
  Space,
  Greater,
}
use Rattle.msb_expression.specs.declared.sorts.Kind.TheVariants.{Name}
use Rattle.msb_expression.specs.Grammar.{Every, IsName, is_letter, is_digit, is_name_byte}
use Rattle.msb_expression.specs.Machine.{
  first_sort,
  sort_of,
  is_name_sort,
  is_arrow,
  Mode,
  step_of,
  Host,
  Named,
  name_opened,
  in_name,
  type_opened,
  stepping,
  heads_of,
  stop,
  name_opened_step,
  type_opened_step,
  run,
  Outcome,
  refused,
}
use Rattle.msb_expression.specs.Answers.{Refuses, TakesName, IsNameAt, EndsType}
use Rattle.msb_expression.proofs.Bytes.{SortIs, sort_is, letter_sort}
use Rattle.msb_expression.proofs.Places.{HasByte, has_byte, byte_is, run-refused}
use Rattle.msb_expression.proofs.Runs.{Grows, run-go, run-grows, name_byte_sort, run-name}
use Rattle.msb_expression.proofs.TypeNames.{run-type}

small_by : (b : ℕ) (sort : Sort) → is_name_sort sort ≡ true → SortIs sort b → b < 128
small_by b Letter e f = letter b f
  where
    letter : (b : ℕ) → is_letter b ≡ true → b < 128
    letter b e = grind (arith, nat_tests)
small_by b Digit e f = digit b f
  where
    digit : (b : ℕ) → is_digit b ≡ true → b < 128
    digit b e = grind (arith, nat_tests)
small_by b Dash e f = omega (arith, f)
small_by b _ e f = cc

name_byte_small : (b : ℕ) → IsTrue (is_name_byte b) → b < 128
name_byte_small b h = small_by b (sort_of b) (elim (name_byte_sort b h) [
  | inl e ↦ ap is_name_sort e
  | inr k ↦ elim k [ inl e ↦ ap is_name_sort e | inr e ↦ ap is_name_sort e ]
]) (sort_is b)

pub Every-at : (test : ℕ → Bool) (xs : List ℕ) (i : ℕ) → Every test xs → i < length xs
    → IsTrue (test (get_or xs i 0))
Every-at test [] i h l = absurd (omega arith)
Every-at test (x ∷ xs) zero h l = h.0
Every-at test (x ∷ xs) (suc i) h l = Every-at test xs i h.1 (omega arith)

Every-take : (test : ℕ → Bool) (xs : List ℕ) (n : ℕ) → Every test xs → Every test (take n xs)
Every-take test xs zero h = tt
Every-take test [] (suc n) h = tt
Every-take test (x ∷ xs) (suc n) h = (h.0, Every-take test xs n h.1)

-- the bytes from one place to another
pub length-between : (bs : List ℕ) (start end : ℕ) → start ≤ end → end ≤ length bs
    → length (take (end - start) (drop start bs)) ≡ end - start
length-between bs start end l w = length-take-le (end - start) (drop start bs)
    (omega (arith, length-drop start bs))

pub get_or-between : (bs : List ℕ) (start end i : ℕ) → i < end - start
    → get_or (take (end - start) (drop start bs)) i 0 ≡ get_or bs (start + i) 0
get_or-between bs start end i h = get_or-take (end - start) (drop start bs) i 0 h
    ∙ get_or-drop start bs i 0

pub split_between : (bs : List ℕ) (start end : ℕ) → start ≤ end
    → drop start bs ≡ take (end - start) (drop start bs) ++ drop end bs
split_between bs start end l =
    sym (take-append-drop (end - start) (drop start bs))
    ∙ ap (λ t. take (end - start) (drop start bs) ++ t)
    (drop-drop (end - start) start bs ∙ ap (λ n. drop n bs) (omega arith))

last_byte : (bs : List ℕ) (start end : ℕ) → Every is_name_byte (take (end - start) (drop start bs))
    → start < end → end ≤ length bs → IsTrue (is_name_byte (get_or bs (end - 1) 0))
last_byte bs start end h l w =
    let i : end - start - 1 < length (take (end - start) (drop start bs)) = omega
    (arith, length-between bs start end (omega arith) w) in
    let same : get_or (take (end - start) (drop start bs)) (end - start - 1) 0
    ≡ get_or bs (end - 1) 0 = get_or-between bs start end (end - start - 1) (omega arith)
    ∙ ap (λ n. get_or bs n 0) (omega arith) in
    subst (λ b. IsTrue (is_name_byte b)) same
    (Every-at is_name_byte (take (end - start) (drop start bs)) (end - start - 1) h i)

-- a text may be cut behind a name
pub name_cut : (bs : List ℕ) (start end : ℕ) → IsUtf8 bs
    → Every is_name_byte (take (end - start) (drop start bs)) → start < end → end ≤ length bs
    → IsCharBoundary bs end
name_cut bs start end u h l w =
    subst (λ n. IsCharBoundary bs n) (omega arith)
    (IsCharBoundary-after_ascii bs (end - 1) u (omega arith)
    (name_byte_small (get_or bs (end - 1) 0) (last_byte bs start end h l w)))

pub name_grows : (bs : List ℕ) (start end : ℕ) → first_sort (drop start bs) ≡ Letter
    → is_name_sort (first_sort (drop end bs)) ≡ false → start ≤ end → start < end
name_grows bs start end e n l = by (start_is start end l)
  where
    start_is : (start end : ℕ) → start ≤ end → (start < end) ⊎ (start ≡ end)
    start_is start end l = grind arith

    by : (start < end) ⊎ (start ≡ end) → start < end
    by (inl h) = h
    by (inr h) = absurd
        (false≢true (sym n ∙ ap (λ k. is_name_sort (first_sort (drop k bs))) (sym h)
        ∙ ap is_name_sort e))

pub name_there : (bs : List ℕ) (start end : ℕ) → first_sort (drop start bs) ≡ Letter
    → Every is_name_byte (take (end - start) (drop start bs)) → start < end → end ≤ length bs
    → IsNameAt bs start (take (end - start) (drop start bs)) end
name_there bs start end e h l w = record {
  is_name = subst IsName (sym shape)
      (byte_is bs start Letter e (λ k. cc), (subst (Every is_name_byte) shape h).1);
  split = split_between bs start end (omega arith);
  after = l;
  within = w;
}
  where
    count : end - start ≡ suc (end - start - 1)
    count = omega arith

    shape : take (end - start) (drop start bs)
        ≡ get_or bs start 0 ∷ take (end - start - 1) (drop (start + 1) bs)
    shape = ap (λ n. take n (drop start bs)) count
        ∙ ap (take (suc (end - start - 1))) (drop_more bs start 0 (omega arith))

-- a name less its last byte
pub name_less : (bs : List ℕ) (start end : ℕ)
    → Every is_name_byte (take (end - start) (drop start bs))
    → Every is_name_byte (take (end - 1 - start) (drop start bs))
name_less bs start end h =
    subst (Every is_name_byte)
    (take-take (end - 1 - start) (end - start) (drop start bs) (omega arith))
    (Every-take is_name_byte (take (end - start) (drop start bs)) (end - 1 - start) h)

-- no `->` cuts the name short
pub no_arrow_ends : (bs : List ℕ) (start end : ℕ) → start < end → end ≤ length bs
    → is_name_sort (first_sort (drop end bs)) ≡ false → is_arrow (drop (end - 1) bs) ≡ false
    → EndsType (take (end - start) (drop start bs)) (drop end bs)
no_arrow_ends bs start end l w n a = inl
    (n, λ front e g. false≢true (sym a ∙ ap is_arrow (begins front e g)))
  where
    last : (front : List ℕ) → front ++ 45 ∷ [] ≡ take (end - start) (drop start bs)
        → get_or bs (end - 1) 0 ≡ 45
    last front e =
        let count : end - start ≡ length front
        + 1 = sym (length-between bs start end (omega arith) w) ∙ sym (ap length e)
        ∙ length-append front (45 ∷ []) in
        let index : length front ≡ end - start - 1 = omega arith in
        sym (get_or-between bs start end (end - start - 1) (omega arith)
        ∙ ap (λ k. get_or bs k 0) (omega arith))
        ∙ ap (λ t. get_or t (end - start - 1) 0) (sym e)
        ∙ get_or_at front 45 [] 0 (end - start - 1) index

    begins : (front : List ℕ) → front ++ 45 ∷ [] ≡ take (end - start) (drop start bs)
        → first_sort (drop end bs) ≡ Greater → drop (end - 1) bs ≡ 45 ∷ 62 ∷ drop (end + 1) bs
    begins front e g =
        let b : HasByte bs end = has_byte bs end (λ k. let z = sym g ∙ k in cc) in
        let behind : drop end bs ≡ 62 ∷ drop (end + 1) bs = b.split
        ∙ ap (λ x. x ∷ drop (end + 1) bs) (byte_is bs end Greater g (λ k. cc)) in
        drop_more bs (end - 1) 0 (omega arith) ∙ ap (λ x. x ∷ drop (end - 1 + 1) bs) (last front e)
        ∙ ap (λ k. 45 ∷ drop k bs) (omega arith) ∙ ap (λ t. 45 ∷ t) behind

-- a `->` cuts it short
arrow_is : (bs : List ℕ) → is_arrow bs ≡ true → (more : List ℕ) × (bs ≡ 45 ∷ 62 ∷ more)
arrow_is [] e = cc
arrow_is (b ∷ []) e = cc
arrow_is (b ∷ c ∷ more) e = (more, by (eqb b 45) (eqb c 62) refl refl e)
  where
    by : (s t : Bool) → eqb b 45 ≡ s → eqb c 62 ≡ t → (s && t) ≡ true
        → b ∷ c ∷ more ≡ 45 ∷ 62 ∷ more
    by true true f g h = ap (λ x. x ∷ c ∷ more) (eqb-true b 45 f)
        ∙ ap (λ x. 45 ∷ x ∷ more) (eqb-true c 62 g)
    by true false f g h = cc
    by false t f g h = cc

pub arrow_ends : (kind bs : List ℕ) → is_arrow bs ≡ true → EndsType kind bs
arrow_ends kind bs e = inr (arrow_is bs e)

pub Refuses-same : (bs : List ℕ) (fault : ExprFault) (one other : Outcome) → other ≡ one
    → Refuses bs fault one → Refuses bs fault other
Refuses-same bs fault one other e h = subst (λ o. Refuses bs fault o) (sym e) h

opened_stops : (host : Host) (which : Named) (sort : Sort) (b : ℕ) → (sort ≡ Space → ⊥)
    → (sort ≡ Letter → ⊥) → name_opened_step host which sort b ≡ stop Name
opened_stops host which Space b s l = absurd (s refl)
opened_stops host which Letter b s l = absurd (l refl)
opened_stops host which _ b s l = refl

pub name_stops : (host : Host) (which : Named) (bs : List ℕ) → (first_sort bs ≡ Space → ⊥)
    → (first_sort bs ≡ Letter → ⊥) → run bs (name_opened host which) ≡ refused bs Name
name_stops host which bs s l = run-refused bs (name_opened host which) Name refl
    (λ b e. opened_stops host which (sort_of b) b (λ k. s (e ∙ k)) (λ k. l (e ∙ k)))

type_opened_stops : (parts : List Part) (sort : Sort) (b : ℕ) → (sort ≡ Space → ⊥)
    → (sort ≡ Letter → ⊥) → type_opened_step parts sort b ≡ stop Name
type_opened_stops parts Space b s l = absurd (s refl)
type_opened_stops parts Letter b s l = absurd (l refl)
type_opened_stops parts _ b s l = refl

pub type_stops : (parts : List Part) (bs : List ℕ) → (first_sort bs ≡ Space → ⊥)
    → (first_sort bs ≡ Letter → ⊥) → run bs (type_opened parts) ≡ refused bs Name
type_stops parts bs s l = run-refused bs (type_opened parts) Name refl
    (λ b e. type_opened_stops parts (sort_of b) b (λ k. s (e ∙ k)) (λ k. l (e ∙ k)))

pub run-name_at : (host : Host) (which : Named) (bs : List ℕ) (start : ℕ) (name : List ℕ) (end : ℕ)
    → IsNameAt bs start name end → run (drop start bs) (name_opened host which)
    ≡ run (drop end bs) (in_name host which name)
run-name_at host which bs start name end h = ap (λ t. run t (name_opened host which)) h.split
    ∙ run-name host which name (drop end bs) h.is_name

pub run-type_at : (parts : List Part) (bs : List ℕ) (start : ℕ) (kind : List ℕ) (end : ℕ)
    → IsNameAt bs start kind end → EndsType kind (drop end bs)
    → run (drop start bs) (type_opened parts) ≡ run (drop end bs) (stepping (heads_of parts kind))
run-type_at parts bs start kind end h e = ap (λ t. run t (type_opened parts)) h.split
    ∙ run-type parts kind (drop end bs) h.is_name e

-- a name where a mode takes one
names_taken : (mode : Mode) (named : List ℕ → Mode) → TakesName mode named → Grows named
names_taken mode named t =
    record { at_letter = t.at_letter; at_digit = t.at_digit; at_dash = t.at_dash }

run-taken : (mode : Mode) (named : List ℕ → Mode) (name rest : List ℕ) → TakesName mode named
    → IsName name
    → run (name ++ rest) mode ≡ run rest (named name)
run-taken mode named [] rest t n = absurd n
run-taken mode named (b ∷ bs) rest t n =
    run-go b (bs ++ rest) mode (named (b ∷ [])) (ap (λ s. step_of mode s b) (letter_sort b n.0)
    ∙ t.opens b)
    ∙ run-grows named (b ∷ []) bs rest (names_taken mode named t) n.1

pub run-taken_at : (mode : Mode) (named : List ℕ → Mode) (bs : List ℕ) (start : ℕ) (name : List ℕ)
    (end : ℕ)
    → TakesName mode named → IsNameAt bs start name end
    → run (drop start bs) mode ≡ run (drop end bs) (named name)
run-taken_at mode named bs start name end t h =
    ap (λ x. run x mode) h.split ∙ run-taken mode named name (drop end bs) t h.is_name

pub taken_stops : (mode : Mode) (named : List ℕ → Mode) (bs : List ℕ) → TakesName mode named
    → (first_sort bs ≡ Space → ⊥) → (first_sort bs ≡ Letter → ⊥) → run bs mode ≡ refused bs Name
taken_stops mode named bs t s l =
    run-refused bs mode Name t.ends (λ b e. t.stops (sort_of b) b (λ k. s (e ∙ k)) (λ k. l (e ∙ k)))
