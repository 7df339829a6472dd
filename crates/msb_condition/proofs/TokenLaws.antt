-- The tokens of a text from a place on.
use Rattle.std.proofs.Common.{
  ◌≡◌,
  ℕ,
  suc,
  zero,
  ◌+◌,
  ◌-◌,
  ◌<◌,
  Bool,
  true,
  false,
  cond,
  List,
  [],
  ◌∷◌,
  length,
  take,
  drop,
  get_or,
  Some,
  refl,
  sym,
  ap,
  ◌∙◌,
  subst,
  arith,
}
use Rattle.std.specs.Prelude.{◌==◌, ◌||◌, nat_lt}
use Rattle.std.proofs.lemmas.List.{drop_more, drop-drop}
use Rattle.std.proofs.lemmas.Bool.{eqb-true, ltb-true}
use Rattle.std.proofs.lemmas.Bool.Decides.{nat_tests}
use Rattle.msb_condition.specs.declared.condition.Comparison.TheVariants.{
  Equal,
  NotEqual,
  Less,
  Greater,
  LessOrEqual,
  GreaterOrEqual,
}
use Rattle.msb_condition.specs.declared.extents.Inside.TheVariants as inside
use Rattle.msb_condition.specs.declared.tokens.Kind.{Kind}
use Rattle.msb_condition.specs.declared.tokens.Kind.TheVariants.{
  Bang,
  Equals,
  Compare,
  Open,
  Close,
  Word,
  Quoted,
  Unended,
  Reference,
  Sign,
  Other,
}
use Rattle.msb_condition.specs.Extents.{text_len}
use Rattle.msb_condition.specs.Tokens.{
  is_space,
  is_word_byte,
  joined,
  quoted_kind,
  kind_of,
  more_of,
  size_of,
  token_of,
  tokens_from,
}
use Rattle.msb_condition.specs.Places.{tokens_at, IsNext, Fits}

-- what is behind the bytes of the token before
pub skips : (place n : ℕ) (bs : List ℕ) → tokens_from place n bs
    ≡ tokens_from (place + n) 0 (drop n bs)
skips place zero bs = ap (λ p. tokens_from p 0 bs) (omega arith)
skips place (suc n) [] = refl
skips place (suc n) (b ∷ bs) = skips (place + 1) n bs
    ∙ ap (λ p. tokens_from p 0 (drop n bs)) (omega arith)

first : (place b : ℕ) (bs : List ℕ) → is_space b ≡ false
    → tokens_from place 0 (b ∷ bs) ≡ token_of place b bs ∷ tokens_from (place + 1) (size_of b bs) bs
first place b bs e = rw (e, tokens_from) refl

-- the token that begins at a place, where no space stands
pub token_next : (bs : List ℕ) (at start : ℕ) (kind : Kind) (more : ℕ) → start < length bs
    → tokens_at at bs ≡ tokens_at start bs → is_space (get_or bs start 0) ≡ false
    → kind ≡ kind_of (get_or bs start 0) (drop (start + 1) bs)
    → more ≡ more_of kind (drop (start + 1) bs)
    → IsNext bs at (Some (record { kind = kind; start = start; end = start + 1 + more }))
token_next bs at start kind more l same space k m =
    let b = get_or bs start 0 in
    let rest = drop (start + 1) bs in
    let split : drop start bs ≡ b ∷ rest = drop_more bs start 0 l in
    let size : size_of b rest ≡ more = ap (λ x. more_of x rest) (sym k) ∙ sym m in
    let bytes : take (start + 1 + more - start) (drop start bs)
    ≡ b ∷ take more rest = ap (λ n. take n (drop start bs))
    (let e : start + 1 + more - start ≡ suc more = omega arith in e)
    ∙ ap (take (suc more)) split in
    let behind : tokens_from (start + 1) (size_of b rest) rest ≡ tokens_at (start + 1 + more) bs =
    skips (start + 1) (size_of b rest) rest ∙ ap (λ n. tokens_from (start + 1 + n) 0 (drop n rest))
    size ∙ ap (tokens_from (start + 1 + more) 0) (drop-drop more (start + 1) bs) in
    same ∙ ap (tokens_from start 0) split ∙ first start b rest space
    ∙ ap (λ ts. token_of start b rest ∷ ts) behind
    ∙ ap
    (λ x. record { kind = x; place = start; bytes = b ∷ take (size_of b rest) rest }
    ∷ tokens_at (start + 1 + more) bs) (sym k)
    ∙ ap
    (λ n. record { kind = kind; place = start; bytes = b ∷ take n rest }
    ∷ tokens_at (start + 1 + more) bs) size
    ∙ ap (λ t. record { kind = kind; place = start; bytes = t } ∷ tokens_at (start + 1 + more) bs)
    (sym bytes)

-- what a kind says of the bytes
abbrev pub KindIs : Kind → ℕ → List ℕ → Type 0
KindIs Word b rest = is_word_byte b ≡ true
KindIs Quoted b rest = (b ≡ 39) × (text_len inside.Text rest < length rest)
KindIs Unended b rest = b ≡ 39
KindIs Reference b rest = (b < 128) × (0 < length rest)
KindIs (Compare Less) b rest = Unit {0}
KindIs (Compare Greater) b rest = Unit {0}
KindIs (Compare comparison) b rest = 0 < length rest
KindIs kind b rest = Unit {0}

picked : (t : Bool) (b : ℕ) (rest : List ℕ) (one more : Kind) → (t ≡ true → KindIs one b rest)
    → KindIs more b rest → KindIs (cond t one more) b rest
picked true b rest one more h k = h refl
picked false b rest one more h k = k

coded : (b k : ℕ) (rest : List ℕ) (one more : Kind) → (b ≡ k → KindIs one b rest)
    → KindIs more b rest → KindIs (cond (b == k) one more) b rest
coded b k rest one more h else = picked (b == k) b rest one more (λ e. h (eqb-true b k e)) else

joins : (byte b : ℕ) (rest : List ℕ) (one more : Kind) → (0 < length rest → KindIs one b rest)
    → KindIs more b rest → KindIs (joined byte one more rest) b rest
joins byte b [] one more h k = k
joins byte b (c ∷ rest) one more h k = picked (c == byte) b (c ∷ rest) one more
    (λ e. h (omega arith)) k

quotes : (b : ℕ) (rest : List ℕ) → b ≡ 39 → KindIs (quoted_kind rest) b rest
quotes b rest e = picked (nat_lt (text_len inside.Text rest) (length rest)) b rest Quoted Unended
    (λ t. (e, ltb-true (text_len inside.Text rest) (length rest) t)) e

sign_small : (b : ℕ) → (b == 36 || b == 37 || b == 64) ≡ true → b < 128
sign_small b e = grind (arith, nat_tests)

pub kind_is : (b : ℕ) (rest : List ℕ) → KindIs (kind_of b rest) b rest
kind_is b rest =
    picked (is_word_byte b) b rest Word _ (λ e. e)
    (coded b 39 rest (quoted_kind rest) _ (quotes b rest)
    (coded b 40 rest Open _ (λ e. tt) (coded b 41 rest Close _ (λ e. tt)
    (coded b 33 rest (joined 61 (Compare NotEqual) Bang rest) _
    (λ e. joins 61 b rest (Compare NotEqual) Bang (λ h. h) tt)
    (coded b 61 rest (joined 61 (Compare Equal) Equals rest) _
    (λ e. joins 61 b rest (Compare Equal) Equals (λ h. h) tt)
    (coded b 60 rest (joined 61 (Compare LessOrEqual) (Compare Less) rest) _
    (λ e. joins 61 b rest (Compare LessOrEqual) (Compare Less) (λ h. h) tt)
    (coded b 62 rest (joined 61 (Compare GreaterOrEqual) (Compare Greater) rest) _
    (λ e. joins 61 b rest (Compare GreaterOrEqual) (Compare Greater) (λ h. h) tt)
    (picked (b == 36 || b == 37 || b == 64) b rest (joined 40 Reference Sign rest) Other
    (λ e. joins 40 b rest Reference Sign (λ h. (sign_small b e, h)) tt) tt))))))))

fits_by : (kind : Kind) (b : ℕ) (rest : List ℕ) → KindIs kind b rest → Fits kind rest
fits_by Quoted b rest h = h.1
fits_by Reference b rest h = h.1
fits_by (Compare Less) b rest h = tt
fits_by (Compare Greater) b rest h = tt
fits_by (Compare Equal) b rest h = h
fits_by (Compare NotEqual) b rest h = h
fits_by (Compare LessOrEqual) b rest h = h
fits_by (Compare GreaterOrEqual) b rest h = h
fits_by Word b rest h = tt
fits_by Unended b rest h = tt
fits_by _ b rest h = tt

pub kind_fits : (kind : Kind) (b : ℕ) (rest : List ℕ) → kind ≡ kind_of b rest → Fits kind rest
kind_fits kind b rest e = fits_by kind b rest
    (subst (λ k. KindIs k b rest) (sym e) (kind_is b rest))
