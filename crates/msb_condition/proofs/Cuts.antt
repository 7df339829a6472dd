-- Where a text can be cut: at the ends of a token.
use Rattle.std.proofs.Common.{
  ◌≡◌,
  ℕ,
  suc,
  zero,
  ◌+◌,
  ◌-◌,
  ◌<◌,
  ◌≤◌,
  Bool,
  true,
  false,
  cond,
  List,
  [],
  ◌∷◌,
  length,
  drop,
  get_or,
  refl,
  sym,
  ap,
  ◌∙◌,
  subst,
  arith,
  ◌⊎◌,
  inl,
  inr,
  length-drop,
}
use Rattle.std.specs.Prelude.{◌==◌}
use Rattle.std.specs.List.{prefix_len}
use Rattle.std.specs.Str.{IsUtf8, IsCharBoundary}
use Rattle.std.proofs.lemmas.List.{get_or-drop}
use Rattle.std.proofs.lemmas.List.Sums.{prefix_len_passes}
use Rattle.std.proofs.lemmas.Str.{
  IsCharBoundary-before_ascii,
  IsCharBoundary-after_ascii,
  IsCharBoundary-end,
}
use Rattle.std.proofs.lemmas.Bool.{eqb-true}
use Rattle.std.proofs.lemmas.Bool.Decides.{nat_tests}
use Rattle.msb_condition.specs.declared.extents.Inside.{Inside}
use Rattle.msb_condition.specs.declared.extents.Inside.TheVariants.{
  Text,
  AtSign,
  Reference as Referring,
  Quotes,
}
use Rattle.msb_condition.specs.declared.tokens.Kind.{Kind}
use Rattle.msb_condition.specs.declared.tokens.Kind.TheVariants.{
  Bang,
  Equals,
  Compare,
  Open,
  Close,
  Word,
  Quoted,
  Unended,
  Reference,
  Sign,
  Other,
}
use Rattle.msb_condition.specs.Extents.{behind, closed, ends_text, text_len, is_text, reference_len}
use Rattle.msb_condition.specs.Tokens.{is_word_byte, more_of}
use Rattle.msb_condition.specs.Places.{IsCutBy}
use Rattle.msb_condition.proofs.TokenLaws.{KindIs}

word_small : (b : ℕ) → is_word_byte b ≡ true → b < 128
word_small b e = grind (arith, nat_tests)

-- the last byte of a word
word_last : (b : ℕ) (rest : List ℕ) → is_word_byte b ≡ true
    → is_word_byte (get_or (b ∷ rest) (prefix_len is_word_byte rest) 0) ≡ true
word_last b rest e = prefix_len_passes is_word_byte (b ∷ rest) (prefix_len is_word_byte rest) 0
    (let f : prefix_len is_word_byte (b ∷ rest)
    ≡ 1 + prefix_len is_word_byte rest = rw e refl in omega (arith, f))

end_quote : (s : Inside) (b : ℕ) → ends_text s b ≡ true → b ≡ 39
end_quote Text b e = eqb-true b 39 e
end_quote AtSign b e = eqb-true b 39 e
end_quote (Referring depth) b e = cc
end_quote (Quotes depth) b e = cc

-- the byte behind a quoted text is its quote
quote_there : (s : Inside) (xs : List ℕ) → text_len s xs < length xs
    → get_or xs (text_len s xs) 0 ≡ 39
quote_there s [] l = absurd (omega arith)
quote_there s (x ∷ xs) l = go (ends_text s x) refl (quote_there (behind s x) xs)
  where
    go : (t : Bool) → ends_text s x ≡ t
        → (text_len (behind s x) xs < length xs → get_or xs (text_len (behind s x) xs) 0 ≡ 39)
        → get_or (x ∷ xs) (text_len s (x ∷ xs)) 0 ≡ 39
    go true e h = let f : text_len s (x ∷ xs)
        ≡ 0 = rw (e, text_len) refl in ap (λ n. get_or (x ∷ xs) n 0) f ∙ end_quote s x e
    go false e h =
        let f : text_len s (x ∷ xs) ≡ suc (text_len (behind s x) xs) = rw (e, text_len)
        (omega arith) in
        ap (λ n. get_or (x ∷ xs) n 0) f ∙ h (omega (arith, f))

abbrev is_referring : Inside → Bool
is_referring Text = false
is_referring AtSign = false
is_referring (Referring depth) = true
is_referring (Quotes depth) = true

abbrev Goes : Inside → ℕ → Type 0
Goes s b = (is_referring s ≡ true) ⊎ ((s ≡ Text) × (b ≡ 41))

closes : (depth b : ℕ) → b ≡ 41 → Goes (closed depth) b
closes depth b e = go (depth == 0)
  where
    go : (t : Bool) → Goes (cond t Text (Referring (depth - 1))) b
    go true = inr (refl, e)
    go false = inl refl

-- behind a byte in a reference: still in it, or the byte closes it
stays_or_closes : (s : Inside) (b : ℕ) → is_referring s ≡ true → Goes (behind s b) b
stays_or_closes Text b e = cc
stays_or_closes AtSign b e = cc
stays_or_closes (Quotes depth) b e = go (b == 39)
  where
    go : (t : Bool) → Goes (cond t (Referring depth) (Quotes depth)) b
    go true = inl refl
    go false = inl refl
stays_or_closes (Referring depth) b e = quote (b == 39)
  where
    close : (t : Bool) → (b == 41) ≡ t → Goes (cond t (closed depth) (Referring depth)) b
    close true e = closes depth b (eqb-true b 41 e)
    close false e = inl refl

    opening : (t : Bool)
        → Goes (cond t (Referring (depth + 1)) (cond (b == 41) (closed depth) (Referring depth))) b
    opening true = inl refl
    opening false = close (b == 41) refl

    quote : (t : Bool)
        → Goes
        (cond t (Quotes depth)
        (cond (b == 40) (Referring (depth + 1)) (cond (b == 41) (closed depth) (Referring depth))))
        b
    quote true = inl refl
    quote false = opening (b == 40)

abbrev Ended : List ℕ → ℕ → Type 0
Ended xs n = (n ≡ length xs) ⊎ ((m : ℕ) × (n ≡ suc m) × (get_or xs m 0 ≡ 41))

more_ended : (x : ℕ) (xs : List ℕ) (n : ℕ) → Ended xs n → Ended (x ∷ xs) (suc n)
more_ended x xs n (inl e) = inl (ap suc e)
more_ended x xs n (inr p) = inr (suc p.0, ap suc p.1, p.2)

no_more : (xs : List ℕ) → reference_len Text xs ≡ 0
no_more [] = refl
no_more (x ∷ xs) = refl

-- a reference goes on to the end, or through the parenthesis that closes it
reference_ends : (s : Inside) (xs : List ℕ) → is_referring s ≡ true → Ended xs (reference_len s xs)
reference_ends s [] e = inl refl
reference_ends s (x ∷ xs) e = subst (Ended (x ∷ xs)) (sym len)
    (go (stays_or_closes s x e) (reference_ends (behind s x) xs))
  where
    not_text : (s : Inside) → is_referring s ≡ true → is_text s ≡ false
    not_text Text e = cc
    not_text AtSign e = refl
    not_text (Referring depth) e = refl
    not_text (Quotes depth) e = refl

    len : reference_len s (x ∷ xs) ≡ suc (reference_len (behind s x) xs)
    len = rw (not_text s e, reference_len) (omega arith)

    go : Goes (behind s x) x
        → (is_referring (behind s x) ≡ true → Ended xs (reference_len (behind s x) xs))
        → Ended (x ∷ xs) (suc (reference_len (behind s x) xs))
    go (inl h) more = more_ended x xs (reference_len (behind s x) xs) (more h)
    go (inr p) more = inr (0, ap suc (ap (λ t. reference_len t xs) p.0 ∙ no_more xs), p.1)

len_rest : (bs : List ℕ) (start : ℕ) → start < length bs
    → length bs ≡ start + 1 + length (drop (start + 1) bs)
len_rest bs start l = omega (arith, length-drop (start + 1) bs)

-- the byte behind so many others
behind_start : (bs : List ℕ) (start n : ℕ) → get_or bs (start + 1 + n) 0
    ≡ get_or (drop (start + 1) bs) n 0
behind_start bs start n = sym (get_or-drop (start + 1) bs n 0)

here : (bs : List ℕ) (start : ℕ) → start < length bs → get_or bs start 0 < 128
    → IsCharBoundary bs start
here bs start l h = IsCharBoundary-before_ascii bs start l h

after : (bs : List ℕ) (start : ℕ) → IsUtf8 bs → start < length bs → get_or bs start 0 < 128
    → IsCharBoundary bs (start + 1)
after bs start u l h = IsCharBoundary-after_ascii bs start u l h

-- behind more bytes of which the last is such
behind_last : (bs : List ℕ) (start m : ℕ) → IsUtf8 bs → m < length (drop (start + 1) bs)
    → start < length bs → get_or (drop (start + 1) bs) m 0 < 128
    → IsCharBoundary bs (start + 1 + suc m)
behind_last bs start m u w l h =
    let k : start + 1 + m < length bs = omega (arith, len_rest bs start l) in
    subst (IsCharBoundary bs) (omega arith)
    (after bs (start + 1 + m) u k (subst (λ b. b < 128) (sym (behind_start bs start m)) h))

word_cut : (bs : List ℕ) (start more : ℕ) → IsUtf8 bs → start < length bs
    → is_word_byte (get_or bs start 0) ≡ true → more ≡ prefix_len is_word_byte (drop (start + 1) bs)
    → more ≤ length (drop (start + 1) bs)
    → IsCharBoundary bs (start + 1 + more)
word_cut bs start zero u l e m w = subst (IsCharBoundary bs) (omega arith)
    (after bs start u l (word_small (get_or bs start 0) e))
word_cut bs start (suc n) u l e m w =
    behind_last bs start n u (omega arith) l
    (word_small (get_or (drop (start + 1) bs) n 0)
    (prefix_len_passes is_word_byte (drop (start + 1) bs) n 0 (omega arith)))

quoted_cut : (bs : List ℕ) (start n : ℕ) → start < length bs → n < length (drop (start + 1) bs)
    → get_or (drop (start + 1) bs) n 0 ≡ 39 → IsCharBoundary bs (start + 1 + n)
quoted_cut bs start n l w e =
    let k : start + 1 + n < length bs = omega (arith, len_rest bs start l) in
    let b : get_or bs (start + 1 + n) 0 ≡ 39 = behind_start bs start n ∙ e in
    here bs (start + 1 + n) k (omega (arith, b))

reference_cut : (bs : List ℕ) (start n : ℕ) → IsUtf8 bs → start < length bs
    → 0 < length (drop (start + 1) bs)
    → n ≤ length (drop 1 (drop (start + 1) bs)) → Ended (drop 1 (drop (start + 1) bs)) n
    → IsCharBoundary bs (start + 1 + (n + 1))
reference_cut bs start n u l p w (inl e) =
    subst (IsCharBoundary bs)
    (let a = length-drop 1 (drop (start + 1) bs) in omega (arith, len_rest bs start l, a))
    (IsCharBoundary-end bs)
reference_cut bs start n u l p w (inr k) =
    let last : get_or (drop (start + 1) bs) (1 + k.0) 0
    ≡ 41 = sym (get_or-drop 1 (drop (start + 1) bs) k.0 0) ∙ k.2 in
    let a = length-drop 1 (drop (start + 1) bs) in
    subst (IsCharBoundary bs) (omega (arith, k.1))
    (behind_last bs start (1 + k.0) u (omega (arith, a, k.1)) l (omega (arith, last)))

pub cut_by : (kind : Kind) (bs : List ℕ) (start more : ℕ) → IsUtf8 bs → start < length bs
    → KindIs kind (get_or bs start 0) (drop (start + 1) bs)
    → more ≡ more_of kind (drop (start + 1) bs) → more ≤ length (drop (start + 1) bs)
    → IsCutBy kind bs start (start + 1 + more)
cut_by Word bs start more u l k m w = (
  omega arith,
  here bs start l (word_small (get_or bs start 0) k),
  word_cut bs start more u l k m
      w,
)
cut_by Quoted bs start more u l k m w = (
  omega arith,
  after bs start u l (omega (arith, k.0)),
  subst (IsCharBoundary bs) (omega arith)
      (quoted_cut bs start (text_len Text (drop (start + 1) bs)) l k.1
      (quote_there Text (drop (start + 1) bs) k.1)),
)
cut_by Unended bs start more u l k m w =
    (omega arith, after bs start u l (omega (arith, k)), omega (arith, len_rest bs start l))
cut_by Reference bs start more u l k m w =
    let n = reference_len (Referring 0) (drop 1 (drop (start + 1) bs)) in (
      omega arith,
      here bs start l k.0,
      subst (λ x. IsCharBoundary bs (start + 1 + x)) (sym m)
          (reference_cut bs start n u l k.1
          (let a = length-drop 1 (drop (start + 1) bs) in omega (arith, a))
          (reference_ends (Referring 0) (drop 1 (drop (start + 1) bs)) refl)),
    )
cut_by Bang bs start more u l k m w = tt
cut_by Equals bs start more u l k m w = tt
cut_by Open bs start more u l k m w = tt
cut_by Close bs start more u l k m w = tt
cut_by Sign bs start more u l k m w = tt
cut_by Other bs start more u l k m w = tt
cut_by (Compare comparison) bs start more u l k m w = tt
