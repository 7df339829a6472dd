-- An argument without the white space around it is one that may stand in quotes.
use Rattle.std.proofs.Common.{
  ◌≡◌,
  ℕ,
  Bool,
  true,
  false,
  List,
  [],
  ◌∷◌,
  ◌++◌,
  refl,
  sym,
  ap,
  ◌∙◌,
  subst,
  append_assoc,
  arith,
}
use Rattle.std.specs.Prelude.{◌==◌, ◌&&◌, ◌||◌, reverse, codes}
use Rattle.std.specs.List.{flat_map}
use Rattle.std.proofs.lemmas.List.{append-nil, reverse-append, reverse-reverse}
use Rattle.std.proofs.lemmas.List.Concat.{flat_map-append}
use Rattle.msb_expression.specs.declared.starts.Inside.{Inside}
use Rattle.msb_expression.specs.declared.starts.Inside.TheVariants.{Quoted, Loose}
use Rattle.msb_expression.specs.declared.expression.Piece.{Piece}
use Rattle.msb_expression.specs.declared.expression.Piece.TheVariants.{
  Plain as PlainPiece,
  Prop as PropPiece,
  Meta as MetaPiece,
}
use Rattle.msb_expression.specs.Grammar.{
  opens,
  is_quotable,
  is_blank,
  without_front,
  without_end,
  cut_front,
  cut_end,
  plain_pieces,
  cut_piece,
  cut_pieces,
  IsPlain,
  IsPiece,
  is_plain_piece,
  Joins,
  Apart,
}
use Rattle.msb_expression.specs.Written.{piece_text}
use Rattle.msb_expression.proofs.PlainText.{or_left, or_right, IsPlain-front}

-- what is cut off a text
front_cut : (text : List ℕ) → (cut : List ℕ) × (text ≡ cut ++ without_front text)
front_cut [] = ([], refl)
front_cut (b ∷ bs) = by (is_blank b) (front_cut bs)
  where
    by : (t : Bool) → (cut : List ℕ) × (bs ≡ cut ++ without_front bs)
        → (cut : List ℕ) × (b ∷ bs ≡ cut ++ elim t [ true ↦ without_front bs | false ↦ b ∷ bs ])
    by true r = (b ∷ r.0, ap (λ t. b ∷ t) r.1)
    by false r = ([], refl)

end_cut : (text : List ℕ) → (cut : List ℕ) × (text ≡ without_end text ++ cut)
end_cut text =
    let r = front_cut (reverse text) in (
      reverse r.0,
      sym (reverse-reverse text) ∙ ap reverse r.1
          ∙ reverse-append r.0 (without_front (reverse text)),
    )

IsPlain-behind : (inside : Inside) (xs ys : List ℕ) → IsPlain inside (xs ++ ys) → IsPlain inside ys
IsPlain-behind inside [] ys h = h
IsPlain-behind inside (x ∷ xs) ys h = IsPlain-behind inside xs ys h.2

front_plain : (front : Bool) (text : List ℕ) → IsPlain Loose text
    → IsPlain Loose (cut_front front text)
front_plain true text h =
    let r =
    front_cut text in
    IsPlain-behind Loose r.0 (without_front text) (subst (λ t. IsPlain Loose t) r.1 h)
front_plain false text h = h

end_plain : (end : Bool) (text : List ℕ) → IsPlain Loose text → IsPlain Loose (cut_end end text)
end_plain true text h =
    let r =
    end_cut text in IsPlain-front Loose (without_end text) r.0
    (subst (λ t. IsPlain Loose t) r.1 h)
end_plain false text h = h

loose_quoted : (text : List ℕ) → IsPlain Loose text → IsPlain Quoted text
loose_quoted [] h = tt
loose_quoted (b ∷ bs) h =
    let q : is_quotable b ≡ false = or_right (opens 36 (b ∷ bs)) (is_quotable b) h.0 in (
      or_left (opens 36 (b ∷ bs)) (is_quotable b) h.0,
      or_left (b == 39) (b == 40 || (b == 64 || b == 37)) q,
      loose_quoted bs h.2,
    )

-- its pieces
Joins-append : {A : Type 0} (Is : List ℕ → A → Type 0) (t u : List ℕ) (xs ys : List A)
    → Joins Is t xs → Joins Is u ys
    → Joins Is (t ++ u) (xs ++ ys)
Joins-append Is t u [] ys h k = subst (λ x. Joins Is (x ++ u) ys) (sym h) k
Joins-append Is t u (x ∷ xs) ys h k = (
  h.0,
  h.1 ++ u,
  ap (λ x. x ++ u) h.2 ∙ append_assoc h.0 h.1 u,
  h.3,
  Joins-append Is h.1 u xs ys h.4 k,
)

abbrev Quotes : List Piece → Type 0
Quotes pieces = Joins (IsPiece Quoted) (flat_map piece_text pieces) pieces

plain_quotes : (text : List ℕ) → IsPlain Quoted text → Quotes (plain_pieces text)
plain_quotes [] h = refl
plain_quotes (b ∷ bs) h = (b ∷ bs, [], refl, ((omega arith, h), refl), refl)

piece_quotes : (front end : Bool) (text : List ℕ) (piece : Piece) → IsPiece Loose text piece
    → Quotes (cut_piece front end piece)
piece_quotes front end text (PlainPiece plain) h =
    plain_quotes (cut_end end (cut_front front plain))
    (loose_quoted (cut_end end (cut_front front plain))
    (end_plain end (cut_front front plain) (front_plain front plain h.0.1)))
piece_quotes front end text (PropPiece name) h = (
  codes "$(" ++ name ++ codes ")",
  [],
  refl,
  (name, ([], [], tt, h.1.3, tt, sym (append-nil name)), refl),
  refl,
)
piece_quotes front end text (MetaPiece name) h = let k = h.0 in cc

both_quote : (one other : List Piece) → Quotes one → Quotes other → Quotes (one ++ other)
both_quote one other h k =
    subst (λ t. Joins (IsPiece Quoted) t (one ++ other))
    (sym (flat_map-append piece_text one other))
    (Joins-append (IsPiece Quoted) (flat_map piece_text one)
    (flat_map piece_text other) one other h k)

pub trimmed_quote : (front : Bool) (text : List ℕ) (read : List Piece)
    → Joins (IsPiece Loose) text read → Quotes (cut_pieces front read)
trimmed_quote front text [] h = refl
trimmed_quote front text (piece ∷ []) h = piece_quotes front true h.0 piece h.3
trimmed_quote front text (piece ∷ next ∷ read) h =
    both_quote (cut_piece front false piece) (cut_pieces false (next ∷ read))
    (piece_quotes front false h.0 piece h.3)
    (trimmed_quote false h.1 (next ∷ read) h.4)

-- no two plain ones stand side by side
Apart-cons : (x : Piece) (xs : List Piece) → is_plain_piece x ≡ false → Apart is_plain_piece xs
    → Apart is_plain_piece (x ∷ xs)
Apart-cons x [] e h = tt
Apart-cons x (y ∷ ys) e h = (ap (λ t. t && is_plain_piece y) e, h)

cut_head : (piece : Piece) (read : List Piece) → is_plain_piece piece ≡ false
    → (rest : List Piece) × (cut_pieces false (piece ∷ read) ≡ piece ∷ rest)
cut_head (PlainPiece plain) read e = cc
cut_head (PropPiece name) [] e = ([], refl)
cut_head (PropPiece name) (next ∷ read) e = (cut_pieces false (next ∷ read), refl)
cut_head (MetaPiece name) [] e = ([], refl)
cut_head (MetaPiece name) (next ∷ read) e = (cut_pieces false (next ∷ read), refl)

plain_apart : (text : List ℕ) (xs : List Piece) → (next : Piece) (rest : List Piece)
    → xs ≡ next ∷ rest → is_plain_piece next ≡ false
    → Apart is_plain_piece xs → Apart is_plain_piece (plain_pieces text ++ xs)
plain_apart [] xs next rest e n h = h
plain_apart (b ∷ bs) xs next rest e n h =
    subst (λ t. Apart is_plain_piece (PlainPiece (b ∷ bs) ∷ t)) (sym e)
    (n, subst (λ t. Apart is_plain_piece t) e h)

one_apart : (front end : Bool) (piece : Piece) → Apart is_plain_piece (cut_piece front end piece)
one_apart front end (PlainPiece plain) = one (cut_end end (cut_front front plain))
  where
    one : (text : List ℕ) → Apart is_plain_piece (plain_pieces text)
    one [] = tt
    one (b ∷ bs) = tt
one_apart front end (PropPiece name) = tt
one_apart front end (MetaPiece name) = tt

pub trimmed_apart : (front : Bool) (read : List Piece) → Apart is_plain_piece read
    → Apart is_plain_piece (cut_pieces front read)
trimmed_apart front [] h = tt
trimmed_apart front (piece ∷ []) h = one_apart front true piece
trimmed_apart front (PlainPiece plain ∷ next ∷ read) h =
    let r = cut_head next read h.0 in
    plain_apart (cut_front front plain) (cut_pieces false (next ∷ read)) next r.0 r.1 h.0
    (trimmed_apart false (next ∷ read) h.1)
trimmed_apart front (PropPiece name ∷ next ∷ read) h =
    Apart-cons (PropPiece name) (cut_pieces false (next ∷ read)) refl
    (trimmed_apart false (next ∷ read) h.1)
trimmed_apart front (MetaPiece name ∷ next ∷ read) h =
    Apart-cons (MetaPiece name) (cut_pieces false (next ∷ read)) refl
    (trimmed_apart false (next ∷ read) h.1)
