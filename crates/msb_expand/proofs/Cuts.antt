-- A text that is read as entries of a list is cut at its first `;`.
use Rattle.std.proofs.Common.{
  ◌≡◌,
  ◌≢◌,
  ℕ,
  suc,
  ◌<◌,
  ◌==◌,
  List,
  [],
  ◌∷◌,
  ◌++◌,
  length,
  get_or,
  Bool,
  true,
  false,
  eqb,
  Result,
  Ok,
  Err,
  refl,
  sym,
  ap,
  ◌∙◌,
  arith,
}
use Rattle.std.specs.List.{slice_split, All}
use Rattle.std.proofs.lemmas.Bool.{eqb-true}
use Rattle.std.proofs.lemmas.List.Elements.{All-nil, All-cons}
use Rattle.std.proofs.lemmas.List.Splits.{slice_split_at, slice_split_none, length-slice_split}
use Rattle.msb_expand.specs.declared.entry.Entry.{Entry}
use Rattle.msb_expand.specs.declared.faults.ExpandFault.{ExpandFault}
use Rattle.msb_laws.specs.Results.{and_then, map_ok}
use Rattle.msb_expand.specs.Values.{
  Reading,
  reading,
  begun,
  closed,
  with_text,
  with_next,
  with_pieces,
}

abbrev pub pieces_of : List ℕ → List (List ℕ)
pieces_of text = slice_split (λ b. b == 59) text

-- the open entry is whole, and the next is empty
abbrev pub opened : Reading → Result Reading ExpandFault
opened r = map_ok (λ whole. reading whole (begun [])) (closed r)

after_cut : (piece : List ℕ) (pieces : List (List ℕ)) (whole : Result (List Entry) ExpandFault)
    → and_then (map_ok (λ w. reading w (begun piece)) whole) (λ s. with_next s pieces)
    ≡ and_then (map_ok (λ w. reading w (begun [])) whole) (λ s. with_pieces s (piece ∷ pieces))
after_cut piece pieces (Ok whole) = refl
after_cut piece pieces (Err fault) = refl

next_pieces : (r : Reading) (pieces : List (List ℕ)) → 0 < length pieces
    → with_next r pieces ≡ and_then (opened r) (λ s. with_pieces s pieces)
next_pieces r [] some = absurd (omega arith)
next_pieces r (piece ∷ pieces) some = after_cut piece pieces (closed r)

next_each : (pieces : List (List ℕ)) → 0 < length pieces → (r : Result Reading ExpandFault)
    → and_then r (λ s. with_next s pieces) ≡ and_then r
    (λ s. and_then (opened s) (λ t. with_pieces t pieces))
next_each pieces some (Ok s) = next_pieces s pieces some
next_each pieces some (Err fault) = refl

is_none : (b : ℕ) → b ≢ 59 → (t : Bool) → eqb b 59 ≡ t → eqb b 59 ≡ false
is_none b differs true e = absurd (differs (eqb-true b 59 e))
is_none b differs false e = e

all_none : (bs : List ℕ) → ((i : ℕ) → i < length bs → get_or bs i 0 ≢ 59)
    → All (λ b. eqb b 59 ≡ false) bs
all_none [] none = All-nil (λ b. eqb b 59 ≡ false)
all_none (b ∷ bs) none = All-cons (λ b. eqb b 59 ≡ false) b bs
    (is_none b (none 0 (omega arith)) (eqb b 59) refl)
    (all_none bs (λ i h. none (suc i) (omega arith)))

cut_first : (r : Reading) (rest piece after : List ℕ)
    → (rest ≡ piece ++ (59 ∷ after)) × ((i : ℕ) → i < length piece → get_or piece i 0 ≢ 59)
    → with_pieces r (pieces_of rest) ≡ and_then (with_text r piece)
    (λ s. and_then (opened s) (λ t. with_pieces t (pieces_of after)))
cut_first r rest piece after parts =
    ap (λ t. with_pieces r (pieces_of t)) parts.0
    ∙ ap (with_pieces r)
    (slice_split_at (λ b. b == 59) piece 59 after (all_none piece parts.1) refl)
    ∙ next_each (pieces_of after) (omega (arith, length-slice_split (λ b. b == 59) after))
    (with_text r piece)

-- a turn of the reading
abbrev pub Cut : List ℕ → List ℕ → List ℕ → Type 0
Cut rest piece after = (rest ≡ piece ++ (59 ∷ after))
    × ((i : ℕ) → i < length piece → get_or piece i 0 ≢ 59)

pub text_stops : (r : Reading) (rest piece after : List ℕ) (whole : Result Reading ExpandFault)
    (f : ExpandFault) → Cut rest piece after
    → with_pieces r (pieces_of rest) ≡ whole → with_text r piece ≡ Err f → whole ≡ Err f
text_stops r rest piece after whole f parts so_far is =
    sym so_far ∙ cut_first r rest piece after parts
    ∙ ap (λ x. and_then x (λ s. and_then (opened s) (λ t. with_pieces t (pieces_of after)))) is

pub close_stops : (r s : Reading) (rest piece after : List ℕ) (whole : Result Reading ExpandFault)
    (f : ExpandFault) → Cut rest piece after
    → with_pieces r (pieces_of rest) ≡ whole → with_text r piece ≡ Ok s → opened s ≡ Err f
    → whole ≡ Err f
close_stops r s rest piece after whole f parts so_far is closes =
    sym so_far ∙ cut_first r rest piece after parts
    ∙ ap (λ x. and_then x (λ s. and_then (opened s) (λ t. with_pieces t (pieces_of after)))) is
    ∙ ap (λ x. and_then x (λ t. with_pieces t (pieces_of after))) closes

pub text_goes_on : (r s next : Reading) (rest piece after : List ℕ)
    (whole : Result Reading ExpandFault) → Cut rest piece after
    → with_pieces r (pieces_of rest) ≡ whole → with_text r piece ≡ Ok s → opened s ≡ Ok next
    → with_pieces next (pieces_of after) ≡ whole
text_goes_on r s next rest piece after whole parts so_far is closes =
    sym (ap (λ x. and_then x (λ s. and_then (opened s) (λ t. with_pieces t (pieces_of after)))) is
    ∙ ap (λ x. and_then x (λ t. with_pieces t (pieces_of after))) closes)
    ∙ sym (cut_first r rest piece after parts) ∙ so_far

alone : (r : Result Reading ExpandFault) → and_then r (λ s. with_next s []) ≡ r
alone (Ok s) = refl
alone (Err fault) = refl

-- the last piece
pub text_ends : (r : Reading) (rest : List ℕ) (whole : Result Reading ExpandFault)
    → ((i : ℕ) → i < length rest → get_or rest i 0 ≢ 59)
    → with_pieces r (pieces_of rest) ≡ whole → with_text r rest ≡ whole
text_ends r rest whole none so_far =
    sym (ap (with_pieces r) (slice_split_none (λ b. b == 59) rest (all_none rest none))
    ∙ alone (with_text r rest)) ∙ so_far
