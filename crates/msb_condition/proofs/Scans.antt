-- What ends a reference and a quoted text.
use Rattle.std.proofs.Common.{
  ◌≡◌,
  ℕ,
  ◌+◌,
  ◌<◌,
  true,
  List,
  ◌∷◌,
  length,
  drop,
  get_or,
  refl,
  ap,
  ◌∙◌,
  arith,
}
use Rattle.std.proofs.lemmas.List.{drop_more}
use Rattle.msb_condition.specs.declared.extents.Inside.{Inside}
use Rattle.msb_condition.specs.Extents.{is_text, reference_len}

reference_off : (s : Inside) (i n b : ℕ) (bs : List ℕ) → n ≡ i + reference_len s (b ∷ bs)
    → is_text s ≡ true → i ≡ n
reference_off s i n b bs e t = let f : reference_len s (b ∷ bs)
    ≡ 0 = rw (t, reference_len) refl in omega arith

pub reference_stops : (s : Inside) (n : ℕ) (bs : List ℕ) (i : ℕ) → i < length bs
    → n ≡ i + reference_len s (drop i bs) → is_text s ≡ true → i ≡ n
reference_stops s n bs i l e t = reference_off s i n (get_or bs i 0) (drop (i + 1) bs)
    (e ∙ ap (λ xs. i + reference_len s xs) (drop_more bs i 0 l)) t
