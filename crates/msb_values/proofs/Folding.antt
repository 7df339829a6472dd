-- Folded texts in UTF-8 are equal just where their characters are.
use Rattle.std.proofs.Common.{
  ◌≡◌,
  ℕ,
  ◌≤◌,
  List,
  [],
  ◌∷◌,
  length,
  refl,
  ap,
  ap₂,
  arith,
  length-append,
  encode_utf8,
  encode_utf8_all,
}
use Rattle.std.proofs.lemmas.Bool.Decides.{same_from_decides}
use Rattle.std.proofs.lemmas.Str.{encode_same, length-encode, len_utf8_bounds}
use Rattle.std.proofs.lemmas.Slice.Eq.{bytes_eq-Decides}
use Rattle.msb_values.specs.Same.{folded}
use Rattle.msb_values.specs.Folded.{folded_bytes, FoldsAsCompared}

some_bytes : (c : ℕ) (cs : List ℕ) → 1 ≤ length (encode_utf8_all (c ∷ cs))
some_bytes c cs = omega (
  arith,
  length-append (encode_utf8 c) (encode_utf8_all cs),
  length-encode c,
  (len_utf8_bounds c).0,
)

encodings_same : (xs ys : List ℕ) → encode_utf8_all xs ≡ encode_utf8_all ys → xs ≡ ys
encodings_same [] [] e = refl
encodings_same [] (y ∷ ys) e = absurd (omega (arith, ap length e, some_bytes y ys))
encodings_same (x ∷ xs) [] e = absurd (omega (arith, ap length e, some_bytes x xs))
encodings_same (x ∷ xs) (y ∷ ys) e =
    let heads = encode_same x y (encode_utf8_all xs) (encode_utf8_all ys) e in
    ap₂ ◌∷◌ heads.0 (encodings_same xs ys heads.1)

pub folds_as_compared : FoldsAsCompared
folds_as_compared a b =
    let bytes = bytes_eq-Decides (folded_bytes a) (folded_bytes b) in
    let characters = bytes_eq-Decides (folded a) (folded b) in
    same_from_decides _ _
    (λ h. encodings_same (folded a) (folded b) (bytes.0 h), λ e. bytes.1 (ap encode_utf8_all e))
    characters
