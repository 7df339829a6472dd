-- Each path that a pattern stands for begins as the pattern does.
use Rattle.std.proofs.Common.{
  ◌≡◌,
  ℕ,
  List,
  [],
  ◌∷◌,
  ◌++◌,
  ◌&&◌,
  Bool,
  true,
  false,
  true≢false,
  map,
  if◌then◌else◌,
  eqb,
  eq-eqb,
  refl,
  sym,
  ap,
  ◌∙◌,
  rules,
}
use Rattle.std.proofs.lemmas.List.Splits.{join_with_byte-slice_split}
use Rattle.std.proofs.lemmas.Slice.Eq.{bytes_eq-Decides}
use Rattle.std.specs.List.{slice_split, starts_with, join_with_byte}
use Rattle.std.specs.Str.{bytes_eq}
use Rattle.msb_paths.specs.Segments.{is_slash}
use Rattle.msb_glob.specs.Front.{are_gaps, front_of}
use Rattle.msb_glob.specs.Match.{segment_token, fits_path}
use Rattle.msb_glob.specs.Tokens.{fits}
use Rattle.msb_glob.specs.declared.parts.Part.{Part}
use Rattle.msb_glob.specs.declared.parts.Part.TheVariants.{AnyFolders, Exact, Segment}

same_text : (a b : List ℕ) → bytes_eq a b ≡ true → a ≡ b
same_text a b is = search (rules, bytes_eq-Decides)

begins_empty : (text : List ℕ) → starts_with eqb text [] ≡ true
begins_empty [] = refl
begins_empty (b ∷ text) = refl

begins_longer : (front text more : List ℕ) → starts_with eqb (front ++ text) (front ++ more)
    ≡ starts_with eqb text more
begins_longer [] text more = refl
begins_longer (b ∷ front) text more = rw (eq-eqb b b refl) (begins_longer front text more)

begins_itself : (front text : List ℕ) → starts_with eqb (front ++ text) front ≡ true
begins_itself [] text = begins_empty text
begins_itself (b ∷ front) text = rw (eq-eqb b b refl) (begins_itself front text)

begins_alone : (text : List ℕ) → starts_with eqb text text ≡ true
begins_alone [] = refl
begins_alone (b ∷ text) = rw (eq-eqb b b refl) (begins_alone text)

joined_first : (x : List ℕ) (xs : List (List ℕ))
    → starts_with eqb (join_with_byte 47 (x ∷ xs)) x ≡ true
joined_first x [] = begins_alone x
joined_first x (y ∷ ys) = begins_itself x (47 ∷ join_with_byte 47 (y ∷ ys))

pub both_true : (a b : Bool) → (a && b) ≡ true → (a ≡ true) × (b ≡ true)
both_true true true is = (refl, refl)
both_true true false is = absurd (true≢false (sym is))
both_true false b is = absurd (true≢false (sym is))

-- only gaps stand for no segment
gaps_fit : (parts : List Part) → fits (map segment_token parts) [] ≡ true → are_gaps parts ≡ true
gaps_fit [] is = refl
gaps_fit (AnyFolders ∷ parts) is = gaps_fit parts is
gaps_fit (Exact text ∷ parts) is = absurd (true≢false (sym is))
gaps_fit (Segment pieces ∷ parts) is = absurd (true≢false (sym is))

begins_exact : (text : List ℕ) (parts : List Part) (x : List ℕ) (xs : List (List ℕ)) (b : Bool)
    → are_gaps parts ≡ b → text ≡ x → fits (map segment_token parts) xs ≡ true
    → starts_with eqb (join_with_byte 47 xs) (front_of parts) ≡ true
    → starts_with eqb (join_with_byte 47 (x ∷ xs))
    (if b then text else text ++ 47 ∷ front_of parts) ≡ true
begins_exact text parts x xs true all same is later = rw same (joined_first x xs)
begins_exact text parts x [] false some same is later = absurd
    (true≢false (sym (gaps_fit parts is) ∙ some))
begins_exact text parts x (y ∷ ys) false some same is later = rw same
    (begins_longer x (47 ∷ join_with_byte 47 (y ∷ ys)) (47 ∷ front_of parts) ∙ later)

begins : (parts : List Part) (xs : List (List ℕ)) → fits (map segment_token parts) xs ≡ true
    → starts_with eqb (join_with_byte 47 xs) (front_of parts) ≡ true
begins [] xs is = begins_empty (join_with_byte 47 xs)
begins (AnyFolders ∷ parts) xs is = begins_empty (join_with_byte 47 xs)
begins (Segment pieces ∷ parts) xs is = begins_empty (join_with_byte 47 xs)
begins (Exact text ∷ parts) [] is = absurd (true≢false (sym is))
begins (Exact text ∷ parts) (x ∷ xs) is =
    let two = both_true (bytes_eq text x) (fits (map segment_token parts) xs) is in
    begins_exact text parts x xs (are_gaps parts) refl (same_text text x two.0) two.1
    (begins parts xs two.1)

not_below_at : (parts : List Part) (path : List ℕ) (b : Bool) → fits_path parts path ≡ b
    → false ≡ starts_with eqb path (front_of parts) → false ≡ b
not_below_at parts path false is other = refl
not_below_at parts path true is other =
    let whole : starts_with eqb path (front_of parts)
    ≡ true = ap (λ text. starts_with eqb text (front_of parts))
    (sym (join_with_byte-slice_split 47 path)) ∙ begins parts (slice_split is_slash path) is in
    other ∙ whole

-- a path that begins otherwise is none of the pattern's
pub not_below : (parts : List Part) (path : List ℕ) → false ≡ starts_with eqb path (front_of parts)
    → false ≡ fits_path parts path
not_below parts path other = not_below_at parts path (fits_path parts path) refl other
