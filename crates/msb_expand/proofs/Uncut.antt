-- Joined identities as one item: `;` is written by its number, and the text is no shorter.
use Rattle.std.proofs.Common.{
  ◌≡◌,
  ◌≢◌,
  ℕ,
  suc,
  ◌+◌,
  ◌<◌,
  ◌≤◌,
  List,
  [],
  ◌∷◌,
  ◌++◌,
  length,
  get_or,
  Bool,
  true,
  false,
  cond,
  eqb,
  ltb,
  codes,
  Ok,
  Err,
  refl,
  sym,
  ap,
  ◌∙◌,
  arith,
  append_assoc,
  length-append,
}
use Rattle.std.specs.List.{flat_map, sum, sum_by}
use Rattle.std.proofs.lemmas.Bool.{eqb-true, ltb-true, lt-ltb}
use Rattle.std.proofs.lemmas.Bool.Decides.{nat_tests}
use Rattle.std.proofs.lemmas.List.Concat.{flat_map-cons}
use Rattle.std.proofs.lemmas.List.Sums.{sum_by-append, sum-map}
use Rattle.msb_expand.specs.declared.entry.Entry.{Entry}
use Rattle.msb_expand.specs.declared.faults.ExpandFault.{ExpandFault}
use Rattle.msb_expand.specs.declared.faults.ExpandFault.TheVariants.{TooLong}
use Rattle.msb_expand.specs.Functions.{plain_item}
use Rattle.msb_expand.specs.Limits.{limit, if_short}
use Rattle.msb_expand.specs.Values.{given, entries_in, size_of, if_small, uncut_byte, one_item}

other_byte : (b : ℕ) → b ≢ 59 → (t : Bool) → eqb b 59 ≡ t → uncut_byte b ≡ b ∷ []
other_byte b differs true e = absurd (differs (eqb-true b 59 e))
other_byte b differs false e = ap (λ t. cond t (codes "%3B") (b ∷ [])) e

uncut_before : (bs rest : List ℕ) → ((i : ℕ) → i < length bs → get_or bs i 0 ≢ 59)
    → flat_map uncut_byte (bs ++ rest) ≡ bs ++ flat_map uncut_byte rest
uncut_before [] rest none = refl
uncut_before (b ∷ bs) rest none =
    flat_map-cons uncut_byte b (bs ++ rest)
    ∙ ap (λ t. t ++ flat_map uncut_byte (bs ++ rest))
    (other_byte b (none 0 (omega arith)) (eqb b 59) refl)
    ∙ ap (λ t. b ∷ t) (uncut_before bs rest (λ i h. none (suc i) (omega arith)))

-- a turn of the writing
pub uncut_turn : (written with_before with_code rest before after text : List ℕ)
    → (rest ≡ before ++ (59 ∷ after)) × ((i : ℕ) → i < length before → get_or before i 0 ≢ 59)
    → with_before ≡ written ++ before → with_code ≡ with_before ++ codes "%3B"
    → written ++ flat_map uncut_byte rest ≡ text → with_code ++ flat_map uncut_byte after ≡ text
uncut_turn written with_before with_code rest before after text parts before_is code_is so_far =
    ap (λ t. t ++ flat_map uncut_byte after) (code_is ∙ ap (λ t. t ++ codes "%3B") before_is
    ∙ append_assoc written before (codes "%3B"))
    ∙ append_assoc written (before ++ codes "%3B") (flat_map uncut_byte after)
    ∙ ap (λ t. written ++ t) (append_assoc before (codes "%3B") (flat_map uncut_byte after)
    ∙ ap (λ t. before ++ t) (sym (flat_map-cons uncut_byte 59 after))
    ∙ sym (uncut_before before (59 ∷ after) parts.1))
    ∙ ap (λ t. written ++ flat_map uncut_byte t) (sym parts.0)
    ∙ so_far

pub uncut_end : (written all rest text : List ℕ)
    → ((i : ℕ) → i < length rest → get_or rest i 0 ≢ 59)
    → all ≡ written ++ rest → written ++ flat_map uncut_byte rest ≡ text → all ≡ text
uncut_end written all rest text none all_is so_far =
    all_is ∙ ap (λ t. written ++ t) (sym (append-none rest none)) ∙ so_far
  where
    append-none : (bs : List ℕ) → ((i : ℕ) → i < length bs → get_or bs i 0 ≢ 59)
        → flat_map uncut_byte bs ≡ bs
    append-none [] none = refl
    append-none (b ∷ bs) none =
        flat_map-cons uncut_byte b bs
        ∙ ap (λ t. t ++ flat_map uncut_byte bs)
        (other_byte b (none 0 (omega arith)) (eqb b 59) refl)
        ∙ ap (λ t. b ∷ t) (append-none bs (λ i h. none (suc i) (omega arith)))

-- how long it is

some_byte : (b : ℕ) (t : Bool) → 1 ≤ length (cond t (codes "%3B") (b ∷ []))
some_byte b true = omega arith
some_byte b false = omega arith

uncut_length : (bs : List ℕ) → length bs ≤ length (flat_map uncut_byte bs)
uncut_length [] = omega arith
uncut_length (b ∷ bs) =
    let e = ap length (flat_map-cons uncut_byte b bs)
    ∙ length-append (uncut_byte b) (flat_map uncut_byte bs) in
    omega (arith, e, some_byte b (eqb b 59), uncut_length bs)

size_of-append : (xs ys : List Entry) → size_of (xs ++ ys) ≡ size_of xs + size_of ys
size_of-append xs ys =
    let size : Entry → ℕ = λ entry. length entry.item.ident + 1 in
    sum-map size (xs ++ ys) ∙ sum_by-append size xs ys
    ∙ sym (ap (λ n. n + size_of ys) (sum-map size xs)
    ∙ ap (λ n. sum_by size xs + n) (sum-map size ys))

one_size : (n : ℕ) → sum (n ∷ []) ≡ n
one_size n = omega arith

not_empty : (b : ℕ) (bs : List ℕ) → eqb (length (b ∷ bs)) 0 ≡ false
not_empty b bs = grind (arith, nat_tests)

-- an item of a text that has bytes is kept
kept_size : (bs : List ℕ) → 0 < length bs → size_of (entries_in (given (plain_item bs ∷ [])))
    ≡ length bs + 1
kept_size [] some = absurd (omega arith)
kept_size (b ∷ bs) some = rw (not_empty b bs) (one_size (length (b ∷ bs) + 1))

joined_size : (whole : List Entry) (text : List ℕ) → limit < length text
    → limit < size_of (whole ++ entries_in (given (one_item text)))
joined_size whole text long =
    let longer = uncut_length text in
    let kept = kept_size (flat_map uncut_byte text) (omega (arith, longer, long)) in
    omega (arith, size_of-append whole (entries_in (given (one_item text))), kept, longer, long)

too_long_at : (whole : List Entry) (text : List ℕ) (f : ExpandFault) (t : Bool)
    → ltb limit (length text) ≡ t
    → cond t (Err TooLong) (Ok text) ≡ Err f
    → if_small (whole ++ entries_in (given (one_item text))) ≡ Err f
too_long_at whole text f true long is =
    let size = size_of (whole ++ entries_in (given (one_item text))) in
    ap (λ t. cond t (Err TooLong) (Ok (whole ++ entries_in (given (one_item text)))))
    (lt-ltb limit size (joined_size whole text (ltb-true limit (length text) long))) ∙ cc
too_long_at whole text f false long is = cc

-- joined identities that are too long are no item
pub joined_too_long : (whole : List Entry) (none text : List ℕ) (f : ExpandFault) → none ≡ []
    → if_short (none ++ text) ≡ Err f → if_small (whole ++ entries_in (given (one_item text)))
    ≡ Err f
joined_too_long whole none text f none_is is =
    too_long_at whole text f (ltb limit (length text)) refl
    (ap (λ n. if_short (n ++ text)) (sym none_is) ∙ is)
