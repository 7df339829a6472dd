-- Words that are neither values nor options are not taken.
use Rattle.std.proofs.Common.{
  ap,
  ◌≡◌,
  ℕ,
  List,
  [],
  ◌∷◌,
  Bool,
  true,
  false,
  cond,
  Option,
  Some,
  None,
  refl,
  true≢false,
}
use Rattle.std.specs.Prelude.{option_and_then, ◌&&◌}
use Rattle.std.specs.List.{list_all}
use Rattle.msb_words.specs.Given.{
  Names,
  Taken,
  flagged,
  is_flag,
  is_option,
  is_value,
  opened,
  option_of,
  optioned,
  taken,
  taken_all,
}
use Rattle.msb_words.specs.Words.{is_option_word, is_value_if, is_word}
use Rattle.msb_words.proofs.Rows.{split_or}

no_choice : (b : Bool) (o p : Option Taken) → o ≡ None → p ≡ None → cond b o p ≡ None
no_choice true o p none other = none
no_choice false o p none other = other

-- an option whose value is none
bad_opening : (places : List (List ℕ)) (names : Names) (name : List ℕ) (value : Option (List ℕ))
    → is_value_if value ≡ false → opened places names name value ≡ None
bad_opening places names name None bad = absurd (true≢false bad)
bad_opening places names name (Some value) bad = rw (bad) refl

bad_flag : (places : List (List ℕ)) (names : Names) (name : List ℕ) (value : Option (List ℕ))
    → is_value_if value ≡ false → flagged places names name value ≡ None
bad_flag places names name None bad = absurd (true≢false bad)
bad_flag places names name (Some value) bad = refl

bad_option : (places : List (List ℕ)) (names : Names) (cut : Option (List ℕ × Option (List ℕ)))
    → is_option_word cut ≡ false → optioned places names cut ≡ None
bad_option places names None bad = refl
bad_option places names (Some cut) bad =
    no_choice (is_option cut.0) _ _ (bad_opening places names cut.0 cut.1 bad)
    (no_choice (is_flag cut.0) _ _ (bad_flag places names cut.0 cut.1 bad) refl)

-- a word that is neither
bad_word : (word : List ℕ) → is_word word ≡ false
    → (places : List (List ℕ)) (waiting : Option (List ℕ)) (names : Names)
    → taken places waiting names word ≡ None
bad_word word bad places None names =
    let p = split_or (is_value word) (is_option_word (option_of word)) bad in
    rw (p.0) (bad_option places names (option_of word) p.1)
bad_word word bad places (Some name) names =
    let p = split_or (is_value word) (is_option_word (option_of word)) bad in
    rw (p.0) refl

goes_on : (words : List (List ℕ)) (o : Option Taken) → ((t : Taken) → taken_all t words ≡ None)
    → option_and_then (λ more. taken_all more words) o ≡ None
goes_on words None none = refl
goes_on words (Some t) none = none t

by_test : (words : List (List ℕ)) (word : List ℕ) (b : Bool) → is_word word ≡ b
    → (b && list_all is_word words) ≡ false
    → (list_all is_word words ≡ false → (t : Taken) → taken_all t words ≡ None) → (t : Taken)
    → taken_all t (word ∷ words) ≡ None
unfolding taken_all
by_test words word true is bad later t = goes_on words _ (later bad)
by_test words word false is bad later t =
    ap (option_and_then (λ more. taken_all more words))
    (bad_word word is t.places t.waiting t.names)

pub none_taken : (words : List (List ℕ)) → list_all is_word words ≡ false → (t : Taken)
    → taken_all t words ≡ None
none_taken [] bad = absurd (true≢false bad)
none_taken (word ∷ words) bad = by_test words word (is_word word) refl bad (none_taken words)
