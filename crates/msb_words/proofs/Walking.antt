-- A parse of this command takes the words as they are taken in turn.
use Rattle.std.proofs.Common.{
  ◌≡◌,
  ℕ,
  List,
  [],
  ◌∷◌,
  Bool,
  true,
  false,
  Option,
  Some,
  None,
  refl,
  sym,
  ap,
  subst,
  ◌∙◌,
  true≢false,
}
use Rattle.std.specs.Prelude.{◌&&◌, ◌||◌, codes, fold, option_and_then}
use Rattle.std.specs.List.{list_all}
use Rattle.clap.specs.Lexer.{long_of}
use Rattle.clap.specs.Values.{bool_text}
use Rattle.clap.specs.Walk.{
  Row,
  Walk,
  finished,
  first_of,
  has_row,
  idle,
  one_of,
  settled_rows,
  walked,
  with_values,
  without,
}
use Rattle.clap.specs.Walk.{option as waits_for}
use Rattle.clap.specs.Kinds.{Kinds, or_else}
use Rattle.clap.specs.Faults.{settle_fault, turn_fault, walk_fault}
use Rattle.clap.specs.declared.builder.value_parser.Reading.TheVariants.{AsWritten}
use Rattle.clap.specs.declared.parser.matches.ValueSource.TheVariants.{CommandLine}
use Rattle.msb_words.specs.Given.{
  Given,
  Names,
  Taken,
  flagged,
  given_by,
  given_of,
  has,
  is_value,
  names_in,
  names_of,
  opened,
  option_of,
  taken_all,
  valued,
  with,
}
use Rattle.msb_words.specs.Words.{is_option_word, is_value_if, is_word}
use Rattle.msb_words.proofs.Cuts.{same_cut}
use Rattle.msb_words.proofs.Rows.{rows, flag_read, one_more, same_names}
use Rattle.msb_words.proofs.Steps.{
  Faulty,
  At,
  at_first,
  at_second,
  at_end,
  IsFlag,
  IsOption,
  Met,
  a_flag,
  an_option,
  unknown,
  which,
}
use Rattle.msb_words.proofs.Steps.{
  first_taken,
  second_taken,
  or_else_first,
  rules,
  shape,
  held,
  walk_at,
  known,
  known_flag,
  kept,
  kept_by_flag,
}
use Rattle.msb_words.proofs.Steps.{
  first_clean,
  first_goes,
  second_clean,
  second_goes,
  opens_clean,
  opens_goes,
  attached_clean,
  attached_goes,
  attached_again,
  value_clean,
  value_goes,
  value_pending,
  value_again,
  value_settled,
  value_missing,
}
use Rattle.msb_words.proofs.Steps.{flag_again, flag_bad, flag_clean, flag_goes, flag_valued}
use Rattle.msb_words.proofs.Steps.{
  long_fails,
  long_bad,
  alone_bad,
  third_fails,
  action_pending,
  action_settled,
  project_pending,
  project_settled,
}
use Rattle.msb_words.proofs.Endings.{
  ends,
  end_clean,
  end_rows,
  end_without_action,
  end_without_project,
  same_answer,
  no_action,
  no_project,
}

abbrev pub after : Walk → List (List ℕ) → Walk
after w words = fold (walked rules []) w words

abbrev pub found : Walk → List (List ℕ) → List Row
found w words = finished rules (after w words).held

abbrev pub faults : Walk → List (List ℕ) → Kinds
faults w words = or_else (walk_fault shape [] w words) (ends (after w words).held)

-- the names that the words give from here on
abbrev names_after : List (List ℕ) → Option (List ℕ) → Names → List (List ℕ) → Option Names
names_after places waiting names words =
    option_and_then names_of
    (taken_all (record { places = places; waiting = waiting; names = names }) words)

abbrev names_on : List (List ℕ) → Option Taken → Option Names
names_on words o = option_and_then names_of (option_and_then (λ more. taken_all more words) o)

-- what the names have
abbrev pub answer : Option Names → Option Given
answer o = option_and_then given_of o

-- what the rows have: the flag's value, and by it the whole
pub record Gives (rs : List Row) (given : Option Given) : Type 0 where
  pub clean : Bool
  pub flag : one_of (codes "clean") rs ≡ Some (bool_text clean)
  pub all : given_by (λ id. first_of id rs) clean ≡ given

-- without a fault the rows have what the names have, and with one there are no names
pub record Agrees (kinds : Kinds) (rs : List Row) (own : Option Names) : Type 0 where
  pub whole : kinds ≡ [] → Gives rs (answer own)
  pub fails : Faulty kinds → answer own ≡ None

no_fault : (kinds : Kinds) → kinds ≡ [] → Faulty kinds → ⊥
no_fault kinds none bad = subst Faulty none bad

disagrees : (kinds : Kinds) (rs : List Row) (own : Option Names) → Faulty kinds → answer own ≡ None
    → Agrees kinds rs own
disagrees kinds rs own bad none =
    record { whole = λ is. absurd (no_fault kinds is bad); fails = λ _. none }

-- one word more
module _ (w : Walk) (word : List ℕ) (words : List (List ℕ)) (own : Option Names) where
  goes : (next : Walk) → turn_fault shape [] w word ≡ [] → walked rules [] w word ≡ next
      → Agrees (faults next words) (found next words) own
      → Agrees (faults w (word ∷ words)) (found w (word ∷ words)) own
  unfolding walk_fault
  goes next clean is agrees = subst
      (λ n.
      Agrees
      (or_else (or_else (turn_fault shape [] w word) (walk_fault shape [] n words))
      (ends (after n words).held)) (found n words) own) (sym is)
      (subst
      (λ t.
      Agrees
      (or_else (or_else t (walk_fault shape [] next words)) (ends (after next words).held))
      (found next words) own) (sym clean) agrees)

  stops : Faulty (turn_fault shape [] w word) → own ≡ None
      → Agrees (faults w (word ∷ words)) (found w (word ∷ words)) own
  unfolding walk_fault
  stops bad none = disagrees _ _ own (or_else_first _ _ (or_else_first _ _ bad)) (ap answer none)

-- ---- words

data Word (word : List ℕ) : Type 0 where
  alone : is_value word ≡ true → Word word
  long : is_value word ≡ false → (cut : List ℕ × Option (List ℕ)) → option_of word ≡ Some cut
      → is_value_if cut.1 ≡ true → Word word

by_tests : (word : List ℕ) (b : Bool) (o : Option (List ℕ × Option (List ℕ))) → is_value word ≡ b
    → option_of word ≡ o → (b || is_option_word o) ≡ true → Word word
by_tests word true o v l good = alone v
by_tests word false None v l good = absurd (true≢false (sym good))
by_tests word false (Some cut) v l good = long v cut l good

word_of : (word : List ℕ) → is_word word ≡ true → Word word
word_of word good = by_tests word _ _ refl refl good

split_and : (a b : Bool) → (a && b) ≡ true → (a ≡ true) × (b ≡ true)
split_and true b is = (refl, is)
split_and false b is = absurd (true≢false (sym is))

-- what is pending is faulty, whatever follows
doomed : (words : List (List ℕ)) → list_all is_word words ≡ true
    → {position : ℕ} {places : List (List ℕ)} {names : Names} (rs : List Row)
    (pending : Option (List ℕ × List (List ℕ))) → At position places names
    → Faulty (settle_fault rules false (held rs pending))
    → Faulty (faults (walk_at rs pending idle position) words)
unfolding walk_fault
doomed [] good rs pending at bad = or_else_first _ _ bad
doomed (word ∷ words) good {position} rs pending at bad = or_else_first _ _
    (or_else_first _ _ (turn (word_of word (split_and _ _ good).0)))
  where
    long_turn : (cut : List ℕ × Option (List ℕ)) → long_of word ≡ Some cut → Met cut.0
        → Faulty (turn_fault shape [] (walk_at rs pending idle position) word)
    long_turn cut is (an_option o) = long_bad rs pending idle position word cut.1 o is refl bad
    long_turn cut is (a_flag f) = flag_bad rs pending idle position word cut.1 f is refl bad
    long_turn cut is (unknown o f none) = long_fails rs pending idle position word cut is none refl

    turn : Word word → Faulty (turn_fault shape [] (walk_at rs pending idle position) word)
    turn (alone v) = alone_bad rs pending word v bad at
    turn (long v cut is ok) = long_turn cut (same_cut word ∙ is) (which cut.0)

-- ---- the words in turn

-- nothing waits for a value
abbrev Idle : List (List ℕ) → Type 0
Idle words =
    (position : ℕ) (places : List (List ℕ)) (names : Names) (rs : List Row)
    (pending : Option (List ℕ × List (List ℕ))) → At position places names
    → settle_fault rules false (held rs pending) ≡ [] → settled_rows rules pending rs ≡ rows names
    → Agrees (faults (walk_at rs pending idle position) words)
    (found (walk_at rs pending idle position) words) (names_after places None names words)

-- an option waits for its value
abbrev Waits : List (List ℕ) → Type 0
Waits words =
    (position : ℕ) (places : List (List ℕ)) (names : Names) (name : List ℕ)
    → At position places names → IsOption name
    → Agrees (faults (walk_at (rows names) (Some (name, [])) (waits_for name) position) words)
    (found (walk_at (rows names) (Some (name, [])) (waits_for name) position) words)
    (names_after places (Some name) names words)

idle_end : Idle []
unfolding walk_fault taken_all
idle_end _ _ names rs pending (at_first a p f) clean are =
    disagrees _ _ _ (end_without_action (held rs pending) names clean are a) (no_action names a)
idle_end _ _ names rs pending (at_second a p f) clean are =
    disagrees _ _ _ (end_without_project (held rs pending) names clean are a p) (no_project names p)
idle_end _ _ names rs pending (at_end a p f) clean are = record {
  whole = λ _. let end = end_rows (held rs pending) names clean are in record {
    clean = has (codes "clean") names;
    flag = ap (one_of (codes "clean")) end ∙ flag_read names f;
    all = ap (λ r. given_by (λ id. first_of id r) (has (codes "clean") names)) end
        ∙ same_answer names (has (codes "clean") names);
  };
  fails = λ bad. absurd (no_fault _ (end_clean (held rs pending) names clean are a p) bad);
}

waits_end : Waits []
unfolding walk_fault taken_all
waits_end _ _ names name at o =
    disagrees _ _ _ (or_else_first _ _ (value_missing (rows names) o)) refl

module _ (word : List ℕ) (words : List (List ℕ)) (next_idle : Idle words) (next_waits : Waits words)
  where
    -- a word that stands alone
    idle_alone : is_value word ≡ true → Idle (word ∷ words)
    unfolding taken_all
    idle_alone v _ _ names rs pending (at_first a p f) clean are =
        rw (v)
        (goes _ word words _ _ (first_clean rs pending word v clean)
        (first_goes rs pending word v clean
        ∙ ap (λ r. walk_at r (Some (codes "action", word ∷ [])) idle 2) are)
        (next_idle _ _ _ (rows names) (Some (codes "action", word ∷ []))
        (first_taken names word p f)
        (action_pending (rows names) word (same_names (codes "action") names ∙ a))
        (action_settled (rows names) word ∙ one_more (codes "action") word names a)))
    idle_alone v _ _ names rs pending (at_second a p f) clean are =
        rw (v)
        (goes _ word words _ _ (second_clean rs pending word v clean)
        (second_goes rs pending word v clean
        ∙ ap (λ r. walk_at r (Some (codes "project", word ∷ [])) idle 3) are)
        (next_idle _ _ _ (rows names) (Some (codes "project", word ∷ []))
        (second_taken names word a f)
        (project_pending (rows names) word (same_names (codes "project") names ∙ p))
        (project_settled (rows names) word ∙ one_more (codes "project") word names p)))
    idle_alone v _ _ names rs pending (at_end a p f) clean are =
        rw (v) (stops _ word words _ (third_fails rs pending word v) refl)

    -- an option with its value behind `=`
    attached : {position : ℕ} {places : List (List ℕ)} {names : Names} (rs : List Row)
        (pending : Option (List ℕ × List (List ℕ))) (name value : List ℕ) (b : Bool)
        → At position places names
        → settle_fault rules false (held rs pending) ≡ []
        → settled_rows rules pending rs ≡ rows names
        → IsOption name → long_of word ≡ Some (name, Some value) → is_value value ≡ true
        → has name names ≡ b
        → Agrees (faults (walk_at rs pending idle position) (word ∷ words))
        (found (walk_at rs pending idle position) (word ∷ words))
        (names_on words (valued places names name value))
    attached {position} {places} {names} rs pending name value true at clean are o is ok old =
        rw (ok, old)
        (stops _ word words _
        (attached_again rs pending position word clean o is
        (ap (has_row name) are ∙ same_names name names ∙ old)) refl)
    attached {position} {places} {names} rs pending name value false at clean are o is ok new =
        rw (ok, new)
        (goes _ word words _ _
        (attached_clean rs pending position word clean o is
        (ap (has_row name) are ∙ same_names name names ∙ new))
        (attached_goes rs pending position word clean o is
        ∙ ap
        (λ r. walk_at (with_values name AsWritten CommandLine (value ∷ []) (without name r)) None
        idle position) are
        ∙ ap (λ r. walk_at r None idle position) (one_more name value names new))
        (next_idle _ _ _ (rows (with name value names)) None (kept name value o at) refl refl))

    opened_idle : {position : ℕ} {places : List (List ℕ)} {names : Names} (rs : List Row)
        (pending : Option (List ℕ × List (List ℕ))) (name : List ℕ) (value : Option (List ℕ))
        → At position places names
        → settle_fault rules false (held rs pending) ≡ []
        → settled_rows rules pending rs ≡ rows names
        → IsOption name → long_of word ≡ Some (name, value) → is_value_if value ≡ true
        → Agrees (faults (walk_at rs pending idle position) (word ∷ words))
        (found (walk_at rs pending idle position) (word ∷ words))
        (names_on words (opened places names name value))
    opened_idle {position} {places} {names} rs pending name None at clean are o is ok =
        goes _ word words _ _ (opens_clean rs pending position word clean o is)
        (opens_goes rs pending position word clean o is
        ∙ ap (λ r. walk_at r (Some (name, [])) (waits_for name) position) are)
        (next_waits _ _ _ name at o)
    opened_idle {position} {places} {names} rs pending name (Some value) at clean are o is ok =
        attached rs pending name value (has name names) at clean are o is ok refl

    -- a flag, which comes once
    flag_alone : {position : ℕ} {places : List (List ℕ)} {names : Names} (rs : List Row)
        (pending : Option (List ℕ × List (List ℕ))) (name : List ℕ) (b : Bool)
        → At position places names
        → settle_fault rules false (held rs pending) ≡ []
        → settled_rows rules pending rs ≡ rows names
        → IsFlag name → long_of word ≡ Some (name, None) → has name names ≡ b
        → Agrees (faults (walk_at rs pending idle position) (word ∷ words))
        (found (walk_at rs pending idle position) (word ∷ words))
        (names_on words (flagged places names name None))
    flag_alone {position} {places} {names} rs pending name true at clean are f is old =
        rw (old)
        (stops _ word words _
        (flag_again rs pending position word clean f is
        (ap (has_row name) are ∙ same_names name names ∙ old)) refl)
    flag_alone {position} {places} {names} rs pending name false at clean are f is new =
        rw (new)
        (goes _ word words _ _
        (flag_clean rs pending position word clean f is
        (ap (has_row name) are ∙ same_names name names ∙ new))
        (flag_goes rs pending position word clean f is
        ∙ ap (λ r.
        walk_at (with_values name AsWritten CommandLine (codes "true" ∷ []) (without name r)) None
        idle position) are
        ∙ ap (λ r. walk_at r None idle position) (one_more name (codes "true") names new))
        (next_idle _ _ _ (rows (with name (codes "true") names)) None (kept_by_flag f new at) refl
        refl))

    flag_idle : {position : ℕ} {places : List (List ℕ)} {names : Names} (rs : List Row)
        (pending : Option (List ℕ × List (List ℕ))) (name : List ℕ) (value : Option (List ℕ))
        → At position places names
        → settle_fault rules false (held rs pending) ≡ []
        → settled_rows rules pending rs ≡ rows names
        → IsFlag name → long_of word ≡ Some (name, value)
        → Agrees (faults (walk_at rs pending idle position) (word ∷ words))
        (found (walk_at rs pending idle position) (word ∷ words))
        (names_on words (flagged places names name value))
    flag_idle {position} {places} {names} rs pending name None at clean are f is =
        flag_alone rs pending name (has name names) at clean are f is refl
    flag_idle {position} {places} {names} rs pending name (Some value) at clean are f is =
        stops _ word words _ (flag_valued rs pending position word f is) refl

    idle_long : (cut : List ℕ × Option (List ℕ)) → is_value word ≡ false → option_of word ≡ Some cut
        → is_value_if cut.1 ≡ true → Met cut.0 → Idle (word ∷ words)
    unfolding taken_all
    idle_long cut v is ok (an_option o) position places names rs pending at clean are = rw
        (v, is, known o) (opened_idle rs pending cut.0 cut.1 at clean are o (same_cut word ∙ is) ok)
    idle_long cut v is ok (a_flag f) position places names rs pending at clean are =
        rw (v, is, (known_flag f).0, (known_flag f).1)
        (flag_idle rs pending cut.0 cut.1 at clean are f (same_cut word ∙ is))
    idle_long cut v is ok (unknown o f none) position places names rs pending at clean are =
        rw (v, is, o, f)
        (stops _ word words _
        (long_fails rs pending idle position word cut (same_cut word ∙ is) none refl) refl)

    -- the value of an option that waits
    waits_alone : list_all is_word words ≡ true → is_value word ≡ true
        → {position : ℕ} {places : List (List ℕ)} {names : Names} (name : List ℕ) (b : Bool)
        → At position places names → IsOption name → has name names ≡ b
        → Agrees
        (faults (walk_at (rows names) (Some (name, [])) (waits_for name) position) (word ∷ words))
        (found (walk_at (rows names) (Some (name, [])) (waits_for name) position) (word ∷ words))
        (names_on words (valued places names name word))
    waits_alone good v {position} {places} {names} name true at o old =
        rw (v, old)
        (goes _ word words _ _ (value_clean (rows names) position word v name)
        (value_goes (rows names) position word v o)
        (disagrees _ _ _
        (doomed words good (rows names) (Some (name, word ∷ [])) at
        (value_again (rows names) word o (same_names name names ∙ old))) refl))
    waits_alone good v {position} {places} {names} name false at o new =
        rw (v, new)
        (goes _ word words _ _ (value_clean (rows names) position word v name)
        (value_goes (rows names) position word v o)
        (next_idle _ _ _ (rows names) (Some (name, word ∷ [])) (kept name word o at)
        (value_pending (rows names) word o (same_names name names ∙ new))
        (value_settled (rows names) word o ∙ one_more name word names new)))

    waits_long : (cut : List ℕ × Option (List ℕ)) → is_value word ≡ false → long_of word ≡ Some cut
        → Met cut.0 → Waits (word ∷ words)
    unfolding taken_all
    waits_long cut v is (an_option other) position places names name at o =
        rw (v)
        (stops _ word words _
        (long_bad (rows names) (Some (name, [])) (waits_for name) position word cut.1 other is
        refl (value_missing (rows names) o)) refl)
    waits_long cut v is (a_flag f) position places names name at o =
        rw (v)
        (stops _ word words _
        (flag_bad (rows names) (Some (name, [])) (waits_for name) position word cut.1 f is refl
        (value_missing (rows names) o)) refl)
    waits_long cut v is (unknown other f none) position places names name at o =
        rw (v)
        (stops _ word words _
        (long_fails (rows names) (Some (name, [])) (waits_for name) position word cut is none
        refl) refl)

    idle_word : Word word → Idle (word ∷ words)
    idle_word (alone v) = idle_alone v
    idle_word (long v cut is ok) = idle_long cut v is ok (which cut.0)

    waits_word : list_all is_word words ≡ true → Word word → Waits (word ∷ words)
    unfolding taken_all
    waits_word good (alone v) position places names name at o =
        waits_alone good v name (has name names) at o refl
    waits_word good (long v cut is ok) position places names name at o =
        waits_long cut v (same_cut word ∙ is) (which cut.0) position places names name at o

both : (words : List (List ℕ)) → list_all is_word words ≡ true → Idle words × Waits words
both [] good = (idle_end, waits_end)
both (word ∷ words) good =
    let p = split_and (is_word word) (list_all is_word words) good in
    let next = both words p.1 in (
      idle_word word words next.0 next.1 (word_of word p.0),
      waits_word word words next.0 next.1 p.1
          (word_of word p.0),
    )

-- a parse from nothing
pub from_nothing : (words : List (List ℕ)) → list_all is_word words ≡ true
    → Agrees (faults (walk_at [] None idle 1) words) (found (walk_at [] None idle 1) words)
    (names_in words)
from_nothing words good =
    (both words good).0 _ _ [] [] None
    (at_first refl refl (λ there. absurd (true≢false (sym there)))) refl refl
