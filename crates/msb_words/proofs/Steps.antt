-- The steps of a parse of this command.
use Rattle.std.proofs.Common.{
  ◌≡◌,
  ℕ,
  List,
  [],
  ◌∷◌,
  Bool,
  true,
  false,
  Option,
  Some,
  None,
  refl,
  sym,
  ap,
  subst,
  ◌∙◌,
  true≢false,
}
use Rattle.std.specs.Prelude.{◌&&◌, codes, is_some, not}
use Rattle.std.specs.Option.{option_map_or}
use Rattle.std.specs.Str.{bytes_eq}
use Rattle.std.proofs.lemmas.Slice.Eq.{bytes_eq-Decides}
use Rattle.clap.specs.Lexer.{long_of, short_of}
use Rattle.clap.specs.Walk.{
  Held,
  Row,
  Rule,
  Waiting,
  Walk,
  arg_by_long,
  has_row,
  idle,
  subcommand_met,
  with_values,
  without,
  settled_rows,
  walked,
}
use Rattle.clap.specs.Walk.{option as waits_for}
use Rattle.clap.specs.Simple.{Shape, built}
use Rattle.clap.specs.Kinds.{Kinds, or_else}
use Rattle.clap.specs.Faults.{settle_fault, turn_fault}
use Rattle.clap.specs.declared.builder.value_parser.Reading.TheVariants.{AsWritten}
use Rattle.clap.specs.declared.parser.matches.ValueSource.TheVariants.{CommandLine}
use Rattle.msb_words.specs.Grammar.{grammar}
use Rattle.msb_words.specs.Given.{Names, has, is_flag, is_option, is_value, with}
use Rattle.msb_words.proofs.Rows.{FlagIsTrue, flag_added, flag_kept, other_name, own_name}

abbrev pub shape : Shape
shape = (built grammar).top

abbrev pub rules : List Rule
rules = shape.rules

abbrev pub held : List Row → Option (List ℕ × List (List ℕ)) → Held
held rs pending = record { rows = rs; pending = pending; skip = 0 }

abbrev pub walk_at : List Row → Option (List ℕ × List (List ℕ)) → Waiting → ℕ → Walk
walk_at rs pending waiting position = record {
  held = held rs pending;
  waiting = waiting;
  position = position;
  is_trailing = false;
  stopped =
      None;
}

-- there is a fault
abbrev pub Faulty : Kinds → Type 0
Faulty [] = ⊥
Faulty (k ∷ ks) = Unit {0}

pub or_else_first : (a b : Kinds) → Faulty a → Faulty (or_else a b)
or_else_first [] b bad = absurd bad
or_else_first (k ∷ ks) b bad = tt

pub or_else_then : (a b : Kinds) → a ≡ [] → Faulty b → Faulty (or_else a b)
or_else_then a b none bad = rw (none) bad

pub none_else : (a b : Kinds) → a ≡ [] → b ≡ [] → or_else a b ≡ []
none_else a b none is = rw (none) is

-- ---- words

pub same_text : (a b : List ℕ) → bytes_eq a b ≡ true → a ≡ b
same_text a b is = (bytes_eq-Decides a b).0 is

-- a word of which this test fails at `--` is not `--`
other_word : (word : List ℕ) (test : List ℕ → Bool) → test (codes "--") ≡ false → test word ≡ true
    → (b : Bool) → bytes_eq word (codes "--") ≡ b → b ≡ false
other_word word test at_hyphens at_word true is = absurd
    (true≢false (sym at_word ∙ ap test (same_text word (codes "--") is) ∙ at_hyphens))
other_word word test at_hyphens at_word false is = refl

pub not_hyphens : (word : List ℕ) (test : List ℕ → Bool) → test (codes "--") ≡ false
    → test word ≡ true → bytes_eq word (codes "--") ≡ false
not_hyphens word test at_hyphens at_word = other_word word test at_hyphens at_word _ refl

not_true : (b : Bool) → not b ≡ true → b ≡ false
not_true true is = absurd (true≢false (sym is))
not_true false is = refl

pub value_word : (word : List ℕ) → is_value word ≡ true
    → (bytes_eq word (codes "--") ≡ false) × (long_of word ≡ None) × (short_of word ≡ None)
value_word [] good = absurd (true≢false (sym good))
value_word (b ∷ bs) good =
    let e = not_true _ good in
    (not_hyphens (b ∷ bs) is_value refl good, rw (e) refl, rw (e) refl)

pub long_word : (word : List ℕ) (cut : List ℕ × Option (List ℕ)) → long_of word ≡ Some cut
    → bytes_eq word (codes "--") ≡ false
long_word word cut is = not_hyphens word (λ w. is_some (long_of w)) refl (ap is_some is)

-- ---- options

pub data IsOption : List ℕ → Type 0 where
  is_target : IsOption (codes "target")
  is_property : IsOption (codes "property")
  is_nodes : IsOption (codes "nodes")
  is_show : IsOption (codes "show")
  is_size : IsOption (codes "size")

pub data IsFlag : List ℕ → Type 0 where
  is_clean : IsFlag (codes "clean")

pub data Met : List ℕ → Type 0 where
  an_option : {name : List ℕ} → IsOption name → Met name
  a_flag : {name : List ℕ} → IsFlag name → Met name
  unknown : {name : List ℕ} → is_option name ≡ false → is_flag name ≡ false
      → arg_by_long rules name ≡ None → Met name

named : (name : List ℕ) (b c d e f g : Bool) → bytes_eq (codes "target") name ≡ b
    → bytes_eq (codes "property") name ≡ c → bytes_eq (codes "nodes") name ≡ d
    → bytes_eq (codes "show") name ≡ e
    → bytes_eq (codes "size") name ≡ f → bytes_eq (codes "clean") name ≡ g → Met name
named name true c d e f g t p n s z l =
    an_option (subst IsOption (same_text (codes "target") name t) is_target)
named name false true d e f g t p n s z l =
    an_option (subst IsOption (same_text (codes "property") name p) is_property)
named name false false true e f g t p n s z l =
    an_option (subst IsOption (same_text (codes "nodes") name n) is_nodes)
named name false false false true f g t p n s z l =
    an_option (subst IsOption (same_text (codes "show") name s) is_show)
named name false false false false true g t p n s z l =
    an_option (subst IsOption (same_text (codes "size") name z) is_size)
named name false false false false false true t p n s z l =
    a_flag (subst IsFlag (same_text (codes "clean") name l) is_clean)
named name false false false false false false t p n s z l =
    unknown (rw (t, p, n, s, z) refl) l (rw (t, p, n, s, z, l) refl)

pub which : (name : List ℕ) → Met name
which name = named name _ _ _ _ _ _ refl refl refl refl refl refl

pub known : {name : List ℕ} → IsOption name → is_option name ≡ true
known is_target = refl
known is_property = refl
known is_nodes = refl
known is_show = refl
known is_size = refl

pub known_flag : {name : List ℕ} → IsFlag name → (is_option name ≡ false) × (is_flag name ≡ true)
known_flag is_clean = (refl, refl)

record TakesNoPlace (name : List ℕ) : Type 0 where
  action : bytes_eq name (codes "action") ≡ false
  project : bytes_eq name (codes "project") ≡ false

no_place : {name : List ℕ} → IsOption name → TakesNoPlace name
no_place is_target = record { action = refl; project = refl }
no_place is_property = record { action = refl; project = refl }
no_place is_nodes = record { action = refl; project = refl }
no_place is_show = record { action = refl; project = refl }
no_place is_size = record { action = refl; project = refl }

no_flag : {name : List ℕ} → IsOption name → bytes_eq name (codes "clean") ≡ false
no_flag is_target = refl
no_flag is_property = refl
no_flag is_nodes = refl
no_flag is_show = refl
no_flag is_size = refl

-- ---- places

-- how many words stand alone so far, and which places are left
pub data At : ℕ → List (List ℕ) → Names → Type 0 where
  at_first : {names : Names} → has (codes "action") names ≡ false
      → has (codes "project") names ≡ false → FlagIsTrue names
      → At 1 (codes "action" ∷ codes "project" ∷ []) names
  at_second : {names : Names} → has (codes "action") names ≡ true
      → has (codes "project") names ≡ false → FlagIsTrue names → At 2 (codes "project" ∷ []) names
  at_end : {names : Names} → has (codes "action") names ≡ true → has (codes "project") names ≡ true
      → FlagIsTrue names → At 3 [] names

stays : {position : ℕ} {places : List (List ℕ)} {names : Names} (name value : List ℕ)
    → TakesNoPlace name → FlagIsTrue (with name value names) → At position places names
    → At position places (with name value names)
stays {position} {places} {names} name value d g (at_first a p f) =
    at_first (other_name (codes "action") name value names d.action ∙ a)
    (other_name (codes "project") name value names d.project ∙ p) g
stays {position} {places} {names} name value d g (at_second a p f) =
    at_second (other_name (codes "action") name value names d.action ∙ a)
    (other_name (codes "project") name value names d.project ∙ p) g
stays {position} {places} {names} name value d g (at_end a p f) =
    at_end (other_name (codes "action") name value names d.action ∙ a)
    (other_name (codes "project") name value names d.project ∙ p) g

flags_so_far : {position : ℕ} {places : List (List ℕ)} {names : Names} → At position places names
    → FlagIsTrue names
flags_so_far (at_first a p f) = f
flags_so_far (at_second a p f) = f
flags_so_far (at_end a p f) = f

-- an option takes no place, and a flag takes none
pub kept : {position : ℕ} {places : List (List ℕ)} {names : Names} (name value : List ℕ)
    → IsOption name → At position places names → At position places (with name value names)
kept {position} {places} {names} name value o at =
    stays name value (no_place o) (flag_kept name value names (no_flag o) (flags_so_far at)) at

pub kept_by_flag : {position : ℕ} {places : List (List ℕ)} {names : Names} {name : List ℕ}
    → IsFlag name → has name names ≡ false → At position places names
    → At position places (with name (codes "true") names)
kept_by_flag {position} {places} {names} is_clean new at =
    stays (codes "clean") (codes "true")
    (record { action = refl; project = refl }) (flag_added names new) at

-- a word that stands alone takes the first place
pub first_taken : (names : Names) (word : List ℕ) → has (codes "project") names ≡ false
    → FlagIsTrue names → At 2 (codes "project" ∷ []) (with (codes "action") word names)
first_taken names word p f =
    at_second (own_name (codes "action") word names refl)
    (other_name (codes "project") (codes "action") word names refl ∙ p)
    (flag_kept (codes "action") word names refl f)

pub second_taken : (names : Names) (word : List ℕ) → has (codes "action") names ≡ true
    → FlagIsTrue names → At 3 [] (with (codes "project") word names)
second_taken names word a f =
    at_end (other_name (codes "action") (codes "project") word names refl ∙ a)
    (own_name (codes "project") word names refl) (flag_kept (codes "project") word names refl f)

-- ---- turns

and_false : (b : Bool) → (b && false) ≡ false
and_false true = refl
and_false false = refl

-- a word that stands alone, at the first and the second place
module _ (rs : List Row) (pending : Option (List ℕ × List (List ℕ))) (word : List ℕ)
    (good : is_value word ≡ true) (clean : settle_fault rules false (held rs pending) ≡ []) where
  pub first_clean : turn_fault shape [] (walk_at rs pending idle 1) word ≡ []
  first_clean = let w = value_word word good in rw
      (w.0, w.1, w.2, and_false (option_map_or (λ q. bytes_eq q.0 (codes "action")) pending false))
      clean

  pub second_clean : turn_fault shape [] (walk_at rs pending idle 2) word ≡ []
  second_clean = let w = value_word word good in rw
      (w.0, w.1, w.2, and_false (option_map_or (λ q. bytes_eq q.0 (codes "project")) pending false))
      clean

  pub first_goes : walked rules [] (walk_at rs pending idle 1) word
      ≡ walk_at (settled_rows rules pending rs) (Some (codes "action", word ∷ [])) idle 2
  unfolding walked
  first_goes = let w = value_word word good in rw
      (w.0, w.1, w.2, and_false (option_map_or (λ q. bytes_eq q.0 (codes "action")) pending false))
      refl

  pub second_goes : walked rules [] (walk_at rs pending idle 2) word
      ≡ walk_at (settled_rows rules pending rs) (Some (codes "project", word ∷ [])) idle 3
  unfolding walked
  second_goes = let w = value_word word good in rw
      (w.0, w.1, w.2, and_false (option_map_or (λ q. bytes_eq q.0 (codes "project")) pending false))
      refl

-- an option that waits for the next word, or has the value behind its `=`
module _ (rs : List Row) (pending : Option (List ℕ × List (List ℕ))) (position : ℕ) (word : List ℕ)
    (clean : settle_fault rules false (held rs pending) ≡ []) where
  pub opens_clean : {name : List ℕ} → IsOption name → long_of word ≡ Some (name, None)
      → turn_fault shape [] (walk_at rs pending idle position) word ≡ []
  opens_clean is_target is = rw (long_word word _ is, is) (none_else _ [] clean refl)
  opens_clean is_property is = rw (long_word word _ is, is) (none_else _ [] clean refl)
  opens_clean is_nodes is = rw (long_word word _ is, is) (none_else _ [] clean refl)
  opens_clean is_show is = rw (long_word word _ is, is) (none_else _ [] clean refl)
  opens_clean is_size is = rw (long_word word _ is, is) (none_else _ [] clean refl)

  pub opens_goes : {name : List ℕ} → IsOption name → long_of word ≡ Some (name, None)
      → walked rules [] (walk_at rs pending idle position) word
      ≡ walk_at (settled_rows rules pending rs) (Some (name, [])) (waits_for name) position
  unfolding walked
  opens_goes is_target is = rw (long_word word _ is, is) refl
  opens_goes is_property is = rw (long_word word _ is, is) refl
  opens_goes is_nodes is = rw (long_word word _ is, is) refl
  opens_goes is_show is = rw (long_word word _ is, is) refl
  opens_goes is_size is = rw (long_word word _ is, is) refl

  pub attached_clean : {name value : List ℕ} → IsOption name
      → long_of word ≡ Some (name, Some value)
      → has_row name (settled_rows rules pending rs) ≡ false
      → turn_fault shape [] (walk_at rs pending idle position) word ≡ []
  attached_clean is_target is new =
      rw (long_word word _ is, is) (none_else _ [] (none_else _ _ clean (rw (new) refl)) refl)
  attached_clean is_property is new =
      rw (long_word word _ is, is) (none_else _ [] (none_else _ _ clean (rw (new) refl)) refl)
  attached_clean is_nodes is new =
      rw (long_word word _ is, is) (none_else _ [] (none_else _ _ clean (rw (new) refl)) refl)
  attached_clean is_show is new =
      rw (long_word word _ is, is) (none_else _ [] (none_else _ _ clean (rw (new) refl)) refl)
  attached_clean is_size is new =
      rw (long_word word _ is, is) (none_else _ [] (none_else _ _ clean (rw (new) refl)) refl)

  pub attached_goes : {name value : List ℕ} → IsOption name → long_of word ≡ Some (name, Some value)
      → walked rules [] (walk_at rs pending idle position) word
      ≡ walk_at
      (with_values name AsWritten CommandLine (value ∷ [])
      (without name (settled_rows rules pending rs))) None idle position
  unfolding walked
  attached_goes is_target is = rw (long_word word _ is, is) refl
  attached_goes is_property is = rw (long_word word _ is, is) refl
  attached_goes is_nodes is = rw (long_word word _ is, is) refl
  attached_goes is_show is = rw (long_word word _ is, is) refl
  attached_goes is_size is = rw (long_word word _ is, is) refl

  pub attached_again : {name value : List ℕ} → IsOption name
      → long_of word ≡ Some (name, Some value) → has_row name (settled_rows rules pending rs) ≡ true
      → Faulty (turn_fault shape [] (walk_at rs pending idle position) word)
  attached_again is_target is old =
      rw (long_word word _ is, is) (or_else_first _ [] (or_else_then _ _ clean (rw (old) tt)))
  attached_again is_property is old =
      rw (long_word word _ is, is) (or_else_first _ [] (or_else_then _ _ clean (rw (old) tt)))
  attached_again is_nodes is old =
      rw (long_word word _ is, is) (or_else_first _ [] (or_else_then _ _ clean (rw (old) tt)))
  attached_again is_show is old =
      rw (long_word word _ is, is) (or_else_first _ [] (or_else_then _ _ clean (rw (old) tt)))
  attached_again is_size is old =
      rw (long_word word _ is, is) (or_else_first _ [] (or_else_then _ _ clean (rw (old) tt)))

  -- the flag
  pub flag_clean : {name : List ℕ} → IsFlag name → long_of word ≡ Some (name, None)
      → has_row name (settled_rows rules pending rs) ≡ false
      → turn_fault shape [] (walk_at rs pending idle position) word ≡ []
  flag_clean is_clean is new =
      rw (long_word word _ is, is) (none_else _ [] (none_else _ _ clean (rw (new) refl)) refl)

  pub flag_goes : {name : List ℕ} → IsFlag name → long_of word ≡ Some (name, None)
      → walked rules [] (walk_at rs pending idle position) word
      ≡ walk_at
      (with_values name AsWritten CommandLine (codes "true" ∷ [])
      (without name (settled_rows rules pending rs))) None idle position
  unfolding walked
  flag_goes is_clean is = rw (long_word word _ is, is) refl

  pub flag_again : {name : List ℕ} → IsFlag name → long_of word ≡ Some (name, None)
      → has_row name (settled_rows rules pending rs) ≡ true
      → Faulty (turn_fault shape [] (walk_at rs pending idle position) word)
  flag_again is_clean is old =
      rw (long_word word _ is, is) (or_else_first _ [] (or_else_then _ _ clean (rw (old) tt)))

-- a flag with a value
pub flag_valued : (rs : List Row) (pending : Option (List ℕ × List (List ℕ))) (position : ℕ)
    (word : List ℕ) {name value : List ℕ} → IsFlag name → long_of word ≡ Some (name, Some value)
    → Faulty (turn_fault shape [] (walk_at rs pending idle position) word)
flag_valued rs pending position word is_clean is = rw (long_word word _ is, is) tt

-- the value of an option that waits
module _ (rs : List Row) (position : ℕ) (word : List ℕ) (good : is_value word ≡ true) where
  pub value_clean : (name : List ℕ)
      → turn_fault shape [] (walk_at rs (Some (name, [])) (waits_for name) position) word ≡ []
  value_clean name = let w = value_word word good in rw (w.0, w.1, w.2) refl

  pub value_goes : {name : List ℕ} → IsOption name
      → walked rules [] (walk_at rs (Some (name, [])) (waits_for name) position) word
      ≡ walk_at rs (Some (name, word ∷ [])) idle position
  unfolding walked
  value_goes is_target = let w = value_word word good in rw (w.0, w.1, w.2) refl
  value_goes is_property = let w = value_word word good in rw (w.0, w.1, w.2) refl
  value_goes is_nodes = let w = value_word word good in rw (w.0, w.1, w.2) refl
  value_goes is_show = let w = value_word word good in rw (w.0, w.1, w.2) refl
  value_goes is_size = let w = value_word word good in rw (w.0, w.1, w.2) refl

-- what is pending after a value, before it is settled
pub value_pending : {name : List ℕ} (rs : List Row) (word : List ℕ) → IsOption name
    → has_row name rs ≡ false → settle_fault rules false (held rs (Some (name, word ∷ []))) ≡ []
value_pending rs word is_target new = rw (new) refl
value_pending rs word is_property new = rw (new) refl
value_pending rs word is_nodes new = rw (new) refl
value_pending rs word is_show new = rw (new) refl
value_pending rs word is_size new = rw (new) refl

pub value_again : {name : List ℕ} (rs : List Row) (word : List ℕ) → IsOption name
    → has_row name rs ≡ true → Faulty (settle_fault rules false (held rs (Some (name, word ∷ []))))
value_again rs word is_target old = rw (old) tt
value_again rs word is_property old = rw (old) tt
value_again rs word is_nodes old = rw (old) tt
value_again rs word is_show old = rw (old) tt
value_again rs word is_size old = rw (old) tt

pub value_settled : {name : List ℕ} (rs : List Row) (word : List ℕ) → IsOption name
    → settled_rows rules (Some (name, word ∷ [])) rs
    ≡ with_values name AsWritten CommandLine (word ∷ []) (without name rs)
value_settled rs word is_target = refl
value_settled rs word is_property = refl
value_settled rs word is_nodes = refl
value_settled rs word is_show = refl
value_settled rs word is_size = refl

pub value_missing : {name : List ℕ} (rs : List Row) → IsOption name
    → Faulty (settle_fault rules false (held rs (Some (name, []))))
value_missing rs is_target = tt
value_missing rs is_property = tt
value_missing rs is_nodes = tt
value_missing rs is_show = tt
value_missing rs is_size = tt

-- ---- what is pending is faulty

-- an unknown option, or one that settles what is pending
pub long_fails : (rs : List Row) (pending : Option (List ℕ × List (List ℕ))) (waiting : Waiting)
    (position : ℕ) (word : List ℕ) (cut : List ℕ × Option (List ℕ)) → long_of word ≡ Some cut
    → arg_by_long rules cut.0 ≡ None → subcommand_met [] waiting word ≡ None
    → Faulty (turn_fault shape [] (walk_at rs pending waiting position) word)
long_fails rs pending waiting position word cut is no_rule none =
    rw (none, long_word word cut is, is, no_rule) tt

pub long_bad : {name : List ℕ} (rs : List Row) (pending : Option (List ℕ × List (List ℕ)))
    (waiting : Waiting) (position : ℕ) (word : List ℕ) (value : Option (List ℕ)) → IsOption name
    → long_of word ≡ Some (name, value)
    → subcommand_met [] waiting word ≡ None → Faulty (settle_fault rules false (held rs pending))
    → Faulty (turn_fault shape [] (walk_at rs pending waiting position) word)
long_bad rs pending waiting position word None is_target is none bad =
    rw (none, long_word word _ is, is) (or_else_first _ _ bad)
long_bad rs pending waiting position word None is_property is none bad =
    rw (none, long_word word _ is, is) (or_else_first _ _ bad)
long_bad rs pending waiting position word None is_nodes is none bad =
    rw (none, long_word word _ is, is) (or_else_first _ _ bad)
long_bad rs pending waiting position word None is_show is none bad =
    rw (none, long_word word _ is, is) (or_else_first _ _ bad)
long_bad rs pending waiting position word None is_size is none bad =
    rw (none, long_word word _ is, is) (or_else_first _ _ bad)
long_bad rs pending waiting position word (Some value) is_target is none bad =
    rw (none, long_word word _ is, is) (or_else_first _ _ (or_else_first _ _ bad))
long_bad rs pending waiting position word (Some value) is_property is none bad =
    rw (none, long_word word _ is, is) (or_else_first _ _ (or_else_first _ _ bad))
long_bad rs pending waiting position word (Some value) is_nodes is none bad =
    rw (none, long_word word _ is, is) (or_else_first _ _ (or_else_first _ _ bad))
long_bad rs pending waiting position word (Some value) is_show is none bad =
    rw (none, long_word word _ is, is) (or_else_first _ _ (or_else_first _ _ bad))
long_bad rs pending waiting position word (Some value) is_size is none bad =
    rw (none, long_word word _ is, is) (or_else_first _ _ (or_else_first _ _ bad))

pub flag_bad : {name : List ℕ} (rs : List Row) (pending : Option (List ℕ × List (List ℕ)))
    (waiting : Waiting) (position : ℕ) (word : List ℕ) (value : Option (List ℕ)) → IsFlag name
    → long_of word ≡ Some (name, value)
    → subcommand_met [] waiting word ≡ None → Faulty (settle_fault rules false (held rs pending))
    → Faulty (turn_fault shape [] (walk_at rs pending waiting position) word)
flag_bad rs pending waiting position word None is_clean is none bad =
    rw (none, long_word word _ is, is) (or_else_first _ _ (or_else_first _ _ bad))
flag_bad rs pending waiting position word (Some value) is_clean is none bad =
    rw (none, long_word word _ is, is) tt

module _ (rs : List Row) (pending : Option (List ℕ × List (List ℕ))) (word : List ℕ)
    (good : is_value word ≡ true) (bad : Faulty (settle_fault rules false (held rs pending))) where
  pub alone_bad : {position : ℕ} {places : List (List ℕ)} {names : Names} → At position places names
      → Faulty (turn_fault shape [] (walk_at rs pending idle position) word)
  alone_bad (at_first a p f) = let w = value_word word good in rw
      (w.0, w.1, w.2, and_false (option_map_or (λ q. bytes_eq q.0 (codes "action")) pending false))
      bad
  alone_bad (at_second a p f) = let w = value_word word good in rw
      (w.0, w.1, w.2, and_false (option_map_or (λ q. bytes_eq q.0 (codes "project")) pending false))
      bad
  alone_bad (at_end a p f) = let w = value_word word good in rw (w.0, w.1, w.2) tt

-- a third word that stands alone
pub third_fails : (rs : List Row) (pending : Option (List ℕ × List (List ℕ))) (word : List ℕ)
    → is_value word ≡ true → Faulty (turn_fault shape [] (walk_at rs pending idle 3) word)
third_fails rs pending word good = let w = value_word word good in rw (w.0, w.1, w.2) tt

-- a place is filled
pub action_pending : (rs : List Row) (word : List ℕ) → has_row (codes "action") rs ≡ false
    → settle_fault rules false (held rs (Some (codes "action", word ∷ []))) ≡ []
action_pending rs word new = rw (new) refl

pub project_pending : (rs : List Row) (word : List ℕ) → has_row (codes "project") rs ≡ false
    → settle_fault rules false (held rs (Some (codes "project", word ∷ []))) ≡ []
project_pending rs word new = rw (new) refl

pub action_settled : (rs : List Row) (word : List ℕ)
    → settled_rows rules (Some (codes "action", word ∷ [])) rs
    ≡ with_values (codes "action") AsWritten CommandLine (word ∷ []) (without (codes "action") rs)
action_settled rs word = refl

pub project_settled : (rs : List Row) (word : List ℕ)
    → settled_rows rules (Some (codes "project", word ∷ [])) rs
    ≡ with_values (codes "project") AsWritten CommandLine (word ∷ []) (without (codes "project") rs)
project_settled rs word = refl
