-- The end of a parse of this command.
use Rattle.std.proofs.Common.{
  ◌≡◌,
  ℕ,
  List,
  [],
  ◌∷◌,
  ◌++◌,
  Bool,
  true,
  false,
  cond,
  Option,
  Some,
  None,
  refl,
  ap,
  ◌∙◌,
}
use Rattle.std.specs.Prelude.{◌||◌, codes, fold, take}
use Rattle.std.specs.Str.{bytes_eq}
use Rattle.clap.specs.Walk.{
  Held,
  Row,
  Rule,
  default_rows,
  finished,
  first_of,
  has_row,
  reading_by,
  settled,
  with_default,
}
use Rattle.clap.specs.Kinds.{Kinds, or_else}
use Rattle.clap.specs.Faults.{
  check_fault,
  default_fault,
  defaults_fault,
  given_default_fault,
  settle_fault,
}
use Rattle.clap.specs.Takes.{is_given}
use Rattle.msb_words.specs.Given.{Names, given_by, given_of, given_with, has, value_in}
use Rattle.msb_words.proofs.Rows.{
  all_rows,
  rows,
  defaulted,
  flag_rule,
  no_value,
  same_given,
  same_value,
}
use Rattle.msb_words.proofs.Steps.{Faulty, or_else_then, none_else, rules, shape}

-- ---- no rule but the flag's has a value that stands for none

abbrev Undefaulted : List Rule → Type 0
Undefaulted [] = Unit {0}
Undefaulted (a ∷ rest) = (a.defaults ≡ []) × Undefaulted rest

-- the flag comes last
abbrev valued_rules : List Rule
valued_rules = take 7 rules

undefaulted : Undefaulted valued_rules
undefaulted = (refl, (refl, (refl, (refl, (refl, (refl, (refl, tt)))))))

same_default : (rs : List Row) (a : Rule) → a.defaults ≡ [] → with_default rs a ≡ rs
same_default rs a none = go (has_row a.id rs)
  where
    go : (b : Bool) → cond b rs (default_rows a.id (reading_by a) a.defaults rs) ≡ rs
    go true = refl
    go false = rw (none) refl

clean_default : (rs : List Row) (a : Rule) → a.defaults ≡ [] → default_fault rs a ≡ []
clean_default rs a none = rw (none) (go (has_row a.id rs))
  where
    go : (b : Bool) → cond (b || true) [] (given_default_fault a []) ≡ []
    go true = refl
    go false = refl

clean_flag : (rs : List Row) → default_fault rs flag_rule ≡ []
clean_flag rs = go (has_row (codes "clean") rs)
  where
    go : (b : Bool) → cond (b || false) [] (given_default_fault flag_rule flag_rule.defaults) ≡ []
    go true = refl
    go false = refl

defaults_clean_after : (rs : List Row) (others : List Rule) → Undefaulted others
    → defaults_fault rs (others ++ flag_rule ∷ []) ≡ []
unfolding defaults_fault
defaults_clean_after rs [] u = none_else _ _ (clean_flag rs) refl
defaults_clean_after rs (a ∷ others) u =
    none_else _ _ (clean_default rs a u.0)
    (ap (λ r. defaults_fault r (others ++ flag_rule ∷ [])) (same_default rs a u.0)
    ∙ defaults_clean_after rs others u.1)

defaults_clean : (rs : List Row) → defaults_fault rs rules ≡ []
defaults_clean rs = defaults_clean_after rs valued_rules undefaulted

flag_alone : (rs : List Row) (others : List Rule) → Undefaulted others
    → fold with_default rs (others ++ flag_rule ∷ []) ≡ with_default rs flag_rule
flag_alone rs [] u = refl
flag_alone rs (a ∷ others) u =
    ap (λ r. fold with_default r (others ++ flag_rule ∷ []))
    (same_default rs a u.0) ∙ flag_alone rs others u.1

-- ---- the end

abbrev pub ends : Held → Kinds
ends h =
    or_else (settle_fault rules false h)
    (or_else (defaults_fault (settled rules h).rows rules)
    (check_fault shape (finished rules h) false))

-- both words have to be there
check_passes : (rs : List Row) → is_given (codes "action") rs ≡ true
    → is_given (codes "project") rs ≡ true → check_fault shape rs false ≡ []
check_passes rs a p = rw (a, p) refl

check_without_action : (rs : List Row) → is_given (codes "action") rs ≡ false
    → Faulty (check_fault shape rs false)
check_without_action rs a = rw (a) tt

check_without_project : (rs : List Row) → is_given (codes "action") rs ≡ true
    → is_given (codes "project") rs ≡ false → Faulty (check_fault shape rs false)
check_without_project rs a p = rw (a, p) tt

module _ (h : Held) (names : Names) (clean : settle_fault rules false h ≡ [])
    (are : (settled rules h).rows ≡ rows names) where
  pub end_rows : finished rules h ≡ all_rows names
  end_rows =
      ap (λ rs. fold with_default rs rules) are
      ∙ flag_alone (rows names) valued_rules undefaulted ∙ defaulted names

  given_at_end : (id : List ℕ) (b : Bool) → bytes_eq (codes "clean") id ≡ false → has id names ≡ b
      → is_given id (finished rules h) ≡ b
  given_at_end id b differs is = ap (is_given id) end_rows ∙ same_given id names differs ∙ is

  pub end_clean : has (codes "action") names ≡ true → has (codes "project") names ≡ true
      → ends h ≡ []
  end_clean a p =
      none_else _ _ clean
      (none_else _ _ (defaults_clean _)
      (check_passes (finished rules h) (given_at_end (codes "action") true refl a)
      (given_at_end (codes "project") true refl p)))

  pub end_without_action : has (codes "action") names ≡ false → Faulty (ends h)
  end_without_action a =
      or_else_then _ _ clean
      (or_else_then _ _ (defaults_clean _)
      (check_without_action (finished rules h) (given_at_end (codes "action") false refl a)))

  pub end_without_project : has (codes "action") names ≡ true → has (codes "project") names ≡ false
      → Faulty (ends h)
  end_without_project a p =
      or_else_then _ _ clean
      (or_else_then _ _ (defaults_clean _)
      (check_without_project (finished rules h) (given_at_end (codes "action") true refl a)
      (given_at_end (codes "project") false refl p)))

pub same_answer : (names : Names) (clean : Bool)
    → given_by (λ id. first_of id (all_rows names)) clean ≡ given_by (value_in names) clean
same_answer names clean =
    rw (
      same_value (codes "action") names refl,
      same_value (codes "project") names refl,
      same_value (codes "target") names refl,
      same_value (codes "property") names refl,
      same_value (codes "nodes") names refl,
      same_value (codes "show") names refl,
      same_value (codes "size") names refl,
    ) refl

pub no_action : (names : Names) → has (codes "action") names ≡ false → given_of names ≡ None
no_action names a = rw (no_value (codes "action") names a) refl

pub no_project : (names : Names) → has (codes "project") names ≡ false → given_of names ≡ None
no_project names p = rw (no_value (codes "project") names p) (go (value_in names (codes "action")))
  where
    go : (o : Option (List ℕ))
        → given_with o None (value_in names (codes "target")) (value_in names (codes "property"))
        (value_in names (codes "nodes"))
        (has (codes "clean") names) (value_in names (codes "show")) (value_in names (codes "size"))
        ≡ None
    go None = refl
    go (Some a) = refl
