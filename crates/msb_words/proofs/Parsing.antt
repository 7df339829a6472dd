-- What the contract of a parse says of the words.
use Rattle.std.proofs.Common.{
  ◌≡◌,
  ◌⊎◌,
  inl,
  inr,
  List,
  [],
  ◌∷◌,
  ℕ,
  Bool,
  true,
  false,
  Option,
  Some,
  None,
  Err,
  refl,
  sym,
  ap,
  subst,
  ◌∙◌,
}
use Rattle.std.specs.Prelude.{codes, is_some, option_and_then}
use Rattle.std.specs.List.{list_all}
use Rattle.clap.specs.Values.{bool_text}
use Rattle.clap.specs.Walk.{first_of, idle, nothing_held, one_of}
use Rattle.clap.specs.Simple.{built, entered}
use Rattle.clap.specs.Faults.{entered_fault, level_fault}
use Rattle.clap.specs.Words.{
  Kinds,
  IsAmong,
  fault_of,
  first_value,
  is_simple,
  is_simple_and_free,
  matches_of,
  one_text,
  rows_of,
}
use Rattle.clap.specs.declared.error.kind.ErrorKind.{ErrorKind}
use Rattle.clap.specs.declared.error.kind.ErrorKind.TheVariants.{OutOfMemory}
use Rattle.clap.specs.declared.parser.matches.Found.{Found}
use Rattle.clap.proofs.OnLiterals.{clap_on_literals}
use Rattle.clap.proofs.WalkLemmas.{first_value-rows, one_text-rows}
use Rattle.msb_words.specs.Answers.{ReadsAs, fault_of_kind}
use Rattle.msb_words.specs.Grammar.{grammar}
use Rattle.msb_words.specs.Given.{Given, given_by, given_in, seen, names_in, names_of, at_start}
use Rattle.msb_words.specs.Words.{is_word}
use Rattle.msb_words.specs.declared.faults.WordFault.{WordFault}
use Rattle.msb_words.specs.declared.faults.WordFault.TheVariants.{Usage, Memory}
use Rattle.msb_words.proofs.Refusals.{none_taken}
use Rattle.msb_words.proofs.Steps.{Faulty, shape, walk_at}
use Rattle.msb_words.proofs.Walking.{Agrees, answer, faults, from_nothing}

pub grammar_is_simple : is_simple_and_free grammar ≡ true
unfolding clap_on_literals
grammar_is_simple = refl

pub grammar_is_simple_itself : is_simple grammar ≡ true
unfolding clap_on_literals
grammar_is_simple_itself = refl

-- no subcommand is met
no_level : (words : List (List ℕ)) (stop : Option (List ℕ × List (List ℕ)))
    → level_fault shape [] nothing_held words (is_some (entered (built grammar) stop))
    (entered_fault (built grammar) stop) ≡ faults (walk_at [] None idle 1) words
no_level words None = refl
no_level words (Some p) = refl

same_faults : (words : List (List ℕ)) → fault_of grammar words
    ≡ faults (walk_at [] None idle 1) words
same_faults words = no_level words _

agree : (words : List (List ℕ)) → list_all is_word words ≡ true
    → Agrees (fault_of grammar words) (matches_of grammar words) (names_in words)
agree words good =
    subst (λ k. Agrees k (matches_of grammar words) (names_in words))
    (sym (same_faults words)) (from_nothing words good)

-- words that are neither values nor options
pub no_words : (words : List (List ℕ)) → list_all is_word words ≡ false → given_in words ≡ None
no_words words bad = ap (λ o. answer (option_and_then names_of o)) (none_taken words bad at_start)

some_kind : (k : ErrorKind) (kinds : Kinds) → IsAmong k kinds → Faulty kinds
some_kind k [] among = absurd among
some_kind k (x ∷ xs) among = tt

none_read : (o : Option Given) (fault : WordFault) → o ≡ None → ReadsAs seen o (Err fault)
none_read o Usage is = is
none_read o Memory is = tt

-- a parse that is refused
pub refused : (words : List (List ℕ)) (k : ErrorKind) → list_all is_word words ≡ true
    → (k ≡ OutOfMemory) ⊎ IsAmong k (fault_of grammar words)
    → ReadsAs seen (given_in words) (Err (fault_of_kind k))
refused words k good (inl out) = rw (out) tt
refused words k good (inr among) =
    none_read (given_in words) (fault_of_kind k)
    ((agree words good).fails (some_kind k (fault_of grammar words) among))

-- what the matches have: the flag's value, and by it the whole
pub record IsFound (f : Found) (given : Option Given) : Type 0 where
  pub clean : Bool
  pub flag : one_text f (codes "clean") ≡ Some (bool_text clean)
  pub all : given_by (first_value f) clean ≡ given

same_given : (f : Found) (clean : Bool) → given_by (first_value f) clean
    ≡ given_by (λ id. first_of id (rows_of f)) clean
same_given f clean =
    rw (
      first_value-rows f (codes "action"),
      first_value-rows f (codes "project"),
      first_value-rows f (codes "target"),
      first_value-rows f (codes "property"),
      first_value-rows f (codes "nodes"),
      first_value-rows f (codes "show"),
      first_value-rows f (codes "size"),
    ) refl

-- a parse that has matches
pub parsed : (words : List (List ℕ)) (f : Found) → list_all is_word words ≡ true
    → fault_of grammar words ≡ [] → rows_of f ≡ matches_of grammar words
    → IsFound f (given_in words)
parsed words f good none are =
    let own = (agree words good).whole none in record {
      clean = own.clean;
      flag = one_text-rows f (codes "clean") ∙ ap (one_of (codes "clean")) are ∙ own.flag;
      all = same_given f own.clean ∙ ap (λ rs. given_by (λ id. first_of id rs) own.clean) are
          ∙ own.all;
    }
