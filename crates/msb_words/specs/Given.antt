-- The two words and the values of options that stand on the command line. (MSBuild command-line
-- reference.)
use Rattle.std.specs.Prelude.{
  List,
  [],
  ◌∷◌,
  ◌++◌,
  ◌&&◌,
  ◌||◌,
  ◌==◌,
  Bool,
  false,
  not,
  Option,
  Some,
  None,
  if◌then◌else◌,
  codes,
  find,
  option_map,
  option_and_then,
}
use Rattle.std.specs.List.{list_any, before_first, after_first}
use Rattle.std.specs.Str.{bytes_eq}
use Rattle.msb_laws.specs.Words.{Pairs, Text}
use Rattle.msb_words.specs.declared.given.Given.{Given as GivenWords}

-- a value is not empty and does not begin with `-`
abbrev pub is_value : Text → Bool
is_value [] = false
is_value (b ∷ bs) = not (b == 45)

-- the value behind the first `=`, if there is one
abbrev pub value_behind : Text → Option Text
value_behind text =
    if list_any (λ b. b == 61) text then Some (after_first (λ b. b == 61) text) else None

-- `NAME` or `NAME=VALUE`
abbrev pub option_in : Text → Option (Text × Option Text)
option_in [] = None
option_in (b ∷ bs) = Some (before_first (λ c. c == 61) (b ∷ bs), value_behind (b ∷ bs))

-- the same behind `--`
abbrev pub option_of : Text → Option (Text × Option Text)
option_of [] = None
option_of (a ∷ []) = None
option_of (a ∷ b ∷ text) = if a == 45 && b == 45 then option_in text else None

-- the names of the options that have a value, as they have to be written
abbrev pub is_option : Text → Bool
is_option name =
    bytes_eq (codes "target") name || bytes_eq (codes "property") name
    || bytes_eq (codes "nodes") name || bytes_eq (codes "show") name || bytes_eq (codes "size") name

-- the name of the one that has none
abbrev pub is_flag : Text → Bool
is_flag name = bytes_eq (codes "clean") name

-- names with the values that they have, in the order of the words; a flag has the value `true`
abbrev pub Names : Type 0
Names = Pairs

abbrev pub has : Text → Names → Bool
has name names = list_any (λ n. bytes_eq n.0 name) names

abbrev pub with : Text → Text → Names → Names
with name value names = names ++ (name, value) ∷ []

-- what the words so far have given: which places are left for words that stand alone, which option
-- waits for its value, and the names with their values
pub record Taken : Type 0 where
  pub places : List Text
  pub waiting : Option Text
  pub names : Names

-- a word that stands alone takes the first place
abbrev pub placed : List Text → Names → Text → Option Taken
placed [] names word = None
placed (place ∷ places) names word =
    Some (record { places = places; waiting = None; names = with place word names })

-- an option has one value
abbrev pub valued : List Text → Names → Text → Text → Option Taken
valued places names name value =
    if is_value value && not (has name names)
    then Some (record { places = places; waiting = None; names = with name value names })
    else None

-- the value stands behind `=`, or is the next word
abbrev pub opened : List Text → Names → Text → Option Text → Option Taken
opened places names name (Some value) = valued places names name value
opened places names name None =
    Some (record { places = places; waiting = Some name; names = names })

-- a flag comes once, and without a value
abbrev pub flagged : List Text → Names → Text → Option Text → Option Taken
flagged places names name (Some value) = None
flagged places names name None =
    if has name names then None
    else Some (record { places = places; waiting = None; names = with name (codes "true") names })

abbrev pub optioned : List Text → Names → Option (Text × Option Text) → Option Taken
optioned places names (Some cut) =
    if is_option cut.0 then opened places names cut.0 cut.1
    else if is_flag cut.0 then flagged places names cut.0 cut.1 else None
optioned places names None = None

-- one word more
abbrev pub taken : List Text → Option Text → Names → Text → Option Taken
taken places None names word =
    if is_value word then placed places names word
    else optioned places names (option_of word)
taken places (Some name) names word = valued places names name word

-- the words in turn
unfoldable pub taken_all : Taken → List Text → Option Taken
taken_all t [] = Some t
taken_all t (word ∷ words) =
    option_and_then (λ more. taken_all more words) (taken t.places t.waiting t.names word)

-- no option waits at the end
abbrev pub names_if : Option Text → Names → Option Names
names_if None names = Some names
names_if (Some name) names = None

abbrev pub names_of : Taken → Option Names
names_of t = names_if t.waiting t.names

abbrev pub at_start : Taken
at_start = record { places = codes "action" ∷ codes "project" ∷ []; waiting = None; names = [] }

abbrev pub names_in : List Text → Option Names
names_in words = option_and_then names_of (taken_all at_start words)

pub record Given : Type 0 where
  pub action : Text
  pub project : Text
  pub target : Option Text
  pub property : Option Text
  pub nodes : Option Text
  pub clean : Bool
  pub show : Option Text
  pub size : Option Text

-- what a contract sees of them
abbrev pub seen : GivenWords → Given
seen g = record {
  action = g.action.now;
  project = g.project.now;
  target = option_map (λ t. t.now) g.target;
  property = option_map (λ t. t.now) g.property;
  nodes = option_map (λ t. t.now) g.nodes;
  clean = g.clean;
  show = option_map (λ t. t.now) g.show;
  size = option_map (λ t. t.now) g.size;
}

-- both words are there
abbrev pub given_with :
    Option Text → Option Text → Option Text → Option Text → Option Text → Bool
    → Option Text → Option Text → Option Given
given_with (Some action) (Some project) target property nodes clean show size = Some (record {
  action = action;
  project = project;
  target = target;
  property = property;
  nodes = nodes;
  clean = clean;
  show = show;
  size = size;
})
given_with action project target property nodes clean show size = None

-- by what a name has, and whether the flag is there
abbrev pub given_by : (Text → Option Text) → Bool → Option Given
given_by value clean =
    given_with (value (codes "action")) (value (codes "project"))
    (value (codes "target")) (value (codes "property")) (value (codes "nodes")) clean
    (value (codes "show")) (value (codes "size"))

abbrev pub value_in : Names → Text → Option Text
value_in names name = option_map (λ n. n.1) (find (λ n. bytes_eq n.0 name) names)

-- by the names and their values
abbrev pub given_of : Names → Option Given
given_of names = given_by (value_in names) (has (codes "clean") names)

-- none where the words are outside the grammar
abbrev pub given_in : List Text → Option Given
given_in words = option_and_then given_of (names_in words)
