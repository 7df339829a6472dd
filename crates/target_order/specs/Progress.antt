-- Where a walk stands.
use Rattle.std.specs.Prelude.{
  ℕ,
  suc,
  Bool,
  true,
  false,
  List,
  [],
  ◌∷◌,
  Option,
  None,
  Some,
  option_map,
  slice_index_or,
  drop,
  if◌then◌else◌,
}
use Rattle.std.specs.Str.{bytes_eq}
use Rattle.msb_laws.specs.Words.{Name}
use Rattle.target_order.specs.declared.visits.Asked.{Asked}
use Rattle.target_order.specs.declared.visits.Step.{Step}
use Rattle.target_order.specs.declared.visits.Step.TheVariants.{
  Request,
  Depends,
  BeforeBody,
  BeforeSkip,
  After,
  Errors,
}
use Rattle.target_order.specs.declared.visits.OpenVisit.{OpenVisit}
use Rattle.target_order.specs.Visit.{Hooks, Opened}

-- the targets of a project by their numbers: their names, and the names of those that hook on them
pub record Table : Type 0 where
  pub names : List Name
  pub before : List (List Name)
  pub after : List (List Name)

pub record Progress : Type 0 where
  pub table : Table
  pub wanted : List Name  -- the targets of the request
  pub passed : ℕ  -- how many of them are behind it
  pub visits : List OpenVisit  -- the open visits, innermost last
  pub has_run : List Bool  -- by the numbers of the targets
  pub asked : Asked
  pub failed : Bool

-- the number of the target with this name
abbrev pub number_of : List Name → Name → Option ℕ
number_of [] t = None
number_of (n ∷ names) t = if bytes_eq n t then Some 0 else option_map suc (number_of names t)

abbrev pub hooks_at : Table → ℕ → Hooks
hooks_at table k = record
    { before = slice_index_or table.before k []; after = slice_index_or table.after k [] }

abbrev pub project_of : Table → Name → Option Hooks
project_of table t = option_map (hooks_at table) (number_of table.names t)

abbrev pub name_at : Table → ℕ → Name
name_at table k = slice_index_or table.names k []

abbrev pub flag_at : List Bool → Option ℕ → Bool
flag_at flags None = false
flag_at flags (Some k) = slice_index_or flags k false

-- what has run, by name
abbrev pub ran_of : Table → List Bool → Name → Bool
ran_of table has_run t = flag_at has_run (number_of table.names t)

-- whether a visit is past its body
abbrev pub is_past : Step → Bool
is_past After = true
is_past Errors = true
is_past _ = false

-- whether a visit goes through the OnError targets of its failed body
abbrev pub is_errors : Step → Bool
is_errors Errors = true
is_errors _ = false

abbrev pub opened : Table → OpenVisit → Opened
opened table v = record { name = name_at table v.target; past = is_past v.step }

-- the list that a step goes through
abbrev pub list_at : Table → ℕ → List Name → Step → List Name
list_at table k names Request = []
list_at table k names Depends = names
list_at table k names BeforeBody = (hooks_at table k).before
list_at table k names BeforeSkip = (hooks_at table k).before
list_at table k names After = (hooks_at table k).after
list_at table k names Errors = names

-- what of its list a visit has not come to
abbrev pub rest_of : Table → OpenVisit → List Name
rest_of table v = drop v.passed (list_at table v.target v.names v.step)
