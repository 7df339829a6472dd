-- A number that each ask of a walk lowers: a bound on its further asks, where no list has 2 ^ 64
-- entries.
use Rattle.std.specs.Prelude.{
  ℕ,
  zero,
  suc,
  ◌+◌,
  ◌-◌,
  ◌*◌,
  ◌^◌,
  List,
  [],
  ◌∷◌,
  length,
  drop,
  reverse,
}
use Rattle.target_order.specs.declared.visits.Asked.{Asked}
use Rattle.target_order.specs.declared.visits.Asked.TheVariants.{
  Nothing,
  Condition,
  Depends as DependsOn,
  Body,
}
use Rattle.target_order.specs.declared.visits.Step.{Step}
use Rattle.target_order.specs.declared.visits.Step.TheVariants.{
  Request,
  Depends,
  BeforeBody,
  BeforeSkip,
  After,
  Errors,
}
use Rattle.target_order.specs.declared.visits.OpenVisit.{OpenVisit}
use Rattle.target_order.specs.Progress.{Table, Progress, rest_of}

-- the asks of a visit with this room: its Condition, its DependsOnTargets and its body, and twice a
-- list of names and one of targets that hook on it
unfoldable pub visit_asks : ℕ → ℕ → ℕ
visit_asks targets zero = 0
visit_asks targets (suc room) = 3 + 2 * ((2 ^ 64 + targets) * visit_asks targets room)

-- the asks of a visit inside so many open ones
abbrev pub asks_in : Table → ℕ → ℕ
asks_in table depth = visit_asks (length table.names) (suc (length table.names) - depth)

-- the asks of a list of names and one of hooks, inside so many open visits
abbrev pub both : Table → ℕ → ℕ
both table depth = (2 ^ 64 + length table.names) * asks_in table depth

-- the asks from the end of this step's list on, by the number of open visits
abbrev pub after_asks : Table → ℕ → Step → ℕ
after_asks table depth Request = 0
after_asks table depth Depends = length table.names * asks_in table depth + (1 + both table depth)
after_asks table depth BeforeBody = 1 + both table depth
after_asks table depth BeforeSkip = length table.names * asks_in table depth
after_asks table depth After = 0
after_asks table depth Errors = 0

abbrev pub resume_asks : Table → ℕ → List OpenVisit → ℕ
resume_asks table base [] = base
resume_asks table base (v ∷ visits) =
    length (rest_of table v) * asks_in table (suc (length visits))
    + (after_asks table (suc (length visits)) v.step + resume_asks table base visits)

abbrev pub answered_asks : Table → ℕ → Asked → List OpenVisit → ℕ
answered_asks table base Nothing visits = suc base
answered_asks table base Condition (v ∷ visits) = suc
    (2 + (2 * both table (suc (length visits)) + resume_asks table base visits))
answered_asks table base DependsOn (v ∷ visits) = suc
    (1 + (2 * both table (suc (length visits)) + resume_asks table base visits))
answered_asks table base Body (v ∷ visits) = suc
    (both table (suc (length visits)) + resume_asks table base visits)
answered_asks table base asked visits = 0

abbrev pub base_asks : Progress → ℕ
base_asks p = length (drop p.passed p.wanted) * asks_in p.table 0

unfoldable pub asks_left : Progress → ℕ
asks_left p = answered_asks p.table (base_asks p) p.asked (reverse p.visits)
