-- The history of a core that nodes share.
use Rattle.std.specs.Prelude.{
  Bool,
  false,
  ◌||◌,
  is_none,
  List,
  [],
  ◌∷◌,
  ◌++◌,
  map,
  Option,
  Some,
  None,
}
use Rattle.build_meaning.specs.declared.event.Event.{Event}
use Rattle.build_scheduler.specs.declared.slot.End.{End}

-- a mark, once an end is told
abbrev pub mark_of : Option End → List (Option Event)
mark_of None = []
mark_of (Some end) = None ∷ []

-- each event, and the mark behind them
abbrev pub marked : List Event → Option End → List (Option Event)
marked events end = map Some events ++ mark_of end

-- whether the mark stands in it
abbrev pub has_mark : List (Option Event) → Bool
has_mark [] = false
has_mark (x ∷ xs) = is_none x || has_mark xs
