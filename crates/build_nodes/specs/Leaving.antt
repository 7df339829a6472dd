-- When a node leaves: the end is told, or it has retired. (Building projects in parallel)
use Rattle.std.specs.Prelude.{
  ◌≡◌,
  ℕ,
  suc,
  Bool,
  true,
  false,
  ◌==◌,
  ◌||◌,
  List,
  [],
  ◌∷◌,
  Option,
  None,
  Some,
}
use Rattle.build_meaning.specs.declared.event.Event.{Event}
use Rattle.build_meaning.specs.declared.event.Event.TheVariants.{Retire}
use Rattle.build_meaning.specs.History.{retires}
use Rattle.build_scheduler.specs.declared.slot.End.{End}
use Rattle.build_scheduler.specs.declared.slot.End.TheVariants.{NoMemory}

-- whether an event is the Retire of this node
abbrev pub is_retire_of : ℕ → Event → Bool
is_retire_of node (Retire id by) = by == node
is_retire_of node event = false

-- whether the mark of an end stands in a history, or the node's Retire
abbrev pub has_left : ℕ → List (Option Event) → Bool
has_left node [] = false
has_left node (None ∷ events) = true
has_left node (Some event ∷ events) = is_retire_of node event || has_left node events

-- where a build ends for want of memory, all nodes but one have retired
abbrev pub IsSpent : ℕ → List Event → Option End → Type 0
IsSpent nodes events end = end ≡ Some NoMemory → suc (retires events) ≡ nodes
