-- The events of a scheduler, in order, and the room that is taken for more.
use Rattle.std.specs.Prelude.{◌≡◌, ◌+◌, ◌*◌, ◌^◌, ◌<◌, ◌≤◌, ℕ, List}
use Rattle.build_meaning.specs.declared.event.Event.{Event}
use Rattle.build_meaning.specs.History.{retires}

-- how many nodes there are too
pub record History : Type 0 where
  pub events : List Event
  pub room : ℕ
  pub nodes : ℕ

-- a build has no more nodes than this
abbrev pub most_nodes : ℕ
most_nodes = 64

-- room is taken for so many events and, for each node that may yet retire, for its Retire and the
-- Assign that follows it; one node at least has not retired
pub record HasRoom (events : List Event) (len capacity room nodes retired : ℕ) : Type 0 where
  pub taken : len + room + 2 * most_nodes ≤ capacity + 2 * retired
  pub few : len + room + 2 * most_nodes ≤ 2 ^ 62 + 2 * retired
  pub counted : retires events ≡ retired
  pub active : retired < nodes
  pub most : nodes ≤ most_nodes
