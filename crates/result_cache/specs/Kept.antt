-- How the runs that are finished are kept: in layers, each in finishing order.
use Rattle.std.specs.Prelude.{◌≡◌, ℕ, ◌+◌, ◌<◌, ◌≤◌, ◌^◌, List, [], ◌∷◌, ◌++◌, map}
use Rattle.result_cache.specs.declared.run.RunId.{RunId}
use Rattle.result_cache.specs.declared.record.Record.{Record}
use Rattle.result_cache.specs.Table.{FinishedRun, Records}

-- the runs of these entries, with their records
abbrev pub records_of : List (RunId × Record) → Records
records_of = map (λ e. record { run = e.0; made = e.1 })

-- the names of these runs
abbrev pub runs_of : Records → List RunId
runs_of = map (λ (f : FinishedRun). f.run)

-- the runs of all layers, of which the oldest stands first
abbrev pub all_of : List Records → Records
all_of [] = []
all_of (layer ∷ layers) = layer ++ all_of layers

-- the runs that are finished, in finishing order, with the room that is taken for more
pub record KeptRuns : Type 0 where
  pub records : Records
  pub room : ℕ

-- the runs are counted, and so many more can be counted and find room behind those that stand in no
-- layer
pub record HasRoom (all count room recent capacity : ℕ) : Type 0 where
  pub counted : count ≡ all
  pub countable : count + room < 2 ^ 64
  pub roomy : 0 < room → recent + room ≤ capacity
