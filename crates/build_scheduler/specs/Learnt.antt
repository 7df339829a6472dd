-- Which records a walk may learn: those of a table, each after the runs of its calls. (MSBuild
-- task)
use Rattle.std.specs.Prelude.{◌≡◌, [], ◌∷◌, IsSome, None, Some}
use Rattle.result_cache.specs.declared.run.RunId.{RunId}
use Rattle.result_cache.specs.declared.record.Record.{Record}
use Rattle.result_cache.specs.Lists.{In}
use Rattle.result_cache.specs.Replay.{replays_run, effects_of}
use Rattle.result_cache.specs.Table.{Records, found}

-- each run is there once, and has the runs of its record's calls before it
abbrev pub AreInOrder : Records → Type 0
AreInOrder [] = Unit {0}
AreInOrder (f ∷ table) =
    (found table f.run ≡ None)
    × ((run : RunId) → In (replays_run run) (effects_of f.run f.made)
    → IsSome (found table run)) × AreInOrder table

-- some records of a table, in an order of their own
pub record ArePartOf (part table : Records) : Type 0 where
  pub in_order : AreInOrder part
  pub shared : (run : RunId) (made : Record) → found part run ≡ Some made
      → found table run ≡ Some made
