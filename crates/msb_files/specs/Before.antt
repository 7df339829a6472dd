-- The records that a table had before that of a run.
use Rattle.std.specs.Prelude.{Bool, true, false, [], ◌∷◌}
use Rattle.result_cache.specs.declared.run.RunId.{RunId}
use Rattle.result_cache.specs.Same.{same_run}
use Rattle.result_cache.specs.Table.{Records}

abbrev pub these_or : Bool → Records → Records → Records
these_or true these others = these
these_or false these others = others

-- the records of the runs that were finished before a run, the last one first
abbrev pub before : RunId → Records → Records
before run [] = []
before run (f ∷ table) = these_or (same_run f.run run) table (before run table)
