-- Tables in which every record stands behind those that it calls for.
use Rattle.std.specs.Prelude.{List, [], ◌∷◌, IsSome}
use Rattle.result_cache.specs.Replay.{Effect, puts_act, replays_run, effects_of}
use Rattle.result_cache.specs.Table.{Records, found}

-- each run that the effects replay is finished
abbrev pub AreFinished : List Effect → Records → Type 0
AreFinished [] older = Unit {0}
AreFinished (puts_act run place act ∷ effects) older = AreFinished effects older
AreFinished (replays_run run ∷ effects) older = IsSome (found older run) × AreFinished effects older

-- each run that a record calls for was finished before it
abbrev pub IsOrdered : Records → Type 0
IsOrdered [] = Unit {0}
IsOrdered (f ∷ older) = AreFinished (effects_of f.run f.made) older × IsOrdered older
