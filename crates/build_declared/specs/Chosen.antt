-- What a clean build chooses for the buckets of a target. (Incremental builds)
use Rattle.std.specs.Prelude.{List, [], ◌∷◌}
use Rattle.msb_laws.specs.Words.{Path}
use Rattle.target_incremental.specs.declared.decision.Choice.{Choice}
use Rattle.target_incremental.specs.declared.decision.Choice.TheVariants.{Run as RunAll, Nothing}
use Rattle.target_body.specs.Pieces.{Chooser}

-- all of a bucket runs, where there is something to do
abbrev pub all_or_nothing : (inputs outputs : List Path) → Choice
all_or_nothing [] outputs = Nothing
all_or_nothing (input ∷ inputs) [] = Nothing
all_or_nothing (input ∷ inputs) (output ∷ outputs) = RunAll

abbrev pub all_of : Chooser
all_of lists s = all_or_nothing lists.inputs lists.outputs
