-- What is printed of a check, which tells whether a set of projects gives one answer in every
-- order. (MSBuild command-line reference; Building projects in parallel.)
use Rattle.std.specs.Prelude.{ℕ, ◌++◌, false, codes}
use Rattle.std.specs.Fmt.{decimal}
use Rattle.std.specs.List.{flat_map, join_by}
use Rattle.msb_laws.specs.Words.{Text}
use Rattle.msb_values.specs.InstanceKeys.{key_text}
use Rattle.msb_values.specs.declared.key.InstanceKey.{InstanceKey}
use Rattle.result_cache.specs.declared.run.RunId.{RunId}
use Rattle.result_cache.specs.declared.record.Record.{Record}
use Rattle.build_report.specs.Line.{line}
use Rattle.build_report.specs.Runs.{run_text}
use Rattle.build_report.specs.Shown.{decision_words, note_line}

-- a steady set, and how many bodies were made
abbrev pub steady_text : ℕ → Text
steady_text bodies = line (codes "steady") ++ line (codes "bodies " ++ decimal bodies)

-- what became of each bucket in one body of a run, and its notes but those of low importance
abbrev pub body_lines : Text → Record → Text
body_lines which made =
    line (which ++ codes " " ++ join_by decision_words (codes ", ") made.decisions)
    ++ flat_map (note_line false) made.notes

-- a run whose bodies differ: the first one, and another
abbrev pub differs_text : RunId → Record → Record → Text
differs_text run first second =
    line (codes "differs " ++ run_text run)
    ++ body_lines (codes "first") first
    ++ body_lines (codes "second") second

-- a run that is wanted in its own body
abbrev pub circular_run_text : RunId → Text
circular_run_text run = line (codes "not whole: circular " ++ run_text run)

-- an instance whose request is nested too deep
abbrev pub deep_instance_text : InstanceKey → Text
deep_instance_text key = line (codes "not whole: too deep " ++ key_text key)

-- the instance that is one too many
abbrev pub crowding_instance_text : InstanceKey → Text
crowding_instance_text key = line (codes "not whole: too many instances " ++ key_text key)

-- a check that has made as many bodies as it makes
abbrev pub spent_text : ℕ → Text
spent_text bodies = line (codes "spent " ++ decimal bodies)
