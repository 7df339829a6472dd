-- The one piece of the worked set, and what comes of it and of its parts, computed. What is opened
-- for it are the reading of texts, the order of targets, and the table by which texts are compared
-- without case.
use Rattle.std.proofs.Common.{◌≡◌, ℕ, Bool, List, [], ◌∷◌, None, Option, Some, refl}
use Rattle.std.specs.Prelude.{Result, Ok, Err, codes}
use Rattle.std.specs.Str.{chars}
use Rattle.caseless.specs.Caseless.{default_case_fold as fold_case}
use Rattle.ucd_case.specs.CaseFolding.{full_folding as folding}
use Rattle.ucd_table.specs.Rows.{value_in}
use Rattle.ucd_case.specs.FullFoldingRows.{full_folding_rows as rows}
use Rattle.msb_values.specs.declared.mode.Mode.TheVariants.{Incremental, Clean}
use Rattle.msb_values.specs.declared.act.Act.{Act}
use Rattle.msb_expand.specs.declared.lens.Bucket.{Bucket}
use Rattle.msb_expression.specs.Machine.{run as read_on}
use Rattle.result_cache.specs.declared.record.Record.{Record}
use Rattle.result_cache.specs.Journal.{Journal}
use Rattle.result_cache.specs.Same.{same_run, same_instance}
use Rattle.task_trait.specs.declared.tools.ToolAnswer.{ToolAnswer}
use Rattle.task_trait.specs.declared.tools.ToolInput.{ToolInput}
use Rattle.target_incremental.specs.declared.decision.Choice.TheVariants.{Run as RunAll, Part}
use Rattle.target_texts.specs.Lists.{Lists}
use Rattle.target_body.specs.States.{Run, State, Stopped, begun, entered, run_at}
use Rattle.build_declared.specs.Declared.{clean_pieces}
use Rattle.build_declared.specs.Ends.{End}
use Rattle.build_declared.specs.Pieces.{Piece, ByItems, end_of_piece}
use Rattle.build_declared.specs.Settled.{pieces_at}
use Rattle.build_declared.specs.Sublists.{kept}
use Rattle.declared_witness.specs.ThreeCopies.{
  sources,
  target,
  scope,
  files_with,
  files,
  run,
  part_record,
  body_of,
}

-- no metadata batch the target
abbrev pub bucket : Bucket
bucket = record { values = []; lists = [] }

abbrev pub lists : Lists
lists = record {
  inputs = codes "1.c" ∷ codes "2.c" ∷ codes "3.c" ∷ [];
  outputs = codes "o/1.o" ∷ codes "o/2.o" ∷ codes "o/3.o" ∷ [];
  items = Some (codes "c", sources);
}

abbrev pub begins : Journal → State
begins journal = entered scope bucket (begun scope journal)

abbrev pub piece : Piece
piece = record { bucket = bucket; lists = lists; from = begins []; before = [] }

abbrev pub run_over : List ℕ → ℕ → Run
run_over bytes stamp = run_at (files_with bytes stamp) run target

pub by-items : ByItems piece sources
by-items = record { kind = codes "c"; typed = refl; inputs = refl; outputs = refl }

-- the state at an end, if there is one that is no stop
abbrev pub state_by : Result State Stopped → State
state_by (Ok s) = s
state_by (Err stop) = begins []

abbrev pub state_in : Option (End (Result State Stopped)) → State
state_in None = begins []
state_in (Some end) = state_by end.value

abbrev pub acts_in : Option (End (Result State Stopped)) → List Act
acts_in None = []
acts_in (Some end) = end.acts

-- it ends well
abbrev pub EndsWell : Option (End (Result State Stopped)) → Type 0
EndsWell x = x ≡ Some (record {
  value = Ok (state_in x);
  journal = (state_in x).journal;
  acts = acts_in x;
})

-- whatever the object of the second source holds
module _ (bytes : List ℕ) (stamp : ℕ) (tools : List ℕ → ToolInput → ToolAnswer) where
  pub pieces-so : clean_pieces tools (files_with bytes stamp) (Some target) scope run []
      ≡ piece ∷ []
  unfolding same_run same_instance read_on fold_case folding value_in rows chars
  pieces-so = refl

  pub placed-pieces : (made : Record) →
      pieces_at tools (files_with bytes stamp) Clean (body_of made) ≡ piece ∷ []
  unfolding same_run same_instance read_on fold_case folding value_in rows chars
  placed-pieces made = refl

  abbrev pub whole : Option (End (Result State Stopped))
  whole = end_of_piece tools run (run_over bytes stamp) piece RunAll

  abbrev pub part : List Bool → Option (End (Result State Stopped))
  part marks =
      end_of_piece tools run (run_over bytes stamp) piece (Part (kept marks sources))

pub settled-pieces : (tools : List ℕ → ToolInput → ToolAnswer) →
    pieces_at tools files Incremental (body_of part_record) ≡ piece ∷ []
unfolding same_run same_instance read_on fold_case folding value_in rows chars
settled-pieces tools = refl
