-- The pieces of a run: its buckets where both Inputs and Outputs name files. (Target element;
-- Incremental builds)
use Rattle.std.specs.Prelude.{◌≡◌, List, [], ◌∷◌, ◌++◌, length, Option, None, Some, Result, Ok, Err}
use Rattle.msb_laws.specs.Words.{Name, Path}
use Rattle.msb_values.specs.declared.item.Item.{Item}
use Rattle.msb_values.specs.declared.act.Act.{Act}
use Rattle.msb_values.specs.declared.scope.Scope.{Scope}
use Rattle.msb_expand.specs.declared.lens.Bucket.{Bucket}
use Rattle.result_cache.specs.declared.run.RunId.{RunId}
use Rattle.result_cache.specs.Journal.{Journal}
use Rattle.build_world.specs.declared.fault.EvalFault.{EvalFault}
use Rattle.task_trait.specs.declared.tools.ToolAnswer.{ToolAnswer}
use Rattle.task_trait.specs.declared.tools.ToolInput.{ToolInput}
use Rattle.target_incremental.specs.declared.decision.Choice.{Choice}
use Rattle.target_texts.specs.Lists.{Lists}
use Rattle.target_body.specs.States.{Run, State, Stopped, begun, entered}
use Rattle.target_body.specs.Pieces.{lists_at, decided, Chooser, bucket_by}
use Rattle.target_body.specs.Bodies.{buckets_at}
use Rattle.build_declared.specs.Ends.{End, end_of}

-- a bucket with its lists, the state in which it begins, and the acts of the run by then, the
-- newest first
pub record Piece : Type 0 where
  pub bucket : Bucket
  pub lists : Lists
  pub from : State
  pub before : List Act

-- the items of a piece that takes its items one by one: each has an input and an output of its own
pub record ByItems (p : Piece) (items : List Item) : Type 0 where
  pub kind : Name
  pub typed : p.lists.items ≡ Some (kind, items)
  pub inputs : length p.lists.inputs ≡ length items
  pub outputs : length p.lists.outputs ≡ length items

-- a bucket is a piece where neither list is empty
abbrev pub one_if : Piece → (inputs outputs : List Path) → List Piece
one_if piece [] outputs = []
one_if piece (input ∷ inputs) [] = []
one_if piece (input ∷ inputs) (output ∷ outputs) = piece ∷ []

abbrev pub piece_if : Bucket → State → List Act → Result (Option Lists) EvalFault → List Piece
piece_if bucket s before (Ok (Some lists)) =
    let piece : Piece = record { bucket = bucket; lists = lists; from = s; before = before } in
    one_if piece lists.inputs lists.outputs
piece_if bucket s before (Ok None) = []
piece_if bucket s before (Err fault) = []

-- those that follow a bucket that has come to its end; none where it stopped the run
abbrev pub next_by : Result State Stopped → List Act → (State → List Act → List Piece) → List Piece
next_by (Ok s) acts next = next s acts
next_by (Err stop) acts next = []

abbrev pub then_pieces : Option (End (Result State Stopped)) → (State → List Act → List Piece) →
    List Piece
then_pieces None next = []
then_pieces (Some end) next = next_by end.value end.acts next

module _ (tools : Name → ToolInput → ToolAnswer) (id : RunId) (choose : Chooser) (run : Run)
    (scope : Scope) where
  -- the pieces among some buckets, where each bucket is done as is chosen
  abbrev pub pieces_among : List Bucket → State → List Act → List Piece
  pieces_among [] s before = []
  pieces_among (bucket ∷ buckets) s before =
      let begins : State = entered scope bucket s in
      piece_if bucket begins before (lists_at run bucket begins)
      ++ then_pieces (end_of tools id (bucket_by choose run scope bucket s) s.journal before)
      (pieces_among buckets)

  abbrev pub pieces_in : Result (List Bucket) Stopped → State → List Piece
  pieces_in (Ok buckets) s = pieces_among buckets s []
  pieces_in (Err stop) s = []

  -- the pieces of a run
  abbrev pub pieces_of : Journal → List Piece
  pieces_of journal = pieces_in (buckets_at run (begun scope journal)) (begun scope journal)

-- what comes of a piece where this is chosen for it; none where it calls a request
abbrev pub end_of_piece : (Name → ToolInput → ToolAnswer) → RunId → Run → Piece → Choice →
    Option (End (Result State Stopped))
end_of_piece tools id run p choice =
    end_of tools id (decided run p.bucket choice p.lists.items p.from) p.from.journal p.before
