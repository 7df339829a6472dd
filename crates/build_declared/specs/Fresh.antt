-- Fresh worlds: outputs that are no older than unchanged inputs hold what their target writes.
-- (Incremental builds)
use Rattle.std.specs.Prelude.{◌≡◌, ◌≤◌, List, [], ◌∷◌, Option, None, Some, Ok}
use Rattle.msb_laws.specs.Words.{Name, Path}
use Rattle.msb_values.specs.declared.item.Item.{Item}
use Rattle.msb_values.specs.declared.act.Act.{Act}
use Rattle.msb_values.specs.declared.scope.Scope.{Scope}
use Rattle.file_store.specs.Files.{file_at}
use Rattle.file_store.specs.declared.tree.File.{File}
use Rattle.result_cache.specs.declared.run.RunId.{RunId}
use Rattle.result_cache.specs.declared.request.RequestResult.{RequestResult}
use Rattle.result_cache.specs.Lists.{In}
use Rattle.result_cache.specs.Journal.{Journal}
use Rattle.build_world.specs.Instances.{UsedTarget}
use Rattle.build_meaning.specs.Derived.{EachOfMeaning}
use Rattle.build_meaning.specs.World.{World}
use Rattle.build_incremental.specs.Joins.{Anyhow}
use Rattle.build_incremental.specs.Alone.{last_bytes}
use Rattle.task_trait.specs.declared.tools.ToolAnswer.{ToolAnswer}
use Rattle.task_trait.specs.declared.tools.ToolInput.{ToolInput}
use Rattle.target_incremental.specs.declared.decision.Choice.TheVariants.{Run as RunAll}
use Rattle.msb_files.specs.Views as views
use Rattle.msb_files.specs.Views.{View}
use Rattle.target_body.specs.States.{Run, State, view_of, run_at}
use Rattle.request_machine.specs.Walk.{Site}
use Rattle.build_declared.specs.Pieces.{Piece, ByItems, end_of_piece}
use Rattle.build_declared.specs.Declared.{clean_pieces}
use Rattle.build_declared.specs.Written.{since}

-- the path is in the tree, and has the tree's bytes
pub record IsAsInTree (view : View) (path : Path) (file : File) : Type 0 where
  pub there : file_at path view.files ≡ Some file
  pub unchanged : views.content view path ≡ Some file.bytes

-- an output may be trusted: it and the inputs that it is paired with are as in the tree, and
-- none of
-- these has a greater stamp
pub record IsTrusted (view : View) (inputs : List Path) (output : Path) (file : File)
    : Type 0 where
  pub output_there : IsAsInTree view output file
  pub inputs_there : (input : Path) → In input inputs →
      (other : File) × IsAsInTree view input other × (other.stamp ≤ file.stamp)

-- an output with the inputs that it is paired with; item by item it is its item's own input alone
pub record Pairing : Type 0 where
  pub output : Path
  pub inputs : List Path

abbrev pub pairs_of : List Path → List Path → List Pairing
pairs_of (input ∷ inputs) (output ∷ outputs) =
    record { output = output; inputs = input ∷ [] } ∷ pairs_of inputs outputs
pairs_of inputs outputs = []

module _ (tools : Name → ToolInput → ToolAnswer) (id : RunId) (run : Run) where
  -- the piece succeeds, and its last act on the path leaves the file's bytes there
  abbrev pub WritesSame : Piece → Path → File → Type 0
  WritesSame p path file = (t : State) × (acts : List Act)
      × (end_of_piece tools id run p RunAll
      ≡ Some (record { value = Ok t; journal = t.journal; acts = acts }))
      × (last_bytes (since p.before acts) path ≡ Some (Some file.bytes))

  pub record PieceIsFresh (p : Piece) : Type 0 where
    -- item by item, each trusted output is what the piece writes
    pub by_items : (items : List Item) → ByItems p items → (pair : Pairing) →
        In pair (pairs_of p.lists.inputs p.lists.outputs) → (file : File) →
        IsTrusted (view_of run p.from) pair.inputs pair.output file →
        WritesSame p pair.output file
    -- else all are, where all are trusted with every input
    pub by_pairs : ((items : List Item) → ByItems p items → ⊥) →
        ((output : Path) → In output p.lists.outputs →
        (file : File) × IsTrusted (view_of run p.from) p.lists.inputs output file) →
        (output : Path) → In output p.lists.outputs → (file : File) →
        file_at output run.files ≡ Some file → WritesSame p output file

module _ (tools : Name → ToolInput → ToolAnswer) (files : List File) where
  -- each piece of a run is fresh
  abbrev pub FreshAt : Option UsedTarget → Scope → RunId → Journal → Type 0
  FreshAt None scope id journal = Unit {0}
  FreshAt (Some target) scope id journal =
      (p : Piece) → In p (clean_pieces tools files (Some target) scope id journal) →
      PieceIsFresh tools id (run_at files id target) p

  -- each piece of the clean world is fresh
  abbrev pub IsFresh : World Site ToolInput ToolAnswer → RequestResult → Journal → Type 0
  IsFresh clean result last =
      EachOfMeaning clean (λ site id journal made. FreshAt site.target site.scope id journal)
      Anyhow (λ key. Unit {0}) result last
