-- Trees in which each output of a piece is no older than its inputs, as a build leaves them.
-- (Incremental builds)
use Rattle.std.specs.Prelude.{◌≡◌, ◌≤◌, List, Option, None, Some}
use Rattle.msb_laws.specs.Words.{Name, Path}
use Rattle.msb_values.specs.declared.item.Item.{Item}
use Rattle.msb_values.specs.declared.scope.Scope.{Scope}
use Rattle.file_store.specs.Files.{file_at}
use Rattle.file_store.specs.declared.tree.File.{File}
use Rattle.result_cache.specs.declared.run.RunId.{RunId}
use Rattle.result_cache.specs.declared.request.RequestResult.{RequestResult}
use Rattle.result_cache.specs.Lists.{In}
use Rattle.result_cache.specs.Journal.{Journal}
use Rattle.build_world.specs.Instances.{UsedTarget}
use Rattle.build_meaning.specs.Derived.{EachOfMeaning}
use Rattle.build_meaning.specs.World.{World}
use Rattle.build_incremental.specs.Joins.{Anyhow}
use Rattle.task_trait.specs.declared.tools.ToolAnswer.{ToolAnswer}
use Rattle.task_trait.specs.declared.tools.ToolInput.{ToolInput}
use Rattle.request_machine.specs.Walk.{Site}
use Rattle.build_declared.specs.Pieces.{Piece, ByItems}
use Rattle.build_declared.specs.Declared.{clean_pieces}
use Rattle.build_declared.specs.Fresh.{Pairing, pairs_of}

-- an output and the inputs that it is paired with are in the tree, and none of these has a greater
-- stamp
pub record OutputIsNoOlder (files : List File) (inputs : List Path) (output : Path)
    : Type 0 where
  pub file : File
  pub output_there : file_at output files ≡ Some file
  pub inputs_there : (input : Path) → In input inputs →
      (other : File) × (file_at input files ≡ Some other) × (other.stamp ≤ file.stamp)

-- so of each output of a piece: item by item by its own input alone, else by every input
pub record PieceIsNoOlder (files : List File) (p : Piece) : Type 0 where
  pub by_items : (items : List Item) → ByItems p items → (pair : Pairing) →
      In pair (pairs_of p.lists.inputs p.lists.outputs) →
      OutputIsNoOlder files pair.inputs pair.output
  pub by_pairs : ((items : List Item) → ByItems p items → ⊥) → (output : Path) →
      In output p.lists.outputs → OutputIsNoOlder files p.lists.inputs output

module _ (tools : Name → ToolInput → ToolAnswer) (files : List File) where
  -- each piece of a run is so
  abbrev pub NoOlderAt : Option UsedTarget → Scope → RunId → Journal → Type 0
  NoOlderAt None scope id journal = Unit {0}
  NoOlderAt (Some target) scope id journal =
      (p : Piece) → In p (clean_pieces tools files (Some target) scope id journal) →
      PieceIsNoOlder files p

  -- each piece of the clean world is so
  abbrev pub IsNoOlder : World Site ToolInput ToolAnswer → RequestResult → Journal → Type 0
  IsNoOlder clean result last =
      EachOfMeaning clean (λ site id journal made. NoOlderAt site.target site.scope id journal)
      Anyhow (λ key. Unit {0}) result last
