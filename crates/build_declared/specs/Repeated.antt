-- Repeated worlds: over the tree that a build left, the clean build has the same pieces again.
-- (Incremental builds)
use Rattle.std.specs.Prelude.{◌≡◌, List, [], ◌∷◌, Option, Some}
use Rattle.msb_laws.specs.Words.{Name, Path}
use Rattle.msb_values.specs.declared.item.Item.{Item}
use Rattle.msb_values.specs.declared.mode.Mode.TheVariants.{Clean}
use Rattle.msb_values.specs.declared.act.Act.{Act}
use Rattle.file_store.specs.declared.tree.File.{File}
use Rattle.file_store.specs.declared.tree.Tree.{Tree}
use Rattle.result_cache.specs.declared.run.RunId.{RunId}
use Rattle.result_cache.specs.declared.request.RequestResult.{RequestResult}
use Rattle.result_cache.specs.Lists.{In}
use Rattle.build_world.specs.Instances.{UsedTarget}
use Rattle.build_world.specs.declared.world.World.{World as Build}
use Rattle.build_meaning.specs.Meaning.{Given}
use Rattle.build_meaning.specs.Demand.{IsWhole, IsSteady}
use Rattle.build_meaning.specs.Sound.{IsMade}
use Rattle.build_meaning.specs.World.{World}
use Rattle.build_incremental.specs.Alone.{last_bytes}
use Rattle.task_trait.specs.declared.tools.ToolAnswer.{ToolAnswer}
use Rattle.task_trait.specs.declared.tools.ToolInput.{ToolInput}
use Rattle.target_body.specs.States.{Run, State, run_at}
use Rattle.request_machine.specs.Worlds.{world_of}
use Rattle.request_machine.specs.Walk.{Site}
use Rattle.build_declared.specs.Builds.{in_mode}
use Rattle.build_declared.specs.Declared.{SucceedsWith, clean_pieces}
use Rattle.build_declared.specs.Occurrences.{Occurrence, Occurs}
use Rattle.build_declared.specs.Pieces.{Piece, ByItems}
use Rattle.build_declared.specs.Settled.{FreeRunsKeepOff, IsSettled}
use Rattle.build_declared.specs.Written.{since}

-- ---- a piece again

module _ (tools : Name → ToolInput → ToolAnswer) (id : RunId) (first again : Run) where
  -- A piece of the second build is as one of the first: it has the same inputs and outputs, paired
  -- in the same way; and where the first one succeeds it succeeds, and its acts leave the same at
  -- each of its outputs.
  pub record IsAgain (p earlier : Piece) : Type 0 where
    pub inputs : p.lists.inputs ≡ earlier.lists.inputs
    pub outputs : p.lists.outputs ≡ earlier.lists.outputs
    pub by_items : (items : List Item) → ByItems p items →
        (others : List Item) × ByItems earlier others
    pub by_pairs : (others : List Item) → ByItems earlier others →
        (items : List Item) × ByItems p items
    pub writes : (t : State) (acts : List Act) → SucceedsWith tools id first earlier t acts →
        (u : State) × (more : List Act) × SucceedsWith tools id again p u more
        × ((output : Path) → In output earlier.lists.outputs →
        last_bytes (since p.before more) output
        ≡ last_bytes (since earlier.before acts) output)

  abbrev pub AreAgain : (pieces earlier : List Piece) → Type 0
  AreAgain [] [] = Unit {0}
  AreAgain [] (q ∷ earlier) = ⊥
  AreAgain (p ∷ pieces) [] = ⊥
  AreAgain (p ∷ pieces) (q ∷ earlier) = IsAgain p q × AreAgain pieces earlier

-- ---- a run again

module _ (tools : Name → ToolInput → ToolAnswer) (files after : List File) where
  -- the pieces of a body of the clean build of a tree
  abbrev pub pieces_over : List File → Occurrence → List Piece
  pieces_over tree o = clean_pieces tools tree o.site.target o.site.scope o.run o.from

  -- by their targets, which a run with a piece has
  abbrev pub again_by : (target other : Option UsedTarget) → (o earlier : Occurrence) → Type 0
  again_by (Some target) (Some other) o earlier =
      AreAgain tools o.run (run_at files o.run other) (run_at after o.run target)
      (pieces_over after o) (pieces_over files earlier)
  again_by target other o earlier = ⊥

  -- the pieces of a run are those of an earlier occurrence of it
  abbrev pub HasSame : (o earlier : Occurrence) → Type 0
  HasSame o earlier = again_by o.site.target earlier.site.target o earlier

  -- Clean builds of two trees, the second one that which a build of the first has left. The second
  -- is whole and steady. Each run that has a piece in one of them is made in the other, with the
  -- same record, and wherever the first makes it, it has the same pieces. Runs without a piece keep
  -- off.
  pub record IsRepeated (world : World Site ToolInput ToolAnswer)
      (clean again : Given Site ToolInput RequestResult) : Type 0 where
    pub whole : IsWhole world again
    pub steady : IsSteady again.demand
    pub made : (o : Occurrence) → Occurs again.demand o → (pieces_over after o ≡ [] → ⊥) →
        IsMade clean.demand o.run o.made
    pub same : (o : Occurrence) → Occurs again.demand o → (pieces_over after o ≡ [] → ⊥) →
        (earlier : Occurrence) → Occurs clean.demand earlier → earlier.run ≡ o.run →
        HasSame o earlier
    pub none_lost : (o : Occurrence) → Occurs clean.demand o → (pieces_over files o ≡ [] → ⊥) →
        IsMade again.demand o.run o.made
    pub free : FreeRunsKeepOff tools after Clean again.demand

-- ---- a build

-- what a build is given is whole, steady and settled, and means this
pub record IsSettledBuild (tools : Name → ToolInput → ToolAnswer) (w : Build)
    (out : Given Site ToolInput RequestResult) : Type 0 where
  pub whole : IsWhole (world_of tools w) out
  pub steady : IsSteady out.demand
  pub settled : IsSettled tools w.tree.files w.mode out.demand out.journal

-- what a build is given, over another tree; and the clean build of it
abbrev pub over : Tree → Build → Build
over tree w = record w { tree = tree }

abbrev pub clean_over : (Name → ToolInput → ToolAnswer) → Build → Tree →
    World Site ToolInput ToolAnswer
clean_over tools w tree = world_of tools (in_mode Clean (over tree w))

-- the clean build, which comes to this, is repeated over the tree that a build left
abbrev pub IsRepeatedBuild : (Name → ToolInput → ToolAnswer) → Build → (left : Tree) →
    (clean again : Given Site ToolInput RequestResult) → Type 0
IsRepeatedBuild tools w left clean again =
    IsRepeated tools w.tree.files left.files (clean_over tools w left) clean again
