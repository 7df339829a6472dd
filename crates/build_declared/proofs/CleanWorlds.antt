-- A build of declared and fresh projects gives what the clean build of the same files gives.
use Rattle.std.proofs.Common.{◌≡◌, ℕ, List, Some, refl, sym, ◌∙◌, subst}
use Rattle.msb_values.specs.declared.mode.Mode.{Mode}
use Rattle.msb_values.specs.declared.mode.Mode.TheVariants.{Incremental, Clean}
use Rattle.file_store.specs.declared.tree.File.{File}
use Rattle.build_world.specs.declared.world.World.{World as Build}
use Rattle.result_cache.specs.declared.request.RequestResult.{RequestResult}
use Rattle.build_meaning.specs.Meaning.{Given, meaning}
use Rattle.build_meaning.specs.Demand.{IsWhole}
use Rattle.msb_files.specs.FinalTree.{IsFinalTree}
use Rattle.task_trait.specs.declared.tools.ToolAnswer.{ToolAnswer}
use Rattle.task_trait.specs.declared.tools.ToolInput.{ToolInput}
use Rattle.request_machine.specs.Walk.{Site}
use Rattle.request_machine.specs.Worlds.{root_of, world_of, instances_of}
use Rattle.build_declared.specs.Builds.{in_mode}
use Rattle.build_declared.specs.Written.{bytes_in}
use Rattle.build_declared.specs.Clean.{IsTrustworthy, GivesClean}
use Rattle.build_declared.proofs.CleanOutcomes.{incremental-is-clean-so}

module _ (tools : List ℕ → ToolInput → ToolAnswer) (w : Build)
    (clean : Given Site ToolInput RequestResult) (t : IsTrustworthy tools w clean) where
  abbrev IsClean : Build → Type 0
  IsClean b = (out : Given Site ToolInput RequestResult) × IsWhole (world_of tools b) out
      × GivesClean w.tree.files out clean

  in-each : (mode : Mode) → IsClean (in_mode mode w)
  in-each Clean =
      (clean, t.declared.whole, record { result = refl; contents = λ path. refl })
  in-each Incremental =
      let y = incremental-is-clean-so tools w.tree.files (root_of w) (instances_of w.tree.files)
      clean t.declared t.fresh in
      (y.0, y.1, record { result = y.2; contents = y.3.same })

  same-mode : in_mode w.mode w ≡ w
  same-mode = refl

  pub build-is-clean : IsClean w
  build-is-clean = subst IsClean same-mode (in-each w.mode)

  -- so does what the world means
  pub meant-is-clean : (out : Given Site ToolInput RequestResult) →
      meaning (world_of tools w) ≡ Some out → GivesClean w.tree.files out clean
  meant-is-clean out means =
      let same : Some build-is-clean.0 ≡ Some out = sym build-is-clean.1.means ∙ means in
      subst (λ z. GivesClean w.tree.files z clean)
      (let e : build-is-clean.0 ≡ out = cc in e) build-is-clean.2

  -- and the trees that both leave have the same bytes at each path
  pub trees-are-clean : (out : Given Site ToolInput RequestResult) →
      meaning (world_of tools w) ≡ Some out → (after other : List File) →
      IsFinalTree w.tree.files out.journal after → IsFinalTree w.tree.files clean.journal other →
      (path : List ℕ) → bytes_in after path ≡ bytes_in other path
  trees-are-clean out means after other here there path =
      here path ∙ ((meant-is-clean out means).contents path ∙ sym (there path))
