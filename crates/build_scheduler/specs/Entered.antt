-- The children of a call list, as they are made and entered. (MSBuild task, BuildInParallel)
use Rattle.std.specs.Prelude.{◌≡◌, ◌<◌, ℕ, suc, List, ◌++◌, length, map}
use Rattle.result_cache.specs.declared.request.RequestKey.{RequestKey}
use Rattle.build_meaning.specs.Lists.{at, put, Paired}
use Rattle.build_meaning.specs.Meaning.{deepest}
use Rattle.build_scheduler.specs.declared.slot.Origin.{Origin}
use Rattle.build_scheduler.specs.declared.slot.Calls.{Calls}
use Rattle.build_scheduler.specs.declared.slot.Slot.{Slot}
use Rattle.build_scheduler.specs.declared.slot.Slot.TheVariants.{Calling}
use Rattle.build_scheduler.specs.declared.request.Children.{Children}
use Rattle.build_scheduler.specs.Children.{HasDepth, IsChildSlot, child_origin, empty_set, no_run}
use Rattle.build_scheduler.specs.Own.{Seen}

-- the children of these calls, which are not nested too deep
pub record AreNew {W P I A : Type 0} (seen : W → Seen P I A) (caller : Seen P I A) (id : ℕ)
    (calls : List RequestKey) (requests : List Origin) (children : Children W) : Type 0 where
  pub depth : ℕ
  pub has_depth : HasDepth (at requests id) depth
  pub not_deep : suc depth < deepest
  pub origins : children.origins.items ≡ map (child_origin id (suc depth)) calls
  pub slots : Paired (IsChildSlot seen caller) children.slots.items calls
  pub making : children.making.items ≡ map no_run calls
  pub waiting : children.waiting.items ≡ map empty_set calls
  pub results : length children.results.items ≡ length calls

-- the walk of the caller is put away, and its children stand behind the other requests
pub record AreEntered {W : Type 0} (slots after : List (Slot W)) (id : ℕ) (walk : W)
    (children : Children W) : Type 0 where
  pub calls : Calls W
  pub walk_is : calls.walk ≡ walk
  pub first_is : calls.first ≡ length slots
  pub open_are : calls.«open» ≡ length children.slots.items
  pub results_are : calls.results.items ≡ children.results.items
  pub entered : after ≡ put slots id (Calling calls) ++ children.slots.items
