-- The requests that a body calls at once. (MSBuild task, BuildInParallel)
use Rattle.std.specs.Prelude.{◌≡◌, ℕ, List, [], Option, None, Some}
use Rattle.result_cache.specs.declared.run.RunId.{RunId}
use Rattle.result_cache.specs.declared.request.RequestKey.{RequestKey}
use Rattle.build_scheduler.specs.declared.walker.Ask.{Ask}
use Rattle.build_scheduler.specs.declared.walker.Ask.TheVariants.{Call}
use Rattle.build_scheduler.specs.declared.walker.Answer.TheVariants.{First}
use Rattle.build_scheduler.specs.declared.slot.Origin.{Origin}
use Rattle.build_scheduler.specs.declared.slot.Slot.{Slot}
use Rattle.build_scheduler.specs.declared.slot.Slot.TheVariants.{Ready}
use Rattle.build_scheduler.specs.Learnt.{ArePartOf}
use Rattle.build_scheduler.specs.Numbers.{Numbered}
use Rattle.build_scheduler.specs.Own.{Seen}
use Rattle.build_scheduler.specs.Position.{begins}

-- the request asks for just these calls
abbrev pub AreAsked : List RequestKey → Ask → Type 0
AreAsked calls ask = ask ≡ Call calls

-- a walk of this key, which begins with the journal of its caller and knows no more than it
pub record IsChild {P I A : Type 0} (caller : Seen P I A) (key : RequestKey) (walk : Seen P I A) :
    Type 0 where
  pub world : walk.world ≡ caller.world
  pub position : walk.position ≡ begins caller.world key caller.position.journal
  pub asked : walk.asked ≡ 0
  pub learnt : ArePartOf walk.learnt caller.learnt

-- the slot of a call: it is ready, with its first answer
abbrev pub IsChildSlot : {W P I A : Type 0} → (W → Seen P I A) → Seen P I A → Slot W → RequestKey
    → Type 0
IsChildSlot seen caller (Ready walk First) key = IsChild caller key (seen walk)
IsChildSlot seen caller slot key = ⊥

-- whose request it is
abbrev pub child_origin : ℕ → ℕ → RequestKey → Origin
child_origin caller depth key = record { key = key; parent = Some caller; depth = depth }

abbrev pub no_run : RequestKey → Option RunId
no_run key = None

abbrev pub empty_set : RequestKey → Numbered
empty_set key = record { numbers = []; room = 0 }

-- how many requests call each other down to it
abbrev pub HasDepth : Option Origin → ℕ → Type 0
HasDepth None depth = ⊥
HasDepth (Some origin) depth = origin.depth ≡ depth
