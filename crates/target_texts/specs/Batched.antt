-- The buckets of a target. (MSBuild batching; Target element)
use Rattle.std.specs.Prelude.{List, [], ◌∷◌, Result, codes}
use Rattle.msb_laws.specs.Words.{Text}
use Rattle.msb_expand.specs.declared.lens.Bucket.{Bucket}
use Rattle.build_world.specs.Elements.{At}
use Rattle.build_world.specs.declared.fault.EvalFault.{EvalFault}
use Rattle.msb_items.specs.Batched.{own_buckets}
use Rattle.element_texts.specs.Contexts.{ElementContext, scene_in}

-- the attributes of a target by which it is not batched
abbrev pub target_attributes : List Text
target_attributes =
    codes "AfterTargets" ∷ codes "BeforeTargets" ∷ codes "Condition" ∷ codes "DependsOnTargets"
    ∷ codes "KeepDuplicateOutputs" ∷ codes "Label" ∷ codes "Name" ∷ []

-- by its Inputs, Outputs and Returns
abbrev pub target_buckets : ElementContext → At → Result (List Bucket) EvalFault
target_buckets p e = own_buckets (scene_in p e.file) target_attributes e
