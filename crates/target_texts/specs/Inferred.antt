-- The Outputs of a task that is not called. (Incremental builds: output inference)
use Rattle.std.specs.Prelude.{[], Bool, true, false}
use Rattle.std.specs.Str.{str_to_ascii_lowercase}
use Rattle.msb_laws.specs.Words.{Name}
use Rattle.msb_elements.specs.Nodes.{name_of}
use Rattle.build_world.specs.Elements.{At}
use Rattle.element_texts.specs.Contexts.{ElementContext, in_bucket, element_holds}
use Rattle.target_texts.specs.Made.{Made, all_made, or_fault_made, up_to_fault}
use Rattle.target_texts.specs.OnErrors.{on_error_at}
use Rattle.target_texts.specs.Outputs.{outputs}
use Rattle.target_texts.specs.Parameters.{task_buckets, params_at}

-- the name of a task
abbrev pub task_of : At → Name
task_of e = str_to_ascii_lowercase (name_of e.node)

-- where it is not called its texts are expanded all the same, and an Output is the parameter of the
-- same name
abbrev pub inference_if : Bool → ElementContext → At → (task : Name) → Made
inference_if true p e task =
    or_fault_made (on_error_at p e)
    (λ on_error. or_fault_made (params_at p e task) (λ params. outputs p params e))
inference_if false p e task = all_made []

-- in a bucket
abbrev pub inference : ElementContext → At → (task : Name) → Made
inference p e task = or_fault_made (element_holds p e) (λ holds. inference_if holds p e task)

-- over the whole list, bucket by bucket
abbrev pub inferred_at : ElementContext → At → Made
inferred_at p e = or_fault_made (task_buckets p e)
    (up_to_fault (λ bucket. inference (in_bucket p bucket) e (task_of e)))
