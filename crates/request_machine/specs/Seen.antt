-- The project that the code holds. (How MSBuild builds projects, execution phase)
-- Contracts of private functions alone name this: what requests mean is told without it.
use Rattle.build_world.specs.Instances.{seen_instance}
use Rattle.request_machine.specs.Requests.{Project}
use Rattle.request_machine.specs.declared.context.Project.{Project as HeldProject}

abbrev pub seen_project : HeldProject → Project
seen_project held = record
    { files = held.tree.now.files; key = held.key.now; instance = seen_instance held.instance.now }
