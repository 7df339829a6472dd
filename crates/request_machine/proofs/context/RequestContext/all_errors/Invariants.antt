use Rattle.std.proofs.Common.{map}
use Rattle.msb_elements.specs.View.{view}
use Rattle.build_world.specs.Elements.{at}
use Rattle.request_machine.specs.Requests.{errors_at}
use Rattle.request_machine.specs.Seen.{seen_project}
use Rattle.request_machine.proofs.Errors.{AreRead}
use Rattle.request_machine.proofs.context.RequestContext.all_errors.Given as goal

abbrev pub invariant-loop-element : goal.invariant-loop-element
invariant-loop-element l =
    AreRead (errors_at (seen_project l.self.project) l.self.state.now.scope l.self.journal.now)
    (map (at l.file) (map view l.elements)) l.element-index l.names
