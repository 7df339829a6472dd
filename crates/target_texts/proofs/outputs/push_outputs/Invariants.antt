use Rattle.std.proofs.Common.{drop}
use Rattle.msb_elements.specs.View.{view}
use Rattle.build_world.specs.Elements.{at, seen_element}
use Rattle.target_texts.specs.Outputs.{output, outputs}
use Rattle.target_texts.specs.Seen.{seen_context}
use Rattle.target_texts.proofs.Pushing.{IsPushed}
use Rattle.target_texts.proofs.outputs.push_outputs.Given as goal

abbrev pub invariant-loop-child : goal.invariant-loop-child
invariant-loop-child l =
    IsPushed (λ child. output (seen_context l.context) l.given (at l.element.file.now (view child)))
    (drop l.child-index l.child-items) l.initial.changes l.changes
    (outputs (seen_context l.context) l.given (seen_element l.element))
