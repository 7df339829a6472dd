use Rattle.std.specs.List.{zip}
use Rattle.msb_laws.proofs.Collecting.{IsFolded}
use Rattle.task_kit.specs.Copies.{copied}
use Rattle.task_kit.specs.Progress.{kept_by, made_by}
use Rattle.task_kit.proofs.copies.CopyContext.copy_each.Given as goal

abbrev pub invariant-loop-at : goal.invariant-loop-at
invariant-loop-at l =
    IsFolded (λ so_far x. kept_by so_far (copied l.self.view.now l.self.skip_unchanged so_far x))
    (zip l.sources l.destinations) l.at l.progress
    (made_by (copied l.self.view.now l.self.skip_unchanged) l.initial.progress
    (zip l.sources l.destinations))
