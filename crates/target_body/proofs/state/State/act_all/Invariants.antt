use Rattle.std.proofs.Common.{◌≡◌, ℕ, List}
use Rattle.std.specs.Vec.Iter.{into_iter_items}
use Rattle.task_trait.specs.declared.tools.ToolAnswer.{ToolAnswer}
use Rattle.task_trait.specs.declared.tools.ToolInput.{ToolInput}
use Rattle.target_body.specs.Answers.{all_acted}
use Rattle.target_body.specs.Moments.{Moment, done_at, moment, player, state_at}
use Rattle.target_body.specs.Played.{played}
use Rattle.target_body.proofs.state.State.act_all.Given as goal

abbrev pub invariant-loop-act : goal.invariant-loop-act
invariant-loop-act l = (answer : List ℕ → ToolInput → ToolAnswer)
    (tools : List (List ℕ × ToolInput)) →
    let now : Moment = moment l.self l.journal tools in
    let first : Moment = moment l.initial.self l.initial.journal tools in
    played (player l.run answer) (all_acted (into_iter_items l.act-iterator) (state_at now))
    (done_at now)
    ≡ played (player l.run answer) (all_acted l.fn.acts.items (state_at first)) (done_at first)
