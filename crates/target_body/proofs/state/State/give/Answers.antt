use Rattle.std.proofs.Common.{◌≡◌, ◌∙◌, ◌++◌, List, ap, subst, sym}
use Rattle.msb_laws.specs.Results as results
use Rattle.msb_values.specs.declared.note.Note.{Note}
use Rattle.msb_values.specs.declared.act.Act.{Act}
use Rattle.build_world.specs.Elements.{seen_element}
use Rattle.target_body.specs.Answers.{all_acted}
use Rattle.target_body.specs.Moments.{done_at, moment, player, state_at}
use Rattle.target_body.specs.Played.{over, played}
use Rattle.target_body.specs.Seen.{ended, seen_done, seen_run, seen_state}
use Rattle.target_body.specs.Tasks.{ended_by}
use Rattle.target_body.specs.declared.state.State.{State as Held}
use Rattle.target_body.specs.declared.steps.Ending.{Ending}
use Rattle.target_body.specs.declared.steps.Ending.TheVariants.{Faulted}
use Rattle.target_body.proofs.Giving.{answered_so, given_ends}
use Rattle.target_body.proofs.state.State.give.Goals as goal

pub returns-in-Fine : goal.returns-in-Fine
returns-in-Fine c = λ answer tools.
    let run = seen_run c.args.call.now.context in
    let e = seen_element c.args.call.now.element in
    let bucket = c.args.call.now.bucket.now in
    let p = player c.args.call.now.context.id.now answer in
    let held = c.act_all.new.self in
    let after = c.take_outputs.new.self in
    let journal = c.act_all.new.journal in
    let before = moment c.args.self.now c.args.journal.now tools in
    let P : List Act → Type 0 = λ acts. played p (all_acted acts (state_at before)) (done_at before)
    ≡ over (seen_state held journal) (seen_done held journal tools) in
    given_ends run e c.args.call.now.gives bucket c.args.on_error p c.args.output
    before (moment after journal tools) held c.ending_of.result
    (subst P c.into_vec.ensures (c.in_ok-act_all.ensures answer tools))
    (sym
    (c.in_ok-take_outputs.ensures.kept ∙ ap (λ (h : Held). h.segments)
    c.in_ok-add_notes.ensures))
    (answered_so run e c.args.call.now.gives bucket c.args.on_error c.args.output held
    c.add_notes.new.self after journal c.in_ok-take_outputs.field-0
    (c.in_ok-add_notes.ensures
    ∙ ap (λ (notes : List Note). record held { notes = held.notes ++ notes })
    c.in_ok-notes.ensures) c.in_ok-take_outputs.ensures.taken
    ∙ ap
    (λ (ending : Ending). results.and_then (ended ending (seen_state after journal))
    (ended_by c.args.on_error c.args.output.ok)) c.in-Fine.is
    ∙ sym (c.ending_of.ensures (seen_state after journal)))

pub returns-in-Faulted : goal.returns-in-Faulted
returns-in-Faulted c = λ answer tools.
    let run = seen_run c.args.call.now.context in
    let e = seen_element c.args.call.now.element in
    let bucket = c.args.call.now.bucket.now in
    let p = player c.args.call.now.context.id.now answer in
    let held = c.act_all.new.self in
    let after = c.take_outputs.new.self in
    let journal = c.act_all.new.journal in
    let before = moment c.args.self.now c.args.journal.now tools in
    let P : List Act → Type 0 = λ acts. played p (all_acted acts (state_at before)) (done_at before)
    ≡ over (seen_state held journal) (seen_done held journal tools) in
    given_ends run e c.args.call.now.gives bucket c.args.on_error p c.args.output
    before (moment after journal tools) held Faulted
    (subst P c.into_vec.ensures (c.in_ok-act_all.ensures answer tools))
    (sym
    (c.in_ok-take_outputs.ensures.kept ∙ ap (λ (h : Held). h.segments)
    c.in_ok-add_notes.ensures))
    (answered_so run e c.args.call.now.gives bucket c.args.on_error c.args.output held
    c.add_notes.new.self after journal c.in_ok-take_outputs.field-0
    (c.in_ok-add_notes.ensures
    ∙ ap (λ (notes : List Note). record held { notes = held.notes ++ notes })
    c.in_ok-notes.ensures) c.in_ok-take_outputs.ensures.taken
    ∙ ap
    (λ (ending : Ending). results.and_then (ended ending (seen_state after journal))
    (ended_by c.args.on_error c.args.output.ok)) c.in-Faulted.is)
