use Rattle.std.proofs.Common.{◌≡◌, ◌++◌, map, Err, sym, ap, ◌∙◌, subst}
use Rattle.std.proofs.lemmas.Result.{err_from_is_err_and}
use Rattle.msb_values.specs.Caused.{UnlessMemory}
use Rattle.msb_values.proofs.Causing.{unless}
use Rattle.msb_elements.specs.View.{view}
use Rattle.build_world.specs.Answers.{GivesFault}
use Rattle.build_world.specs.Elements.{at}
use Rattle.request_machine.specs.Requests.{errors_at, errors_of}
use Rattle.request_machine.specs.Seen.{seen_project}
use Rattle.request_machine.proofs.Errors.{read_more, read_fault}
use Rattle.request_machine.proofs.Placing.{placed_at, placed_within}
use Rattle.request_machine.proofs.context.RequestContext.all_errors.Goals as goal

pub returns-in_err-more : goal.returns-in_err-more
returns-in_err-more c =
    let m = c.args.self.now in
    let of = errors_at (seen_project m.project) m.state.now.scope m.journal.now in
    let file = c.args.file.now in
    let elements = c.args.elements.now in
    let i = c.loop-element.element-index in
    let e = c.element-item.result in
    let p = err_from_is_err_and c.from_residual.result c.from_residual.ensures.1 in
    let all = errors_of (seen_project m.project) m.state.now.scope m.journal.now
    (map (at file) (map view elements)) in
    let fault = c.in_err-more.field-0.0 in
    subst (λ r. GivesFault (λ names. names) r all) (sym p.1)
    (subst (λ f. UnlessMemory f.cause (all ≡ Err f)) (sym p.2)
    (unless fault.cause
    (read_fault of (map (at file) (map view elements)) i c.loop-element.names
    c.loop-element.invariant (at file (view e))
    (placed_within file elements i c.loop-element-test.true)
    (placed_at file elements i e c.loop-element-test.true c.element-item.is) fault)
    c.in_err-more.ensures))

pub loop-element-preserved : goal.loop-element-preserved
loop-element-preserved c =
    let m = c.args.self.now in
    let of = errors_at (seen_project m.project) m.state.now.scope m.journal.now in
    let file = c.args.file.now in
    let elements = c.args.elements.now in
    let i = c.loop-element.element-index in
    let e = c.element-item.result in
    rw (c.in_ok-add_all.ensures
    ∙ ap (λ more. c.loop-element.names ++ more) c.as_slice.ensures)
    (read_more of (map (at file) (map view elements)) i c.loop-element.names
    c.loop-element.invariant (at file (view e))
    (placed_within file elements i c.loop-element-test.true)
    (placed_at file elements i e c.loop-element-test.true c.element-item.is) c.in_ok-more.more
    c.in_ok-more.ensures)
