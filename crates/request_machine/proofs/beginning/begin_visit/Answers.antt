use Rattle.std.proofs.Common.{◌≡◌, false, sym, ap, ◌∙◌}
use Rattle.std.proofs.lemmas.Result.{IfOk-weaker}
use Rattle.build_world.specs.Instances.{seen_instance}
use Rattle.build_world.specs.declared.instance.Instance.{Instance as Made}
use Rattle.target_order.specs.Left.{left}
use Rattle.target_order.specs.Visit.{order}
use Rattle.target_order.specs.declared.asks.OrderAnswer.TheVariants.{First}
use Rattle.request_machine.specs.Stages.{StandsAt, StandsBy, left_by}
use Rattle.request_machine.specs.Requests.{all_targets, has_no_targets}
use Rattle.request_machine.specs.Walk.{RequestScope, nothing_ran, walk, walk_in, walk_unless}
use Rattle.request_machine.specs.Worlds.{bodies_of, project_of}
use Rattle.request_machine.proofs.Starting.{next_left, tree_stands}
use Rattle.request_machine.proofs.beginning.begin_visit.Goals as goal

pub returns : goal.returns
returns g c =
    let w = c.args.world.now in
    let key = c.args.key.now in
    let journal = c.args.journal.now in
    let p = project_of w key (seen_instance c.args.instance) in
    let bodies = bodies_of w p in
    let s : RequestScope = record { scope = c.in_ok-copy.field-0; returned = c.new.result } in
    let tree = left c.in_ok-order.order First in
    let now = c.answer_order.new.order in
    let next_stop = c.in_ok-next_stop.next_stop in
    let made = c.get-evaluated.result.now in
    let is = c.get-evaluated.ensures in
    let begins : walk_in p key bodies journal
    ≡ walk p key bodies (order p.instance.rows (all_targets p.instance key)) (nothing_ran p)
    journal =
    ap (λ b. walk_unless p key bodies b journal)
    (sym (ap (λ i. has_no_targets (seen_instance i) key) is)
    ∙ (sym c.has_no_targets.ensures ∙ c.if-has_no_targets.false)) in
    let order_is : tree ≡ order p.instance.rows (all_targets p.instance key) =
    c.in_ok-order.ensures.order ∙ (ap (order made.rows) c.in_ok-targets.ensures
    ∙ ap (λ i. let made = seen_instance i in order made.rows (all_targets made key)) is) in
    let scope_is : s.scope ≡ p.instance.scope =
    c.in_ok-copy.ensures ∙ ap (λ (i : Made). i.scope) is in
    let same : left_by p key bodies s now journal next_stop ≡ walk_in p key bodies journal =
    sym (next_left p key s journal tree next_stop now c.in_ok-next_stop.ensures bodies)
    ∙ (ap (λ t. walk p key bodies t s journal) order_is
    ∙ (ap (λ scope. walk p key bodies (order p.instance.rows (all_targets p.instance key))
    (record { scope = scope; returned = c.new.result }) journal) scope_is
    ∙ (ap
    (λ returned. walk p key bodies (order p.instance.rows (all_targets p.instance key))
    (record { scope = p.instance.scope; returned = returned }) journal) c.new.ensures
    ∙ sym begins))) in
    IfOk-weaker c.make_stage.result (StandsBy key p.instance s now next_stop)
    (StandsAt w key journal (walk_in p key bodies journal))
    (λ stage stands. tree_stands w key journal (left_by p key bodies s now journal next_stop)
    (walk_in p key bodies journal) stage same (stands w journal)) c.make_stage.ensures
