use Rattle.std.proofs.Common.{◌≡◌, Some, false, true, cond, ap, ◌∙◌, subst}
use Rattle.target_order.specs.Progress.{number_of, is_past}
use Rattle.target_order.specs.Search.{IsSound, circle_at}
use Rattle.target_order.specs.Visit.{settled, circular}
use Rattle.target_order.proofs.Standing.{is_new, is_open}
use Rattle.target_order.proofs.walk.OrderWalk.standing.Goals as goal

pub returns-in-None : goal.returns-in-None
returns-in-None c =
    let p = c.args.self.now in
    let sound = subst (λ q. IsSound q c.self.inside.places) c.self.view_is c.self.invariant in
    let has_run = ap (λ q. q.has_run) c.self.view_is in
    let run = c.get.ensures false in
    let names = ap (λ q. number_of q.table.names c.args.name.now) c.self.view_is in
    let number : number_of p.table.names c.args.name.now
    ≡ Some c.in-Some.target = cc (c.in-Some.ensures.value) in
    is_new p c.self.inside.places c.args.cursor c.args.name.now c.in-Some.target sound
    c.requires.deep number (cc) c.in-None.ensures.absent

pub returns-in-Some-open_place : goal.returns-in-Some-open_place
returns-in-Some-open_place c =
    let p = c.args.self.now in
    let sound = subst (λ q. IsSound q c.self.inside.places) c.self.view_is c.self.invariant in
    let has_run = ap (λ q. q.has_run) c.self.view_is in
    let run = c.get.ensures false in
    let names = ap (λ q. number_of q.table.names c.args.name.now) c.self.view_is in
    let number : number_of p.table.names c.args.name.now
    ≡ Some c.in-Some.target = cc (c.in-Some.ensures.value) in
    let here = c.in-Some-open_place.ensures.found in
    let past : is_past c.step_at.result ≡ true = cc in
    is_open p c.self.inside.places c.args.cursor c.args.name.now c.in-Some.target
    c.in-Some-open_place.place c.step_at.result sound c.requires.deep number (cc) here.0 here.1
    c.step_at.ensures.top c.step_at.ensures.below
    ∙ ap
    (λ b.
    cond b settled
    (circular (circle_at p c.args.cursor.depth c.in-Some-open_place.place c.args.name.now)))
    past

pub returns-in-Some-2 : goal.returns-in-Some-2
returns-in-Some-2 c =
    let p = c.args.self.now in
    let sound = subst (λ q. IsSound q c.self.inside.places) c.self.view_is c.self.invariant in
    let has_run = ap (λ q. q.has_run) c.self.view_is in
    let run = c.get.ensures false in
    let names = ap (λ q. number_of q.table.names c.args.name.now) c.self.view_is in
    let number : number_of p.table.names c.args.name.now
    ≡ Some c.in-Some.target = cc (c.in-Some.ensures.value) in
    let here = c.in-Some-open_place.ensures.found in
    let past : is_past c.step_at.result ≡ false = cc in (
      here.0,
      is_open p c.self.inside.places c.args.cursor c.args.name.now c.in-Some.target
          c.in-Some-open_place.place c.step_at.result sound c.requires.deep number (cc) here.0
          here.1 c.step_at.ensures.top c.step_at.ensures.below
          ∙ ap
          (λ b.
          cond b settled
          (circular
          (circle_at p c.args.cursor.depth c.in-Some-open_place.place c.args.name.now))) past,
    )
