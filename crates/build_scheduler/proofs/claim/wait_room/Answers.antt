use Rattle.std.proofs.Common.{◌∙◌, ap, arith, refl}
use Rattle.build_scheduler.specs.Numbers.{Numbered}
use Rattle.build_scheduler.specs.Shown.{room_of}
use Rattle.build_scheduler.proofs.Waiting.{reserved-numbers, set-mine}
use Rattle.build_scheduler.proofs.claim.wait_room.Goals as goal

pub returns-in_err-reserve-2-clause-same : goal.returns-in_err-reserve-2-clause-same
returns-in_err-reserve-2-clause-same c =
    reserved-numbers c.args.waiting.now.items _ c.args.by c.reserve-2.new.self
    c.index_mut.result.now c.requires refl
    (c.in_err-reserve-2.ensures.numbers ∙ ap (λ (s : Numbered). s.numbers)
    c.index_mut.ensures.value)

pub returns-clause-same : goal.returns-clause-same
returns-clause-same c =
    reserved-numbers c.args.waiting.now.items _ c.args.by c.reserve-2.new.self
    c.index_mut.result.now c.requires refl
    (c.in_ok-reserve-2.ensures.numbers ∙ ap (λ (s : Numbered). s.numbers) c.index_mut.ensures.value)

pub returns-clause-spare : goal.returns-clause-spare
returns-clause-spare c =
    let mine = set-mine room_of c.args.waiting.now.items _ c.args.by c.reserve-2.new.self
    c.index_mut.result.now c.requires refl in
    let more = c.in_ok-reserve-2.ensures.ok in omega arith
