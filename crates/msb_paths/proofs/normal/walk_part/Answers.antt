use Rattle.std.proofs.Common.{map, length, refl, lit<}
use Rattle.std.specs.List.{slice_split}
use Rattle.std.proofs.lemmas.Iterator.Consumers.{YieldsList-turn, YieldsList-end}
use Rattle.std.proofs.lemmas.Iterator.Splits.{YieldsList-from_str_split}
use Rattle.std.proofs.lemmas.List.{length_push}
use Rattle.std.proofs.lemmas.Result.{err_from_is_err_and}
use Rattle.msb_paths.specs.Normal.{entered, walked}
use Rattle.msb_paths.specs.Segments.{is_backslash}
use Rattle.msb_paths.proofs.Walks.{walk_goes_on, walk_stops, walk_ends}
use Rattle.msb_paths.proofs.normal.walk_part.Goals as goal

pub loop-segment-preserved : goal.loop-segment-preserved
loop-segment-preserved c =
    let turn = YieldsList-turn
    (YieldsList-from_str_split {s = c.into_iter-segment-iterator.result} 92 c.args.part.now
    (lit< tt) (cc) (cc) (cc)) c.loop-segment.yielded _ c.loop-segment.yielded_by _ _
    c.in-Some.segment c.in-Some.is c.next.ensures.steps in
    walk_goes_on walked entered (λ _ _ _. refl) (slice_split is_backslash c.args.part.now)
    (length c.loop-segment.yielded) _ c.in-Some.segment.now
    (map (λ name. name.now) c.loop-segment.names.items)
    (map (λ name. name.now) c.enter.new.names.items) _
    turn c.loop-segment.invariant c.in_ok-enter.ensures
    (length_push c.loop-segment.yielded c.in-Some.segment)

pub returns-in_err-enter : goal.returns-in_err-enter
returns-in_err-enter c =
    let turn = YieldsList-turn
    (YieldsList-from_str_split {s = c.into_iter-segment-iterator.result} 92 c.args.part.now
    (lit< tt) (cc) (cc) (cc)) c.loop-segment.yielded _ c.loop-segment.yielded_by _ _
    c.in-Some.segment c.in-Some.is c.next.ensures.steps in
    let p = err_from_is_err_and c.from_residual.result c.from_residual.ensures.1 in
    rw (p.1, p.2)
    (walk_stops {A = Unit {0}} {B = Unit {0}}
    (λ _. map (λ name. name.now) c.enter.new.names.items)
    (λ _. map (λ name. name.now) c.enter.new.names.items) c.in_err-enter.field-0.0
    walked entered (λ _ _ _. refl) (slice_split is_backslash c.args.part.now)
    (length c.loop-segment.yielded) c.in-Some.segment.now
    (map (λ name. name.now) c.loop-segment.names.items) _
    turn c.loop-segment.invariant c.in_err-enter.ensures)

pub returns : goal.returns
returns c =
    let end = YieldsList-end
    (YieldsList-from_str_split {s = c.into_iter-segment-iterator.result} 92 c.args.part.now
    (lit< tt) (cc) (cc) (cc)) c.loop-segment.yielded _ c.loop-segment.yielded_by _ _
    c.in-None.is c.next.ensures.steps in
    walk_ends walked (λ _. refl) (slice_split is_backslash c.args.part.now)
    (length c.loop-segment.yielded) (map (λ name. name.now) c.loop-segment.names.items) _ end.1
    c.loop-segment.invariant
