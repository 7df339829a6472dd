use Rattle.std.proofs.Common.{ap, map, length, refl, lit<}
use Rattle.std.specs.List.{slice_split, flat_map}
use Rattle.std.proofs.lemmas.Iterator.Consumers.{YieldsList-turn, YieldsList-end}
use Rattle.std.proofs.lemmas.Iterator.Splits.{YieldsList-from_str_split}
use Rattle.std.proofs.lemmas.List.{length_push}
use Rattle.std.proofs.lemmas.Result.{err_from_is_err_and}
use Rattle.msb_paths.specs.Normal.{walked}
use Rattle.msb_paths.specs.Segments.{is_slash}
use Rattle.msb_paths.proofs.Walks.{
  cut,
  flat_map-cut,
  walked-flat_map,
  walk_goes_on,
  walk_stops,
  walk_ends,
}
use Rattle.msb_paths.proofs.normal.walk.Goals as goal

pub loop-part-init : goal.loop-part-init
loop-part-init c = ap (λ parts. walked parts (map (λ name. name.now) c.args.names.now.items))
    (flat_map-cut c.args.text.now)

pub loop-part-preserved : goal.loop-part-preserved
loop-part-preserved c =
    let turn = YieldsList-turn
    (YieldsList-from_str_split {s = c.into_iter-part-iterator.result} 47 c.args.text.now
    (lit< tt) (cc) (cc) (cc)) c.loop-part.yielded _ c.loop-part.yielded_by _ _ c.in-Some.part
    c.in-Some.is c.next.ensures.steps in
    walk_goes_on (λ parts. walked (flat_map cut parts)) (λ names part. walked (cut part) names)
    walked-flat_map (slice_split is_slash c.args.text.now) (length c.loop-part.yielded) _
    c.in-Some.part.now
    (map (λ name. name.now) c.loop-part.names.items)
    (map (λ name. name.now) c.walk_part.new.names.items) _
    turn c.loop-part.invariant c.in_ok-walk_part.ensures
    (length_push c.loop-part.yielded c.in-Some.part)

pub returns-in_err-walk_part : goal.returns-in_err-walk_part
returns-in_err-walk_part c =
    let turn = YieldsList-turn
    (YieldsList-from_str_split {s = c.into_iter-part-iterator.result} 47 c.args.text.now
    (lit< tt) (cc) (cc) (cc)) c.loop-part.yielded _ c.loop-part.yielded_by _ _ c.in-Some.part
    c.in-Some.is c.next.ensures.steps in
    let p = err_from_is_err_and c.from_residual.result c.from_residual.ensures.1 in
    rw (p.1, p.2)
    (walk_stops {A = Unit {0}} {B = Unit {0}}
    (λ _. map (λ name. name.now) c.walk_part.new.names.items)
    (λ _. map (λ name. name.now) c.walk_part.new.names.items) c.in_err-walk_part.field-0.0
    (λ parts. walked (flat_map cut parts)) (λ names part. walked (cut part) names) walked-flat_map
    (slice_split is_slash c.args.text.now) (length c.loop-part.yielded) c.in-Some.part.now
    (map (λ name. name.now) c.loop-part.names.items) _
    turn c.loop-part.invariant c.in_err-walk_part.ensures)

pub returns : goal.returns
returns c =
    let end = YieldsList-end
    (YieldsList-from_str_split {s = c.into_iter-part-iterator.result} 47 c.args.text.now
    (lit< tt) (cc) (cc) (cc)) c.loop-part.yielded _ c.loop-part.yielded_by _ _ c.in-None.is
    c.next.ensures.steps in
    walk_ends (λ parts. walked (flat_map cut parts)) (λ _. refl)
    (slice_split is_slash c.args.text.now) (length c.loop-part.yielded)
    (map (λ name. name.now) c.loop-part.names.items) _ end.1 c.loop-part.invariant
