use Rattle.std.proofs.Common.{Some, None, cond, take, ap, ◌∙◌}
use Rattle.std.specs.Option.{option_or}
use Rattle.std.specs.Str.{bytes_eq}
use Rattle.build_world.specs.Places.{place_of}
use Rattle.build_world.proofs.Placing.{one_more_place}
use Rattle.build_world.proofs.used_targets.places.Goals as goal

pub loop-place-preserved : goal.loop-place-preserved
loop-place-preserved c =
    let at = c.loop-place.place in
    let before = λ (name : _). place_of name (take at c.args.targets.now) in
    λ name. c.in_ok-insert_unless_there.ensures name
    ∙ ap (λ o. option_or o (cond (bytes_eq c.key.result.now name) (Some at) None))
    (c.loop-place.invariant name)
    ∙ ap (λ key. option_or (before name) (cond (bytes_eq key name) (Some at) None)) c.key.ensures
    ∙ one_more_place name c.args.targets.now at c.index-targets-place.result c.loop-place-test.true
    c.index-targets-place.is
