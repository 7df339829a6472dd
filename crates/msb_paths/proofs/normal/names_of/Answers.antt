use Rattle.std.proofs.Common.{◌≡◌, ℕ, List, ap, sym, map, [], ◌∙◌, Vec, Global, Bor}
use Rattle.std.proofs.lemmas.Result.{err_from_is_err_and}
use Rattle.msb_paths.specs.Segments.{segments}
use Rattle.msb_paths.proofs.Walks.{Names, refused, start_refused, start_goes_on}
use Rattle.msb_paths.proofs.normal.names_of.Goals as goal

texts : List (Bor (List ℕ)) → Names
texts names = map (λ name. name.now) names

pub returns-in_err-walk : goal.returns-in_err-walk
unfolding texts
returns-in_err-walk c =
    let p = err_from_is_err_and c.from_residual.result c.from_residual.ensures.1 in
    let empty : texts c.new-names.result.items ≡ [] = ap texts c.new-names.ensures.items in
    rw (p.1, p.2)
    (refused {A = Unit {0}} {B = Vec (Bor (List ℕ)) Global} (λ _. texts c.walk.new.names.items)
    (λ names. texts names.items) c.in_err-walk.field-0.0 _ _
    (start_refused (segments c.args.start.now) (segments c.args.text.now) _ empty)
    c.in_err-walk.ensures)

pub returns-in_err-walk-2 : goal.returns-in_err-walk-2
unfolding texts
returns-in_err-walk-2 c =
    let p = err_from_is_err_and c.from_residual-in_err-walk-2.result
    c.from_residual-in_err-walk-2.ensures.1 in
    let empty : texts c.new-names.result.items ≡ [] = ap texts c.new-names.ensures.items in
    rw (p.1, p.2)
    (refused {A = Unit {0}} {B = Vec (Bor (List ℕ)) Global}
    (λ _. texts c.walk-2.new.names.items) (λ names. texts names.items) c.in_err-walk-2.field-0.0
    _ _
    (λ stops.
    sym
    (start_goes_on (segments c.args.start.now) (segments c.args.text.now) _
    (texts c.walk.new.names.items) empty c.in_ok-walk.ensures) ∙ stops) c.in_err-walk-2.ensures)

pub returns : goal.returns
unfolding texts
returns c =
    let empty : texts c.new-names.result.items ≡ [] = ap texts c.new-names.ensures.items in
    sym
    (start_goes_on (segments c.args.start.now) (segments c.args.text.now) _
    (texts c.walk.new.names.items) empty c.in_ok-walk.ensures) ∙ c.in_ok-walk-2.ensures
