use Rattle.std.proofs.Common.{lit<, rules}
use Rattle.std.proofs.lemmas.Result.{err_from_is_err_and}
use Rattle.std.proofs.lemmas.Str.Pattern.{split_parts}
use Rattle.msb_expand.specs.Entries.{reading_of}
use Rattle.msb_expand.proofs.Turns.{passed_on}
use Rattle.msb_expand.proofs.Cuts.{text_stops, close_stops, text_goes_on, text_ends}
use Rattle.msb_expand.proofs.reading.Reading.push_text.Goals as goal

pub returns-in_err-push_piece : goal.returns-in_err-push_piece
returns-in_err-push_piece c =
    let parts = rw c.in-Some.is at
    (split_parts 59 c.loop-piece.rest.now c.split_once.result c.split_once.ensures.cases
    (lit< tt)) in
    let p = err_from_is_err_and c.from_residual.result c.from_residual.ensures.1 in
    rw (p.1, p.2)
    (passed_on _ _ _
    (λ f is. text_stops (reading_of c.loop-piece.self) c.loop-piece.rest.now c.in-Some.piece.now
    c.in-Some.after.now _ f parts c.loop-piece.invariant.so_far is)
    c.in_err-push_piece.ensures)

pub returns-in_err-close : goal.returns-in_err-close
returns-in_err-close c =
    let parts = rw c.in-Some.is at
    (split_parts 59 c.loop-piece.rest.now c.split_once.result c.split_once.ensures.cases
    (lit< tt)) in
    let p = err_from_is_err_and c.from_residual-in_err-close.result
    c.from_residual-in_err-close.ensures.1 in
    rw (p.1, p.2)
    (passed_on _ _ _
    (λ f is. close_stops (reading_of c.loop-piece.self) (reading_of c.push_piece.new.self)
    c.loop-piece.rest.now c.in-Some.piece.now c.in-Some.after.now _ f parts
    c.loop-piece.invariant.so_far c.in_ok-push_piece.ensures is)
    c.in_err-close.ensures)

pub loop-piece-preserved : goal.loop-piece-preserved
loop-piece-preserved c =
    let parts = rw c.in-Some.is at
    (split_parts 59 c.loop-piece.rest.now c.split_once.result c.split_once.ensures.cases
    (lit< tt)) in
    record {
      utf8 = search rules;
      so_far = text_goes_on (reading_of c.loop-piece.self) (reading_of c.push_piece.new.self) _
          c.loop-piece.rest.now c.in-Some.piece.now c.in-Some.after.now _ parts
          c.loop-piece.invariant.so_far c.in_ok-push_piece.ensures c.in_ok-close.ensures;
    }

pub returns : goal.returns
returns c =
    let none = rw c.in_default.is at
    (split_parts 59 c.loop-piece.rest.now c.split_once.result c.split_once.ensures.cases
    (lit< tt)) in
    rw
    (← text_ends (reading_of c.loop-piece.self) c.loop-piece.rest.now _ none
    c.loop-piece.invariant.so_far) c.push_piece-2.ensures
