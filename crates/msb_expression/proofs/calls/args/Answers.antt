use Rattle.std.proofs.Common.{◌∙◌, ◌+◌, sym, ap, refl, [], drop, Some}
use Rattle.msb_expression.specs.declared.sorts.Sort.TheVariants.{Close}
use Rattle.msb_expression.specs.Machine.{
  called,
  call_arg_wanted,
  arguments_of,
  with_call,
  property_call,
  run,
}
use Rattle.msb_expression.proofs.Places.{run-at}
use Rattle.msb_expression.proofs.CallPlaces.{wanted_spaces, no_close}
use Rattle.msb_expression.proofs.calls.args.Goals as goal

pub some_args-requires-clause-some : goal.some_args-requires-clause-some
some_args-requires-clause-some c =
    let s = c.spaces_end-end.ensures in
    no_close c.args.text.now c.args.at c.spaces_end-end.result s.after s.spaces s.no_space
    (λ e. c.in_default.not-Close (c.sort_at.ensures ∙ e))

pub returns-in-Close-clause-leads : goal.returns-in-Close-clause-leads
returns-in-Close-clause-leads c = λ heads function.
    let s = c.spaces_end-end.ensures in
    wanted_spaces (arguments_of heads function) c.args.text.now c.args.at c.spaces_end-end.result
    s.after s.spaces
    ∙ run-at c.args.text.now c.spaces_end-end.result
    (call_arg_wanted (arguments_of heads function) _)
    (called (with_call heads (property_call function (Some [])))) Close (sym c.in-Close.ensures)
    (λ k. cc) refl
    ∙ ap (λ list. run (drop (c.spaces_end-end.result + 1) c.args.text.now)
    (called (with_call heads (property_call function (Some list))))) (sym c.new.ensures)
