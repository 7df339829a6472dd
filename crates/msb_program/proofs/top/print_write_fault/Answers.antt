use Rattle.std.proofs.Common.{ℕ, List, inl, refl, subst, ◌∙◌}
use Rattle.msb_program.specs.Endings.{Printed, sink_change}
use Rattle.msb_program.proofs.top.print_write_fault.Goals as goal

pub returns-in-Ok : goal.returns-in-Ok
returns-in-Ok g c = inl (
  refl,
  subst (λ (text : List ℕ).
      Printed (sink_change g.K.Sink.seen c.args.sink.now c.print.new.sink) text)
      (c.as_bytes.ensures.value ∙ c.in-Ok.ensures) c.print.ensures,
)
