use Rattle.std.proofs.Common.{Some, ap, sym, ◌∙◌}
use Rattle.result_cache.proofs.SlotEntries.{request_if}
use Rattle.result_cache.proofs.TableSlots.{table-found, table-begun}
use Rattle.result_cache.proofs.table.Table.find_by.Goals as goal

pub returns-in-Some : goal.returns-in-Some
returns-in-Some c =
    table-found c.self.inside.finished c.self.inside.begun.entries c.self.invariant c.args.self.now
    c.self.view_is c.args.run.now ∙ sym c.in-Some.ensures

pub returns-in-Some-Some : goal.returns-in-Some-Some
returns-in-Some-Some c =
    let kept = c.self.inside.finished in
    let es = c.self.inside.begun.entries in
    let there = sym c.in-Some-Some.ensures.value ∙ ap Some c.in-Some-Some.field-0-is in (
      table-found kept es c.self.invariant c.args.self.now c.self.view_is c.args.run.now
          ∙ sym c.in_default.ensures,
      table-begun kept es c.self.invariant c.args.self.now c.self.view_is c.args.run.now
          ∙ ap request_if there,
    )

pub returns-in-Some-None : goal.returns-in-Some-None
returns-in-Some-None c =
    let kept = c.self.inside.finished in
    let es = c.self.inside.begun.entries in
    let there = sym c.in-Some-None.ensures.value ∙ ap Some c.in-Some-None.field-0-is in (
      table-found kept es c.self.invariant c.args.self.now c.self.view_is c.args.run.now
          ∙ sym c.in_default.ensures,
      table-begun kept es c.self.invariant c.args.self.now c.self.view_is c.args.run.now
          ∙ ap request_if there,
    )

pub returns-in-None : goal.returns-in-None
returns-in-None c =
    let kept = c.self.inside.finished in
    let es = c.self.inside.begun.entries in (
      table-found kept es c.self.invariant c.args.self.now c.self.view_is c.args.run.now
          ∙ sym c.in_default.ensures,
      table-begun kept es c.self.invariant c.args.self.now c.self.view_is c.args.run.now
          ∙ ap request_if (sym c.in-None.ensures.value),
    )
