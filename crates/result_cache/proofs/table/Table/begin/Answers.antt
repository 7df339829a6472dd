use Rattle.std.proofs.Common.{◌≡◌, Some, [], ◌∷◌, ◌++◌, ap, sym, ◌∙◌}
use Rattle.std.specs.Map.{lookup}
use Rattle.result_cache.specs.declared.run.RunId.{RunId}
use Rattle.result_cache.specs.declared.table.Begin.{Begin}
use Rattle.result_cache.specs.Same.{same_run}
use Rattle.result_cache.specs.Slots.{Slots, begun_in}
use Rattle.result_cache.specs.Table.{TableRuns}
use Rattle.result_cache.proofs.SlotEntries.{begun-push}
use Rattle.result_cache.proofs.TableSlots.{slots-same, slots-begun, table-found, table-absent}
use Rattle.result_cache.proofs.table.Table.begin.Goals as goal

-- the run's entry stands behind all others
behind : (es fs gs : Slots) (name run : RunId) (begin : Begin) → gs ≡ fs ++ (name, Some begin) ∷ []
    → fs ≡ es → name ≡ run → gs ≡ es ++ (run, Some begin) ∷ []
behind es fs gs name run begin pushed same own = pushed ∙ (λ j. same j ++ (own j, Some begin) ∷ [])

pub invariant_of-self-in_err-reserve_one : goal.invariant_of-self-in_err-reserve_one
invariant_of-self-in_err-reserve_one c =
    slots-same c.self.inside.finished c.reserve_one.new.self c.self.inside.begun.entries
    c.reserve.new.self.entries c.reserve_one.ensures.records c.in_err-reserve_one.ensures.err
    c.reserve.ensures.entries c.self.invariant

pub put_begin-requires-clause-absent : goal.put_begin-requires-clause-absent
put_begin-requires-clause-absent c =
    ap (lookup (same_run c.in_ok-name.name)) c.reserve.ensures.entries
    ∙ (ap (λ r. lookup (same_run r) c.self.inside.begun.entries) c.in_ok-name.ensures
    ∙ table-absent c.self.inside.finished c.self.inside.begun.entries c.self.invariant
    c.args.self.now c.self.view_is c.args.run.now c.requires.unfinished c.requires.unbegun)

pub invariant_of-self-2 : goal.invariant_of-self-2
invariant_of-self-2 c =
    let kept = c.self.inside.finished in
    let es = c.self.inside.begun.entries in
    let run = c.args.run.now in
    let begin : Begin = record { by = c.args.request; run = c.in_ok-copy.field-0 } in
    slots-begun kept c.reserve_one.new.self es c.put_begin.new.begun.entries run begin
    c.self.invariant
    (sym (table-found kept es c.self.invariant c.args.self.now c.self.view_is run)
    ∙ c.requires.unfinished)
    (c.in_ok-copy.ensures ∙ c.in_ok-name.ensures) c.reserve_one.ensures.records
    c.in_ok-reserve_one.ensures.ok
    (behind es c.reserve.new.self.entries c.put_begin.new.begun.entries c.in_ok-name.name run begin
    c.put_begin.ensures.entries c.reserve.ensures.entries c.in_ok-name.ensures)
    c.put_begin.ensures.unique

pub returns-clause-begun : goal.returns-clause-begun
returns-clause-begun c =
    let es = c.self.inside.begun.entries in
    let run = c.args.run.now in
    let begin : Begin = record { by = c.args.request; run = c.in_ok-copy.field-0 } in
    ap begun_in (behind es c.reserve.new.self.entries c.put_begin.new.begun.entries
    c.in_ok-name.name run begin c.put_begin.ensures.entries c.reserve.ensures.entries
    c.in_ok-name.ensures)
    ∙ (begun-push es run begin
    ∙ ap (λ (t : TableRuns). record { run = run; by = c.args.request } ∷ t.begun) c.self.view_is)
