use Rattle.std.proofs.Common.{◌≡◌, ◌++◌, ◌∷◌, [], ap, sym, ◌∙◌, subst}
use Rattle.build_world.specs.Instances.{seen_instance}
use Rattle.result_cache.specs.Journal.{Journal}
use Rattle.result_cache.specs.Table.{Records}
use Rattle.result_cache.specs.declared.record.Record.{Record}
use Rattle.result_cache.specs.declared.run.RunId.{RunId}
use Rattle.request_machine.specs.Answered.{HasRecord, IsRecord}
use Rattle.request_machine.specs.OrderSteps.{Follows}
use Rattle.request_machine.specs.Worlds.{project_of}
use Rattle.request_machine.specs.declared.stage.RunState.{RunState}
use Rattle.request_machine.proofs.request.Request.after_visit.Goals as goal

-- the record of a name is that of the run which it names
record_of : {T : Type 0} (table : Records) {name : RunId} (run : RunId) {from : Journal}
    (before after : Journal) (at : RunState T) (made : Record) → name ≡ run → from ≡ before →
    IsRecord table name from after at made → IsRecord table run before after at made
record_of table {name} run {from} before after at made named is told =
    subst (λ r. IsRecord table r before after at made) named
    (subst (λ j. IsRecord table name j after at made) is told)

pub record-requires : goal.record-requires
record-requires g c =
    let table = c.args.learnt.now.finished in
    let v = c.args.visit.now in
    subst (λ run. HasRecord table run c.in_ok-journal.journal v.at) (sym c.in_ok-run.ensures)
    (subst (λ j. HasRecord table v.run j v.at) (sym c.in_ok-journal.ensures) c.requires)

pub returns : goal.returns
returns g c =
    let table = c.args.learnt.now.finished in
    let r = c.args.self.now in
    let v = c.args.visit.now in
    let made = c.in_ok-run_record.run_record in
    let next = c.record.new.journal in
    record {
      made = made;
      is = record_of table v.run r.journal next v.at made c.in_ok-run.ensures
          c.in_ok-journal.ensures
          c.in_ok-run_record.ensures;
      follows = subst
          (λ m. Follows (project_of r.world.now r.key (seen_instance v.instance)) r.key v.state
          next v.order v.run.target m c.in_ok-step.step) c.get.ensures c.in_ok-step.ensures;
      runs_are = c.in_ok-runs.ensures
          ∙ ap (λ name. r.runs ++ name ∷ []) (c.name_or.ensures ∙ c.in_ok-run.ensures);
      asks = c.in_ok-ask.ensures;
    }
