use Rattle.std.proofs.Common.{
  ◌≡◌,
  ℕ,
  Option,
  Some,
  IsSome,
  [],
  ◌∷◌,
  ◌++◌,
  reverse,
  slice_get,
  ap,
  sym,
  subst,
  ◌∙◌,
}
use Rattle.std.specs.Map.{lookup_key}
use Rattle.std.proofs.lemmas.List.{reverse-append}
use Rattle.result_cache.specs.declared.run.RunId.{RunId}
use Rattle.result_cache.specs.declared.table.Begin.{Begin}
use Rattle.result_cache.specs.Kept.{runs_of}
use Rattle.result_cache.specs.Same.{same_run, AreDistinct}
use Rattle.result_cache.specs.Slots.{Slots, begun_in, AreSlots}
use Rattle.result_cache.specs.Table.{TableRuns, request_of, without}
use Rattle.result_cache.proofs.SlotEntries.{begun-taken}
use Rattle.result_cache.proofs.TableSlots.{
  taken-at,
  own-name,
  finished-once,
  has-room,
  slots-finished,
  has-entry,
  not-taken,
}
use Rattle.result_cache.proofs.table.Table.finish.Goals as goal

-- the place that was found is the run's, and what was taken there is its own
its : (probe run : RunId) (es : Slots) (i : ℕ) (k j : RunId) (o : Option Begin) (begin : Begin)
    → probe ≡ run
    → slice_get es i ≡ Some (k, o) → Some k ≡ lookup_key (same_run probe) es
    → slice_get es i ≡ Some (j, Some begin) → slice_get es i ≡ Some (run, Some begin)
its probe run es i k j o begin same at key taken =
    taken-at probe es i k j o begin at (sym key) taken ∙ ap (λ r. Some (r, Some begin)) same

pub push-requires-clause-room : goal.push-requires-clause-room
push-requires-clause-room c =
    let kept = c.self.inside.finished in
    let es = c.self.inside.begun.entries in
    let run = c.args.run.now in
    let i = c.in-Some.at in
    let begin = c.in-Some-take_begin.begin in
    let taken = c.in-Some-take_begin.ensures.taken in
    let at : slice_get es i ≡ Some (run, Some begin) =
    its c.of-probe.result run es i c.in-Some.field-0-1.now taken.0 c.in-Some.field-0-2.now begin
    c.of-probe.ensures c.in-Some.ensures.entry c.in-Some.ensures.key taken.1 in
    has-room kept es c.self.invariant i run begin at

pub push-requires-clause-distinct : goal.push-requires-clause-distinct
push-requires-clause-distinct c =
    let kept = c.self.inside.finished in
    let es = c.self.inside.begun.entries in
    let run = c.args.run.now in
    let i = c.in-Some.at in
    let begin = c.in-Some-take_begin.begin in
    let taken = c.in-Some-take_begin.ensures.taken in
    let at : slice_get es i ≡ Some (run, Some begin) =
    its c.of-probe.result run es i c.in-Some.field-0-1.now taken.0 c.in-Some.field-0-2.now begin
    c.of-probe.ensures c.in-Some.ensures.entry c.in-Some.ensures.key taken.1 in
    let named : c.name_or.result ≡ run =
    c.name_or.ensures ∙ (c.into_run.ensures ∙ own-name kept es c.self.invariant i run begin at) in
    subst (λ r. AreDistinct (runs_of (kept.records ++ record { run = r; made = c.args.made } ∷ [])))
    (sym named) (finished-once kept es c.self.invariant i run begin at c.args.made)

pub invariant_of-self : goal.invariant_of-self
invariant_of-self c =
    let kept = c.self.inside.finished in
    let es = c.self.inside.begun.entries in
    let run = c.args.run.now in
    let i = c.in-Some.at in
    let begin = c.in-Some-take_begin.begin in
    let taken = c.in-Some-take_begin.ensures.taken in
    let at : slice_get es i ≡ Some (run, Some begin) =
    its c.of-probe.result run es i c.in-Some.field-0-1.now taken.0 c.in-Some.field-0-2.now begin
    c.of-probe.ensures c.in-Some.ensures.entry c.in-Some.ensures.key taken.1 in
    let named : c.name_or.result ≡ run =
    c.name_or.ensures ∙ (c.into_run.ensures ∙ own-name kept es c.self.invariant i run begin at) in
    let records : c.push.new.self.records
    ≡ kept.records ++ record { run = run; made = c.args.made } ∷ [] =
    c.push.ensures.records
    ∙ ap (λ r. kept.records ++ record { run = r; made = c.args.made } ∷ []) named in
    subst (AreSlots c.push.new.self) (sym c.take_begin.ensures.entries)
    (slots-finished kept es c.self.invariant i run begin at c.push.new.self c.args.made records
    c.push.ensures.room)

pub returns-clause-finished : goal.returns-clause-finished
returns-clause-finished c =
    let kept = c.self.inside.finished in
    let es = c.self.inside.begun.entries in
    let run = c.args.run.now in
    let i = c.in-Some.at in
    let begin = c.in-Some-take_begin.begin in
    let taken = c.in-Some-take_begin.ensures.taken in
    let at : slice_get es i ≡ Some (run, Some begin) =
    its c.of-probe.result run es i c.in-Some.field-0-1.now taken.0 c.in-Some.field-0-2.now begin
    c.of-probe.ensures c.in-Some.ensures.entry c.in-Some.ensures.key taken.1 in
    let named : c.name_or.result ≡ run =
    c.name_or.ensures ∙ (c.into_run.ensures ∙ own-name kept es c.self.invariant i run begin at) in
    let records : c.push.new.self.records
    ≡ kept.records ++ record { run = run; made = c.args.made } ∷ [] =
    c.push.ensures.records
    ∙ ap (λ r. kept.records ++ record { run = r; made = c.args.made } ∷ []) named in
    ap reverse records
    ∙ (reverse-append kept.records (record { run = run; made = c.args.made } ∷ [])
    ∙ ap (λ (t : TableRuns). record { run = run; made = c.args.made } ∷ t.finished) c.self.view_is)

pub returns-clause-begun : goal.returns-clause-begun
returns-clause-begun c =
    let kept = c.self.inside.finished in
    let es = c.self.inside.begun.entries in
    let run = c.args.run.now in
    let i = c.in-Some.at in
    let begin = c.in-Some-take_begin.begin in
    let taken = c.in-Some-take_begin.ensures.taken in
    let at : slice_get es i ≡ Some (run, Some begin) =
    its c.of-probe.result run es i c.in-Some.field-0-1.now taken.0 c.in-Some.field-0-2.now begin
    c.of-probe.ensures c.in-Some.ensures.entry c.in-Some.ensures.key taken.1 in
    ap begun_in c.take_begin.ensures.entries
    ∙ (begun-taken run begin es i c.self.invariant.distinct at
    ∙ ap (λ (t : TableRuns). without run t.begun) c.self.view_is)

pub unreachable-requires : goal.unreachable-requires
unreachable-requires c =
    has-entry c.self.inside.finished c.self.inside.begun.entries c.self.invariant c.args.self.now
    c.self.view_is c.of-probe.result
    (subst (λ r. IsSome (request_of c.args.self.now.begun r)) (sym c.of-probe.ensures) c.requires)
    (sym c.in_default.ensures.value)

pub unreachable-requires-in_default-take_begin : goal.unreachable-requires-in_default-take_begin
unreachable-requires-in_default-take_begin c =
    let taken = c.in_default-take_begin.ensures.taken in
    not-taken c.self.inside.finished c.self.inside.begun.entries c.self.invariant c.args.self.now
    c.self.view_is c.of-probe.result
    (subst (λ r. IsSome (request_of c.args.self.now.begun r)) (sym c.of-probe.ensures) c.requires)
    c.in-Some.at c.in-Some.field-0-1.now taken.0 c.in-Some.field-0-2.now c.in-Some.ensures.entry
    (sym c.in-Some.ensures.value) taken.1
