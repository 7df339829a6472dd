use Rattle.std.proofs.Common.{Option, Result}
use Rattle.msb_laws.proofs.Collecting.{IsOk}
use Rattle.msb_laws.specs.Results.{all_ok}
use Rattle.msb_values.specs.declared.item.Item.{Item}
use Rattle.build_world.specs.declared.fault.EvalFault.{EvalFault}
use Rattle.msb_glob.specs.FoldedNames.{seen_names}
use Rattle.msb_items.specs.FoldedNames.{is_named_by}
use Rattle.element_texts.specs.Seen.{context_of}
use Rattle.msb_items.specs.Seen.{replaced_by}
use Rattle.msb_items.proofs.updates.replacements.Given as goal

abbrev pub invariant-loop-item : goal.invariant-loop-item
invariant-loop-item g l =
    let context = context_of g.F.Present.files l.context in
    let replacement : Item → Result (Option Item) EvalFault = λ item.
    replaced_by context l.given
    (is_named_by l.context.project.now (seen_names l.names) item) item in
    IsOk replacement l.items l.item-index l.replacements.items (all_ok replacement l.items)
