use Rattle.std.proofs.Common.{◌++◌, [], ◌∷◌, map, not, ap, ◌∙◌, if◌then◌else◌}
use Rattle.msb_values.specs.Folded.{folded_bytes}
use Rattle.msb_batching.specs.Numbers.{tuples_in}
use Rattle.msb_batching.proofs.Finding.{is_there, place_is, spelled_if}
use Rattle.msb_batching.proofs.tuples.Tuples.number.Goals as goal

pub returns-clause-tuples : goal.returns-clause-tuples
returns-clause-tuples c =
    let old = tuples_in c.args.self.now in
    let tuple = c.args.tuple in
    c.in_ok-spell_if.ensures.tuples
    ∙ ap (λ t. if t then old ++ tuple ∷ [] else old)
    (c.in_ok-number.ensures.added
    ∙ ap not
    (is_there (λ key. key.items) tuple c.in_ok-fold_texts.field-0.items c.args.self.now.keys.keys
    old (c.in_ok-fold_texts.ensures ∙ ap (map folded_bytes) c.as_slice.ensures) c.requires))
    ∙ spelled_if _ old tuple

pub returns-clause-number : goal.returns-clause-number
returns-clause-number c =
    c.in_ok-number.ensures.index
    ∙ place_is (λ key. key.items) c.args.tuple c.in_ok-fold_texts.field-0.items
    c.args.self.now.keys.keys (tuples_in c.args.self.now)
    (c.in_ok-fold_texts.ensures ∙ ap (map folded_bytes) c.as_slice.ensures) c.requires
