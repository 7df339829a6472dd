-- What is spoken of, as one part after another is read.
use Rattle.std.specs.Prelude.{List, [], fold, Option, option_to_list}
use Rattle.std.specs.List.{flat_map}
use Rattle.std.specs.Str.{bytes_eq}
use Rattle.msb_laws.specs.Words.{Name}
use Rattle.indexmap.specs.IndexSet.{insert_all}
use Rattle.msb_expression.specs.declared.expression.Expr.{Expr}
use Rattle.msb_expression.specs.declared.expression.Part.{Part}
use Rattle.msb_batching.specs.declared.reference.Reference.{Reference}
use Rattle.msb_batching.specs.declared.mentions.Mentions.{Mentions}
use Rattle.msb_batching.specs.References.{Spoken, same_reference, part_references, part_names}

abbrev pub spoken_of : Mentions → Spoken
spoken_of m = record {
  references = m.references.keys;
  named = m.named.keys;
  qualified = m.qualified.keys;
  mentioned
      = m.mentioned.keys;
}

abbrev pub nothing : Spoken
nothing = record { references = []; named = []; qualified = []; mentioned = [] }

abbrev pub with_named : Spoken → List Name → Spoken
with_named s kinds = record {
  references = s.references;
  named = insert_all bytes_eq s.named kinds;
  qualified = s.qualified;
  mentioned = insert_all bytes_eq s.mentioned kinds;
}

abbrev pub with_qualifiers : Spoken → List Name → Spoken
with_qualifiers s kinds = record {
  references = s.references;
  named = s.named;
  qualified = insert_all bytes_eq s.qualified kinds;
  mentioned = insert_all bytes_eq s.mentioned kinds;
}

abbrev pub with_references : Spoken → List Reference → Spoken
with_references s references = record {
  references = insert_all same_reference s.references references;
  named = s.named;
  qualified = s.qualified;
  mentioned = s.mentioned;
}

abbrev pub with_part : Spoken → Part → Spoken
with_part s part =
    let references = part_references part in
    with_named
    (with_qualifiers (with_references s references)
    (flat_map (λ reference. option_to_list reference.kind) references)) (part_names part)

abbrev pub with_parts : Spoken → List Part → Spoken
with_parts s parts = fold with_part s parts

abbrev pub with_texts : Spoken → List Expr → Spoken
with_texts s texts = fold (λ so_far text. with_parts so_far text.parts) s texts

abbrev pub with_own : Spoken → Option Name → Spoken
with_own s own = with_named s (option_to_list own)
