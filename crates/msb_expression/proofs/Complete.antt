-- Each reading is what the machine reads.
use Rattle.std.proofs.Common.{
  ◌≡◌,
  ℕ,
  List,
  [],
  ◌∷◌,
  ◌++◌,
  Some,
  None,
  refl,
  sym,
  ap,
  ◌∙◌,
  subst,
  append_assoc,
}
use Rattle.std.proofs.lemmas.List.{append-nil}
use Rattle.msb_expression.specs.declared.expression.Part.{Part}
use Rattle.msb_expression.specs.declared.expression.Part.TheVariants.{
  Plain,
  Prop,
  Func,
  Meta,
  Items,
}
use Rattle.msb_expression.specs.Grammar.{IsReading, IsPart, is_plain, Joins, Apart}
use Rattle.msb_expression.specs.Machine.{
  whole,
  unmarked,
  metadata,
  qualified,
  in_text,
  name_opened,
  name_ended,
  flushed,
  settled,
  run,
  begin,
  done,
}
use Rattle.msb_expression.proofs.Runs.{run-go, run-nil, run-named}
use Rattle.msb_expression.proofs.RunsText.{reach_metadata, over_end, over_items}
use Rattle.msb_expression.proofs.RunsPieces.{
  run-closed,
  property_runs,
  metadata_runs,
  OverAt,
  plain_part_runs,
  property_over,
  metadata_over,
  flushed_parts-some,
  tail_apart,
}
use Rattle.msb_expression.proofs.RunsItems.{items_run}
use Rattle.msb_expression.proofs.RunsCalls.{function_runs}

qualified_runs : (parts : List Part) (kind name text rest : List ℕ)
    → IsPart text (Meta (Some kind) name) → run (text ++ rest) (in_text (whole parts) [] unmarked)
    ≡ run rest (in_text (whole (parts ++ Meta (Some kind) name ∷ [])) [] unmarked)
qualified_runs parts kind name text rest h =
    ap (λ t. run t (in_text (whole parts) [] unmarked))
    (ap (λ t. t ++ rest) h.4 ∙ simp append_assoc)
    ∙ reach_metadata (whole parts) [] unmarked (h.0 ++ 46 ∷ (h.1 ++ 41 ∷ rest)) tt
    ∙ run-named (whole parts) metadata h.0 kind (46 ∷ (h.1 ++ 41 ∷ rest)) h.2 refl
    ∙ run-go 46 (h.1 ++ 41 ∷ rest) (name_ended (whole parts) metadata kind)
    (name_opened (whole parts) (qualified kind)) refl
    ∙ run-closed (whole parts) (qualified kind) h.1 name rest h.3

next_over : (had parts : List Part) (text : List ℕ) → Joins IsPart text parts → (plain : List ℕ)
    → Apart is_plain (Plain plain ∷ parts) → OverAt (whole had) text
next_over had [] text h plain a = λ front last.
    subst (λ t. run t (in_text (whole had) front last)
    ≡ run t (in_text (flushed (whole had) (settled front last)) [] unmarked)) (sym h)
    (over_end (whole had) front last)
next_over had (Plain other ∷ parts) text h plain a = cc
next_over had (Prop name ∷ parts) text h plain a =
    subst (λ t. OverAt (whole had) t) (append-nil text)
    (property_over (whole had) text ((h.3.0 ++ 41 ∷ []) ++ h.1) []
    (h.2 ∙ ap (λ t. t ++ h.1) h.3.2))
next_over had (Func subject calls ∷ parts) text h plain a =
    subst (λ t. OverAt (whole had) t) (append-nil text)
    (property_over (whole had) text ((h.3.0 ++ 41 ∷ []) ++ h.1) []
    (h.2 ∙ ap (λ t. t ++ h.1) h.3.2))
next_over had (Meta None name ∷ parts) text h plain a =
    subst (λ t. OverAt (whole had) t) (append-nil text)
    (metadata_over (whole had) text ((h.3.0 ++ 41 ∷ []) ++ h.1) [] tt
    (h.2 ∙ ap (λ t. t ++ h.1) h.3.2))
next_over had (Meta (Some kind) name ∷ parts) text h plain a =
    subst (λ t. OverAt (whole had) t) (append-nil text)
    (metadata_over (whole had) text (h.3.0 ++ 46 ∷ (h.3.1 ++ 41 ∷ h.1)) [] tt
    (h.2 ∙ ap (λ t. t ++ h.1) h.3.4 ∙ simp append_assoc))
next_over had (Items kind steps separator ∷ parts) text h plain a = λ front last.
    let more : List ℕ = h.3.0 ++ (kind ++ (h.3.1 ++ (h.3.2 ++ (h.3.3 ++ 41 ∷ h.1)))) in
    let split : text ≡ 64 ∷ 40 ∷ more = h.2 ∙ ap (λ t. t ++ h.1) h.3.9 ∙ simp append_assoc in
    subst (λ t. run t (in_text (whole had) front last) ≡ run t
    (in_text (flushed (whole had) (settled front last)) [] unmarked)) (sym split)
    (over_items (whole had) front last more tt)

part_runs : (had : List Part) (part : Part) (parts : List Part) (text : List ℕ)
    (h : Joins IsPart text (part ∷ parts)) → Apart is_plain (part ∷ parts)
    → run text (in_text (whole had) [] unmarked)
    ≡ run h.1 (in_text (whole (had ++ part ∷ [])) [] unmarked)
part_runs had (Plain plain) parts text h a =
    ap (λ t. run t (in_text (whole had) [] unmarked)) (h.2 ∙ ap (λ t. t ++ h.1) h.3.1)
    ∙ plain_part_runs (whole had) plain h.1 h.3.0.1
    (λ front last e. next_over had parts h.1 h.4 plain a front last)
    ∙ ap (λ ps. run h.1 (in_text (whole ps) [] unmarked)) (flushed_parts-some had plain h.3.0.0)
part_runs had (Prop name) parts text h a =
    ap (λ t. run t (in_text (whole had) [] unmarked)) h.2
    ∙ property_runs (whole had) h.0 h.3.0 name h.1 h.3.1 h.3.2
part_runs had (Func subject calls) parts text h a =
    ap (λ t. run t (in_text (whole had) [] unmarked)) h.2
    ∙ function_runs had subject calls h.0 h.1 h.3
part_runs had (Meta None name) parts text h a =
    ap (λ t. run t (in_text (whole had) [] unmarked)) h.2
    ∙ metadata_runs (whole had) h.0 h.3.0 name h.1 tt h.3.1 h.3.2
part_runs had (Meta (Some kind) name) parts text h a =
    ap (λ t. run t (in_text (whole had) [] unmarked)) h.2 ∙ qualified_runs had kind name h.0 h.1 h.3
part_runs had (Items kind steps separator) parts text h a =
    ap (λ t. run t (in_text (whole had) [] unmarked)) h.2
    ∙ items_run had kind steps separator h.0 h.1 h.3

parts_run : (had parts : List Part) (text : List ℕ) → Joins IsPart text parts → Apart is_plain parts
    → run text (in_text (whole had) [] unmarked) ≡ done (had ++ parts)
parts_run had [] text h a =
    ap (λ t. run t (in_text (whole had) [] unmarked)) h ∙ run-nil (in_text (whole had) [] unmarked)
    ∙ ap done (sym (append-nil had))
parts_run had (part ∷ parts) text h a =
    part_runs had part parts text h a ∙ parts_run (had ++ part ∷ []) parts h.1 h.4
    (tail_apart is_plain part parts a) ∙ ap done (append_assoc had (part ∷ []) parts)

pub run_complete : (text : List ℕ) (parts : List Part) → IsReading text parts
    → run text begin ≡ done parts
run_complete text parts h = parts_run [] parts text h.0 h.1
