-- What the machine reads is a reading.
use Rattle.std.proofs.Common.{◌≡◌, ℕ, List, [], ◌∷◌, ◌++◌, refl, sym, subst, append_assoc}
use Rattle.std.proofs.lemmas.List.{append-nil}
use Rattle.msb_expression.specs.declared.expression.Part.{Part}
use Rattle.msb_expression.specs.declared.sorts.Sort.{Sort}
use Rattle.msb_expression.specs.Grammar.{IsReading}
use Rattle.msb_expression.specs.Machine.{
  sort_of,
  whole,
  inner,
  Mode,
  in_text,
  name_opened,
  in_name,
  name_ended,
  type_opened,
  in_type,
  type_dashed,
  stepping,
  dashed,
  arrow,
  function_named,
  function_ended,
  args_opened,
  arg_ended,
  arg_wanted,
  separator_wanted,
  separator_ended,
  property_opened,
  build_opened,
  call_wanted,
  call_named,
  call_ended,
  called,
  call_arg_wanted,
  call_arg_ended,
  Next,
  go,
  stop,
  step_of,
  done,
  finish,
  followed,
  run,
  begin,
  flushed_parts,
  settled,
}
use Rattle.msb_expression.proofs.Bytes.{SortIs, sort_is}
use Rattle.msb_expression.proofs.Behind.{Behind, PartsAt}
use Rattle.msb_expression.proofs.Adds.{text_begun}
use Rattle.msb_expression.proofs.KeepsText.{Keeps, text_keeps, text_ended}
use Rattle.msb_expression.proofs.KeepsNames.{name_opened_keeps, in_name_keeps, name_ended_keeps}
use Rattle.msb_expression.proofs.KeepsItems.{
  type_opened_keeps,
  in_type_keeps,
  type_dashed_keeps,
  stepping_step_keeps,
  dashed_keeps,
  arrow_keeps,
  function_named_keeps,
  function_ended_keeps,
  args_opened_keeps,
  arg_ended_keeps,
  arg_wanted_keeps,
  separator_wanted_keeps,
  separator_ended_keeps,
}
use Rattle.msb_expression.proofs.KeepsCalls.{
  property_opened_keeps,
  build_opened_keeps,
  call_wanted_keeps,
  call_named_keeps,
  call_ended_keeps,
  called_keeps,
  call_arg_wanted_keeps,
  call_arg_ended_keeps,
}

mode_keeps : (mode : Mode) (front : List ℕ) (sort : Sort) (b : ℕ) → sort_of b ≡ sort → SortIs sort b
    → Behind mode front → Keeps (step_of mode sort b) (λ next. Behind next (front ++ b ∷ []))
mode_keeps (in_text host plain mark) front sort b e f h = text_keeps host plain mark front sort b e
    f h
mode_keeps (name_opened host which) front sort b e f h = name_opened_keeps host which front sort b f
    h
mode_keeps (in_name host which name) front sort b e f h = in_name_keeps host which name front sort b
    f h
mode_keeps (name_ended host which name) front sort b e f h = name_ended_keeps host which name front
    sort b f h
mode_keeps (type_opened parts) front sort b e f h = type_opened_keeps parts front sort b f h
mode_keeps (in_type parts kind) front sort b e f h = in_type_keeps parts kind front sort b f h
mode_keeps (type_dashed parts kind) front sort b e f h = type_dashed_keeps parts kind front sort b f
    h
mode_keeps (stepping heads) front sort b e f h = stepping_step_keeps heads front sort b f h
mode_keeps (dashed heads) front sort b e f h = dashed_keeps heads front sort b f h
mode_keeps (arrow heads) front sort b e f h = arrow_keeps heads front sort b f h
mode_keeps (function_named heads function) front sort b e f h = function_named_keeps heads function
    front sort b f h
mode_keeps (function_ended heads function) front sort b e f h = function_ended_keeps heads function
    front sort b f h
mode_keeps (args_opened heads function) front sort b e f h = args_opened_keeps heads function front
    sort b f h
mode_keeps (arg_ended heads function args) front sort b e f h = arg_ended_keeps heads function args
    front sort b f h
mode_keeps (arg_wanted heads function args) front sort b e f h = arg_wanted_keeps heads function
    args front sort b f h
mode_keeps (separator_wanted heads) front sort b e f h = separator_wanted_keeps heads front sort b f
    h
mode_keeps (separator_ended heads pieces) front sort b e f h = separator_ended_keeps heads pieces
    front sort b f h
mode_keeps (property_opened parts) front sort b e f h = property_opened_keeps parts front sort b f h
mode_keeps (build_opened parts left) front sort b e f h = build_opened_keeps parts left front b h
mode_keeps (call_wanted heads) front sort b e f h = call_wanted_keeps heads front sort b f h
mode_keeps (call_named heads function) front sort b e f h =
    call_named_keeps heads function front sort b f h
mode_keeps (call_ended heads function) front sort b e f h =
    call_ended_keeps heads function front sort b f h
mode_keeps (called heads) front sort b e f h = called_keeps heads front sort b f h
mode_keeps (call_arg_wanted a spaced) front sort b e f h =
    call_arg_wanted_keeps a spaced front sort b e f h
mode_keeps (call_arg_ended a) front sort b e f h = call_arg_ended_keeps a front sort b f h

pub step_keeps : (mode : Mode) (front : List ℕ) (b : ℕ) → Behind mode front
    → Keeps (step_of mode (sort_of b) b) (λ next. Behind next (front ++ b ∷ []))
step_keeps mode front b h = mode_keeps mode front (sort_of b) b refl (sort_is b) h

same_parts : (xs ys : List Part) → done xs ≡ done ys → xs ≡ ys
same_parts xs ys e = cc

finished : (mode : Mode) (front : List ℕ) (parts : List Part) → Behind mode front
    → finish mode ≡ done parts → IsReading (front ++ []) parts
finished (in_text (whole ps) plain mark) front parts h e =
    let p : PartsAt (flushed_parts ps (settled plain mark)) front = text_ended (whole ps) plain mark
    front h in
    subst (λ t. IsReading t parts) (sym (append-nil front))
    (subst (λ ps. IsReading front ps) (same_parts _ parts e) (p.joins, p.apart))
finished (in_text (inner place pieces) plain mark) front parts h e = cc
finished _ front parts h e = cc

followed_sound : (next : Next) (front : List ℕ) (b : ℕ) (bs : List ℕ) (parts : List Part)
    → ((mode : Mode) → Behind mode (front ++ b ∷ []) → run bs mode ≡ done parts
    → IsReading ((front ++ b ∷ []) ++ bs) parts)
    → Keeps next (λ mode. Behind mode (front ++ b ∷ []))
    → followed (run bs) next (b ∷ bs) ≡ done parts → IsReading (front ++ b ∷ bs) parts
followed_sound (go mode) front b bs parts then_on k e = subst (λ t. IsReading t parts)
    (append_assoc front (b ∷ []) bs) (then_on mode k e)
followed_sound (stop kind) front b bs parts then_on k e = cc

pub run_sound_from : (bs : List ℕ) (mode : Mode) (front : List ℕ) (parts : List Part)
    → Behind mode front → run bs mode ≡ done parts → IsReading (front ++ bs) parts
unfolding run
run_sound_from [] mode front parts h e = finished mode front parts h e
run_sound_from (b ∷ bs) mode front parts h e =
    followed_sound (step_of mode (sort_of b) b) front b bs parts
    (λ next k f. run_sound_from bs next (front ++ b ∷ []) parts k f) (step_keeps mode front b h)
    e

pub begins : Behind begin []
begins = text_begun (whole []) [] tt (record { joins = refl; apart = tt; fresh = λ part. tt })

pub run_sound : (text : List ℕ) (parts : List Part) → run text begin ≡ done parts
    → IsReading text parts
run_sound text parts h = run_sound_from text begin [] parts begins h
