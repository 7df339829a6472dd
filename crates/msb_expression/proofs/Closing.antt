-- What the machine has read can go on to a reading.
use Rattle.std.proofs.Common.{◌≡◌, ℕ, List, [], ◌∷◌, ◌++◌, refl, sym, ◌∙◌, subst}
use Rattle.std.specs.Prelude.{◌==◌, codes}
use Rattle.std.specs.Char.{to_ascii_lowercase}
use Rattle.std.specs.Str.{str_to_ascii_lowercase}
use Rattle.msb_expression.specs.declared.expression.Part.{Part}
use Rattle.msb_expression.specs.declared.sorts.Kind.TheVariants.{Name}
use Rattle.msb_expression.specs.Grammar.{Every}
use Rattle.msb_expression.specs.Refusals.{CanGoOn}
use Rattle.msb_expression.specs.Machine.{
  in_transform,
  in_separator,
  in_argument,
  in_call,
  in_loose,
  Host,
  whole,
  inner,
  Mark,
  Mode,
  in_text,
  name_opened,
  in_name,
  name_ended,
  type_opened,
  in_type,
  type_dashed,
  stepping,
  dashed,
  arrow,
  function_named,
  function_ended,
  args_opened,
  arg_ended,
  arg_wanted,
  separator_wanted,
  separator_ended,
  property_opened,
  build_opened,
  build_next,
  call_wanted,
  call_named,
  call_ended,
  called,
  call_arg_wanted,
  call_arg_ended,
  sort_of,
  step_of,
  go,
  stop,
  run,
  done,
}
use Rattle.msb_expression.proofs.Behind.{Behind}
use Rattle.msb_expression.proofs.Runs.{run-go, picked}
use Rattle.msb_expression.proofs.Sound.{run_sound_from}

abbrev pub Closes : Mode → Type 0
Closes mode = (more : List ℕ) × (parts : List Part) × (run more mode ≡ done parts)

pub text_closes : (host : Host) (plain : List ℕ) (mark : Mark) → Closes (in_text host plain mark)
unfolding run
text_closes (whole parts) plain mark = ([], _, refl)
text_closes (inner (in_transform heads) pieces) plain mark = (39 ∷ 41 ∷ [], _, refl)
text_closes (inner (in_separator heads) pieces) plain mark = (39 ∷ 41 ∷ [], _, refl)
text_closes (inner (in_argument heads function args) pieces) plain mark =
    (39 ∷ 41 ∷ 41 ∷ [], _, refl)
text_closes (inner (in_call a) pieces) plain mark = (39 ∷ 41 ∷ 41 ∷ [], _, refl)
text_closes (inner (in_loose a) pieces) plain mark = (41 ∷ 41 ∷ [], _, refl)

-- what is left of `[msbuild]::` is in lower case
abbrev IsLower : List ℕ → Type 0
IsLower = Every (λ b. to_ascii_lowercase b == b)

lower_left : (head left : List ℕ) → IsLower (head ++ left) → IsLower left
lower_left [] left h = h
lower_left (b ∷ bs) left h = lower_left bs left h.1

build_closes : (parts : List Part) (left : List ℕ) → IsLower left → Closes (build_next parts left)
unfolding run
build_closes parts [] h = (65 ∷ 40 ∷ 41 ∷ 41 ∷ [], _, refl)
build_closes parts (wanted ∷ left) h =
    let c = build_closes parts left h.1 in
    let goes : step_of (build_opened parts (wanted ∷ left)) (sort_of wanted) wanted ≡ go
    (build_next parts left) =
    picked (to_ascii_lowercase wanted == wanted) (build_next parts left) h.0 in (
      wanted ∷ c.0,
      c.1,
      run-go wanted c.0 (build_opened parts (wanted ∷ left))
          (build_next parts left) goes ∙ c.2,
    )

marker_lower : IsLower (codes "[msbuild]::")
marker_lower =
    (refl, (refl, (refl, (refl, (refl, (refl, (refl, (refl, (refl, (refl, (refl, tt)))))))))))

opened_closes : (parts : List Part) (left : List ℕ) → (left ≡ [] → ⊥) → IsLower left
    → Closes (build_opened parts left)
opened_closes parts [] n h = absurd (n refl)
opened_closes parts (wanted ∷ left) n h = build_closes parts (wanted ∷ left) h

pub mode_closes : (mode : Mode) (front : List ℕ) → Behind mode front → Closes mode
unfolding run
mode_closes (in_text host plain mark) front h = text_closes host plain mark
mode_closes (name_opened host which) front h =
    let c = text_closes _ [] _ in (65 ∷ 41 ∷ c.0, c.1, c.2)
mode_closes (in_name host which name) front h = let c = text_closes _ [] _ in (41 ∷ c.0, c.1, c.2)
mode_closes (name_ended host which name) front h =
    let c = text_closes _ [] _ in (41 ∷ c.0, c.1, c.2)
mode_closes (type_opened parts) front h = (65 ∷ 41 ∷ [], _, refl)
mode_closes (in_type parts kind) front h = (41 ∷ [], _, refl)
mode_closes (type_dashed parts kind) front h = (41 ∷ [], _, refl)
mode_closes (stepping heads) front h = (41 ∷ [], _, refl)
mode_closes (dashed heads) front h = (62 ∷ 39 ∷ 39 ∷ 41 ∷ [], _, refl)
mode_closes (arrow heads) front h = (39 ∷ 39 ∷ 41 ∷ [], _, refl)
mode_closes (function_named heads function) front h = (40 ∷ 41 ∷ 41 ∷ [], _, refl)
mode_closes (function_ended heads function) front h = (40 ∷ 41 ∷ 41 ∷ [], _, refl)
mode_closes (args_opened heads function) front h = (41 ∷ 41 ∷ [], _, refl)
mode_closes (arg_ended heads function args) front h = (41 ∷ 41 ∷ [], _, refl)
mode_closes (arg_wanted heads function args) front h = (39 ∷ 39 ∷ 41 ∷ 41 ∷ [], _, refl)
mode_closes (separator_wanted heads) front h = (39 ∷ 39 ∷ 41 ∷ [], _, refl)
mode_closes (separator_ended heads pieces) front h = (41 ∷ [], _, refl)
mode_closes (property_opened parts) front h = (65 ∷ 41 ∷ [], _, refl)
mode_closes (build_opened parts left) front h =
    opened_closes parts left h.some
    (lower_left (str_to_ascii_lowercase h.head) left
    (subst (λ t. IsLower t) (sym h.head_is) marker_lower))
mode_closes (call_wanted heads) front h = (65 ∷ 40 ∷ 41 ∷ 41 ∷ [], _, refl)
mode_closes (call_named heads function) front h = (40 ∷ 41 ∷ 41 ∷ [], _, refl)
mode_closes (call_ended heads function) front h = (40 ∷ 41 ∷ 41 ∷ [], _, refl)
mode_closes (called heads) front h = (41 ∷ [], _, refl)
mode_closes (call_arg_wanted a spaced) front h = (39 ∷ 39 ∷ 41 ∷ 41 ∷ [], _, refl)
mode_closes (call_arg_ended a) front h = (41 ∷ 41 ∷ [], _, refl)

pub goes_on : (mode : Mode) (front : List ℕ) → Behind mode front → CanGoOn front
goes_on mode front h =
    let c = mode_closes mode front h in (c.0, c.1, run_sound_from c.0 mode front c.1 h c.2)
