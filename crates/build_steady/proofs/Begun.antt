-- Lists that begin with others: uses of tools, and calls.
use Rattle.std.proofs.Common.{
  ◌≡◌,
  ℕ,
  List,
  [],
  ◌∷◌,
  ◌++◌,
  map,
  refl,
  ap,
  sym,
  ◌∙◌,
  append-nil,
  append_assoc,
}
use Rattle.std.proofs.lemmas.List.{map-append}
use mathlib.Core.List.{IsPrefix}
use Rattle.task_trait.specs.declared.tools.ToolInput.{ToolInput}
use Rattle.task_trait.specs.Tools.{BeginsWith}
use Rattle.build_meaning.specs.SoFar.{ToolUse}

pub begins_same : {X : Type 0} (xs : List X) → IsPrefix xs xs
begins_same xs = ([], append-nil xs)

pub begins_then : {X : Type 0} (xs ys zs : List X) → IsPrefix xs ys → IsPrefix ys zs
    → IsPrefix xs zs
begins_then xs ys zs p q =
    (p.0 ++ q.0, sym (append_assoc xs p.0 q.0) ∙ (ap (λ us. us ++ q.0) p.1 ∙ q.1))

-- the use that a call is, and the call that a use is
abbrev use_of : List ℕ × ToolInput → ToolUse ToolInput
use_of call = record { name = call.0; input = call.1 }

abbrev call_of : ToolUse ToolInput → List ℕ × ToolInput
call_of u = (u.name, u.input)

calls-back : (calls : List (List ℕ × ToolInput)) → map call_of (map use_of calls) ≡ calls
calls-back [] = refl
calls-back (call ∷ calls) = ap (λ rest. call ∷ rest) (calls-back calls)

-- where uses begin with others, so do the calls
pub calls_begin : (before after : List (List ℕ × ToolInput)) →
    IsPrefix (map use_of before) (map use_of after) → BeginsWith before after
calls_begin before after p = (
  map call_of p.0,
  sym (calls-back after) ∙ ap (map call_of) (sym p.1)
      ∙ map-append call_of (map use_of before) p.0
      ∙ ap (λ calls. calls ++ map call_of p.0) (calls-back before),
)
