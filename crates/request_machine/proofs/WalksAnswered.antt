-- How a walk begins, and which answer comes next.
use Rattle.std.proofs.Common.{
  ◌≡◌,
  ℕ,
  zero,
  suc,
  ◌+◌,
  ◌<◌,
  ◌==◌,
  not,
  List,
  [],
  ◌∷◌,
  length,
  map,
  Bool,
  true,
  false,
  refl,
  sym,
  ap,
  ◌∙◌,
  arith,
}
use mathlib.Core.List.{IsPrefix}
use Rattle.std.proofs.lemmas.List.{map-append}
use Rattle.target_body.specs.Standings.{tool_use}
use Rattle.task_trait.specs.Tools.{BeginsWith}
use Rattle.std.proofs.Math.Dec.{eqb-suc-zero}
use Rattle.build_world.specs.declared.world.World.{World as Given}
use Rattle.result_cache.specs.Journal.{Journal}
use Rattle.result_cache.specs.declared.request.RequestKey.{RequestKey}
use Rattle.result_cache.specs.declared.run.RunId.{RunId}
use Rattle.task_trait.specs.declared.tools.ToolAnswer.{ToolAnswer}
use Rattle.task_trait.specs.declared.tools.ToolInput.{ToolInput}
use Rattle.build_scheduler.specs.Position.{IsInTurn, begins}
use Rattle.build_scheduler.specs.declared.walker.Answer.{Answer}
use Rattle.build_scheduler.specs.declared.walker.Answer.TheVariants.{First, Go, Use, Results}
use Rattle.request_machine.specs.Answered.{IsNext}
use Rattle.request_machine.specs.Positions.{position_of}
use Rattle.request_machine.specs.Worlds.{is_some_named, root_of, world_of}
use Rattle.request_machine.specs.declared.stage.Stage.{Stage}
use Rattle.request_machine.specs.declared.stage.Stage.TheVariants.{NotBegun}

-- where a request stands that had no answer yet
pub position_begins : {T : Type 0} (answer : List ℕ → ToolInput → ToolAnswer)
    (calls : T → List (List ℕ × ToolInput)) (v w : Given) (k key : RequestKey) (j journal : Journal)
    (rs : List RunId) (s : Stage T) →
    v ≡ w → k ≡ key → j ≡ journal → rs ≡ [] → s ≡ NotBegun
    → position_of calls v k j rs s ≡ begins (world_of answer w) key journal
position_begins answer calls v w k key j journal rs s is-w is-k is-j is-rs is-s =
    ap (position_of calls v k j rs) is-s
    ∙ (ap (λ x. position_of calls v k j x NotBegun) is-rs
    ∙ (ap (λ x. position_of calls v k x [] NotBegun) is-j
    ∙ (ap (λ x. position_of calls v x journal [] NotBegun) is-k
    ∙ ap (λ x. position_of calls x key journal [] NotBegun) is-w)))

-- a number that is not 0
above_zero : (n : ℕ) → 0 < n → (n == 0) ≡ false
above_zero zero h = absurd (omega arith)
above_zero (suc n) h = eqb-suc-zero n

pub one_more : (n : ℕ) → not (n + 1 == 0) ≡ true
one_more n = ap not (above_zero (n + 1) (omega arith))

-- an answer in turn is the next one
pub in_turn : (asked : ℕ) (begun : Bool) (answer : Answer) → begun ≡ not (asked == 0)
    → IsInTurn asked answer → IsNext begun answer
in_turn asked begun First is turn = is ∙ ap (λ n. not (n == 0)) turn
in_turn asked begun Go is turn = is ∙ ap not (above_zero asked turn)
in_turn asked begun Use is turn = is ∙ ap not (above_zero asked turn)
in_turn asked begun (Results results) is turn = is ∙ ap not (above_zero asked turn)

-- the root names targets, or none
pub some_named : (names : List (List ℕ)) → not (length names == 0) ≡ is_some_named names
some_named [] = refl
some_named (name ∷ names) = ap not (above_zero (length (name ∷ names)) (omega arith))

pub root_is : (w : Given) (path : List ℕ) (globals : List (List ℕ × List ℕ))
    (targets : List (List ℕ)) (named : Bool) → path ≡ w.root → globals ≡ w.globals
    → targets ≡ w.targets → named ≡ is_some_named w.targets →
    record
    { instance = record { path = path; globals = globals }; targets = targets; named = named }
    ≡ root_of w
root_is w path globals targets named is-path is-globals is-targets is-named =
    ap
    (λ x.
    record
    { instance = record { path = x; globals = globals }; targets = targets; named = named })
    is-path
    ∙ (ap
    (λ x.
    record
    { instance = record { path = w.root; globals = x }; targets = targets; named = named })
    is-globals
    ∙ (ap
    (λ x.
    record
    { instance = record { path = w.root; globals = w.globals }; targets = x; named = named })
    is-targets
    ∙ ap
    (λ x.
    record {
      instance = record { path = w.root; globals = w.globals };
      targets = w.targets;
      named = x;
    }) is-named))

-- the uses of tools begin with those of before
pub begins_used : (old new : List (List ℕ × ToolInput)) → BeginsWith old new
    → IsPrefix (map tool_use old) (map tool_use new)
begins_used old new begins = (
  map tool_use begins.0,
  sym (map-append tool_use old begins.0)
      ∙ ap (map tool_use) (sym begins.1),
)
