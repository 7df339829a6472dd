-- A worked world that is not whole: three projects call each other in a circle.
use Rattle.std.specs.Prelude.{ℕ, zero, suc, List, [], ◌∷◌, Option, Some}
use Rattle.msb_laws.specs.Words.{Path}
use Rattle.msb_laws.specs.Asking.{and_then}
use Rattle.build_meaning.specs.declared.event.Event.{Event}
use Rattle.build_meaning.specs.declared.event.Event.TheVariants.{Assign, Claim, Request}
use Rattle.build_meaning.specs.declared.event.ClaimKind.TheVariants.{Go, Use, Wait}
use Rattle.build_meaning.specs.Walk.{Walk, gives, wants, makes, calls}
use Rattle.build_meaning.specs.World.{World}
use Rattle.build_meaning.specs.State.{State, start}
use Rattle.build_meaning.specs.Step.{step, after_all}
use Rattle.build_meaning.specs.SharedRun.{run_of, default_key, good, good_reply}

-- the run of a project calls the next one
abbrev pub calls_next : ℕ → ℕ → Walk ℕ ℕ ℕ
calls_next n next =
    wants n (run_of n) (calls (default_key next) [] (λ results j. makes good))
    (λ made k. gives good_reply)

abbrev pub walk_at : ℕ → Walk ℕ ℕ ℕ
walk_at zero = calls_next 0 1
walk_at (suc zero) = calls_next 1 2
walk_at (suc (suc n)) = calls_next 2 0

abbrev pub walk_of : Path → Walk ℕ ℕ ℕ
walk_of [] = walk_at 0
walk_of (n ∷ path) = walk_at n

abbrev pub circle : World ℕ ℕ ℕ
circle = record {
  root = default_key 0;
  tools = λ name input. input;
  walks = λ key journal.
      walk_of key.instance.path;
}

-- each project has begun its run and called the next, and the fourth request wants the first run
-- again
abbrev pub events : List Event
events =
    Assign 0 0 ∷ Claim 0 (run_of 0) Go ∷ Request 0 (default_key 1 ∷ []) ∷ Assign 1 0
    ∷ Claim 1 (run_of 1) Go ∷ Request 1 (default_key 2 ∷ [])
    ∷ Assign 2 0 ∷ Claim 2 (run_of 2) Go ∷ Request 2 (default_key 0 ∷ []) ∷ Assign 3 0 ∷ []

-- what its claim comes to, answered Go, Use or Wait
abbrev pub claims : State ℕ ℕ ℕ → List (Option (State ℕ ℕ ℕ))
claims s = step circle s (Claim 3 (run_of 0) Go) ∷ step circle s (Claim 3 (run_of 0) Use)
    ∷ step circle s (Claim 3 (run_of 0) Wait) ∷ []

abbrev pub claims_after : Option (List (Option (State ℕ ℕ ℕ)))
claims_after = and_then (after_all circle (start circle) events) (λ s. Some (claims s))
