-- Where the body of a run stops: at its end, or at calls, which others answer.
use Rattle.std.specs.Prelude.{List, length}
use Rattle.msb_laws.specs.Words.{Name}
use Rattle.result_cache.specs.declared.run.RunId.{RunId}
use Rattle.result_cache.specs.declared.request.RequestKey.{RequestKey}
use Rattle.result_cache.specs.declared.request.RequestResult.{RequestResult}
use Rattle.result_cache.specs.Journal.{Journal, acted, add}
use Rattle.build_meaning.specs.Walk.{Outcome, Body, makes, does, uses, calls}
use Rattle.build_meaning.specs.SoFar.{SoFar, with_act, with_tool}

-- at its end; at calls, with how it goes on after them
pub data Stop (I A : Type 0) : Type 0 where
  ends : Outcome → Stop I A
  asks : RequestKey → List RequestKey → (List RequestResult → Journal → Body I A) → Stop I A

-- a body that has stopped, with the journal then and what it has done
pub record Stopped (I A : Type 0) : Type 0 where
  pub stop : Stop I A
  pub journal : Journal
  pub so_far : SoFar I

-- files are written and removed and tools are used until the body stops
abbrev pub run_on : {I A : Type 0} → (Name → I → A) → RunId → Body I A → Journal → SoFar I
    → Stopped I A
run_on tools run (makes outcome) journal so_far = record
    { stop = ends outcome; journal = journal; so_far = so_far }
run_on tools run (does act go) journal so_far =
    let next : Journal = add journal (acted run (length so_far.segments) act) in run_on tools run
    (go next) next (with_act so_far act)
run_on tools run (uses name input go) journal so_far = run_on tools run (go (tools name input))
    journal (with_tool so_far name input)
run_on tools run (calls key keys go) journal so_far = record
    { stop = asks key keys go; journal = journal; so_far = so_far }
