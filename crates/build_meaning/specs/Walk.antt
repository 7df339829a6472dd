-- A request and a run as trees of what they do and ask. P is the site of a run, which target is run
-- and in what scope; I is what a tool is given, and A what it answers. (Target build order; MSBuild
-- targets.)
use Rattle.std.specs.Prelude.{Bool, List, Option}
use Rattle.msb_laws.specs.Words.{Text, Name}
use Rattle.msb_values.specs.declared.item.Item.{Item}
use Rattle.msb_values.specs.declared.change.Change.{Change}
use Rattle.msb_values.specs.declared.note.Note.{Note}
use Rattle.msb_values.specs.declared.act.Act.{Act}
use Rattle.result_cache.specs.declared.run.RunId.{RunId}
use Rattle.result_cache.specs.declared.request.RequestKey.{RequestKey}
use Rattle.result_cache.specs.declared.request.RequestResult.{RequestResult}
use Rattle.result_cache.specs.declared.request.Returned.{Returned}
use Rattle.result_cache.specs.declared.record.Decision.{Decision}
use Rattle.result_cache.specs.declared.record.Record.{Record}
use Rattle.result_cache.specs.Journal.{Journal}

-- what the record of a run says besides its segments: whether it succeeded, what was decided of
-- each bucket, the items that the target returns, what it changes in a request's scope, and its
-- notes. (Target element)
pub record Outcome : Type 0 where
  pub ok : Bool
  pub decisions : List Decision
  pub items : List Item
  pub changes : List Change
  pub notes : List Note

-- what a request answers besides its runs. (MSBuild task, TargetOutputs)
pub record Reply : Type 0 where
  pub ok : Bool
  pub evaluated : Bool
  pub returned : List Returned
  pub error : Option Text

-- the body of a run, by what it does next. It is over; it writes or removes a file, and goes on by
-- the journal then; it uses a tool by name, and goes on by the answer; it calls requests at once, a
-- first one and perhaps more, and goes on by their results and the journal then. A call that is not
-- made at once with others is a list of its own. (Target element; MSBuild task, BuildInParallel)
pub data Body (I A : Type 0) : Type 0 where
  makes : Outcome → Body I A
  does : Act → (Journal → Body I A) → Body I A
  uses : Name → I → (A → Body I A) → Body I A
  calls : RequestKey → List RequestKey → (List RequestResult → Journal → Body I A) → Body I A

-- a request, by what it does next. It is over; or it wants a run at a site, and goes on by the
-- run's record and the journal then. The body is what the run does where nobody has made it. How a
-- request goes on doesn't say whether the run was made here or its record was used, nor does a
-- run's record say its site. (Target build order)
pub data Walk (P I A : Type 0) : Type 0 where
  gives : Reply → Walk P I A
  wants : P → RunId → Body I A → (Record → Journal → Walk P I A) → Walk P I A
