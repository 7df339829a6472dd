-- What a run has done so far, and how it becomes the run's record and the request's result.
use Rattle.std.specs.Prelude.{List, [], ◌∷◌, ◌++◌}
use Rattle.msb_laws.specs.Words.{Name}
use Rattle.msb_values.specs.declared.act.Act.{Act}
use Rattle.result_cache.specs.declared.run.RunId.{RunId}
use Rattle.result_cache.specs.declared.request.RequestKey.{RequestKey}
use Rattle.result_cache.specs.declared.request.RequestResult.{RequestResult}
use Rattle.result_cache.specs.declared.record.Record.{Record}
use Rattle.result_cache.specs.declared.record.Segment.{Segment}
use Rattle.result_cache.specs.declared.record.Segment.TheVariants.{File, Call}
use Rattle.build_meaning.specs.Walk.{Outcome, Reply}

-- a use of a tool: its name, and what it is given
pub record ToolUse (I : Type 0) : Type 0 where
  pub name : Name
  pub input : I

-- the acts and calls of a body so far, and the tools that it has used, each in order
pub record SoFar (I : Type 0) : Type 0 where
  pub segments : List Segment
  pub tools : List (ToolUse I)

-- at the beginning of a body
abbrev pub nothing_yet : {I : Type 0} → SoFar I
nothing_yet = record { segments = []; tools = [] }

-- after it has written or removed a file
abbrev pub with_act : {I : Type 0} → SoFar I → Act → SoFar I
with_act so_far act = record { segments = so_far.segments ++ File act ∷ []; tools = so_far.tools }

-- after it has used a tool
abbrev pub with_tool : {I : Type 0} → SoFar I → Name → I → SoFar I
with_tool so_far name input = record {
  segments = so_far.segments;
  tools = so_far.tools ++ record { name = name; input = input }
      ∷ [];
}

-- what calls leave in the record: each request, with the runs that it made or used
abbrev pub called : List RequestKey → List RequestResult → List Segment
called [] results = []
called (key ∷ keys) [] = []
called (key ∷ keys) (result ∷ results) = Call key result.runs ∷ called keys results

-- after its calls have given these results
abbrev pub with_calls : {I : Type 0} → SoFar I → List RequestKey → List RequestResult → SoFar I
with_calls so_far keys results = record
    { segments = so_far.segments ++ called keys results; tools = so_far.tools }

-- the runs of some results, in order
abbrev pub runs_of : List RequestResult → List RunId
runs_of [] = []
runs_of (result ∷ results) = result.runs ++ runs_of results

-- the record of a run: the outcome of its body, and what it has done
abbrev pub recorded : Outcome → List Segment → Record
recorded outcome segments = record {
  ok = outcome.ok;
  decisions = outcome.decisions;
  items = outcome.items;
  changes = outcome.changes;
  notes = outcome.notes;
  segments = segments;
}

-- the result of a request: its reply, and the runs that it made or used
abbrev pub result_of : Reply → List RunId → RequestResult
result_of reply runs = record {
  ok = reply.ok;
  evaluated = reply.evaluated;
  returned = reply.returned;
  runs = runs;
  error =
      reply.error;
}
