-- A worked world, whole and steady: a root calls two requests at once, and both want one run.
use Rattle.std.specs.Prelude.{ℕ, suc, true, false, List, [], ◌∷◌, map, Option, None, Some}
use Rattle.msb_laws.specs.Words.{Name}
use Rattle.msb_laws.specs.Asking.{and_then}
use Rattle.msb_values.specs.declared.key.InstanceKey.{InstanceKey}
use Rattle.msb_values.specs.declared.act.Act.{Act}
use Rattle.msb_values.specs.declared.act.Act.TheVariants.{Write}
use Rattle.result_cache.specs.declared.run.RunId.{RunId}
use Rattle.result_cache.specs.declared.request.RequestKey.{RequestKey}
use Rattle.result_cache.specs.declared.request.RequestResult.{RequestResult}
use Rattle.result_cache.specs.declared.record.Record.{Record}
use Rattle.result_cache.specs.declared.record.Segment.TheVariants.{File, Call}
use Rattle.result_cache.specs.Journal.{Journal, acted, ended}
use Rattle.result_cache.specs.Table.{FinishedRun}
use Rattle.build_meaning.specs.declared.event.Event.{Event}
use Rattle.build_meaning.specs.declared.event.Event.TheVariants.{
  Assign,
  Claim,
  Request,
  Result,
  Done,
}
use Rattle.build_meaning.specs.declared.event.ClaimKind.TheVariants.{Go, Wait}
use Rattle.build_meaning.specs.Walk.{Outcome, Reply, Walk, gives, wants, makes, does, uses, calls}
use Rattle.build_meaning.specs.World.{World}
use Rattle.build_meaning.specs.SoFar.{ToolUse, recorded, result_of}
use Rattle.build_meaning.specs.Meaning.{Demanded, requested, together, joined, built, Given}
use Rattle.build_meaning.specs.State.{RequestState, start}
use Rattle.build_meaning.specs.Step.{after_all}

-- a project without global properties, named by a number
abbrev pub project : ℕ → InstanceKey
project n = record { path = n ∷ []; globals = [] }

-- its only target
abbrev pub run_of : ℕ → RunId
run_of n = record { instance = project n; target = 1 ∷ [] }

-- a request for one target of it, and for its default targets
abbrev pub key_of : ℕ → ℕ → RequestKey
key_of n target = record { instance = project n; targets = (target ∷ []) ∷ []; named = true }

abbrev pub default_key : ℕ → RequestKey
default_key n = record { instance = project n; targets = []; named = false }

-- a run that succeeds and changes nothing, and a request that succeeds and returns nothing
abbrev pub good : Outcome
good = record { ok = true; decisions = []; items = []; changes = []; notes = [] }

abbrev pub good_reply : Reply
good_reply = record { ok = true; evaluated = true; returned = []; error = None }

-- the write of a file with one byte, which is also its name
abbrev pub file_of : ℕ → Act
file_of n = Write (record { path = n ∷ []; bytes = n ∷ [] })

-- the root's run writes the file 5 and calls two requests at once
abbrev pub root_walk : Walk ℕ ℕ ℕ
root_walk =
    wants 0 (run_of 0)
    (does (file_of 5) (λ j. calls (key_of 1 1) (key_of 1 2 ∷ []) (λ results k. makes good)))
    (λ made k. gives good_reply)

-- both want the run of project 1, which gives 3 to the tool 7 and writes the file that it answers
abbrev pub child_walk : Walk ℕ ℕ ℕ
child_walk =
    wants 1 (run_of 1) (uses (7 ∷ []) 3 (λ answer. does (file_of answer) (λ k. makes good)))
    (λ made k. gives good_reply)

abbrev pub walk_for : List Name → Walk ℕ ℕ ℕ
walk_for [] = root_walk
walk_for (t ∷ targets) = child_walk

-- the tools answer with the number after
abbrev pub shared_run : World ℕ ℕ ℕ
shared_run = record {
  root = default_key 0;
  tools = λ name input. suc input;
  walks = λ key journal.
      walk_for key.targets;
}

-- the records of its two runs
abbrev pub child_record : Record
child_record = recorded good (File (file_of 4) ∷ [])

abbrev pub root_record : Record
root_record = recorded good
    (File (file_of 5) ∷ Call (key_of 1 1) (run_of 1 ∷ []) ∷ Call (key_of 1 2) (run_of 1 ∷ []) ∷ [])

-- the journal with which a child begins, the one that it leaves, and the root's
abbrev pub call_journal : Journal
call_journal = acted (run_of 0) 0 (file_of 5) ∷ []

abbrev pub child_journal : Journal
child_journal = ended (run_of 1) child_record ∷ acted (run_of 1) 0 (file_of 4) ∷ call_journal

abbrev pub root_journal : Journal
root_journal = ended (run_of 0) root_record ∷ child_journal

-- its use of the tool
abbrev pub child_tools : List (ToolUse ℕ)
child_tools = record { name = 7 ∷ []; input = 3 } ∷ []

-- the run of project 1, as either child makes it
abbrev pub child_run : Demanded ℕ ℕ
child_run = built 1 (run_of 1) call_journal child_record child_tools

-- what it means: the meaning makes the run of project 1 twice
abbrev pub given : Given ℕ ℕ RequestResult
given = record {
  value = result_of good_reply (run_of 0 ∷ []);
  journal = root_journal;
  demand = requested (default_key 0) ∷ together (key_of 1 1 ∷ key_of 1 2 ∷ [])
      ∷ requested (key_of 1 1) ∷ child_run ∷ joined call_journal call_journal child_journal
      ∷ requested (key_of 1 2) ∷ child_run ∷ joined call_journal child_journal child_journal
      ∷ built 0 (run_of 0) [] root_record [] ∷ [];
}

-- a history on two nodes: the second child begins the run, the first one waits for it
abbrev pub events : List Event
events =
    Assign 0 0 ∷ Claim 0 (run_of 0) Go ∷ Request 0 (key_of 1 1 ∷ key_of 1 2 ∷ []) ∷ Assign 2 1
    ∷ Assign 1 0 ∷ Claim 2 (run_of 1) Go ∷ Claim 1 (run_of 1) Wait
    ∷ Result 2 (run_of 1) ∷ Assign 1 0 ∷ Done 1 ∷ Done 2 ∷ Assign 0 1 ∷ Result 0 (run_of 0) ∷ Done 0
    ∷ []

-- the runs that are finished after these events, the last one first, and the journals of the
-- requests
abbrev pub ends_so : Option (List RunId × List Journal)
ends_so = and_then (after_all shared_run (start shared_run) events)
    (λ s. Some (
      map (λ (f : FinishedRun). f.run) s.table,
      map
          (λ (q : RequestState ℕ ℕ ℕ). q.journal) s.requests,
    ))
